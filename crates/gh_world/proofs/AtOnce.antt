-- A step that is made in its place: an operation of one step, and one of what is begun.
use Rattle.std.proofs.Common.{◌≡◌, ℕ, Bool, true, false, List, refl, sym, ◌∙◌, ap, subst, slice_index, None, Some, arith}
use Rattle.std.proofs.lemmas.Grind.{common_steps}
use Rattle.gh_world.proofs.Vocabulary.{acting, acts, Ask, asks, cell_of, changed, Event, event_at, Follows, found_for, goes, has_left_at, InRange, is_busy_at, is_last, is_point, is_poll_due, is_run_due, Layout, LaysOut, Mutating, Next, now_of, Op, op_at_turn, op_due, PollsMakeRoom, Program, progress_after, Ran, request, Runner, SoundTurns, statement_answer, target, WellFormed}
use Rattle.gh_base.specs.declared.cell.Ask.TheVariants.{Load}
use Rattle.gh_base.specs.declared.cell.Cell.{Cell}
use Rattle.gh_mutator.specs.AtOnce.{MadeAtOnce}
use Rattle.gh_mutator.specs.Mutating.{begins}
use Rattle.gh_world.specs.World.{found_by_step, MakesAtOnce}
use Rattle.gh_world.proofs.Fitting.{busy_begun, fit_begun}

-- a poll is the point of no statement
pub polls_no_point : (b : Bool) → false ≡ is_point (acting b Op.Poll false)
polls_no_point b = grind arith

module _ (p : Program) (l : Layout) (script : WellFormed p) (layout : LaysOut p l) (a : ℕ) (x : Runner) (f : SoundTurns p a x.mutator x.progress) (polls : PollsMakeRoom) (o : Op) (new : Next) where
  abbrev pub begun : Runner
  begun = record { mutator = begins x.mutator o; progress = progress_after x.progress (Some o) new }

  pub at_once : (before behind : List ℕ) (y : Runner) (happened : Event) (pointed : Bool) → is_busy_at x.mutator.processor.task ≡ false → has_left_at x.mutator.processor.task ≡ false →
      op_due p x.progress.next ≡ Some o → is_run_due new ≡ is_poll_due x.progress.next → Follows p a x.progress.next o new → InRange l (cell_of (asks l begun.mutator)) → behind ≡ changed (request l (asks l begun.mutator)) before →
      y ≡ record begun { mutator = goes l begun.mutator (found_for l before begun) } → happened ≡ event_at (now_of begun.progress) (is_last begun.mutator.processor.task) (statement_answer l begun.mutator.processor (found_for l before begun)) →
      pointed ≡ is_point (acts l begun.mutator.processor (found_for l before begun)) → Ran p l a before behind x y happened pointed
  at_once before behind y happened pointed idle going due polled follows within words after says point =
      let is : Some o ≡ op_at_turn p (is_busy_at x.mutator.processor.task) x.progress.next = sym due ∙ ap (λ (b : Bool). op_at_turn p b x.progress.next) (sym idle) in
      record {
        begun = begun;
        begins = record { o = Some o; is = is; mutator = refl; goes = follows; progress = refl };
        fits = fit_begun p l script layout a x.mutator x.progress f polls o new due polled follows;
        busy = busy_begun p l script layout a x.mutator x.progress f (Some o) going is;
        within = within;
        words = words;
        goes = after;
        says = says;
        point = point;
      }

-- ---- a load that is made in its place

-- which changes no word
loads_words : (l : Layout) (words : List ℕ) (c : Cell) → words ≡ changed (request l (Load c)) words
loads_words l words c = grind (arith, common_steps)

pub loads_only : (l : Layout) (words : List ℕ) (old new : Mutating) (c : Cell) (found : ℕ) → asks l old ≡ Load c → InRange l c → found ≡ slice_index words (target (request l (Load c))) → MadeAtOnce l old found new false None → MakesAtOnce l words words old new false None
loads_only l words old new c found asked within is made =
    let told : found ≡ found_by_step l words old = is ∙ ap (λ (a : Ask). slice_index words (target (request l a))) (sym asked) in
    record {
      within = subst (λ (a : Ask). InRange l (cell_of a)) (sym asked) within;
      words = subst (λ (a : Ask). words ≡ changed (request l a) words) (sym asked) (loads_words l words c);
      made = subst (λ (n : ℕ). MadeAtOnce l old n new false None) told made;
    }

-- ---- a step of what is begun

module _ (p : Program) (l : Layout) (a : ℕ) (x : Runner) (f : SoundTurns p a x.mutator x.progress) (busy : is_busy_at x.mutator.processor.task ≡ true) (before behind : List ℕ) (y : Runner) (within : InRange l (cell_of (asks l x.mutator))) (words : behind ≡ changed (request l (asks l x.mutator)) before) (after : y ≡ record x { mutator = goes l x.mutator (found_for l before x) }) where
  pub further : (happened : Event) (pointed : Bool) → happened ≡ event_at (now_of x.progress) (is_last x.mutator.processor.task) (statement_answer l x.mutator.processor (found_for l before x)) →
      pointed ≡ is_point (acts l x.mutator.processor (found_for l before x)) → Ran p l a before behind x y happened pointed
  further happened pointed says point = record {
    begun = x;
    begins = record { o = None; is = ap (λ (b : Bool). op_at_turn p b x.progress.next) (sym busy); mutator = refl; goes = refl; progress = refl };
    fits = f;
    busy = busy;
    within = within;
    words = words;
    goes = after;
    says = says;
    point = point;
  }
