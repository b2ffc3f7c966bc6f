-- One step of a worker, or of the coordinator, in a world is one entry more of a legal list; and what a world is before its first step.
use Rattle.std.proofs.Common.{◌≡◌, ℕ, ◌+◌, ◌<◌, ◌≤◌, true, false, eqb, ltb, List, [], ◌∷◌, ◌++◌, length, get_or, refl, sym, ◌∙◌, ap, Option, Some, None, arith, slice_get}
use Rattle.std.proofs.lemmas.List.{append-nil}
use Rattle.std.proofs.lemmas.Bool.{eq-eqb}
use Rattle.gh_world.proofs.Vocabulary.{acks_of, Actor, actor_after, acts, answer_in, answered_in, AreOpening, Ask, cell_of, changed, done_or, Entry, Event, event_by, event_of, get_or-map-range_with_len, get_or_from_slice_get, InRange, is_point, IsOpening, IsShown, Layout, Legal, length-map-range_with_len, most_cycles, Mutating, nat_tests, next_point, now_in, now_of, Op, opening_processor, points_in, Processor, processor_kind, Program, Progress, read_replicate, request, Runner, set, setting_of, ShowsCells, slice_get_within, state_of, statement_answer, StepsAreShown, target, told_event, with_goroutine, words_after, workers_at}
use Rattle.gh_coord.specs.declared.cycles.Cycle.{Cycle}
use Rattle.gh_coord.specs.Listing as coord
use Rattle.gh_worker.specs.Listing as worker
use Rattle.gh_world.proofs.Parts.{After, IsRunnerAt, Parts}
use Rattle.gh_world.proofs.Resting.{rests}
use Rattle.gh_world.proofs.Runners.{each_set, runner_stays}
use Rattle.gh_world.proofs.Turning.{opens_at}

pub all_workers : (l : Layout) → length (workers_at l) ≡ l.workers
all_workers l = length-map-range_with_len worker.opening l.procs l.workers

module _ (p : Program) (l : Layout) where
  -- the entry of an actor that is no processor
  abbrev pub entry_by : (a : ℕ) → Ask → (found : ℕ) → Entry Op
  entry_by a ask found = record { actor = a; begun = None; ask = ask; found = found }

  abbrev pub found_by : List ℕ → Ask → ℕ
  found_by list ask = get_or list (target (request l ask)) 0

  -- it is no point, and answers no statement
  before_is : (a : ℕ) → l.procs ≤ a → (es : List (Entry Op)) → Legal (setting_of p l) es → state_of (processor_kind p.shapes l) a es ≡ opening_processor a
  before_is a le es legal = rests p l a le es legal

  same_points : (a found : ℕ) (ask : Ask) → l.procs ≤ a → (es : List (Entry Op)) → Legal (setting_of p l) es → points_in p.shapes l es ≡ points_in p.shapes l (entry_by a ask found ∷ es)
  same_points a found ask le es legal =
      sym (append-nil (points_in p.shapes l es)) ∙ ap (λ (m : Processor). points_in p.shapes l es ++ next_point (is_point (acts l m found)) (now_in (entry_by a ask found ∷ es))) (sym (before_is a le es legal))

  none_answered : (a found : ℕ) (ask : Ask) → l.procs ≤ a → (es : List (Entry Op)) → Legal (setting_of p l) es → [] ≡ with_goroutine (now_in (entry_by a ask found ∷ es)).0 (answer_in p.shapes l es (entry_by a ask found))
  none_answered a found ask le es legal = ap (λ (m : Processor). with_goroutine (now_in (entry_by a ask found ∷ es)).0 (statement_answer l m found)) (sym (before_is a le es legal))

  no_answer : (out : Option (Unit {0})) (told : Option Cycle) → answered_in (done_or out (told_event told)) ≡ []
  no_answer out told = grind arith

  -- an actor's own entry, and one of another
  own_at : (a b found : ℕ) (ask : Ask) (es : List (Entry Op)) → a ≡ b → actor_after p l (entry_by a ask found ∷ es) b ≡ (setting_of p l).kind.takes (actor_after p l es b) found
  own_at a b found ask es same = let t : eqb a b ≡ true = eq-eqb a b same in rw t refl

  other_at : (a b found : ℕ) (ask : Ask) (es : List (Entry Op)) → (a ≡ b → ⊥) → actor_after p l (entry_by a ask found ∷ es) b ≡ actor_after p l es b
  other_at a b found ask es apart = let f : eqb a b ≡ false = grind (arith, nat_tests) in rw f refl

  module _ (shown : StepsAreShown l) (w : Parts) (es : List (Entry Op)) (h : After p l w es) where
    module _ (ask : Ask) (within : InRange l (cell_of ask)) where
      step_shown : IsShown l w.words (words_after (setting_of p l).opening es) ask
      step_shown = shown w.words (words_after (setting_of p l).opening es) ask within h.words

    -- the processors stay as they are
    runners_stay : (b : ℕ) → l.procs ≤ b → (found : ℕ) (ask : Ask) (a : ℕ) (x : Runner) → slice_get w.runners a ≡ Some x → IsRunnerAt p l a x (entry_by b ask found ∷ es)
    runners_stay b le found ask a x is = let low : a < length w.runners = slice_get_within w.runners a x is in runner_stays p l a x (entry_by b ask found) es (λ q. omega (arith, low, h.many, le, q)) (h.running a x is)

    -- ---- a worker

    module _ (i : ℕ) (x : worker.Working) (is : slice_get w.workers i ≡ Some x) (few : i < l.workers) (busy : worker.is_busy x.stage ≡ true) (within : InRange l (cell_of (worker.asks l x))) where
      abbrev pub work_entry : Entry Op
      work_entry = entry_by (l.procs + i) (worker.asks l x) (found_by w.words (worker.asks l x))

      abbrev next : worker.Working
      next = worker.goes l x (found_by w.words (worker.asks l x))

      works_on : (j : ℕ) (y : worker.Working) → slice_get (set w.workers i next) j ≡ Some y → actor_after p l (work_entry ∷ es) (l.procs + j) ≡ Actor.Marks y
      works_on = each_set (λ (j : ℕ) (y : worker.Working). actor_after p l (work_entry ∷ es) (l.procs + j) ≡ Actor.Marks y) w.workers i x next is
          (own_at (l.procs + i) (l.procs + i) (found_by w.words (worker.asks l x)) (worker.asks l x) es refl ∙ ap (λ (n : Actor). (setting_of p l).kind.takes n (found_by w.words (worker.asks l x))) (h.marking i x is))
          (λ j y apart e. other_at (l.procs + i) (l.procs + j) (found_by w.words (worker.asks l x)) (worker.asks l x) es (λ q. apart (omega (arith, q))) ∙ h.marking j y e)

      pub worked : After p l (record w { words = changed (request l (worker.asks l x)) w.words; workers = set w.workers i next }) (work_entry ∷ es)
      worked =
          let mine = h.marking i x is in
          let step = step_shown (worker.asks l x) within in
          let behind : l.procs ≤ l.procs + i = omega arith in
          record {
            legal = (
              h.legal,
              record {
                actor = omega (arith, few);
                begins = ap (λ (n : Actor). (setting_of p l).kind.busy n) mine ∙ busy;
                runs = ap (λ (n : Actor). (setting_of p l).kind.busy n) mine ∙ busy;
                asks = sym (ap (λ (n : Actor). (setting_of p l).kind.asks n) mine);
                within = within;
                found = step.found;
              },
            );
            words = step.after;
            many = h.many;
            running = runners_stay (l.procs + i) behind (found_by w.words (worker.asks l x)) (worker.asks l x);
            marking = works_on;
            coordinator = other_at (l.procs + i) (acks_of l) (found_by w.words (worker.asks l x)) (worker.asks l x) es (λ q. omega (arith, few, q)) ∙ h.coordinator;
            pointed = h.pointed ∙ same_points (l.procs + i) (found_by w.words (worker.asks l x)) (worker.asks l x) behind es h.legal;
          }

      pub work_says : done_or (worker.given (worker.goes l x (found_by w.words (worker.asks l x)))) Event.Moved ≡ event_of p l es work_entry
      work_says = ap (λ (n : Actor). event_by l (now_in (work_entry ∷ es)) n (found_by w.words (worker.asks l x))) (sym (h.marking i x is))

      pub work_tells : (happened : Event) → happened ≡ done_or (worker.given (worker.goes l x (found_by w.words (worker.asks l x)))) Event.Moved → answered_in happened ≡ with_goroutine (now_in (work_entry ∷ es)).0 (answer_in p.shapes l es work_entry)
      work_tells happened says = grind (arith, no_answer, none_answered)

    -- ---- the coordinator

    module _ (busy : coord.is_busy w.coord.stage ≡ true) (within : InRange l (cell_of (coord.asks l w.coord))) where
      abbrev pub lead_entry : Entry Op
      lead_entry = entry_by (acks_of l) (coord.asks l w.coord) (found_by w.words (coord.asks l w.coord))

      marks_on : (many : length w.workers ≡ l.workers) (j : ℕ) (y : worker.Working) → slice_get w.workers j ≡ Some y → actor_after p l (lead_entry ∷ es) (l.procs + j) ≡ Actor.Marks y
      marks_on many j y e =
          let low : j < length w.workers = slice_get_within w.workers j y e in
          other_at (acks_of l) (l.procs + j) (found_by w.words (coord.asks l w.coord)) (coord.asks l w.coord) es (λ q. omega (arith, low, many, q)) ∙ h.marking j y e

      pub led : length w.workers ≡ l.workers → After p l (record w { words = changed (request l (coord.asks l w.coord)) w.words; coord = coord.goes l w.coord (found_by w.words (coord.asks l w.coord)) }) (lead_entry ∷ es)
      led many =
          let mine = h.coordinator in
          let step = step_shown (coord.asks l w.coord) within in
          let behind : l.procs ≤ acks_of l = omega arith in
          record {
            legal = (
              h.legal,
              record {
                actor = omega arith;
                begins = ap (λ (n : Actor). (setting_of p l).kind.busy n) mine ∙ busy;
                runs = ap (λ (n : Actor). (setting_of p l).kind.busy n) mine ∙ busy;
                asks = sym (ap (λ (n : Actor). (setting_of p l).kind.asks n) mine);
                within = within;
                found = step.found;
              },
            );
            words = step.after;
            many = h.many;
            running = runners_stay (acks_of l) behind (found_by w.words (coord.asks l w.coord)) (coord.asks l w.coord);
            marking = marks_on many;
            coordinator = own_at (acks_of l) (acks_of l) (found_by w.words (coord.asks l w.coord)) (coord.asks l w.coord) es refl ∙ ap (λ (n : Actor). (setting_of p l).kind.takes n (found_by w.words (coord.asks l w.coord))) mine;
            pointed = h.pointed ∙ same_points (acks_of l) (found_by w.words (coord.asks l w.coord)) (coord.asks l w.coord) behind es h.legal;
          }

      pub lead_says : done_or (coord.given (coord.goes l w.coord (found_by w.words (coord.asks l w.coord)))) (told_event (coord.told_at w.coord.cycles w.coord.stage)) ≡ event_of p l es lead_entry
      lead_says = ap (λ (n : Actor). event_by l (now_in (lead_entry ∷ es)) n (found_by w.words (coord.asks l w.coord))) (sym h.coordinator)

      pub lead_tells : (happened : Event) → happened ≡ done_or (coord.given (coord.goes l w.coord (found_by w.words (coord.asks l w.coord)))) (told_event (coord.told_at w.coord.cycles w.coord.stage)) → answered_in happened ≡ with_goroutine (now_in (lead_entry ∷ es)).0 (answer_in p.shapes l es lead_entry)
      lead_tells happened says = grind (arith, no_answer, none_answered)

  -- ---- before the first step

  first_runner : (a : ℕ) (x : Runner) → IsOpening p a x → IsRunnerAt p l a x []
  first_runner a x o = record {
    processor = ap (λ (m : Mutating). m.processor) o.mutator;
    turns = opens_at p a ∙ sym o.come;
    counted = λ g lt. ap (λ (t : Progress). get_or t.begun g 0) o.progress ∙ read_replicate {A = ℕ} 32 g 0;
    now = ap now_of o.progress;
    ended = λ g e. absurd cc;
    left = λ e. absurd cc;
    marked = ap (λ (m : Mutating). m.marks) o.mutator;
  }

  first_worker : (i : ℕ) (x : worker.Working) → slice_get (workers_at l) i ≡ Some x → actor_after p l [] (l.procs + i) ≡ Actor.Marks x
  first_worker i x e =
      let many = all_workers l in
      let low : i < length (workers_at l) = slice_get_within (workers_at l) i x e in
      let is : worker.opening (l.procs + i) ≡ x = sym (get_or-map-range_with_len worker.opening l.procs l.workers i (l.procs + i) x (omega (arith, many, low)) refl) ∙ get_or_from_slice_get (workers_at l) i x x e in
      let above : ltb (l.procs + i) l.procs ≡ false = grind (arith, nat_tests) in
      let below : ltb (l.procs + i) (acks_of l) ≡ true = grind (arith, nat_tests, many, low) in
      rw (above, below) (ap Actor.Marks is)

  first_lead : actor_after p l [] (acks_of l) ≡ Actor.Leads (coord.opening l (acks_of l) p.settings.gogc p.settings.minheap (most_cycles p))
  first_lead =
      let above : ltb (acks_of l) l.procs ≡ false = grind (arith, nat_tests) in
      let same : ltb (acks_of l) (acks_of l) ≡ false = grind (arith, nat_tests) in
      rw (above, same) refl

  pub after_opens : (list : List ℕ) (runners : List Runner) → ShowsCells l list (setting_of p l).opening → AreOpening p l runners →
      After p l (record { words = list; runners = runners; workers = workers_at l; coord = coord.opening l (acks_of l) p.settings.gogc p.settings.minheap (most_cycles p); points = [] }) []
  after_opens list runners shows opening = record {
    legal = tt;
    words = shows;
    many = opening.many;
    running = λ a x e. first_runner a x (opening.each a x e);
    marking = first_worker;
    coordinator = first_lead;
    pointed = refl;
  }
