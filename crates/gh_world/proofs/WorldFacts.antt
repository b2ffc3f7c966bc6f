-- One step of a processor in a world is one entry more of a legal list.
use Rattle.std.proofs.Common.{◌≡◌, ℕ, ◌+◌, ◌<◌, ◌≤◌, Bool, true, false, cond, eqb, ◌&&◌, ◌||◌, List, ◌∷◌, ◌++◌, length, length-set, reverse, get_or, refl, sym, ◌∙◌, ap, subst, Option, Some, None, arith, is_some, slice_get}
use Rattle.std.proofs.lemmas.Bool.{eq-eqb, eqb-true}
use Rattle.std.proofs.lemmas.List.{get_or-set_other, get_or-set_same}
use Rattle.gh_world.proofs.Vocabulary.{acks_of, Actor, actor_after, acts, Answer, answer_at_task, answer_in, answered_in, Begins, begun_in, bit, by, cell_of, changed, ComesNext, counts_after, ended_in, ends, Entry, eqb-false, event_at, event_by, event_of, gives_at, has_left, has_room, InRange, is_busy_at, is_last, is_point, is_statement, IsShown, its_goroutine, last_after, Layout, LaysOut, leave_is_begun, leaves, MadeAtMost, MayBeOver, Next, next_point, now_by, now_in, Op, op_at_turn, op_due, option_to_list, points_in, Processor, processor_kind, Program, Progress, progress_after, request, Runner, set, setting_of, Shape, Stands, started, state_of, statement_answer, statement_count, statement_now, statements_among, StepsAreShown, takes, target, Task, to_come, total_of, turns_of, WellFormed, with_goroutine, words_after}
use Rattle.gh_mutator.specs.Listing.{asks}
use Rattle.gh_world.proofs.Due.{due_goroutine, false_unless}
use Rattle.gh_world.proofs.MayBegin.{due_begins, ended_then}
use Rattle.gh_world.proofs.OneRun.{one_more}
use Rattle.gh_world.proofs.Parts.{After, IsRunnerAt, Parts}
use Rattle.gh_world.proofs.Resting.{begun_is, is_processor}
use Rattle.gh_world.proofs.Runners.{each_set, runner_stays}

module _ (p : Program) (a : ℕ) where
  -- what has ended may be over behind the turn that is begun
  ended_after : (t : Next) (b : Option Op) (new : Next) (es : List (Entry Op)) → ComesNext p a t b new → ((g : ℕ) → ended_in es g ≡ true → MayBeOver p t g) → (g : ℕ) → (ends b g || ended_in es g) ≡ true → MayBeOver p new g
  ended_after t None new es follows over g h = subst (λ (x : Next). MayBeOver p x g) (sym follows) (over g h)
  ended_after t (Some o) new es follows over g h = ended_then p a t o new (ended_in es) follows over g h

  left_after : (t : Next) (b : Option Op) (new : Next) (es : List (Entry Op)) → ComesNext p a t b new → ((o : Op) → b ≡ Some o → op_due p t ≡ Some o) → (has_left es ≡ true → leave_is_begun t ≡ true) → (leaves b || has_left es) ≡ true → leave_is_begun new ≡ true
  left_after t b new es follows due left h = grind arith

-- the statements begun are counted
pub counted_after : (t : Progress) (b : Option Op) (bs : List Op) → length t.begun ≡ 32 → ((o : Op) → b ≡ Some o → is_statement o ≡ true → its_goroutine o < 32) → ((g : ℕ) → g < 32 → get_or t.begun g 0 ≡ statement_count g bs) → (g : ℕ) → g < 32 → get_or (counts_after t b) g 0 ≡ statement_count g (option_to_list b ++ bs)
counted_after t None bs long few counted g lt = counted g lt
counted_after t (Some o) bs long few counted g lt = go (is_statement o) refl where
  go : (c : Bool) → is_statement o ≡ c → get_or (cond c (set t.begun (its_goroutine o) (get_or t.begun (its_goroutine o) 0 + 1)) t.begun) g 0 ≡ bit (c && eqb (its_goroutine o) g) + statement_count g bs
  go false e = omega (arith, counted g lt)
  go true e = here (eqb (its_goroutine o) g) refl where
    here : (d : Bool) → eqb (its_goroutine o) g ≡ d → get_or (set t.begun (its_goroutine o) (get_or t.begun (its_goroutine o) 0 + 1)) g 0 ≡ bit d + statement_count g bs
    here true f =
        let same : its_goroutine o ≡ g = eqb-true (its_goroutine o) g f in
        let set_here = get_or-set_same t.begun g (get_or t.begun g 0 + 1) 0 (omega (arith, long)) in
        rw same (omega (arith, set_here, counted g lt))
    here false f =
        let apart : its_goroutine o ≡ g → ⊥ = eqb-false (its_goroutine o) g f in
        let other = get_or-set_other t.begun (its_goroutine o) g (get_or t.begun (its_goroutine o) 0 + 1) 0 (λ q. apart (sym q)) in
        omega (arith, other, counted g lt)

abbrev pub pair_of : ℕ → ℕ → ℕ × ℕ
pair_of a b = (a, b)

pub now_after : (t : Progress) (b : Option Op) (bs : List Op) → length t.begun ≡ 32 → ((o : Op) → b ≡ Some o → is_statement o ≡ true → its_goroutine o < 32) → ((g : ℕ) → g < 32 → get_or t.begun g 0 ≡ statement_count g bs) → pair_of t.last (get_or t.begun t.last 0) ≡ statement_now bs →
    pair_of (last_after t b) (get_or (counts_after t b) (last_after t b) 0) ≡ statement_now (option_to_list b ++ bs)
now_after t None bs long few counted now = now
now_after t (Some o) bs long few counted now = go (is_statement o) refl (counted_after t (Some o) bs long few counted (its_goroutine o)) where
  go : (c : Bool) → is_statement o ≡ c → (its_goroutine o < 32 → get_or (cond c (set t.begun (its_goroutine o) (get_or t.begun (its_goroutine o) 0 + 1)) t.begun) (its_goroutine o) 0 ≡ bit (c && eqb (its_goroutine o) (its_goroutine o)) + statement_count (its_goroutine o) bs) →
      pair_of (cond c (its_goroutine o) t.last) (get_or (cond c (set t.begun (its_goroutine o) (get_or t.begun (its_goroutine o) 0 + 1)) t.begun) (cond c (its_goroutine o) t.last) 0) ≡ cond c (pair_of (its_goroutine o) (bit (c && eqb (its_goroutine o) (its_goroutine o)) + statement_count (its_goroutine o) bs)) (statement_now bs)
  go false e h = now
  go true e h = ap (λ (n : ℕ). pair_of (its_goroutine o) n) (h (few o refl e))

-- ---- what a step says of answers

told_at : (now : ℕ × ℕ) (t : Task) (a : Option Answer) → answered_in (event_at now (is_last t) (answer_at_task t a)) ≡ with_goroutine now.0 (answer_at_task t a)
told_at now t a = grind arith

-- ---- one step is one entry more

-- a processor, and how far it is
abbrev pub runner_of : List Shape → Processor → (marks : ℕ) → Progress → Runner
runner_of shapes m marks t = record { mutator = record { shapes = shapes; processor = m; marks = marks }; progress = t }

module _ (p : Program) (l : Layout) (runnable : WellFormed p) (laid : LaysOut p l) (a : ℕ) (seat : a < l.procs) where
  abbrev pub begun : Processor → Option Op → Processor
  begun m b = started (processor_kind p.shapes l) b m

  abbrev pub found_at : List ℕ → Processor → ℕ
  found_at list m = get_or list (target (request l (asks l m))) 0

  abbrev pub entry_of : List ℕ → Processor → Option Op → Entry Op
  entry_of list m b = record { actor = a; begun = b; ask = asks l (begun m b); found = found_at list (begun m b) }

  -- what a world knows of itself that a further entry rests on
  pub record Knows (m : Processor) (t : Progress) (b : Option Op) (new : Next) : Type 0 where
    pub is : b ≡ op_at_turn p (is_busy_at m.task) t.next
    pub goes : ComesNext p a t.next b new
    pub busy : is_busy_at (begun m b).task ≡ true
    pub within : InRange l (cell_of (asks l (begun m b)))
    pub made : MadeAtMost t.stated m
    pub stands : Stands p a t.next
    pub all : t.stated + statements_among (to_come p a t.next) ≤ total_of p
    pub columns : length t.begun ≡ 32
    pub room : (o : Op) → b ≡ Some o → has_room m o ≡ true

  -- the statement begun last, and the processor behind the step
  abbrev pub now_then : Progress → Option Op → ℕ × ℕ
  now_then t b = pair_of (last_after t b) (get_or (counts_after t b) (last_after t b) 0)

  abbrev pub runner_then : List ℕ → Processor → (marks : ℕ) → Progress → Option Op → Next → Runner
  runner_then list m marks t b new = runner_of p.shapes (takes l p.shapes (begun m b) (found_at list (begun m b))) (marks + bit (is_some (statement_answer l (begun m b) (found_at list (begun m b))))) (progress_after t b new)

  -- an operation that begins is the one that is due
  pub due_at : (m : Processor) (t : Next) (b : Option Op) (o : Op) → b ≡ op_at_turn p (is_busy_at m.task) t → b ≡ Some o → (is_busy_at m.task ≡ false) × (op_due p t ≡ Some o)
  due_at m t b o is some = grind arith

  abbrev OwnEntries : Type 0
  OwnEntries = (es : List (Entry Op)) → state_of (processor_kind p.shapes l) a es ≡ state_of (processor_kind p.shapes l) a (by a es)

  begins_next : OwnEntries → (es : List (Entry Op)) (t : Progress) (b : Option Op) (new : Next) → Knows (state_of (processor_kind p.shapes l) a es) t b new → turns_of p a ≡ reverse (begun_in (by a es)) ++ to_come p a t.next →
      ((g : ℕ) → ended_in (by a es) g ≡ true → MayBeOver p t.next g) → (has_left (by a es) ≡ true → leave_is_begun t.next ≡ true) → Begins (setting_of p l) a es b
  begins_next own es t None new k turns over left = ap (λ (x : Actor). (setting_of p l).kind.busy x) (is_processor p l a seat es) ∙ k.busy
  begins_next own es t (Some o) new k turns over left =
      let due = due_at (state_of (processor_kind p.shapes l) a es) t.next (Some o) o k.is refl in
      due_begins p l runnable laid a seat own es t.next o t.stated due.0 due.1 k.made k.stands k.all turns over left (k.room o refl)

  turns_next : (t : Progress) (b : Option Op) (new : Next) (bs : List Op) → ComesNext p a t.next b new → turns_of p a ≡ reverse bs ++ to_come p a t.next → turns_of p a ≡ reverse (option_to_list b ++ bs) ++ to_come p a new
  turns_next t None new bs goes turns = turns ∙ ap (λ (x : Next). reverse bs ++ to_come p a x) (sym goes)
  turns_next t (Some o) new bs goes turns = turns ∙ ap (λ (xs : List Op). reverse bs ++ xs) goes.come ∙ sym (one_more o bs (to_come p a new))

  -- the entry's actor is the processor
  runs_so : (es : List (Entry Op)) (b : Option Op) → started (setting_of p l).kind b (actor_after p l es a) ≡ Actor.Runs (begun (state_of (processor_kind p.shapes l) a es) b)
  runs_so es b = begun_is p l a seat es b

  -- it is one of the processor's own
  its_own : (e : Entry Op) (es : List (Entry Op)) → e.actor ≡ a → by a (e ∷ es) ≡ e ∷ by a es
  its_own e es same = ap (λ (b : Bool). cond b (e ∷ by a es) (by a es)) (eq-eqb e.actor a same)

  its_next : (list : List ℕ) (m : Processor) (b : Option Op) (es : List (Entry Op)) → begun_in (by a (entry_of list m b ∷ es)) ≡ option_to_list b ++ begun_in (by a es)
  its_next list m b es = ap begun_in (its_own (entry_of list m b) es refl)

  now_at : (t : Progress) (b : Option Op) (new : Next) (marks : ℕ) (shapes : List Shape) (es : List (Entry Op)) (m : Processor) → IsRunnerAt p l a (runner_of shapes m marks t) es → Knows m t b new → now_then t b ≡ statement_now (option_to_list b ++ begun_in (by a es))
  now_at t b new marks shapes es m r k =
      let here : (o : Op) → b ≡ Some o → is_statement o ≡ true → its_goroutine o < 32 = λ o e sure. due_goroutine p a t.next o runnable k.stands (due_at m t.next b o k.is e).1 sure in
      now_after t b (begun_in (by a es)) k.columns here r.counted r.now

  -- the processor behind the step
  runner_at : (list : List ℕ) (shapes : List Shape) (marks : ℕ) (t : Progress) (es : List (Entry Op)) (b : Option Op) (new : Next) → let m = state_of (processor_kind p.shapes l) a es in
      IsRunnerAt p l a (runner_of shapes m marks t) es → Knows m t b new → IsRunnerAt p l a (runner_then list m marks t b new) (entry_of list m b ∷ es)
  runner_at list shapes marks t es b new r k =
      let m = state_of (processor_kind p.shapes l) a es in
      let e = entry_of list m b in
      let due : (o : Op) → b ≡ Some o → op_due p t.next ≡ Some o = λ o is. (due_at m t.next b o k.is is).1 in
      let here : (o : Op) → b ≡ Some o → is_statement o ≡ true → its_goroutine o < 32 = λ o is sure. due_goroutine p a t.next o runnable k.stands (due o is) sure in
      let same : eqb a a ≡ true = eq-eqb a a refl in
      let own : by a (e ∷ es) ≡ e ∷ by a es = its_own e es refl in
      record {
        processor = rw same refl;
        turns = turns_next t b new (begun_in (by a es)) k.goes r.turns ∙ ap (λ (fs : List (Entry Op)). reverse (begun_in fs) ++ to_come p a new) (sym own);
        counted = λ g lt. counted_after t b (begun_in (by a es)) k.columns here r.counted g lt ∙ ap (λ (fs : List (Entry Op)). statement_count g (begun_in fs)) (sym own);
        now = now_at t b new marks shapes es m r k ∙ ap (λ (fs : List (Entry Op)). statement_now (begun_in fs)) (sym own);
        ended = λ g h. ended_after p a t.next b new (by a es) k.goes r.ended g (ap (λ (fs : List (Entry Op)). ended_in fs g) (sym own) ∙ h);
        left = λ h. left_after p a t.next b new (by a es) k.goes due r.left (ap has_left (sym own) ∙ h);
        marked = rw same (ap (λ (n : ℕ). n + bit (is_some (statement_answer l (begun m b) (found_at list (begun m b))))) r.marked);
      }

  -- what follows the list by one step more
  abbrev pub Goes : Parts → List (Entry Op) → (marks : ℕ) → Progress → Option Op → Next → Processor → Type 0
  Goes w es marks t b new m =
      let points = w.points ++ next_point (is_point (acts l (begun m b) (found_at w.words (begun m b)))) (now_then t b) in
      After p l (record w { words = changed (request l (asks l (begun m b))) w.words; runners = set w.runners a (runner_then w.words m marks t b new); points = points }) (entry_of w.words m b ∷ es)

  apart : (e : Entry Op) (es : List (Entry Op)) (c : ℕ) → (e.actor ≡ c → ⊥) → {x : Actor} → actor_after p l es c ≡ x → actor_after p l (e ∷ es) c ≡ x
  apart e es c differ is = let other : eqb e.actor c ≡ false = false_unless (eqb e.actor c) (λ t. differ (eqb-true e.actor c t)) in rw other is

  follows_at : OwnEntries → StepsAreShown l → (w : Parts) (es : List (Entry Op)) → After p l w es →
      (shapes : List Shape) (marks : ℕ) (t : Progress) (b : Option Op) (new : Next) → let m = state_of (processor_kind p.shapes l) a es in slice_get w.runners a ≡ Some (runner_of shapes m marks t) → Knows m t b new → Goes w es marks t b new m
  follows_at own shown w es h shapes marks t b new is k =
      let m = state_of (processor_kind p.shapes l) a es in
      let e = entry_of w.words m b in
      let r = h.running a (runner_of shapes m marks t) is in
      let step : IsShown l w.words (words_after (setting_of p l).opening es) (asks l (begun m b)) = shown w.words (words_after (setting_of p l).opening es) (asks l (begun m b)) k.within h.words in
      let now = now_at t b new marks shapes es m r k ∙ sym (ap statement_now (its_next w.words m b es)) in
      record {
        legal = (
          h.legal,
          record {
            actor = omega (arith, seat);
            begins = begins_next own es t b new k r.turns r.ended r.left;
            runs = ap (λ (x : Actor). (setting_of p l).kind.busy x) (runs_so es b) ∙ k.busy;
            asks = sym (ap (λ (x : Actor). (setting_of p l).kind.asks x) (runs_so es b));
            within = k.within;
            found = step.found;
          },
        );
        words = step.after;
        many = length-set w.runners a (runner_then w.words m marks t b new) ∙ h.many;
        running = each_set (λ (d : ℕ) (x : Runner). IsRunnerAt p l d x (e ∷ es)) w.runners a (runner_of shapes m marks t) (runner_then w.words m marks t b new) is (runner_at w.words shapes marks t es b new r k)
            (λ d x differ there. runner_stays p l d x e es differ (h.running d x there));
        marking = λ i x there. apart e es (l.procs + i) (λ q. omega (arith, seat, q)) (h.marking i x there);
        coordinator = apart e es (acks_of l) (λ q. omega (arith, seat, q)) h.coordinator;
        pointed = ap (λ (ps : List (ℕ × ℕ)). ps ++ next_point (is_point (acts l (begun m b) (found_at w.words (begun m b)))) (now_then t b)) h.pointed
            ∙ ap (λ (x : ℕ × ℕ). points_in p.shapes l es ++ next_point (is_point (acts l (begun m b) (found_at w.words (begun m b)))) x) now;
      }

  pub follows : OwnEntries → StepsAreShown l → (w : Parts) (es : List (Entry Op)) → After p l w es →
      (shapes : List Shape) (m : Processor) (marks : ℕ) (t : Progress) (b : Option Op) (new : Next) → slice_get w.runners a ≡ Some (runner_of shapes m marks t) → Knows m t b new → Goes w es marks t b new m
  follows own shown w es h shapes m marks t b new is = subst Goal (sym (h.running a (runner_of shapes m marks t) is).processor) (follows_at own shown w es h shapes marks t b new) is where
    Goal : Processor → Type 0
    Goal n = slice_get w.runners a ≡ Some (runner_of shapes n marks t) → Knows n t b new → Goes w es marks t b new n

  -- what the step says
  says_at : (list : List ℕ) (t : Progress) (es : List (Entry Op)) (b : Option Op) → let m = state_of (processor_kind p.shapes l) a es in now_then t b ≡ statement_now (option_to_list b ++ begun_in (by a es)) →
      event_at (now_then t b) (is_last (begun m b).task) (statement_answer l (begun m b) (found_at list (begun m b))) ≡ event_of p l es (entry_of list m b)
  says_at list t es b same =
      let m = state_of (processor_kind p.shapes l) a es in
      let now = same ∙ sym (ap statement_now (its_next list m b es)) in
      ap (λ (x : ℕ × ℕ). event_at x (is_last (begun m b).task) (statement_answer l (begun m b) (found_at list (begun m b)))) now
      ∙ ap (λ (x : Actor). event_by l (now_by a (entry_of list m b ∷ es)) x (found_at list (begun m b))) (sym (runs_so es b))

  pub says : (list : List ℕ) (es : List (Entry Op)) (shapes : List Shape) (m : Processor) (marks : ℕ) (t : Progress) (b : Option Op) (new : Next) → IsRunnerAt p l a (runner_of shapes m marks t) es → Knows m t b new →
      event_at (now_then t b) (is_last (begun m b).task) (statement_answer l (begun m b) (found_at list (begun m b))) ≡ event_of p l es (entry_of list m b)
  says list es shapes m marks t b new r k = subst Goal (sym r.processor) (says_at list t es b (now_at t b new marks shapes es m r k)) where
    Goal : Processor → Type 0
    Goal n = event_at (now_then t b) (is_last (begun n b).task) (statement_answer l (begun n b) (found_at list (begun n b))) ≡ event_of p l es (entry_of list n b)

  -- and the answer in it
  tells_at : (list : List ℕ) (es : List (Entry Op)) (b : Option Op) → let e = entry_of list (state_of (processor_kind p.shapes l) a es) b in answered_in (event_of p l es e) ≡ with_goroutine (now_in (e ∷ es)).0 (answer_in p.shapes l es e)
  tells_at list es b =
      let n = state_of (processor_kind p.shapes l) a es in
      let m = begun n b in
      let found = found_at list m in
      let now = now_in (entry_of list n b ∷ es) in
      ap (λ (x : Actor). answered_in (event_by l now x found)) (runs_so es b) ∙ told_at now m.task (gives_at l m m.task found)

  pub tells : (list : List ℕ) (m : Processor) (es : List (Entry Op)) (b : Option Op) → m ≡ state_of (processor_kind p.shapes l) a es → answered_in (event_of p l es (entry_of list m b)) ≡ with_goroutine (now_in (entry_of list m b ∷ es)).0 (answer_in p.shapes l es (entry_of list m b))
  tells list m es b is = subst Goal (sym is) (tells_at list es b) where
    Goal : Processor → Type 0
    Goal n = answered_in (event_of p l es (entry_of list n b)) ≡ with_goroutine (now_in (entry_of list n b ∷ es)).0 (answer_in p.shapes l es (entry_of list n b))
