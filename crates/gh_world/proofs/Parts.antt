-- The state of a list by the parts of a world, and that it is the same as the world's being after the list.
use Rattle.std.proofs.Common.{◌≡◌, ℕ, ◌+◌, ◌-◌, ◌<◌, ◌≤◌, true, List, [], ◌++◌, length, reverse, refl, sym, ◌∙◌, ap, Option, Some, None, arith, inl, inr, slice_get, slice_index, sum_by}
use Rattle.gh_world.proofs.Vocabulary.{acks_of, Actor, actor_after, actor_of, actors_of, begun_in, by, ended_in, Entry, has_left, IsAfter, KeepsPlace, Layout, leave_is_begun, Legal, marks_at, marks_by, marks_of, MayBeOver, MOST_GOROUTINES, now_by, Op, option_to_list, points_in, Processor, processor_kind, Program, Runner, runner_or, setting_of, ShowsCells, slice_get_cases, slice_get_past, slice_get_within, State, state_of, statement_count, to_come, turns_of, words_after, worker_or}
use Rattle.gh_coord.specs.Listing as coord
use Rattle.gh_worker.specs.Listing as worker
use Rattle.gh_world.proofs.Resting.{is_processor}

-- This is the processor at seat a after the list, how far it is among its turns, and the number of statements that it has answered.
pub record IsRunnerAt (p : Program) (l : Layout) (a : ℕ) (x : Runner) (es : List (Entry Op)) : Type 0 where
  pub processor : x.mutator.processor ≡ state_of (processor_kind p.shapes l) a es
  pub turns : turns_of p a ≡ reverse (begun_in (by a es)) ++ to_come p a x.progress.next
  pub counted : (g : ℕ) → g < MOST_GOROUTINES → slice_index x.progress.begun g ≡ statement_count g (begun_in (by a es))
  pub now : (x.progress.last, slice_index x.progress.begun x.progress.last) ≡ now_by a es
  pub ended : (g : ℕ) → ended_in (by a es) g ≡ true → MayBeOver p x.progress.next g
  pub left : has_left (by a es) ≡ true → leave_is_begun x.progress.next ≡ true
  pub marked : x.mutator.marks ≡ marks_at p.shapes l a es

-- the words, the processors, the workers, the coordinator and the points of a world
pub record Parts : Type 0 where
  pub words : List ℕ
  pub runners : List Runner
  pub workers : List worker.Working
  pub coord : coord.Coordinating
  pub points : List (ℕ × ℕ)

abbrev pub parts_of : State → Parts
parts_of w = record { words = w.words; runners = w.runners; workers = w.workers; coord = w.coord; points = w.points }

-- So they stand after the list.
pub record After (p : Program) (l : Layout) (w : Parts) (es : List (Entry Op)) : Type 0 where
  pub legal : Legal (setting_of p l) es
  pub words : ShowsCells l w.words (words_after (setting_of p l).opening es)
  pub running : (a : ℕ) (x : Runner) → slice_get w.runners a ≡ Some x → IsRunnerAt p l a x es
  pub marking : (i : ℕ) (x : worker.Working) → slice_get w.workers i ≡ Some x → actor_after p l es (l.procs + i) ≡ Actor.Marks x
  pub many : length w.runners ≡ l.procs
  pub coordinator : actor_after p l es (acks_of l) ≡ Actor.Leads w.coord
  pub pointed : w.points ≡ points_in p.shapes l es

-- the actors of a world by their numbers
pub runner_here : (w : State) (a : ℕ) (x : Runner) → slice_get w.runners a ≡ Some x → actor_of w a ≡ Actor.Runs x.mutator.processor
runner_here w a x is = ap (runner_or (worker_or w.coord (slice_get w.workers (a - length w.runners)))) is

pub other_here : (w : State) (a i : ℕ) → a ≡ length w.runners + i → actor_of w a ≡ worker_or w.coord (slice_get w.workers i)
other_here w a i at =
    let none = slice_get_past w.runners a (omega (arith, at)) in
    let place : a - length w.runners ≡ i = omega (arith, at) in
    ap (runner_or (worker_or w.coord (slice_get w.workers (a - length w.runners)))) none ∙ ap (λ (k : ℕ). worker_or w.coord (slice_get w.workers k)) place

-- what is not there is past the last
pub none_within : {A : Type 0} (xs : List A) (i : ℕ) → slice_get xs i ≡ None → length xs ≤ i
none_within xs i is = elim (slice_get_cases xs i).1 [
  | inl there ↦ absurd (let no : None ≡ Some there.0 = sym is ∙ there.2 in cc)
  | inr past ↦ past.0
]

-- an actor that is no processor has the marks that it keeps itself
own_marks : (m n : ℕ) (c : coord.Coordinating) (o : Option worker.Working) → marks_by m (worker_or c o) ≡ marks_by n (worker_or c o)
own_marks m n c o = grind arith

module _ (w : State) (es : List (Entry Op)) where
  abbrev p : Program
  p = w.script

  abbrev l : Layout
  l = w.layout

  abbrev InParts : Type 0
  InParts = After p l (parts_of w) es

  -- an actor's marks, by the processor that there is, or is not
  marks_here : (a : ℕ) (o : Option Runner) → slice_get w.runners a ≡ o → marks_of w a ≡ marks_by (sum_by (λ (x : Runner). x.mutator.marks) (option_to_list o)) (runner_or (worker_or w.coord (slice_get w.workers (a - length w.runners))) o)
  marks_here a o is = ap (λ (q : Option Runner). marks_by (sum_by (λ (x : Runner). x.mutator.marks) (option_to_list q)) (runner_or (worker_or w.coord (slice_get w.workers (a - length w.runners))) q)) is

  module _ (after : IsAfter w es) where
    same_processor : (m n : Processor) → Actor.Runs m ≡ Actor.Runs n → m ≡ n
    same_processor m n is = cc

    running : (a : ℕ) (x : Runner) → slice_get w.runners a ≡ Some x → IsRunnerAt p l a x es
    running a x is =
        let low = slice_get_within w.runners a x is in
        let procs = after.keeps.processors in
        let there = after.actors a (omega (arith, low)) in
        let at_seat = is_processor p l a (omega (arith, low, procs)) es in
        let sum : 0 + x.mutator.marks ≡ marks_at p.shapes l a es = sym (marks_here a (Some x) is) ∙ after.marks a (omega (arith, low)) ∙ ap (marks_by (marks_at p.shapes l a es)) at_seat in
        let k : KeepsPlace p a x.progress es = after.keeps.each a x is in
        record {
          processor = same_processor x.mutator.processor (state_of (processor_kind p.shapes l) a es) (sym (runner_here w a x is) ∙ there ∙ at_seat);
          turns = k.turns;
          counted = k.counted;
          now = k.now;
          ended = k.ended;
          left = k.left;
          marked = omega (arith, sum);
        }

    -- who is behind the processors
    behind : (i b : ℕ) → b ≡ l.procs + i → i ≤ length w.workers → actor_after p l es b ≡ worker_or w.coord (slice_get w.workers i)
    behind i b at le =
        let procs = after.keeps.processors in
        sym (after.actors b (omega (arith, at, le, procs))) ∙ other_here w b i (omega (arith, at, procs))

    pub in_parts : InParts
    in_parts = record {
      legal = after.run.legal;
      words = after.words;
      running = running;
      marking = λ i x is. let low = slice_get_within w.workers i x is in behind i (l.procs + i) refl (omega (arith, low)) ∙ ap (worker_or w.coord) is;
      many = after.keeps.processors;
      coordinator = let workers = after.keeps.workers in behind (length w.workers) (acks_of l) (omega (arith, workers)) (omega arith) ∙ ap (worker_or w.coord) (slice_get_past w.workers (length w.workers) (omega arith));
      pointed = after.points;
    }

  module _ (h : InParts) (workers : length w.workers ≡ l.workers) where
    abbrev behind_begun : (a : ℕ) → Option Runner → List Op
    behind_begun a None = []
    behind_begun a (Some x) = to_come p a x.progress.next

    begun_first : (a : ℕ) → a < l.procs → (o : Option Runner) → slice_get w.runners a ≡ o → turns_of p a ≡ reverse (begun_in (by a es)) ++ behind_begun a o
    begun_first a lt o is = grind (arith, none_within, running)

    at_worker : (i : ℕ) (o : Option worker.Working) → slice_get w.workers i ≡ o → length w.runners + i < actors_of w → worker_or w.coord o ≡ actor_after p l es (l.procs + i)
    at_worker i o is lt = grind (arith, none_within)

    at_runner : (a : ℕ) → a < actors_of w → (o : Option Runner) → slice_get w.runners a ≡ o → actor_of w a ≡ actor_after p l es a
    at_runner a lt (Some x) is =
        let low = slice_get_within w.runners a x is in
        let procs = h.many in
        runner_here w a x is ∙ ap Actor.Runs (h.running a x is).processor ∙ sym (is_processor p l a (omega (arith, low, procs)) es)
    at_runner a lt None is =
        let high : length w.runners ≤ a = none_within w.runners a is in
        let procs = h.many in
        let at : a ≡ length w.runners + (a - length w.runners) = omega (arith, high) in
        let seat : l.procs + (a - length w.runners) ≡ a = omega (arith, high, procs) in
        other_here w a (a - length w.runners) at ∙ at_worker (a - length w.runners) (slice_get w.workers (a - length w.runners)) refl (omega (arith, high, lt)) ∙ ap (actor_after p l es) seat

    at_marks : (a : ℕ) → a < actors_of w → (o : Option Runner) → slice_get w.runners a ≡ o → marks_of w a ≡ marks_by (marks_at p.shapes l a es) (actor_after p l es a)
    at_marks a lt (Some x) is =
        let marked = (h.running a x is).marked in
        let sum : 0 + x.mutator.marks ≡ marks_at p.shapes l a es = omega (arith, marked) in
        marks_here a (Some x) is ∙ sum ∙ ap (marks_by (marks_at p.shapes l a es)) (sym (runner_here w a x is) ∙ at_runner a lt (Some x) is)
    at_marks a lt None is =
        let other = slice_get w.workers (a - length w.runners) in
        marks_here a None is ∙ own_marks 0 (marks_at p.shapes l a es) w.coord other ∙ ap (marks_by (marks_at p.shapes l a es)) (sym (ap (runner_or (worker_or w.coord other)) is) ∙ at_runner a lt None is)

    pub of_parts : IsAfter w es
    of_parts = record {
      run = record { legal = h.legal; to_come = λ a. behind_begun a (slice_get w.runners a); turns = λ a lt. begun_first a lt (slice_get w.runners a) refl };
      words = h.words;
      actors = λ a lt. at_runner a lt (slice_get w.runners a) refl;
      marks = λ a lt. at_marks a lt (slice_get w.runners a) refl;
      points = h.pointed;
      keeps = record {
        processors = h.many;
        workers = workers;
        each = λ a x is. let r = h.running a x is in record { turns = r.turns; counted = r.counted; now = r.now; ended = r.ended; left = r.left };
      };
    }
