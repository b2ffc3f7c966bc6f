-- What a world keeps, whichever list it is the state of: once an operation is begun, after a step, and as it opens.
use Rattle.std.proofs.Common.{◌≡◌, ℕ, ◌+◌, ◌^◌, ◌<◌, ◌≤◌, Bool, true, false, cond, List, length, replicate, get_or, slice_index, length-set, refl, sym, ◌∙◌, ap, subst, Option, Some, arith, sum_by, is_some, slice_get}
use Rattle.gh_world.proofs.Vocabulary.{acts, Answer, answered_by, AreOpening, AreTurns, begins, begins_at, begun_as, bit, cell_of, changed, counts_after, cycle_room_stays, done_or, Event, Follows, get_or-map-range_with_len, get_or_from_slice_get, gives_at, GoesOnUntilDone, has_left_at, has_names, has_room, InRange, is_busy_at, is_point, is_poll_due, is_run_due, is_statement, is_unacted, IsOpening, IsStepOfWorker, its_goroutine, last_after, later, Layout, LaysOut, leave_is_begun, length-map-range_with_len, most_cycles, Mutating, Next, Op, op_at, op_at_turn, op_due, opening_processor, opening_progress, Polled, PollsMakeRoom, Processor, Program, Progress, progress_after, read_after_set, read_replicate, Req, request, Runner, set, Shape, slice_get_within, SoundCoordinating, SoundMutating, SoundOp, SoundOthers, SoundRunners, SoundState, SoundTurns, SoundWords, Stands, State, stated_after, stated_by, statement_answer, statements_among, sum_by-set, takes, target, to_come, total_by, total_of, turns_of, WellFormed, workers_at}
use Rattle.gh_coord.specs.Listing as coord
use Rattle.gh_worker.specs.Listing as worker
use Rattle.gh_worker.specs.Routine.{WorkersAreRoutines}
use Rattle.gh_worker.specs.Sound.{SoundWorking}
use Rattle.gh_world.specs.World.{Begins}
use Rattle.gh_world.proofs.StepFacts.{step_facts, begin_facts, StepFacts, BeginFacts, begins_busy}
use Rattle.gh_world.proofs.Turning.{opens_at, total_by-le, totals-le, turns_say}
use Rattle.gh_world.proofs.Runners.{each_set, sum_at, sum_each}
use Rattle.gh_mutator.specs.Mutating as mutating
use Rattle.gh_world.proofs.Due.{due_goroutine, due_runs, due_statement, few_statements, has_name_at}

counts_long : (t : Progress) (o : Op) → length t.begun ≡ 32 → length (counts_after t (Some o)) ≡ 32
counts_long t o long = go (is_statement o) where
  go : (b : Bool) → length (cond b (set t.begun (its_goroutine o) (get_or t.begun (its_goroutine o) 0 + 1)) t.begun) ≡ 32
  go true = simp length-set long
  go false = long

counts_few : (t : Progress) (o : Op) → ((g : ℕ) → get_or t.begun g 0 ≤ t.stated) → (g : ℕ) → get_or (counts_after t (Some o)) g 0 ≤ t.stated + bit (is_statement o)
counts_few t o few g = go (is_statement o) where
  go : (b : Bool) → get_or (cond b (set t.begun (its_goroutine o) (get_or t.begun (its_goroutine o) 0 + 1)) t.begun) g 0 ≤ t.stated + bit b
  go true = read_after_set (λ (n : ℕ). n ≤ t.stated + 1) t.begun (its_goroutine o) g (get_or t.begun (its_goroutine o) 0 + 1) 0 (λ e. omega (arith, few (its_goroutine o))) (omega (arith, few g))
  go false = omega (arith, few g)

last_few : (t : Progress) (o : Op) → t.last < 32 → (is_statement o ≡ true → its_goroutine o < 32) → last_after t (Some o) < 32
last_few t o before new = grind arith

-- the answered statements of the machine are counted, as long as their number is not at its end
pub marks_more : (marks : ℕ) (a : Option Answer) → marks + 1 < 2 ^ 32 → mutating.marks_after marks a ≡ marks + bit (is_some a)
marks_more marks a few = grind arith

-- ---- the poll before a statement

-- there is room for what is due
pub due_room : PollsMakeRoom → (p : Program) (m : Processor) (t : Next) (o : Op) → is_busy_at m.task ≡ false → op_due p t ≡ Some o → Polled t m → has_room m o ≡ true
due_room k p m t o idle due polled = grind arith

pub polled_begun : PollsMakeRoom → (p : Program) (shapes : List Shape) (m : Processor) (t new : Next) (o : Op) → op_due p t ≡ Some o → is_run_due new ≡ is_poll_due t → Polled new (begins shapes m o)
polled_begun k p shapes m t new o due behind = grind arith

pub polled_stepped : PollsMakeRoom → (l : Layout) (shapes : List Shape) (m : Processor) (t : Next) (found : ℕ) → Polled t m → Polled t (takes l shapes m found)
polled_stepped k l shapes m t found polled = grind arith

-- ---- the turns of one processor

module _ (p : Program) (script : WellFormed p) (a : ℕ) (t : Progress) (f : AreTurns p a t) where
  pub stated_few : t.stated ≤ 200000
  stated_few = omega (arith, f.all, total_by-le p a, few_statements p script)

  -- a statement more can be counted
  pub stated_fits : t.stated + 1 < 2 ^ 32
  stated_fits = omega (arith, stated_few)

  pub begun_fits : (g : ℕ) → slice_index t.begun g + 1 < 2 ^ 32
  begun_fits g = omega (arith, stated_few, f.few_begun g)

  -- behind the one that begins
  pub turns_begun : (o : Op) (new : Next) → op_due p t.next ≡ Some o → Follows p a t.next o new → AreTurns p a (progress_after t (Some o) new)
  turns_begun o new due follows =
      let come : statements_among (to_come p a t.next) ≡ bit (is_statement o) + statements_among (to_come p a new) = ap statements_among follows.come in
      record {
        stands = follows.stands;
        all = omega (arith, f.all, come);
        columns = counts_long t o f.columns;
        few_begun = counts_few t o f.few_begun;
        last = last_few t o f.last (due_goroutine p a t.next o script f.stands due);
      }

-- before the first
pub turns_open : (p : Program) (a : ℕ) (first : Next) → to_come p a first ≡ later p a 0 0 → Stands p a first → AreTurns p a (opening_progress first)
turns_open p a first come stands =
    let turns : to_come p a first ≡ turns_of p a = come ∙ sym (opens_at p a) in
    let all : statements_among (to_come p a first) ≡ total_by p a = ap statements_among turns ∙ turns_say p a in
    record {
      stands = stands;
      all = omega (arith, all);
      columns = omega arith;
      few_begun = λ g. let none : get_or (replicate 32 0) g 0 ≡ 0 = read_replicate {A = ℕ} 32 g 0 in omega arith;
      last = omega arith;
    }

-- ---- one processor

module _ (p : Program) (l : Layout) (script : WellFormed p) (layout : LaysOut p l) (a : ℕ) (m : Mutating) (t : Progress) (f : SoundTurns p a m t) where
  -- what is due is begun
  pub begun_busy : (o : Op) → op_due p t.next ≡ Some o → is_busy_at (begins_at m.shapes m.processor o) ≡ true
  begun_busy o due = begins_busy m.shapes m.processor l.goroutines l.globals (length p.shapes) o (due_runs p l script layout a t.next o f.turns.stands due).ranged

  pub marks_few : m.marks + 1 < 2 ^ 32
  marks_few = omega (arith, f.marked, stated_few p script a t f.turns)

  pub fit_begun : PollsMakeRoom → (o : Op) (new : Next) → op_due p t.next ≡ Some o → is_run_due new ≡ is_poll_due t.next → Follows p a t.next o new → SoundTurns p a (mutating.begins m o) (progress_after t (Some o) new)
  fit_begun k o new due behind follows =
      let b : BeginFacts o (begins_at m.shapes m.processor o) = begin_facts m.shapes m.processor o (begun_busy o due) in
      record {
        turns = turns_begun p script a t f.turns o new due follows;
        shapes = f.shapes;
        made = λ g. omega (arith, f.made g, b.made);
        leaves = b.leaves ∙ sym follows.leaves;
        marked = rw b.serves (omega (arith, f.marked));
        polled = polled_begun k p m.shapes m.processor t.next new o due behind;
      }

  pub fit_stepped : PollsMakeRoom → (found : ℕ) → is_busy_at m.processor.task ≡ true → SoundTurns p a (mutating.goes l m found) t
  fit_stepped k found busy =
      let s : StepFacts m.processor m.processor.task (takes l m.shapes m.processor found) (acts l m.processor found) (gives_at l m.processor m.processor.task found) = step_facts l m.shapes m.processor m.processor.task found busy in
      record {
        turns = f.turns;
        shapes = f.shapes;
        made = λ g. omega (arith, f.made g, s.counted g);
        leaves = s.leaves ∙ f.leaves;
        marked = omega (arith, s.answered, f.marked, marks_more m.marks (statement_answer l m.processor found) marks_few);
        polled = polled_stepped k l m.shapes m.processor t.next found f.polled;
      }

  -- ---- what the processor is asked to begin

  pub due_sound : (o : Op) → op_due p t.next ≡ Some o → SoundOp m.shapes l o
  due_sound o due =
      subst (λ (shapes : List Shape). SoundOp shapes l o) (sym f.shapes) (due_runs p l script layout a t.next o f.turns.stands due).sound

  pub due_named : (o : Op) → op_due p t.next ≡ Some o → has_names m.processor o ≡ true
  due_named o due = has_name_at m.processor t.stated o f.made (λ sure. omega (arith, due_statement p a t.next o due sure, f.turns.all, total_by-le p a, few_statements p script))

  -- and so an operation is begun
  pub busy_begun : (b : Option Op) → has_left_at m.processor.task ≡ false → b ≡ op_at_turn p (is_busy_at m.processor.task) t.next → is_busy_at (begun_as m b).processor.task ≡ true
  busy_begun b going is = grind arith

  -- ---- the points

  abbrev pub owes : Mutating → ℕ
  owes n = bit (is_unacted (op_at n.processor.task))

  -- a statement that begins has its point to come
  pub owes_begun : (b : Option Op) → b ≡ op_at_turn p (is_busy_at m.processor.task) t.next → owes (begun_as m b) + t.stated ≤ owes m + stated_after t b
  owes_begun b is = grind arith

-- and it comes once
pub owes_stepped : (l : Layout) (m : Mutating) (found : ℕ) → is_busy_at m.processor.task ≡ true → bit (is_unacted (op_at m.processor.task)) ≡ bit (is_unacted (op_at (mutating.goes l m found).processor.task)) + bit (is_point (acts l m.processor found))
owes_stepped l m found busy = (step_facts l m.shapes m.processor m.processor.task found busy).once

-- ---- all processors

module _ (p : Program) (l : Layout) (runners : List Runner) (points room : ℕ) (f : SoundRunners p l runners points room) where
  sum_few : (h : Runner → ℕ) → ((a : ℕ) (x : Runner) → SoundTurns p a x.mutator x.progress → h x ≤ x.progress.stated) → sum_by h runners ≤ total_of p
  sum_few h le =
      let each = sum_at h (total_by p) runners 0 (λ a x is. let g = f.each a x is in let one = le a x g in let seat : 0 + a ≡ a = omega arith in let same : total_by p (0 + a) ≡ total_by p a = ap (total_by p) seat in omega (arith, one, g.turns.all, same)) in
      let all = totals-le p (length runners) in
      omega (arith, each, all)

  pub stated_all : stated_by runners ≤ total_of p
  stated_all = grind (arith, sum_few)

  pub answered_all : answered_by runners ≤ total_of p
  answered_all = grind (arith, sum_few)

  module _ (a : ℕ) (x y : Runner) (is : slice_get runners a ≡ Some x) (fits : SoundTurns p a y.mutator y.progress) (sound : SoundMutating l y.mutator.shapes y.mutator.processor) where
    changed_sum : (h : Runner → ℕ) → sum_by h (set runners a y) + h x ≡ sum_by h runners + h y
    changed_sum h = ap (λ (z : Runner). sum_by h (set runners a y) + h z) (sym (get_or_from_slice_get runners a x x is)) ∙ sum_by-set h runners a y x (slice_get_within runners a x is)

    -- a step of one of them, by which so many statements have their points
    pub fit_run : (count : ℕ) → count + bit (is_unacted (op_at y.mutator.processor.task)) + x.progress.stated ≤ bit (is_unacted (op_at x.mutator.processor.task)) + y.progress.stated → SoundRunners p l (set runners a y) (points + count) room
    fit_run count owed = record {
      many = simp length-set f.many;
      each = each_set (λ (b : ℕ) (z : Runner). SoundTurns p b z.mutator z.progress) runners a x y is fits (λ b z apart e. f.each b z e);
      sound = each_set (λ (b : ℕ) (z : Runner). SoundMutating l z.mutator.shapes z.mutator.processor) runners a x y is sound (λ b z apart e. f.sound b z e);
      pointed =
          let unacted = changed_sum (λ (z : Runner). bit (is_unacted (op_at z.mutator.processor.task))) in
          let stated = changed_sum (λ (z : Runner). z.progress.stated) in
          omega (arith, unacted, stated, owed, f.pointed);
      reserved = f.reserved;
    }

-- a step of one of them on what it has begun
module _ (polls : PollsMakeRoom) (w : State) (points room : ℕ) (f : SoundState w points room) (a : ℕ) (x y : Runner) (is : slice_get w.runners a ≡ Some x) (begins : Begins w.script a x y) (fits : SoundTurns w.script a y.mutator y.progress) (busy : is_busy_at y.mutator.processor.task ≡ true) (found : ℕ) (sound : SoundMutating w.layout y.mutator.shapes (mutating.goes w.layout y.mutator found).processor) where
  abbrev l : Layout
  l = w.layout

  owed : bit (is_point (acts l y.mutator.processor found)) + bit (is_unacted (op_at (mutating.goes l y.mutator found).processor.task)) + x.progress.stated ≤ bit (is_unacted (op_at x.mutator.processor.task)) + y.progress.stated
  owed = grind (arith, owes_begun, owes_stepped)

  pub ran : SoundRunners w.script w.layout (set w.runners a (record { mutator = mutating.goes l y.mutator found; progress = y.progress })) (points + bit (is_point (acts l y.mutator.processor found))) room
  ran = fit_run w.script w.layout w.runners points room f.running a x (record { mutator = mutating.goes l y.mutator found; progress = y.progress }) is (fit_stepped w.script w.layout f.base.script f.base.layout a y.mutator y.progress fits polls found busy) sound (bit (is_point (acts l y.mutator.processor found))) owed

  -- there is room for a point
  pub point_room : (b : Bool) → b ≡ is_point (acts l y.mutator.processor found) → b ≡ true → points < room
  point_room b same set =
      let one : bit (is_point (acts l y.mutator.processor found)) ≡ 1 = ap bit (sym same ∙ set) in
      let few = stated_all w.script w.layout _ _ room ran in
      omega (arith, one, few, ran.pointed, ran.reserved)

-- before the first step
fit_opening : (p : Program) (a : ℕ) (first : Next) → to_come p a first ≡ later p a 0 0 → Stands p a first → leave_is_begun first ≡ false → SoundTurns p a (mutating.opening a p.shapes) (opening_progress first)
fit_opening p a first come stands over =
    record {
      turns = turns_open p a first come stands;
      shapes = refl;
      made = λ g. let none : get_or (replicate 32 0) g 0 ≡ 0 = read_replicate {A = ℕ} 32 g 0 in omega arith;
      leaves = sym over;
      marked = omega arith;
      polled = polled_opens a first;
    } where
      -- where nothing is begun yet marking is off, as the processor knows
      polled_opens : (a : ℕ) (t : Next) → Polled t (opening_processor a)
      polled_opens a t = grind arith

pub fit_opens : (p : Program) (a : ℕ) (x : Runner) → IsOpening p a x → SoundTurns p a x.mutator x.progress
fit_opens p a x o =
    subst (λ (m : Mutating). SoundTurns p a m x.progress) (sym o.mutator) (subst (λ (t : Progress). SoundTurns p a (mutating.opening a p.shapes) t) (sym o.progress) (fit_opening p a x.progress.next o.come o.stands o.going))

pub runners_open : (p : Program) (l : Layout) (runners : List Runner) (room : ℕ) → total_of p ≤ room → AreOpening p l runners → SoundRunners p l runners 0 room
runners_open p l runners room reserved o = record {
  many = o.many;
  each = λ a x is. fit_opens p a x (o.each a x is);
  sound = o.sound;
  pointed =
      let none = sum_each (λ (x : Runner). bit (is_unacted (op_at x.mutator.processor.task))) (λ (x : Runner). x.progress.stated) runners (λ a x is.
      let idle : bit (is_unacted (op_at x.mutator.processor.task)) ≡ 0 = ap (λ (m : Mutating). bit (is_unacted (op_at m.processor.task))) (o.each a x is).mutator in
      omega (arith, idle)) in
      omega (arith, none);
  reserved = reserved;
}

-- a step changes no length
pub fits_again : (p : Program) (l : Layout) (list new : List ℕ) (r : Req) → new ≡ changed r list → SoundWords p l list → SoundWords p l new
fits_again p l list new r is f = record { script = f.script; layout = f.layout; long = ap length is ∙ simp length-set f.long }

-- a step of the coordinator leaves it sound, and one of a worker that; and the coordinator goes on until it is done
pub others_led : GoesOnUntilDone → (p : Program) (l : Layout) (workers : List worker.Working) (c : coord.Coordinating) (found : ℕ) → coord.is_busy c.stage ≡ true → SoundCoordinating l (coord.goes l c found) → SoundOthers p l workers c → SoundOthers p l workers (coord.goes l c found)
others_led on p l workers c found busy sound f = record { many = f.many; works = f.works; leads = sound; room = cycle_room_stays l c found ∙ f.room; goes_on = on.step l c found busy }

pub others_worked : (p : Program) (l : Layout) (workers : List worker.Working) (c : coord.Coordinating) (i : ℕ) (x m : worker.Working) → slice_get workers i ≡ Some x → SoundWorking l m → SoundOthers p l workers c → SoundOthers p l (set workers i m) c
others_worked p l workers c i x m is sound f = record {
  many = simp length-set f.many;
  works = each_set (λ (j : ℕ) (y : worker.Working). SoundWorking l y) workers i x m is sound (λ j y apart e. f.works j y e);
  leads = f.leads;
  room = f.room;
  goes_on = f.goes_on;
}

-- the others before the first step
pub others_open : WorkersAreRoutines → (p : Program) (l : Layout) (seat : ℕ) → SoundCoordinating l (coord.opening l seat p.settings.gogc p.settings.minheap (most_cycles p)) → SoundOthers p l (workers_at l) (coord.opening l seat p.settings.gogc p.settings.minheap (most_cycles p))
others_open are p l seat sound = record {
  many = length-map-range_with_len worker.opening l.procs l.workers;
  works = λ i x e.
      let low : i < length (workers_at l) = slice_get_within (workers_at l) i x e in
      let many : length (workers_at l) ≡ l.workers = length-map-range_with_len worker.opening l.procs l.workers in
      let is : worker.opening (l.procs + i) ≡ x = sym (get_or-map-range_with_len worker.opening l.procs l.workers i (l.procs + i) x (omega (arith, many, low)) refl) ∙ get_or_from_slice_get (workers_at l) i x x e in
      subst (SoundWorking l) is (are.opens l (l.procs + i) (record { from = omega arith; below = omega (arith, many, low) }));
  leads = sound;
  room = refl;
  goes_on = refl;
}

-- a step of a worker, from what its own step did
pub work_is : (old : State) (i : ℕ) (x : worker.Working) (list : List ℕ) (m : worker.Working) (out : Option (Unit {0})) (happened : Event) → slice_get old.workers i ≡ Some x → InRange old.layout (cell_of (worker.asks old.layout x)) → list ≡ changed (request old.layout (worker.asks old.layout x)) old.words →
    m ≡ worker.goes old.layout x (get_or old.words (target (request old.layout (worker.asks old.layout x))) 0) → out ≡ worker.given m → happened ≡ done_or out Event.Moved → IsStepOfWorker old (record old { words = list; workers = set old.workers i m }) i happened
work_is old i x list m out happened is within words machine out_is says = record {
  before_it = x;
  is = is;
  within = within;
  others = rw (words, machine) refl;
  says = says ∙ ap (λ (o : Option (Unit {0})). done_or o Event.Moved) (out_is ∙ ap worker.given machine);
}
