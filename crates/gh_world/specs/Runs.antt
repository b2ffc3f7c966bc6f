-- Whole runs: a list of the steps of all actors in which each processor's operations are its turns, and at whose end all are done; and what such a list says of a script's answers, its cycles and what is live.
use Rattle.std.specs.Prelude.{◌≡◌, ℕ, ◌+◌, ◌*◌, ◌%◌, ◌^◌, ◌<◌, ◌≤◌, Bool, true, false, List, [], ◌∷◌, ◌++◌, length, map, reverse, slice_get, Option, Some, None}
use Rattle.gh_world.specs.Vocabulary.{acted_at, acted_in, acts, AllAnswer, Answer, Answered, answers_by, arena_of, before_step, begun_in, by, Coordinating, Cycle, Entry, ever_of, filter, gives, IsFullFor, Layout, Leads, Legal, Op, opening_ever, order_of, Outcome, Program, seats_of, statement_as_op, statements_of, SweptCycle, WellFormed, Words, words_after}
use Rattle.gh_coord.specs.Keeping.{last_kept}
use Rattle.gh_law.specs.Actors.{AllStands, AwaitedCycle}
use Rattle.gh_law.specs.Below.{FreesTheUnreached, FreesWithinTwo, objects_in, scanned_in}
use Rattle.gh_law.specs.Credit.{earned_in, lapsed_in, spent_among, spent_in}
use Rattle.gh_world.specs.Cycles.{AreLive, cycles_in}
use Rattle.gh_lists.specs.Numbers.{opened_in}
use Rattle.gh_world.specs.Schedule.{ended_after, IsInTurn}
use Rattle.gh_world.specs.Turns.{turns_of, answers_to, is_of_seat, is_statement_of}
use Rattle.gh_world.specs.Wishes.{most_cycles}
use Rattle.gh_world.specs.World.{actor_after, actor_of, actors_of, answer_in, LaysOut, now_in, setting_of, State, with_goroutine, setup_of}

module _ (p : Program) (l : Layout) where
  -- the words after the list
  abbrev pub words_in : List (Entry Op) → Words
  words_in es = words_after (setting_of p l).opening es

  -- the actor has ended after the list
  abbrev pub has_ended_in : List (Entry Op) → ℕ → Type 0
  has_ended_in es a = ended_after (setting_of p l) es a ≡ true

  -- the list is one whole run of the script
  pub record IsRun (es : List (Entry Op)) : Type 0 where
    pub legal : Legal (setting_of p l) es
    pub turns : (a : ℕ) → a < l.procs → reverse (begun_in (by a es)) ≡ turns_of p a
    pub done : (a : ℕ) → a < (setting_of p l).actors → has_ended_in es a

  -- the list is a run of the script so far: what each processor has begun is the first of its turns
  pub record IsRunSoFar (es : List (Entry Op)) : Type 0 where
    pub legal : Legal (setting_of p l) es
    pub to_come : (a : ℕ) → List Op
    pub turns : (a : ℕ) → a < l.procs → turns_of p a ≡ reverse (begun_in (by a es)) ++ to_come a

-- what the statements were answered, in the order of their ends, each answer with its goroutine
abbrev pub answers_given : Program → Layout → List (Entry Op) → List (ℕ × Answer)
answers_given p l [] = []
answers_given p l (e ∷ es) = answers_given p l es ++ with_goroutine (now_in (e ∷ es)).0 (answer_in p.shapes l es e)

-- ---- what a coordinator tells of its cycles

abbrev pub swept_cycle : Cycle → SweptCycle
swept_cycle c = record { number = c.k; marked = c.marked; freed = c.freed }

-- the objects that the last cycle marked; none before the first
abbrev pub marked_by : Option Cycle → ℕ
marked_by None = 0
marked_by (Some c) = c.marked

-- What the run comes to, where processors have drawn so many words of credit and the coordinator knows this at its end. The bank is empty then, so what was earned was spent or has lapsed.
abbrev pub outcome_by : List (ℕ × Answer) → (spent : ℕ) → Coordinating → Outcome
outcome_by answers spent c = record { answers = answers; cycles = map swept_cycle c.cycles.items; earned = (spent + c.lapsed) % 2 ^ 64; spent = spent % 2 ^ 64; lapsed = c.lapsed; objects = marked_by (last_kept c.cycles); bytes = c.live }

-- the words that the processors of a world have drawn, and those that they have drawn after the list
abbrev pub drawn_of : State → ℕ
drawn_of w = spent_among (actor_of w) (actors_of w)

abbrev pub spent_after : Program → Layout → List (Entry Op) → ℕ
spent_after p l es = spent_among (actor_after p l es) (seats_of l)

-- ---- explained runs

-- the answers of the goroutines of processor a, among answers each with its goroutine
abbrev pub answers_at : Program → (a : ℕ) → List (ℕ × Answer) → List (ℕ × Answer)
answers_at p a answers = filter (λ (x : ℕ × Answer). is_of_seat p a x.0) answers

-- the statements of goroutine g among operations with their answers
abbrev pub acted_by : ℕ → List Answered → List Answered
acted_by g acted = filter (λ (a : Answered). is_statement_of g a.op) acted

-- these statements of goroutine g are those of the script, each once and in their order, and the answers are theirs, one for one: the n-th answer, from 1, is that of statement n
pub record AreItsStatements (p : Program) (g : ℕ) (acted : List Answered) (answers : List Answer) : Type 0 where
  pub statements : map (λ (a : Answered). a.op) acted ≡ map (statement_as_op g) (statements_of p g)
  pub answered : map (λ (a : Answered). a.answer) acted ≡ answers

module _ (p : Program) (l : Layout) where
  -- The operation acted in the list, behind i others, by this step of the list; and it found no room there, or did not.
  pub record ActedBehind (es : List (Entry Op)) (i : ℕ) (o : Op) (full : Bool) : Type 0 where
    pub before : List (Entry Op)
    pub entry : Entry Op
    pub later : List (Entry Op)
    pub there : es ≡ later ++ entry ∷ before
    pub behind : length (order_of p.shapes l before) ≡ i
    pub acted : acts l (before_step p.shapes l before entry) entry.found ≡ Some (record { op = o; full = full })

  -- the operation is the last that the actor began in the list, and has waited for a cycle
  abbrev pub Awaited : (a : ℕ) → List (Entry Op) → Op → Type 0
  Awaited a es o = AwaitedCycle (setup_of p l) a es o

  -- The operation acted in the list, behind i others, where there was no room; and behind its first entry a cycle began that was swept by then.
  pub record FoundNoRoom (es : List (Entry Op)) (i : ℕ) (o : Op) : Type 0 where
    pub step : ActedBehind es i o true
    pub no_room : IsFullFor (arena_of p.shapes l) step.entry.actor (words_in p l step.before) o
    pub waited : Awaited step.entry.actor step.before o

  -- whichever operation is answered `full`, it acted where there was no room
  abbrev pub FullMeansNoRoom : List (Entry Op) → Type 0
  FullMeansNoRoom es = (i : ℕ) (a : Answered) → slice_get (acted_in p.shapes l es) i ≡ Some a → a.answer ≡ Answer.Full → FoundNoRoom es i a.op

  -- The operation acted in the list, behind i others, where a cycle that began behind its first entry was swept; and its answer is `swept`, given by that very step.
  pub record FoundSwept (es : List (Entry Op)) (i : ℕ) (a : Answered) : Type 0 where
    pub step : ActedBehind es i a.op false
    pub waited : Awaited step.entry.actor step.before a.op
    pub given : gives l (before_step p.shapes l step.before step.entry) step.entry.found ≡ Some Answer.Swept
    pub answer : a.answer ≡ Answer.Swept

  -- whichever operation is a `gc`, it acted where a cycle that began behind its first entry was swept
  abbrev pub EachGcWaits : List (Entry Op) → Type 0
  EachGcWaits es = (i g : ℕ) (a : Answered) → slice_get (acted_in p.shapes l es) i ≡ Some a → a.op ≡ Op.Gc g → FoundSwept es i a

  -- What a run says of its credit is so of its list, and all that was earned was spent or has lapsed: the words of each object that workers have scanned, and one for each global.
  pub record CreditIsTold (es : List (Entry Op)) (o : Outcome) : Type 0 where
    pub earned : o.earned ≡ earned_in es
    pub spent : o.spent ≡ spent_in es
    pub lapsed : o.lapsed ≡ lapsed_in es
    pub balanced : o.earned ≡ o.spent + o.lapsed
    pub scanned : o.earned ≡ scanned_in (setup_of p l) es
    -- in each cycle one for each global, and the others are those of objects
    pub globals : o.earned ≡ length o.cycles * l.globals + objects_in (setup_of p l) es
    pub few : o.earned < 2 ^ 48

  -- The operations of each processor are its turns, in the order of their points, and nobody else acts; so the order of all points is one interleaving of the processors' turns. In it each goroutine's statements stand each once and in their order. Their answers are exactly those of the heap that never frees, save `full`, and whichever is answered `full`, there was no room where it acted, and a cycle that began behind its first entry was swept. Each `gc` is answered `swept`, where such a cycle was swept. The statements' answers are those given, of each processor in the order of its turns. What the coordinator tells is so: each cycle kept what was marked where it ended, and freed what was white there. Each cycle frees every object that no script reached when it began, and what is lost meanwhile goes with the second cycle that ends after that. Credit that workers earned was spent or has lapsed. What is live is what the globals of the heap that never frees hold at the end.
  pub record IsExplained (es : List (Entry Op)) (o : Outcome) : Type 0 where
    pub run : IsRun p l es
    -- what was answered, and what the coordinator tells at the end
    pub coordinator : Coordinating
    pub led : actor_after p l es (l.procs + l.workers) ≡ Leads coordinator
    pub given : o ≡ outcome_by (answers_given p l es) (spent_after p l es) coordinator
    pub all : List Answer
    pub acted : (a : ℕ) → a < l.procs → map (λ (x : Answered). x.op) (acted_at p.shapes l a es) ≡ turns_of p a
    pub alone : (a : ℕ) → l.procs ≤ a → acted_at p.shapes l a es ≡ []
    pub answered : map (λ (a : Answered). a.answer) (acted_in p.shapes l es) ≡ all
    pub ever : AllAnswer p.shapes opening_ever (map (λ (a : Answered). a.op) (acted_in p.shapes l es)) all
    pub among : (a : ℕ) → a < l.procs → answers_at p a o.answers ≡ answers_to (turns_of p a) (map (λ (x : Answered). x.answer) (acted_at p.shapes l a es))
    pub each : (g : ℕ) → AreItsStatements p g (acted_by g (acted_in p.shapes l es)) (answers_by g o.answers)
    pub others : (g : ℕ) → length p.goroutines ≤ g → acted_by g (acted_in p.shapes l es) ≡ []
    pub full : FullMeansNoRoom es
    pub swept : EachGcWaits es
    pub cycles : o.cycles ≡ cycles_in l (setting_of p l).opening es
    -- an object that no script reached when a cycle began is placed nowhere once that is swept; one that a script loses, once the second cycle that ends after that is
    pub frees : FreesTheUnreached (setup_of p l) es
    pub frees_within_two : FreesWithinTwo (setup_of p l) es
    pub credit : CreditIsTold es o
    pub live : AreLive p.shapes (ever_of p.shapes l es) o.objects o.bytes

-- ---- laws

-- No legal list of a script's actors opens more cycles than there is room for.
abbrev pub CyclesHaveRoom : Type 0
CyclesHaveRoom = (p : Program) (l : Layout) (es : List (Entry Op)) → WellFormed p → LaysOut p l → Legal (setting_of p l) es → opened_in es ≤ most_cycles p

-- Whatever the script, and whatever run of it so far, in every order of steps: all stands that stands after each legal list of all actors. A whole run is one to which nothing is to come.
abbrev pub EveryRunStands : Type 0
EveryRunStands = (p : Program) (l : Layout) (es : List (Entry Op)) → WellFormed p → LaysOut p l → IsRunSoFar p l es → AllStands (setup_of p l) es

-- And so it does after each legal list of a script's processors, workers and coordinator, in whatever order the processors' operations are.
abbrev pub EveryListOfAScriptStands : Type 0
EveryListOfAScriptStands = (p : Program) (l : Layout) (es : List (Entry Op)) → WellFormed p → LaysOut p l → Legal (setting_of p l) es → AllStands (setup_of p l) es

-- Whatever the script, and whatever run of it, in every order of steps: what it is answered and what its coordinator tells is explained.
abbrev pub EveryRunIsExplained : Type 0
EveryRunIsExplained = (p : Program) (l : Layout) (es : List (Entry Op)) (c : Coordinating) → WellFormed p → LaysOut p l → IsRun p l es → actor_after p l es (l.procs + l.workers) ≡ Leads c → IsExplained p l es (outcome_by (answers_given p l es) (spent_after p l es) c)

-- who steps, the newest first
abbrev pub actors_in : List (Entry Op) → List ℕ
actors_in es = map (λ (e : Entry Op). e.actor) es

-- Over a plain list of words a script has one run in each order of steps: lists in which the same actors step are the same.
abbrev pub EveryOrderHasOneRun : Type 0
EveryOrderHasOneRun = (p : Program) (l : Layout) (es fs : List (Entry Op)) → IsRunSoFar p l es → IsRunSoFar p l fs → actors_in es ≡ actors_in fs → es ≡ fs

-- Where the actors take turns a script has one run: as many steps of it are the same steps, and none follows when it is over.
abbrev pub EveryRunIsOne : Type 0
EveryRunIsOne = (p : Program) (l : Layout) (es fs : List (Entry Op)) → IsRunSoFar p l es → IsRunSoFar p l fs → IsInTurn (setting_of p l) es → IsInTurn (setting_of p l) fs → length es ≡ length fs → es ≡ fs

abbrev pub NoneIsLonger : Type 0
NoneIsLonger = (p : Program) (l : Layout) (es fs : List (Entry Op)) → IsRun p l es → IsRunSoFar p l fs → IsInTurn (setting_of p l) es → IsInTurn (setting_of p l) fs → length fs ≤ length es

-- the run goes on by a step of this actor
pub record GoesOnBy (p : Program) (l : Layout) (es : List (Entry Op)) (a : ℕ) : Type 0 where
  pub e : Entry Op
  pub by : e.actor ≡ a
  pub more : IsRunSoFar p l (e ∷ es)

-- A run of a script so far goes on by a step of any actor that has not ended, and is whole when all have.
abbrev pub RunsGoOn : Type 0
RunsGoOn = (p : Program) (l : Layout) (es : List (Entry Op)) (a : ℕ) → WellFormed p → LaysOut p l → IsRunSoFar p l es → a < (setting_of p l).actors → ended_after (setting_of p l) es a ≡ false → GoesOnBy p l es a

abbrev pub RunsEndWhole : Type 0
RunsEndWhole = (p : Program) (l : Layout) (es : List (Entry Op)) → WellFormed p → LaysOut p l → IsRunSoFar p l es → ((a : ℕ) → a < (setting_of p l).actors → has_ended_in p l es a) → IsRun p l es
