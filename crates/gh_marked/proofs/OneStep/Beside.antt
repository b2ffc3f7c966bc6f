-- A step of a processor while a cycle is marked, its operation begun: it is a move over the heap and made of moves of marking at once, whatever the processor runs; and where it writes the word of a stack it tells that the stack is scanned, of a goroutine that goes on.
use Rattle.std.proofs.Common.{◌≡◌, ◌≢◌, ◌⊎◌, inl, inr, ℕ, ◌^◌, ◌<◌, Bool, true, false, cond, refl, sym, ap, subst, ◌∙◌, arith, List, ◌∷◌, Option, Some, None, eq-eqb}
use Rattle.gh_marked.proofs.Vocabulary.{Answer, Arena, arena, Ask, asks, awake_at, begins, by, Cell, cell_of, Coordinating, CoordStage, Cycle, DoesPoints, effect, END, Entry, Given, has_left_at, Heap, HeapSteps, idle_sweeps_none, is_busy_at, IsAwake, IsBeginning, IsKnown, IsLed, IsSound, IsWritten, Kind, knows_at, LeavesStack, left, Legal, ListsKnown, Load, MarkFacts, Marking, MarkingGood, may_parts, moved, only_polls, Op, party_of, Polling, Processor, processor_at, processor_kind, ProcessorFacts, runs_are, same_cell, ScansStack, setup_for, Shape, stage_at, stage_of, started, state_by, state_of, Store, sweep_in, takes, Task, TellsScan, TellsStacks, those, view, Words, words, WritesOf}
use Rattle.gh_coord.specs.Handshake as leading
use Rattle.gh_mutator_heap.specs.Beside.{KnowsMarking, StepsOn, Together}
use Rattle.gh_mutator.specs.Sound.{has_room}
use Rattle.gh_phase.specs.declared.view.RunPhase.TheVariants.{Mark}
use Rattle.gh_mutator.specs.ProcessorPlaces.{party_at}
use Rattle.gh_phase.specs.declared.view.View.{View}
use Rattle.gh_marked.proofs.OneStep.EndedStays.{ended_stays}
use Rattle.gh_marked.proofs.OneStep.Landing as landing
use Rattle.gh_marked.proofs.OneStep.OwnStep as step
use Rattle.gh_marked.proofs.OneStep.Wanted.{Wanted as Laws}

-- the cell of a stack
is_stack : (c : Cell) (g : ℕ) → same_cell c (Cell.Scanned g) ≡ true → c ≡ Cell.Scanned g
is_stack c g is = grind arith

-- it rests, and has not left
idle_is : (t : Task) → is_busy_at t ≡ false → has_left_at t ≡ false → t ≡ Task.Idle
idle_is t idle going = grind arith

-- it begins none while it marks one
pub not_beginning : (p : CoordStage) → leading.Marks p → IsBeginning p → ⊥
not_beginning p on b = grind arith

-- what begins leaves what is known of the phase
same_view : (shapes : List Shape) (m : Processor) (o : Op) → (begins shapes m o).poll.local.view ≡ m.poll.local.view
same_view shapes m o = grind arith

-- while it runs a statement it is awake, and what it knows of the phase is what it knows between two polls
record RunsAwake (p : Polling) (t : Task) : Type 0 where
  awake : IsAwake (stage_at p t)
  view_is : (party_at p t).view ≡ p.local.view

runs_awake : (p : Polling) (t : Task) → is_busy_at t ≡ true → only_polls t ≡ false → RunsAwake p t
runs_awake p t busy polls = grind arith

module _ (given : Given) (wanted : Laws) (lists : ListsKnown (setup_for given)) where
  abbrev z : Arena
  z = arena (setup_for given)

  abbrev k : Kind Processor Op
  k = processor_kind given.shapes given.layout

  abbrev told : List (Entry Op) → Words
  told es = words (setup_for given) es

  -- the cycle of this number, in this arena
  abbrev pub cycle : (number : ℕ) → number < 2 ^ 48 → Cycle
  cycle number few = record { arena = z; number = number; few = few }

  -- The next entry is a processor's, a cycle of this number is marked, and so marking stands.
  pub record Marked (e : Entry Op) (es : List (Entry Op)) (c : Coordinating) (number : ℕ) (few : number < 2 ^ 48) (s : Marking) : Type 0 where
    pub legal : Legal (those (setup_for given)) (e ∷ es)
    pub led : IsLed (setup_for given) es c
    pub on : leading.Marks c.stage
    pub lt : e.actor < given.layout.procs
    pub number_is : number ≡ c.begun
    pub fine : MarkingGood (cycle number few) s
    pub kn : IsKnown (setup_for given) (cycle number few) s es
    pub facts : MarkFacts (cycle number few) e.actor s (processor_at (setup_for given) es e.actor)

  module _ (e : Entry Op) (es : List (Entry Op)) (c : Coordinating) (number : ℕ) (few : number < 2 ^ 48) (s : Marking) (marked : Marked e es c number few s) where
    abbrev a : ℕ
    a = e.actor

    abbrev m : Processor
    m = processor_at (setup_for given) es a

    abbrev pub now : Processor
    now = started k e.begun m

    abbrev h : Heap
    h = marked.kn.has.state.heap

    -- nobody sweeps
    pub under : marked.kn.has.state.told ≡ None → ⊥
    under over = absurd (let no : None ≡ Some marked.kn.under_way.0 = sym over ∙ marked.kn.under_way.1 in cc)

    pub none : sweep_in (started k e.begun (processor_at (setup_for given) es e.actor)) ≡ None
    none = landing.sweeps_none given lists.good lists.limits lists.known wanted e es marked.legal marked.lt marked.kn.has under

    abbrev pending : Option Answer
    pending = (step.is given lists.good lists.limits lists.known e es marked.legal marked.lt marked.kn.has).pending

    busy : is_busy_at now.task ≡ true
    busy = step.busy given lists.good lists.limits lists.known e es marked.legal marked.lt marked.kn.has

    idle : (o : Op) → e.begun ≡ Some o → is_busy_at m.task ≡ false
    idle = step.idle given lists.good lists.limits lists.known e es marked.legal marked.lt marked.kn.has

    pub sound_now : IsSound given.layout now
    sound_now = step.sound_now given lists.good lists.limits lists.known e es marked.legal marked.lt marked.kn.has

    -- Where an operation begins, the processor rests.

    begun_is : (o : Op) → e.begun ≡ Some o → now ≡ k.begins m o
    begun_is o is = ap (λ (y : Option Op). started k y m) is

    going : (o : Op) → e.begun ≡ Some o → has_left_at m.task ≡ false
    going o is = go (has_left_at m.task) refl where
      go : (b : Bool) → has_left_at m.task ≡ b → has_left_at m.task ≡ false
      go false left = left
      go true left =
          let same : now ≡ m = begun_is o is ∙ ap (λ (b : Bool). cond b m (begins given.shapes m o)) left in
          absurd (let no : true ≡ false = sym busy ∙ (ap (λ (p : Processor). is_busy_at p.task) same ∙ idle o is) in cc)

    begins_is : (o : Op) → e.begun ≡ Some o → now ≡ begins given.shapes m o
    begins_is o is = grind (arith, begun_is, going)

    rests : (o : Op) → e.begun ≡ Some o → m.task ≡ Task.Idle
    rests o is = grind (arith, going, idle, idle_is)

    has_room_now : (o : Op) → e.begun ≡ Some o → has_room m o ≡ true
    has_room_now o is = ap (λ (p : Processor). has_room p o) (sym (state_by k a es)) ∙ (may_parts z given.counts a (state_of k a (by a es)) (by a es) o (step.may_now given lists.good lists.limits lists.known e es marked.legal marked.lt marked.kn.has o is)).room

    -- What is known where it steps.

    last_begun : told es Cell.Begun ≡ number
    last_begun = grind arith

    words_are : s.words ≡ told es
    words_are = marked.kn.beside.words ∙ marked.kn.has.of_list.words_are

    together : (p : Processor) (x : Option Answer) → IsSound given.layout p → ProcessorFacts z a (view h) p x → MarkFacts (cycle number few) a s p → sweep_in p ≡ None → Together (cycle number few) a h s p x
    together p x sound fine_p f still = record {
      shapes = lists.good;
      heap = marked.kn.has.good.heap;
      marking = marked.fine;
      bounded = marked.kn.has.of_list.bounded;
      beside = marked.kn.beside;
      ends = λ g ended. (marked.kn.has.of_list.stacks g).1 ended;
      cycle = ap (λ (w : Words). w Cell.Begun) words_are ∙ last_begun;
      sound = sound;
      fine = fine_p;
      facts = f;
      sweeps = still;
    }

    facts_now : MarkFacts (cycle number few) a s now
    facts_now = step.begins_with given lists.good lists.limits lists.known e es marked.legal marked.lt marked.kn.has (MarkFacts (cycle number few) a s) marked.facts (λ o is.
        let rests_now = step.rests given lists.good lists.limits lists.known e es marked.legal marked.lt marked.kn.has o is in
        let it = step.is given lists.good lists.limits lists.known e es marked.legal marked.lt marked.kn.has in
        subst (λ (b : Bool). MarkFacts (cycle number few) a s (cond b m (begins given.shapes m o))) (sym (going o is))
        (lists.known.beside.begins (cycle number few) a h s m o (together m None it.sound (subst (ProcessorFacts z a (view h) m) rests_now it.fine) marked.facts (idle_sweeps_none m.task (idle o is))) (rests o is) (step.may_begin given lists.good lists.limits lists.known e es marked.legal marked.lt marked.kn.has o is) (has_room_now o is)))

    -- It is awake where it begins an operation, or runs one that is no poll; and then it knows that marking is on.

    marks_awake : IsAwake (stage_of m) → (party_of m).view.phase ≡ Mark
    marks_awake awake = ((lists.keeps es marked.legal.0).processors_mark c a m marked.led (omega (arith, marked.lt)) (runs_are (setup_for given) es a marked.lt) awake).1 marked.on

    knows : KnowsMarking now
    knows polls = go e.begun refl where
      go : (o : Option Op) → e.begun ≡ o → now.poll.local.view.phase ≡ Mark
      go None is =
          let same : m ≡ now = sym (ap (λ (y : Option Op). started k y m) is) in
          let awake = runs_awake now.poll now.task busy polls in
          ap (λ (v : View). v.phase) (sym awake.view_is) ∙ (ap (λ (p : Processor). (party_of p).view.phase) (sym same) ∙ marks_awake (subst (λ (p : Processor). IsAwake (stage_of p)) (sym same) awake.awake))
      go (Some o) is =
          let at_rest = rests o is in
          let awake : IsAwake (stage_of m) = subst (λ (t : Task). IsAwake (stage_at m.poll t)) (sym at_rest) tt in
          ap (λ (p : Processor). p.poll.local.view.phase) (begins_is o is) ∙ (ap (λ (v : View). v.phase) (same_view given.shapes m o)
          ∙ (sym (ap (λ (t : Task). (party_at m.poll t).view.phase) at_rest) ∙ marks_awake awake))

    -- Its step.

    abbrev pub land : HeapSteps z a h (asks given.layout now) (λ t. DoesPoints z a h t now pending (h.words (cell_of (asks given.layout now))))
    land = step.land given lists.good lists.limits lists.known e es marked.legal marked.lt marked.kn.has none

    pub goes : StepsOn (cycle number few) a (moved z a h (step.land given lists.good lists.limits lists.known e es marked.legal marked.lt marked.kn.has none).move) s (takes given.layout given.shapes now (h.words (cell_of (asks given.layout now))))
    goes = lists.known.beside.own_step (cycle number few) a h s now pending (together now pending sound_now (step.fine_now given lists.good lists.limits lists.known e es marked.legal marked.lt marked.kn.has) facts_now none) busy knows land

    -- What it tells of stacks.

    view_begun : (g : ℕ) → TellsScan given.layout now g → now.poll.local.view.begun ≡ told es Cell.Begun
    view_begun g tells = go e.begun refl where
      known_by : (p : Processor) → IsAwake (stage_of p) → m ≡ p → (party_of p).view.begun ≡ told es Cell.Begun
      known_by p awake same = subst (λ (y : Processor). (party_of y).view.begun ≡ told es Cell.Begun) same ((lists.keeps es marked.legal.0).processors_know a m (omega (arith, marked.lt)) (runs_are (setup_for given) es a marked.lt) (subst (λ (y : Processor). IsAwake (stage_of y)) (sym same) awake)).begun_is

      go : (o : Option Op) → e.begun ≡ o → now.poll.local.view.begun ≡ told es Cell.Begun
      go None is =
          let same : m ≡ now = sym (ap (λ (y : Option Op). started k y m) is) in
          let awake = awake_at 0 (party_of now) (stage_of now) (asks given.layout now) (party_of (takes given.layout given.shapes now 0)) (stage_of (takes given.layout given.shapes now 0)) g now.poll.local.view.begun tells.tells (lists.known.places.takes_so given.layout given.shapes now 0 sound_now.place busy) in
          sym (ap (λ (v : View). v.begun) (knows_at given.layout now g now.poll.local.view.begun now.task (sym tells.tells))) ∙ known_by now awake same
      go (Some o) is =
          let at_rest = rests o is in
          let awake : IsAwake (stage_of m) = subst (λ (t : Task). IsAwake (stage_at m.poll t)) (sym at_rest) tt in
          ap (λ (p : Processor). p.poll.local.view.begun) (begins_is o is) ∙ (ap (λ (v : View). v.begun) (same_view given.shapes m o)
          ∙ (sym (ap (λ (t : Task). (party_at m.poll t).view.begun) at_rest) ∙ known_by m awake refl))

    is_number : (g : ℕ) → TellsScan given.layout now g → now.poll.local.view.begun ≢ END
    is_number g tells is =
        let same : number ≡ END = sym last_begun ∙ (sym (view_begun g tells) ∙ is) in
        absurd (omega (arith, few, same))

    goes_on : (g : ℕ) → TellsScan given.layout now g → h.words (Cell.Scanned g) ≢ END
    goes_on g tells is =
        let ended : goes.then.words (Cell.Scanned g) ≡ END = ended_stays lists.known.one (cycle number few) a g s goes.then goes.went (ap (λ (w : Words). w (Cell.Scanned g)) marked.kn.beside.words ∙ is) in
        let told_is : goes.then.words (Cell.Scanned g) ≡ now.poll.local.view.begun =
        ap (λ (w : Words). w (Cell.Scanned g)) (goes.beside.words ∙ land.words_are) ∙ (ap (λ (q : Ask). effect h.words q (Cell.Scanned g)) tells.tells ∙ ap (λ (b : Bool). cond b now.poll.local.view.begun (h.words (Cell.Scanned g))) (eq-eqb g g refl)) in
        is_number g tells (sym told_is ∙ ended)

    pub tells : TellsStacks given.layout h.words now
    tells g other = go (same_cell (cell_of (asks given.layout now)) (Cell.Scanned g)) refl where
      scans : IsWritten given.layout now (Cell.Scanned g) → LeavesStack given.layout h.words now g ⊎ ScansStack given.layout h.words now g
      scans (inl ends) = absurd (other ends.task_is)
      scans (inr y) = inr (record { tells = y; number = is_number g y; goes_on = goes_on g y })

      by_ask : (q : Ask) → asks given.layout now ≡ q → cell_of q ≡ Cell.Scanned g → WritesOf (IsWritten given.layout now) q → LeavesStack given.layout h.words now g ⊎ ScansStack given.layout h.words now g
      by_ask (Load d) is at w = inl (record { same = ap (λ (q : Ask). effect h.words q (Cell.Scanned g)) is; untold = λ number y. absurd (let no : Load d ≡ Store (Cell.Scanned g) number = sym is ∙ y in cc) })
      by_ask _ is at w = scans (subst (IsWritten given.layout now) at w)

      go : (b : Bool) → same_cell (cell_of (asks given.layout now)) (Cell.Scanned g) ≡ b → LeavesStack given.layout h.words now g ⊎ ScansStack given.layout h.words now g
      go true is = by_ask (asks given.layout now) refl (is_stack (cell_of (asks given.layout now)) g is) (lists.known.writes.writes given.layout now sound_now)
      go false is = inl (record {
        same = lists.known.one h.words (asks given.layout now) (Cell.Scanned g) ∙ ap (λ (b : Bool). cond b (left (asks given.layout now) (h.words (cell_of (asks given.layout now)))) (h.words (Cell.Scanned g))) is;
        untold = λ number y. absurd (let no : false ≡ true = sym is ∙ (ap (λ (q : Ask). same_cell (cell_of q) (Cell.Scanned g)) y ∙ eq-eqb g g refl) in cc);
      })
