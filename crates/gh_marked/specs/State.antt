-- The one state of the heap and its sweep that there is after every list of all actors; what it is to the list, and what is known beside it while a cycle is marked.
use Rattle.std.specs.Option.{option_to_list}
use Rattle.std.proofs.Common.{inl, inr, ◌≡◌, ◌↔◌, ℕ, ◌<◌, ◌≤◌, ◌⊎◌, Bool, true, false, List, ◌++◌, slice_index, Option, Some, None}
use Rattle.gh_marked.specs.Vocabulary.{actors_after, answers_of, Arena, arena, BeginsCycle, by, Cell, Coordinating, Cycle, deeds, END, ended_in, Entry, Ever, ever, first_words, given_of, HasGoneOn, Heap, IsBeside, IsBounded, IsLed, IsOf, IsPlacedAt, IsSound, IsStartOf, mark_words, Marking, Name, Op, Processor, processor_kind, ProcessorFacts, Right, seats_of, Setup, State, state_of, Task, Told, view, Words, words}
use Rattle.gh_marked.specs.HeapBytes.{uncounted}
use Rattle.gh_marked.specs.Sweepers.{IsInSweep, sweep_of}
use Rattle.gh_marked.specs.HoldVocabulary.{Answer, AreWords, IsDrawnSo, IsToBegin, StateGood}

-- it leaves, or has left
abbrev pub is_last_task : Task → Bool
is_last_task (Task.Leave x) = true
is_last_task Task.Left = true
is_last_task _ = false

-- a cycle is opened or marked
abbrev pub IsUnderWay : State → Type 0
IsUnderWay s = (t : Told) × (s.told ≡ Some t)

module _ (setup : Setup) where
  abbrev z : Arena
  z = arena setup

  -- the processor at a seat after the list
  abbrev pub processor_at : List (Entry Op) → (a : ℕ) → Processor
  processor_at es a = state_of (processor_kind setup.shapes setup.layout) a es

  -- what holds of a processor: all that is known of it, and that it was answered as the heap that never frees answers; what it has noted of its stacks; and that it leaves once its goroutines have ended
  pub record IsAsItShould (es : List (Entry Op)) (h : Heap) (a : ℕ) (m : Processor) : Type 0 where
    pub sound : IsSound setup.layout m
    pub pending : Option Answer
    pub fine : ProcessorFacts z a (view h) m pending
    pub answers : answers_of z (first_words setup) a es ≡ option_to_list pending ++ given_of z (first_words setup) a es
    pub notes : (g : ℕ) → IsOf z a g → slice_index m.poll.local.scanned g ≡ h.words (Cell.Scanned g)
    -- a goroutine of its own has ended, or ends now, exactly where that was begun
    pub ended : (g : ℕ) → IsOf z a g → ((deeds setup.layout setup.shapes).unacted m ≡ Some (Op.End g)) ⊎ (h.ever.ended g ≡ true) → ended_in (by a es) g ≡ true
    pub ends : (g : ℕ) → IsOf z a g → ended_in (by a es) g ≡ true → ((deeds setup.layout setup.shapes).unacted m ≡ Some (Op.End g)) ⊎ (h.ever.ended g ≡ true)
    pub left : is_last_task m.task ≡ true → (g : ℕ) → IsOf z a g → h.ever.ended g ≡ true

  -- a state of the heap is that of this list
  pub record IsHeapOf (es : List (Entry Op)) (h : Heap) : Type 0 where
    pub words_are : h.words ≡ words setup es
    pub ever_is : h.ever ≡ ever setup es
    pub bounded : IsBounded z h.ever
    pub processors : (a : ℕ) → a < setup.layout.procs → IsAsItShould es h a (processor_at es a)
    -- nobody else has a right
    pub others : (a : ℕ) → setup.layout.procs ≤ a → Right a (view h) false (λ p. false) None
    -- a stack says that its goroutine has ended exactly where it has, and no global beyond these names an object
    pub stacks : (g : ℕ) → (h.words (Cell.Scanned g) ≡ END) ↔ (h.ever.ended g ≡ true)
    pub globals : (i : ℕ) → setup.layout.globals ≤ i → h.words (Cell.Global i) ≡ 0

  -- it has begun; in the last one no value has changed since
  pub record IsInCycle (es : List (Entry Op)) (k : ℕ) : Type 0 where
    pub begun : List (Entry Op)
    pub start : IsStartOf begun es
    pub begins : BeginsCycle setup k begun
    pub last : (c : Coordinating) → IsLed setup es c → c.is_last ≡ true → ever setup es ≡ ever setup begun

  -- the heap that never frees where it began, or is about to
  abbrev pub began : (es : List (Entry Op)) (k : ℕ) → IsToBegin setup es k ⊎ IsInCycle es k → Ever
  began es k (inl b) = ever setup es
  began es k (inr i) = ever setup i.begun

  -- and the words
  abbrev pub began_words : (es : List (Entry Op)) (k : ℕ) → IsToBegin setup es k ⊎ IsInCycle es k → Words
  began_words es k (inl b) = words setup es
  began_words es k (inr i) = words setup i.begun

  -- The heap and its sweep, at whatever stage the coordinator is: what holds at every moment, what each seat has placed and not counted, and what it sweeps.
  pub record HasState (es : List (Entry Op)) : Type 0 where
    pub state : State
    pub of_list : IsHeapOf es state.heap
    pub good : StateGood z state
    pub placing : (a : ℕ) → a < setup.layout.procs → state.pend a ≡ uncounted (processor_at es a).task
    pub others_place : (a : ℕ) → setup.layout.procs ≤ a → state.pend a ≡ 0
    -- and the sweep that each runs
    pub sweeps : (a : ℕ) → a < seats_of setup.layout → IsInSweep a state (sweep_of (actors_after z setup.pacing setup.may es a))

  -- While a cycle is marked.
  pub record IsKnown (c : Cycle) (s : Marking) (es : List (Entry Op)) : Type 0 where
    pub arena_is : c.arena ≡ z
    pub has : HasState es
    pub under_way : IsUnderWay has.state
    pub beside : IsBeside z has.state.heap s
    pub cycle : IsToBegin setup es c.number ⊎ IsInCycle es c.number
    pub gone_on : HasGoneOn (began es c.number cycle) has.state.heap s
    pub stood : (n : Name) (x : ℕ) → IsPlacedAt (began_words es c.number cycle) n x → IsPlacedAt (words setup es) n x
    pub drawn : (room : ℕ) → IsDrawnSo setup c s es room
    pub marks_fit : AreWords (mark_words has.state.heap.words)
    -- nothing of the next sweep is counted
    pub counts : (has.state.heap.words Cell.Tally ≡ 0) × (has.state.heap.words Cell.Live ≡ 0)

  -- there is such a state of marking
  pub record IsMarking (es : List (Entry Op)) : Type 0 where
    pub cycle : Cycle
    pub shared : Marking
    pub known : IsKnown cycle shared es
