-- What holds while a cycle is marked, after every legal list of all actors; and what steps of processors and the heap have to keep for it.
use Rattle.std.specs.Prelude.{◌≡◌, ◌≢◌, ℕ, ◌+◌, ◌*◌, ◌<◌, ◌≤◌, Bool, true, List, ◌∷◌}
use Rattle.gh_marked.specs.Vocabulary.{acks_of, Actor, actors_after, Arena, Cell, Cycle, EndsClean, Entry, Good, Hands, IsBeginning, IsChecked, IsLedBy, IsStartOf, IsStateOf, KnowsObjects, Legal, MarkFacts, nothing, Op, Opens, Pacing, Placing, Processor, processor_kind, SameExtent, setting, setup_in, Shared, started, Steps, stored_in, takes, Went}
use Rattle.gh_coord.specs.Handshake as leading
use Rattle.gh_coord.specs.Listing as coord
use Rattle.gh_worker.specs.Listing as worker
use Rattle.gh_worker.specs.MarkFacts as marks
use Rattle.gh_marked.specs.State.{IsKnown}
use Rattle.gh_lists.specs.Marking.{words}
use Rattle.gh_marked.specs.Scanned.{most_scanned, scanned_in}
use Rattle.gh_marked.specs.Levels.{NoneBeyond}
use Rattle.gh_marked.specs.Weights.{counted}

-- A step of a worker or of the coordinator: the objects of the cycle are the same, and the words of pages, slots and pointer bits are as they were.
pub record LeavesObjects (s t : Shared) : Type 0 where
  pub since : (o : ℕ) → t.since o ≡ s.since o
  pub extents : (o : ℕ) → s.since o ≡ true → SameExtent s.extents t.extents o
  pub page : (i : ℕ) → t.words (Cell.Page i) ≡ s.words (Cell.Page i)
  pub alloc : (i : ℕ) → t.words (Cell.Alloc i) ≡ s.words (Cell.Alloc i)
  pub bitmap : (i : ℕ) → t.words (Cell.Bitmap i) ≡ s.words (Cell.Bitmap i)

module _ (arena : Arena) (pacing : Pacing) (may_begin : ℕ → List (Entry Op) → Op → Bool) where
  -- what is known of the heap besides, after the list
  abbrev pub Knows : Cycle → Shared → List (Entry Op) → Type 0
  Knows c s es = IsKnown (setup_in arena pacing may_begin) c s es

  -- each processor knows what its stage says
  abbrev pub ProcessorsKnow : List (Entry Op) → Cycle → Shared → Type 0
  ProcessorsKnow es z s = (a : ℕ) (m : Processor) → a < arena.layout.procs → actors_after arena pacing may_begin es a ≡ Actor.Runs m → MarkFacts z a s m

  -- While marking is on, a step of a processor is made of moves that its seat may make, and what is known of it and of the heap holds then. An operation may begin with the step.
  abbrev pub StepsByMoves : Type 0
  StepsByMoves = (e : Entry Op) (es : List (Entry Op)) (c : coord.Coordinating) → Legal (setting arena pacing may_begin) (e ∷ es) → IsLedBy arena pacing may_begin es c → leading.Marks c.stage → (z : Cycle) (s : Shared) (m : Processor) → IsStateOf arena pacing may_begin es c z s → Good z s → Knows z s es →
      e.actor < arena.layout.procs → actors_after arena pacing may_begin es e.actor ≡ Actor.Runs m → MarkFacts z e.actor s m →
      Steps z e.actor s e.ask (λ t. MarkFacts z e.actor t (takes arena.layout arena.shapes (started (processor_kind arena.shapes arena.layout) e.begun m) e.found) × Knows z t (e ∷ es))

  -- A cycle may begin: nothing is marked, in a buffer or scanned, and what globals and stacks name is of the cycle.
  pub record MayBegin (es : List (Entry Op)) (c : coord.Coordinating) : Type 0 where
    pub cycle : Cycle
    pub shared : Shared
    pub is : IsStateOf arena pacing may_begin es c cycle shared
    pub opens : Opens cycle shared
    pub known : Knows cycle shared es
    pub processors : ProcessorsKnow es cycle shared

  -- What holds while a cycle is marked: there is a state of marking with these words, and each actor knows, and has in hand, what its stage says.
  pub record IsInMarking (es : List (Entry Op)) (c : coord.Coordinating) : Type 0 where
    pub cycle : Cycle
    pub shared : Shared
    pub is : IsStateOf arena pacing may_begin es c cycle shared
    pub good : Good cycle shared
    pub known : Knows cycle shared es
    pub processors : ProcessorsKnow es cycle shared
    pub workers : (a : ℕ) (w : worker.Working) → a < acks_of arena.layout → actors_after arena pacing may_begin es a ≡ Actor.Marks w → marks.Facts cycle a shared w
    -- the coordinator has nothing in hand, and nobody is at a seat behind it
    pub coordinator : (a : ℕ) → acks_of arena.layout ≤ a → Hands a shared nothing
    -- what workers have scanned is no more than the cycles before had, and so much of this one
    pub scanned : scanned_in (setup_in arena pacing may_begin) es ≤ stored_in Cell.Gen es * most_scanned arena.layout + counted arena.layout shared
    pub none_beyond : NoneBeyond cycle shared

  -- and where the coordinator has checked it, all that is reached is marked
  pub record MarksToTheEnd (es : List (Entry Op)) (c : coord.Coordinating) : Type 0 where
    pub marking : IsInMarking es c
    pub ends : IsChecked c.stage → EndsClean marking.cycle marking.shared

  -- so it was at each start of the list where a cycle was marked
  abbrev pub WasMarked : List (Entry Op) → Type 0
  WasMarked es = (start : List (Entry Op)) (c : coord.Coordinating) → IsStartOf start es → IsLedBy arena pacing may_begin start c → leading.Marks c.stage → MarksToTheEnd start c

  -- What the heap has to keep.
  pub record KnowsHeap : Type 0 where
    -- where a cycle begins; what was marked before may be used for that
    pub begins : (es : List (Entry Op)) (c : coord.Coordinating) → Legal (setting arena pacing may_begin) es → IsLedBy arena pacing may_begin es c → IsBeginning c.stage → WasMarked es → MayBegin es c
    -- by then workers have scanned no more than the cycles had that have ended
    pub scanned : (es : List (Entry Op)) (c : coord.Coordinating) → Legal (setting arena pacing may_begin) es → IsLedBy arena pacing may_begin es c → IsBeginning c.stage → WasMarked es → scanned_in (setup_in arena pacing may_begin) es ≤ stored_in Cell.Gen es * most_scanned arena.layout
    -- while it is marked, the words that are read of an object of the cycle say what its words are
    pub objects : (z : Cycle) (s : Shared) (es : List (Entry Op)) → Good z s → Knows z s es → KnowsObjects z s
    -- and what is known of it lasts while workers and the coordinator step, by moves of theirs that fill no slot, as long as the cycle is marked
    pub lasts : (e : Entry Op) (es : List (Entry Op)) (c then : coord.Coordinating) → Legal (setting arena pacing may_begin) (e ∷ es) → IsLedBy arena pacing may_begin es c → IsLedBy arena pacing may_begin (e ∷ es) then → leading.Marks then.stage → (z : Cycle) (s t : Shared) → IsStateOf arena pacing may_begin es c z s → Good z s → Good z t → Knows z s es →
        arena.layout.procs ≤ e.actor → Went z e.actor s t → LeavesObjects s t → ((o : ℕ) → t.colour o ≢ Placing e.actor) → t.words ≡ words arena pacing may_begin (e ∷ es) → Knows z t (e ∷ es)
