-- What lower crates say, as the lemmas of lists of all actors use it.
use Rattle.std.proofs.Common.{ℕ, List, ◌∷◌}
use Rattle.gh_marked.specs.Vocabulary.{BoundsLast, CalmProcessorsMarkNothing, ChangesOneCell, Coordinating, CountsCycles, CountsPlainly, CountsWants, CyclesBeginBeside, CyclesBeginSo, Entry, IsFew, IsInLimits, IsLed, KeepsIt, Layout, Legal, MarkingAloneGoesBeside, MarkingBegins, MarksByMoves, MarksStayWords, ObjectsAreKnownBeside, OnlyPointsChange, Op, PlacesAreDecided, ProcessorsDeedsFit, ProcessorWritesItsOwn, RowsAreWritten, Setup, ShapesAreGood, StacksAreNoted, StepKeepsIt, SweepsByTheState, TheMarkedStand, TheMarkedWereReached, TheReachedAreMarkedBeside, TheReachedWereMade, those, WhatHasGoneOnLasts, words_after, WorkersAreRoutines}
use Rattle.gh_base.specs.Footprints.{FootprintsHold}
use Rattle.gh_heap.specs.Laws.{EachFactLasts, EachMoveLeaves, EachMoveReachesNoMore, TheHeapIsApart}
use Rattle.gh_sweep.specs.AtEnd.{TheBitsAreObjects}
use Rattle.gh_state.specs.Cycles.{CountsAreTold, CyclesEnd, HeapsOpen, TheSweepIsTold}
use Rattle.gh_state.specs.Cycles as state
use Rattle.gh_state.specs.Laws as state_laws
use Rattle.gh_state.specs.Walkers.{WalkersPass}
use Rattle.gh_cycle.specs.Opening.{CyclesOpen}
use Rattle.gh_mutator_heap.specs.Beside.{GoesOnBesideMarking}
use Rattle.gh_mutator_heap.specs.Runs.{RunsByItsRights}
use Rattle.gh_mutator_heap.specs.Sweeping.{ProcessorsRunSweeps}
use Rattle.gh_worker.specs.Places.{WorkersKeepPlaces}
use Rattle.gh_worker.specs.Routine.{WorkersStayWithin}
use Rattle.gh_worker.specs.Sweeping.{WorkersRunSweeps}
use Rattle.gh_worker.specs.Writing.{CalmWorkersMarkNothing}
use Rattle.gh_coord.specs.PartsRoutines.{PartsAreRoutines}
use Rattle.gh_coord.specs.Sweeping.{TheCoordinatorRunsSweeps}
use Rattle.gh_coord.specs.Within.{TheCoordinatorStaysWithin}
use Rattle.gh_lists.specs.Waits.{StackGoes, StacksAreNumbered, WorkersRest}
use Rattle.gh_marked.specs.LemmaVocabulary.{ProcessorInHandshake, WorkersWriteTheirOwn}
use Rattle.gh_marked.specs.Drawing.{DrawnKnown}
use Rattle.gh_lists.specs.Changes.{Change, Rises}

-- of steps and moves
pub record Known : Type 0 where
  pub one : ChangesOneCell
  pub rows : RowsAreWritten
  pub footprints : FootprintsHold
  pub apart : TheHeapIsApart
  pub keeps : state_laws.EachMoveKeeps
  pub leaves : EachMoveLeaves
  pub reaches : EachMoveReachesNoMore
  pub state_leaves : state_laws.EachMoveLeaves
  pub last : EachFactLasts
  pub sweeps : SweepsByTheState
  pub processors_sweep : ProcessorsRunSweeps
  pub workers_sweep : WorkersRunSweeps
  pub coordinator_sweeps : TheCoordinatorRunsSweeps
  pub coordinator_within : TheCoordinatorStaysWithin
  pub coordinator_parts : (l : Layout) → PartsAreRoutines l
  pub walkers : WalkersPass
  pub bits : TheBitsAreObjects
  pub runs : RunsByItsRights
  pub marks : MarksByMoves
  pub writes : ProcessorWritesItsOwn
  pub calm : CalmProcessorsMarkNothing
  pub notes : StacksAreNoted
  pub points : OnlyPointsChange
  pub places : ProcessorInHandshake
  pub workers : WorkersAreRoutines
  pub workers_places : WorkersKeepPlaces
  pub workers_write : WorkersWriteTheirOwn
  pub workers_calm : CalmWorkersMarkNothing
  pub workers_within : WorkersStayWithin
  pub mark_words : MarksStayWords
  pub heaps_open : HeapsOpen
  pub cycles_open : state.CyclesOpen
  pub cycles_end : CyclesEnd
  pub swept : TheSweepIsTold
  pub told : CountsAreTold
  pub decided : PlacesAreDecided
  pub made : TheReachedWereMade
  pub bounds : BoundsLast
  pub opens : CyclesOpen
  pub beside_begins : CyclesBeginBeside
  pub beside_lasts : MarkingAloneGoesBeside
  pub begins_so : CyclesBeginSo
  pub gone_on : WhatHasGoneOnLasts
  pub objects : ObjectsAreKnownBeside
  pub reached : TheReachedAreMarkedBeside
  pub marked : TheMarkedWereReached
  pub stand : TheMarkedStand
  pub beside : GoesOnBesideMarking
  pub marking : MarkingBegins
  pub fit : ProcessorsDeedsFit
  pub drawn : DrawnKnown

-- of a heap that is set up so, and of its lists
pub record ListsKnown (setup : Setup) : Type 0 where
  pub good : ShapesAreGood setup.shapes
  pub limits : IsInLimits setup.layout
  pub known : Known
  pub keeps : (es : List (Entry Op)) → Legal (those setup) es → KeepsIt (those setup) es
  pub steps : (e : Entry Op) (es : List (Entry Op)) → Legal (those setup) (e ∷ es) → StepKeepsIt (those setup) e es
  pub few : (es : List (Entry Op)) → Legal (those setup) es → IsFew es
  pub counts : (es : List (Entry Op)) (c : Coordinating) → Legal (those setup) es → IsLed setup es c → CountsCycles (those setup) setup.pacing.room es c
  pub plainly : (es : List (Entry Op)) (c : Coordinating) → Legal (those setup) es → IsLed setup es c → CountsPlainly (those setup) setup.pacing.room es c
  pub wants : (es : List (Entry Op)) (c : Coordinating) → Legal (those setup) es → IsLed setup es c → CountsWants (those setup) es c
  pub numbers : (es : List (Entry Op)) → Legal (those setup) es → StacksAreNumbered (words_after (those setup).opening es)
  pub changes : (e : Entry Op) (es : List (Entry Op)) → Legal (those setup) (e ∷ es) → Change setup e es
  pub rises : (e : Entry Op) (es : List (Entry Op)) → Legal (those setup) (e ∷ es) → Rises setup e es
  pub stacks : (e : Entry Op) (es : List (Entry Op)) → Legal (those setup) (e ∷ es) → (g : ℕ) → StackGoes (words_after (those setup).opening es) (words_after (those setup).opening (e ∷ es)) g
  pub rests : (es : List (Entry Op)) → Legal (those setup) es → WorkersRest (those setup) es
