-- What holds after every list of steps of all actors, whatever the coordinator's stage: the one state of the heap and its sweep, what is known while a cycle is marked, and what has become of objects.
use Rattle.std.specs.Prelude.{◌≡◌, ◌≤◌, List}
use Rattle.gh_holds.specs.Vocabulary.{Coordinating, Done, Entry, Given, HasState, IsInCycle, IsInLimits, IsLed, IsMarking, IsTelling, Legal, MOST_STATEMENTS, Op, Setup, setup_for, ShapesAreGood, those, total, words}
use Rattle.gh_coord.specs.Handshake as leading
use Rattle.gh_holds.specs.ActorsHold.{Holds}
use Rattle.gh_marked.specs.Drawn.{CycleIsDrawn}
use Rattle.gh_holds.specs.Objects.{FreesWithinTwo, LeavesTheReached, StandsSoFar, StandsUntilItsEnd}
use Rattle.gh_marked.specs.Scanned.{FewAreScanned, GlobalsAreCounted}
use Rattle.gh_marked.specs.Spans.{PagesAreForTypes}

module _ (setup : Setup) where
  -- where the coordinator tells that a cycle is swept, it has begun
  abbrev pub InCycles : Type 0
  InCycles = (es : List (Entry Op)) (c : Coordinating) → Legal (those setup) es → IsLed setup es c → IsTelling c.stage → IsInCycle setup es c.begun

  pub record HoldsAfter (es : List (Entry Op)) : Type 0 where
    pub has : HasState setup es
    -- by the coordinator's stage
    pub holds : (c : Coordinating) → IsLed setup es c → Holds setup es c
    pub begun : (c : Coordinating) → IsLed setup es c → IsTelling c.stage → IsInCycle setup es c.begun
    pub left : (c : Coordinating) → IsLed setup es c → c.stage ≡ Done → LeavesTheReached setup es c
    -- while a cycle is marked
    pub marking : (c : Coordinating) → IsLed setup es c → leading.Marks c.stage → IsMarking setup es
    pub drawn : (c : Coordinating) → IsLed setup es c → leading.Marks c.stage → CycleIsDrawn setup es c
    pub so_far : (c : Coordinating) → IsLed setup es c → leading.Marks c.stage → StandsSoFar setup es c
    -- what workers scan
    pub scanned : FewAreScanned setup es
    pub globals : (c : Coordinating) → IsLed setup es c → GlobalsAreCounted setup es c
    -- what stands, and what is freed
    pub until : StandsUntilItsEnd setup es
    pub within_two : FreesWithinTwo setup es
    pub types : PagesAreForTypes setup.shapes (words setup es)

abbrev pub EveryListHolds : Type 0
EveryListHolds = (given : Given) (es : List (Entry Op)) → ShapesAreGood given.shapes → IsInLimits given.layout → total given.counts given.layout.goroutines ≤ MOST_STATEMENTS →
    Legal (those (setup_for given)) es → HoldsAfter (setup_for given) es
