-- Whatever the coordinator is told, each of its steps is on a word that there is.
use Rattle.std.specs.Prelude.{ℕ, ◌^◌, ◌<◌}
use Rattle.gh_coord.specs.Vocabulary.{CoordStage, InRange, Layout, Sweep}
use Rattle.gh_base.specs.Steps.{cell_of}
use Rattle.gh_coord.specs.Listing.{asks, Coordinating, goes, opening}
use Rattle.gh_coord.specs.Sound.{SoundStage}
use Rattle.gh_coord.specs.SweepingAll.{IsAtPage}

-- of the sweep the page alone: what a sweep has counted it knows only by words of 64 bits
abbrev pub StandsAt : Layout → CoordStage → Type 0
StandsAt l (Sweep s) = IsAtPage l s.stage
StandsAt l stage = SoundStage l stage

-- what it knows of its own numbers, in a heap with processors and pages
pub record StandsWithin (l : Layout) (s : Coordinating) : Type 0 where
  pub procs : 0 < l.procs
  pub pages : 0 < l.pages
  pub stops : s.stops < 2 ^ 62
  pub generation : s.generation < 2 ^ 34
  pub stage : StandsAt l s.stage

pub record TheCoordinatorStaysWithin : Type 0 where
  pub at_first : (l : Layout) (seat gogc minheap room : ℕ) → 0 < l.procs → 0 < l.pages → StandsWithin l (opening l seat gogc minheap room)
  pub stays : (l : Layout) (s : Coordinating) (found : ℕ) → StandsWithin l s → StandsWithin l (goes l s found)
  pub within : (l : Layout) (s : Coordinating) → StandsWithin l s → InRange l (cell_of (asks l s))
