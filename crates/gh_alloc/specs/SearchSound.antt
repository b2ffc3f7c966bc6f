-- What the search where a collector runs knows of its own numbers, whatever it is told.
use Rattle.gh_alloc.specs.Vocabulary.{Free, Layout, Runs, Search, SearchStage}
use Rattle.gh_central.specs.Reclaim as reclaim
use Rattle.gh_alloc.specs.FindSound as finding

-- the freeing that it runs is sound, and asks for a step
abbrev pub IsStage : Layout → SearchStage → Type 0
IsStage l (Free r) = Runs (reclaim.listing l) r
IsStage l _ = Unit {0}

pub record Sound (l : Layout) (s : Search) : Type 0 where
  pub find : finding.Sound l s.find
  pub stage : IsStage l s.stage
