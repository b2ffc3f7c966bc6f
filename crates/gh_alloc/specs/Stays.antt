-- What stays of a search, whatever it is told: all of its numbers but the cached span and the stage.
use Rattle.std.proofs.Common.{arith, ◌≡◌, ℕ}
use Rattle.gh_alloc.specs.Vocabulary.{FindStage, Layout, SearchStage, Sought}
use Rattle.gh_alloc.specs.Find.{Finding}
use Rattle.gh_alloc.specs.Find as find
use Rattle.gh_alloc.specs.Search.{goes_at}

pub record Base : Type 0 where
  pub seat : ℕ
  pub generation : ℕ
  pub wanted : Sought

abbrev pub base : Finding → Base
base g = record { seat = g.seat; generation = g.generation; wanted = g.wanted }

pub goes_base : (l : Layout) (g : Finding) (p : FindStage) (w : ℕ) → base (find.goes_at l g p w) ≡ base g
goes_base l g p w = grind arith

pub search_base : (l : Layout) (f : Finding) (p : SearchStage) (w : ℕ) → base (goes_at l f p w).find ≡ base f
search_base l f p w = grind arith
