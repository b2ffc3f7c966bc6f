-- A worker fills no slot, at whatever stage it is.
use Rattle.std.proofs.Common.{◌≢◌, ℕ, arith}
use Rattle.gh_marked.proofs.Vocabulary.{Cycle, Marking, Placing}
use Rattle.gh_worker.specs.Listing as worker
use Rattle.gh_worker.specs.MarkFacts as marks

module _ (z : Cycle) (a : ℕ) (s : Marking) where
  abbrev FillsNone : Type 0
  FillsNone = (o : ℕ) → s.colour o ≢ Placing a

  pub places_none : (w : worker.Working) → marks.Facts z a s w → FillsNone
  places_none w f = grind arith
