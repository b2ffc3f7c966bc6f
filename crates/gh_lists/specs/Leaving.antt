-- A cycle's marking ends in a stopped world, with the store of the next sweep generation.
use Rattle.std.proofs.Common.{◌≡◌, ℕ, ◌⊎◌, true, arith}
use Rattle.gh_lists.specs.Vocabulary.{Cell, Coordinating, CoordStage, goes, is_busy, Layout, Marks, post_at, RunPhase, Stopped}
use Rattle.gh_coord.specs.Listing.{asks}
use Rattle.gh_lists.specs.Counts.{stores_cell}

-- a cycle is marked, or none is
pub marks_or_not : (p : CoordStage) → Marks p ⊎ (Marks p → ⊥)
marks_or_not p = grind arith

-- no cycle is marked, or the world is stopped
abbrev pub MayLeaveMarking : CoordStage → Type 0
MayLeaveMarking p = (Marks p → ⊥) ⊎ (post_at p ≡ Stopped RunPhase.Mark)

pub leaves_marking : (l : Layout) (s : Coordinating) (found : ℕ) → is_busy s.stage ≡ true → (Marks (goes l s found).stage → ⊥) → MayLeaveMarking s.stage
leaves_marking l s found b off = grind arith

-- the step that ends marking stores the next sweep generation
pub ends_marking : (l : Layout) (s : Coordinating) (found : ℕ) → Marks s.stage → Marks (goes l s found).stage ⊎ (stores_cell Cell.Gen (asks l s) ≡ true)
ends_marking l s found on = grind arith
