-- A run of the coordinator, and what is asked for where the steps that store the phase word are counted.
use Rattle.std.proofs.Common.{◌≡◌, ℕ, refl}
use Rattle.gh_coord.proofs.Vocabulary.{asks_at, Coordinating, CoordStage, counted, Layout, LoadAck}

-- a coordinator's layout, the numbers that it is opened with, and what each of its steps is told
pub record Run : Type 0 where
  pub layout : Layout
  pub seat : ℕ
  pub gogc : ℕ
  pub minheap : ℕ
  pub room : ℕ
  pub found : ℕ → ℕ

-- counting the steps that store the phase word leaves what is asked for
pub same_ask : (l : Layout) (s : Coordinating) (stage : CoordStage) → asks_at l (counted s) stage ≡ asks_at l s stage
same_ask l s (LoadAck i) = refl
same_ask l s _ = refl
