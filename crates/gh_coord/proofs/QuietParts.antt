-- What a step leaves by its footprint: the words of the handshake, and the sweep generation.
use Rattle.std.proofs.Common.{◌≡◌, ℕ, false, subst, arith}
use Rattle.gh_coord.proofs.Vocabulary.{Ask, Cell, Footprint, IsQuietInHandshake, Store, Writes}
use Rattle.gh_base.specs.Footprints as row

module _ (f : Footprint) (step : Ask) (w : Writes f step) where
  pub quiet_by : f row.Phase ≡ false → f row.Gen ≡ false → f row.Begun ≡ false → f row.Ack ≡ false → IsQuietInHandshake step
  quiet_by phase gen begun ack = grind arith

  pub never : (g : ℕ) → f row.Gen ≡ false → step ≡ Store Cell.Gen g → ⊥
  never g gen e = absurd (let stores = subst (Writes f) e w in cc)
