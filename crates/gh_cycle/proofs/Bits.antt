-- Bits.
use Rattle.std.proofs.Common.{◌≡◌, ℕ, arith}

-- a bit is 0 or 1, and not both
pub zero_one : (n : ℕ) → n ≡ 0 → n ≡ 1 → ⊥
zero_one n e f = omega arith
