-- A processor that has nothing begun, and has not left.
use Rattle.std.proofs.Common.{◌≡◌, false, arith}
use Rattle.gh_mutator.proofs.Vocabulary.{has_left_at, Idle, is_busy_at, Task}

pub idle_is : (t : Task) → is_busy_at t ≡ false → has_left_at t ≡ false → t ≡ Idle
idle_is t idle there = grind arith
