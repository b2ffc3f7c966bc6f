-- What the search has seen where it says that there is no room.
use Rattle.std.specs.Prelude.{ℕ, ◌+◌}

-- what the steps from this one on are told
abbrev pub since : (ℕ → ℕ) → (from : ℕ) → ℕ → ℕ
since found from n = found (from + n)
