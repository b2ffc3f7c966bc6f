-- Tables that are kept in one list, row after row.
use Rattle.std.specs.Prelude.{ℕ, ◌+◌, ◌*◌, nat_lt, if◌then◌else◌, List, slice_index_or}

-- what stands in a row and a column, where a row has that many columns; d outside the table
abbrev pub cells : {A : Type 0} → A → ℕ → List A → ℕ → ℕ → A
cells d columns items i j = if nat_lt j columns then slice_index_or items (i * columns + j) d else d

-- the same table where the row stands for two numbers, of which the second is below n
abbrev pub by_three : {A : Type 0} → A → ℕ → (ℕ → ℕ → A) → ℕ → ℕ → ℕ → A
by_three d n table i j k = if nat_lt j n then table (i * n + j) k else d
