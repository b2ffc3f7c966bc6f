-- The list of swept cycles.
use Rattle.std.specs.Prelude.{ℕ, ◌-◌, nat_lt, if◌then◌else◌, List, [], ◌∷◌, ◌++◌, length, slice_get, Option}
use Rattle.gh_coord.specs.Vocabulary.{Cycle}

-- the cycles that are kept, in their order, and for how many there is room
pub record Kept : Type 0 where
  pub items : List Cycle
  pub room : ℕ

-- with a further one, where there is room for it
abbrev pub kept_with_cycle : Kept → Cycle → Kept
kept_with_cycle c cycle = record c { items = (if nat_lt (length c.items) c.room then c.items ++ cycle ∷ [] else c.items) }

-- the one that was kept last, if one was
abbrev pub last_kept : Kept → Option Cycle
last_kept c = slice_get c.items (length c.items - 1)
