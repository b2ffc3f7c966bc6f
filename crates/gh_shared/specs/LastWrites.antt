-- What an entry finds, by the entries before it that wrote its cell.
use Rattle.std.specs.Prelude.{◌≡◌, Bool, true, false, not, ◌&&◌, All, List, ◌∷◌, ◌++◌}
use Rattle.gh_shared.specs.Vocabulary.{Entry, is_load, Legal, Op, Planned, same_cell, setting}
use Rattle.gh_base.specs.declared.cell.Cell.{Cell}
use Rattle.gh_base.specs.Steps.{cell_of, left}

-- the entry is a step on this cell, and no load
abbrev pub writes : Cell → Entry Op → Bool
writes c e = same_cell (cell_of e.ask) c && not (is_load e.ask)

-- none of these entries writes the cell
abbrev pub NoneWrites : Cell → List (Entry Op) → Type 0
NoneWrites c = All (λ (e : Entry Op). writes c e ≡ false)

-- Of every legal list of a heap's steps, the newest first, whoever made them: an entry e with others after it.
pub record ReadsSeeWrites (p : Planned) : Type 0 where
  -- it finds what the last entry w left that wrote its cell: none between them did
  pub last : (after : List (Entry Op)) (e : Entry Op) (between : List (Entry Op)) (w : Entry Op) (before : List (Entry Op)) →
      Legal (setting p) (after ++ e ∷ (between ++ w ∷ before)) → writes (cell_of e.ask) w ≡ true → NoneWrites (cell_of e.ask) between → e.found ≡ left w.ask w.found
  -- and the opening word where none wrote it
  pub first : (after : List (Entry Op)) (e : Entry Op) (before : List (Entry Op)) →
      Legal (setting p) (after ++ e ∷ before) → NoneWrites (cell_of e.ask) before → e.found ≡ (setting p).opening (cell_of e.ask)
