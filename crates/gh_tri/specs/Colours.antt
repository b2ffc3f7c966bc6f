-- The colours of objects, kept in a list.
use Rattle.std.specs.Prelude.{ℕ, List, slice_index_or}
use Rattle.gh_tri.specs.declared.Colour.{Colour}
use Rattle.gh_tri.specs.declared.Colour.TheVariants.{White}

-- the colours in a list; what is past it is white
abbrev pub colours_of : List Colour → ℕ → Colour
colours_of items o = slice_index_or items o White
