-- What was stored, by its place.
use Rattle.std.specs.Prelude.{◌≡◌, Bool, false, ◌==◌, ◌&&◌, if◌then◌else◌, List, [], ◌∷◌, Option, Some, None}
use Rattle.gh_ever.specs.Vocabulary.{Cell, EverValue, Field, Global, Place, Register, same_name}

abbrev pub same_place : Place → Place → Bool
same_place (Global j) (Global k) = j == k
same_place (Register g c) (Register h d) = (g == h) && (c == d)
same_place (Field n j) (Field m k) = same_name n m && (j == k)
same_place _ _ = false

-- the value at the place, if one was stored there
abbrev pub stored_value : List Cell → Place → Option EverValue
stored_value [] place = None
stored_value (c ∷ cs) place = if same_place place c.place then Some c.value else stored_value cs place

-- the cells with this value at the place
abbrev pub put_value : List Cell → Place → EverValue → List Cell
put_value [] place value = record { place = place; value = value } ∷ []
put_value (c ∷ cs) place value = if same_place place c.place then record c { value = value } ∷ cs else c ∷ put_value cs place value

-- no place has two cells
abbrev pub IsDistinct : List Cell → Type 0
IsDistinct [] = Unit {0}
IsDistinct (c ∷ cs) = (stored_value cs c.place ≡ None) × IsDistinct cs
