-- Marks, one for each object, of what was found reachable.
use Rattle.std.specs.Prelude.{◌≡◌, ℕ, Bool, true, false, not, if◌then◌else◌, List, [], ◌∷◌, All, count_by, slice_index_or, Some}
use Rattle.gh_ever.specs.Vocabulary.{Cell, Field, Global, Name, names, Object, Place, Reach, Register, same_name}
use Rattle.gh_ever.specs.Lists.{Lists, ever_of}

-- the object of this name is marked
abbrev pub marked : List Object → List Bool → Name → Bool
marked [] marks n = false
marked (o ∷ os) [] n = false
marked (o ∷ os) (m ∷ ms) n = if same_name n o.name then m else marked os ms n

-- the marks with that of this name set
abbrev pub with_mark : List Object → List Bool → Name → List Bool
with_mark [] marks n = marks
with_mark (o ∷ os) [] n = []
with_mark (o ∷ os) (m ∷ ms) n = if same_name n o.name then true ∷ ms else m ∷ with_mark os ms n

-- how many marks are not set
abbrev pub unmarked : List Bool → ℕ
unmarked marks = count_by not marks

-- each marked object is reachable
abbrev pub IsSoundMarks : Lists → List Bool → Type 0
IsSoundMarks lists marks = (n : Name) → marked lists.objects marks n ≡ true → Reach (ever_of lists) n

-- what stands at the place is reachable, by these marks
abbrev pub leads : Lists → List Bool → Place → Bool
leads lists marks (Global k) = true
leads lists marks (Register g d) = not (slice_index_or lists.ended g false)
leads lists marks (Field n k) = marked lists.objects marks n

-- what the cell leads to is marked
abbrev pub IsFollowed : Lists → List Bool → Cell → Type 0
IsFollowed lists marks cell = leads lists marks cell.place ≡ true → (n : Name) → names cell.value ≡ Some n → marked lists.objects marks n ≡ true

-- no cell leads further
abbrev pub AreComplete : Lists → List Bool → Type 0
AreComplete lists marks = All (IsFollowed lists marks) lists.cells
