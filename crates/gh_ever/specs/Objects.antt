-- The objects that were made.
use Rattle.std.specs.Prelude.{ℕ, if◌then◌else◌, List, [], ◌∷◌, Option, Some, None, IsSome}
use Rattle.gh_ever.specs.Vocabulary.{EverValue, Name, Object, Place, same_name}

-- the type of the object of this name, if it was made
abbrev pub kind_of : List Object → Name → Option ℕ
kind_of [] n = None
kind_of (o ∷ os) n = if same_name n o.name then Some o.kind else kind_of os n

-- what the value names was made
abbrev pub IsKnown : List Object → EverValue → Type 0
IsKnown objects (EverValue.Ref n) = IsSome (kind_of objects n)
IsKnown objects _ = Unit {0}

-- the object that the place is in was made
abbrev pub IsInKnown : List Object → Place → Type 0
IsInKnown objects (Place.Field n k) = IsSome (kind_of objects n)
IsInKnown objects _ = Unit {0}
