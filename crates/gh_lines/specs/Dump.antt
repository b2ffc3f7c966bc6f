-- The lines of a dump of a heap, and what is told of a text that is one, or is refused.
use Rattle.std.specs.Prelude.{ℕ, List, ◌++◌, codes, decimal}
use Rattle.gh_base.specs.declared.value.Name.{Name}
use Rattle.gh_script.specs.Program.{Program, goroutine_at}

-- an object's name, as it is written: the goroutine that made it, and how many that had made before
abbrev pub object_name : Program → Name → List ℕ
object_name p o = (goroutine_at p o.g).name ++ codes "." ++ decimal o.k

-- the global of this number holds a reference to the object
abbrev pub global_line : Program → ℕ → Name → List ℕ
global_line p k o = codes "global " ++ decimal k ++ codes " ref " ++ object_name p o ++ codes "\n"

-- what is told of each object, whatever holds it: the bytes of its slot, and its rank
abbrev pub object_words : Program → Name → ℕ → ℕ → List ℕ
object_words p o bytes rank = codes "object " ++ object_name p o ++ codes " bytes " ++ decimal bytes ++ codes " rank " ++ decimal rank

-- an object that a global holds
abbrev pub object_by_global_line : Program → Name → ℕ → ℕ → ℕ → List ℕ
object_by_global_line p o bytes rank k = object_words p o bytes rank ++ codes " global " ++ decimal k ++ codes "\n"

-- an object that a field of its parent holds
abbrev pub object_by_parent_line : Program → Name → ℕ → ℕ → Name → ℕ → List ℕ
object_by_parent_line p o bytes rank parent i = object_words p o bytes rank ++ codes " parent " ++ object_name p parent ++ codes " field " ++ decimal i ++ codes "\n"

-- the field of this number, of the object whose line stands last, holds a reference to the object
abbrev pub field_line : Program → ℕ → Name → List ℕ
field_line p i o = codes "field " ++ decimal i ++ codes " ref " ++ object_name p o ++ codes "\n"

-- how many objects there are, and the bytes of all their slots
abbrev pub total_line : ℕ → ℕ → List ℕ
total_line objects bytes = codes "total " ++ decimal objects ++ codes " bytes " ++ decimal bytes ++ codes "\n"

-- a dump that is one lists so many objects, and all of them are reached
abbrev pub reachable_line : ℕ → List ℕ
reachable_line objects = codes "reachable " ++ decimal objects ++ codes "\n"
