-- What the lines of a text list, all together.
use Rattle.std.specs.Prelude.{ℕ, ◌==◌, ◌&&◌, Bool, true, false, if◌then◌else◌, List, [], ◌∷◌, Option, Some, None}
use Rattle.gh_dump.specs.Names.{same_name}
use Rattle.gh_dump.specs.Vocabulary.{count_by, Field, Global, Item, list_any, Name, ObjectByGlobal, ObjectByParent, option_flatten, option_or, sum_by}
use Rattle.gh_dump.specs.declared.item.Item.TheVariants.{Total}

-- ---- one line

-- the object that the line lists
abbrev pub object_at : Option Item → Option Name
object_at (Some (ObjectByGlobal o b r k)) = Some o
object_at (Some (ObjectByParent o b r p i)) = Some o
object_at item = None

abbrev pub is_object : Option Item → Bool
is_object (Some (ObjectByGlobal o b r k)) = true
is_object (Some (ObjectByParent o b r p i)) = true
is_object item = false

abbrev pub is_total : Option Item → Bool
is_total (Some (Total n b)) = true
is_total item = false

-- the line lists this object
abbrev pub lists : Name → Option Item → Bool
lists o (Some (ObjectByGlobal x b r k)) = same_name o x
lists o (Some (ObjectByParent x b r p i)) = same_name o x
lists o item = false

-- the rank that it says
abbrev pub rank_at : Option Item → ℕ
rank_at (Some (ObjectByGlobal o b r k)) = r
rank_at (Some (ObjectByParent o b r p i)) = r
rank_at item = 0

-- the bytes of the object that it lists
abbrev pub bytes_at : Option Item → ℕ
bytes_at (Some (ObjectByGlobal o b r k)) = b
bytes_at (Some (ObjectByParent o b r p i)) = b
bytes_at item = 0

-- the line says that this global holds a reference to this object
abbrev pub is_global_to : ℕ → Name → Option Item → Bool
is_global_to k o (Some (Global j x)) = (k == j) && same_name o x.object
is_global_to k o item = false

-- ---- many lines

-- a line lists the object
abbrev pub is_listed : List (Option Item) → Name → Bool
is_listed items o = list_any (lists o) items

-- how many lines list an object, and the bytes of all
abbrev pub objects_listed : List (Option Item) → ℕ
objects_listed items = count_by is_object items

abbrev pub bytes_listed : List (Option Item) → ℕ
bytes_listed items = sum_by bytes_at items

-- the rank of the object, as the first line that lists it says
unfoldable pub rank_of : List (Option Item) → Name → Option ℕ
rank_of [] o = None
rank_of (item ∷ items) o = if lists o item then Some (rank_at item) else rank_of items o

-- what the field holds of the object whose line stands right before these
unfoldable pub field_in_group : List (Option Item) → ℕ → Option Name
field_in_group [] i = None
field_in_group (Some (Field j x) ∷ items) i = if i == j then Some x.object else field_in_group items i
field_in_group (item ∷ items) i = if is_object item then None else field_in_group items i

-- what the field of the object holds, as the lines behind the first that lists the object say
unfoldable pub field_of : List (Option Item) → Name → ℕ → Option Name
field_of [] o i = None
field_of (item ∷ items) o i = if lists o item then field_in_group items i else field_of items o i

-- ---- the last of its kind

module _ {A B : Type 0} (f : A → Option B) where
  -- what f gives of the last element of which it gives anything
  unfoldable pub last_some : List A → Option B
  last_some [] = None
  last_some (x ∷ xs) = option_or (last_some xs) (f x)

abbrev pub global_at : Option Item → Option ℕ
global_at (Some (Global k x)) = Some k
global_at item = None

-- an object's line begins a group, and a field's line stands in one
abbrev pub field_mark : Option Item → Option (Option ℕ)
field_mark (Some (Field i x)) = Some (Some i)
field_mark (Some (ObjectByGlobal o b r k)) = Some None
field_mark (Some (ObjectByParent o b r p i)) = Some None
field_mark item = None

-- the object whose line stands last
abbrev pub last_object : List (Option Item) → Option Name
last_object items = last_some object_at items

-- the number of the last global
abbrev pub last_global : List (Option Item) → Option ℕ
last_global items = last_some global_at items

-- the number of the last field behind the last object's line
abbrev pub last_field : List (Option Item) → Option ℕ
last_field items = option_flatten (last_some field_mark items)
