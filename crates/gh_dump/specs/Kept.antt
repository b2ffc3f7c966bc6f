-- What the code keeps of the lines that it has read.
use Rattle.std.specs.Prelude.{◌≡◌, ℕ, ◌+◌, ◌==◌, ◌&&◌, Bool, true, false, if◌then◌else◌, not, List, [], ◌∷◌, length, Option, Some, None}
use Rattle.gh_dump.specs.Names.{same_name}
use Rattle.gh_dump.specs.Listing.{is_object, is_total, last_field, last_global, lists, rank_at}
use Rattle.gh_dump.specs.Vocabulary.{Field, Global, Item, list_any, Name, ObjectByGlobal, ObjectByParent}
use Rattle.gh_dump.specs.declared.before.Before.{Before}
use Rattle.gh_dump.specs.declared.index.Listing.{Listing}
use Rattle.gh_dump.specs.declared.item.Item.TheVariants.{Total}

-- ---- what the lines before a line say

abbrev pub no_line : Before
no_line = record { lines = 0; has_object = false; has_total = false; last_global = None; last_field = None }

-- and one line more
abbrev pub with_line : Before → Option Item → Before
with_line b None = record b { lines = b.lines + 1 }
with_line b (Some (Global k x)) = record b { lines = b.lines + 1; last_global = Some k }
with_line b (Some (ObjectByGlobal o n r k)) = record b { lines = b.lines + 1; has_object = true; last_field = None }
with_line b (Some (ObjectByParent o n r p i)) = record b { lines = b.lines + 1; has_object = true; last_field = None }
with_line b (Some (Field i x)) = record b { lines = b.lines + 1; last_field = Some i }
with_line b (Some (Total n m)) = record b { lines = b.lines + 1; has_total = true }

-- that is what these lines say
pub record IsBefore (b : Before) (items : List (Option Item)) : Type 0 where
  pub lines : b.lines ≡ length items
  pub object : b.has_object ≡ list_any is_object items
  pub total : b.has_total ≡ list_any is_total items
  pub global : b.last_global ≡ last_global items
  pub field : b.last_field ≡ last_field items

-- ---- what all lines list

-- the first line that lists the object, where n lines stand before these
unfoldable pub first_of : ℕ → List (Option Item) → Name → Option Listing
first_of n [] o = None
first_of n (item ∷ items) o = if lists o item then Some (record { line = n; rank = rank_at item }) else first_of (n + 1) items o

-- the last line that lists an object is the first that lists this one
unfoldable pub is_open : List (Option Item) → Name → Bool
is_open [] o = false
is_open (item ∷ items) o = if lists o item then not (list_any is_object items) else is_open items o

abbrev pub same_field : Name × ℕ → Name × ℕ → Bool
same_field a b = same_name a.0 b.0 && (a.1 == b.1)

abbrev pub same_global : ℕ × Name → ℕ × Name → Bool
same_global a b = (a.0 == b.0) && same_name a.1 b.1

-- this name, if one is held
abbrev pub holds : Option Name → Name → Bool
holds None o = false
holds (Some x) o = same_name o x

-- what the line says that the field of the object before holds
abbrev pub field_here : Option Item → ℕ → Option Name
field_here (Some (Field j x)) i = if i == j then Some x.object else None
field_here item i = None
