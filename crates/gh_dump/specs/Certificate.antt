-- What an accepted text certifies: it lists exactly the objects that its globals reach by its fields.
use Rattle.std.specs.Prelude.{◌≡◌, ◌↔◌, ℕ, true, List, take, Option, Some, IsTrue}
use Rattle.gh_dump.specs.Listing.{is_listed, last_object, lists, objects_listed}
use Rattle.gh_dump.specs.Vocabulary.{Field, Global, Item, Name, Reference, slice_get}

-- the lines' globals reach the object by the lines' fields: a global's line names it, or a field's line behind the line of an object that is
-- reached
pub data ReachedBy (items : List (Option Item)) : Name → Type 0 where
  from_global : (i k : ℕ) (x : Reference) → slice_get items i ≡ Some (Some (Global k x)) → ReachedBy items x.object
  from_field : (i k : ℕ) (p : Name) (x : Reference) → ReachedBy items p → slice_get items i ≡ Some (Some (Field k x)) → last_object (take i items) ≡ Some p → ReachedBy items x.object

-- the lines list exactly what their globals reach, each object once, and n objects
pub record CertifiesReach (items : List (Option Item)) (n : ℕ) : Type 0 where
  pub reached : (o : Name) → IsTrue (is_listed items o) ↔ ReachedBy items o
  pub once : (o : Name) (i j : ℕ) (a b : Option Item) → slice_get items i ≡ Some a → slice_get items j ≡ Some b → lists o a ≡ true → lists o b ≡ true → i ≡ j
  pub count : n ≡ objects_listed items
