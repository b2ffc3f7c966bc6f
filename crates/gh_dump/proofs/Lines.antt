-- What a line lists, and where in a text a rank and a field stand.
use Rattle.std.proofs.Common.{◌≡◌, ℕ, suc, ◌+◌, Bool, true, false, cond, ◌||◌, List, [], ◌∷◌, take, Option, Some, None, refl, sym, ap, ◌∙◌, subst, arith, ◌==◌}
use Rattle.std.proofs.lemmas.Bool.{eqb-true}
use Rattle.std.proofs.lemmas.Bool.Decides.{nat_tests}
use Rattle.std.proofs.lemmas.Option.{same_Some}
use Rattle.gh_dump.specs.Names.{same_name}
use Rattle.gh_dump.specs.Causes.{is_above, is_held, is_twice_fault}
use Rattle.gh_dump.specs.Listing.{field_in_group, field_of, is_global_to, is_listed, last_object, last_some, lists, object_at, rank_at, rank_of}
use Rattle.gh_dump.specs.Vocabulary.{Field, Global, Item, list_any, Name, ObjectByGlobal, ObjectByParent, option_or, Reference, slice_get}
use Rattle.gh_dump.specs.declared.item.Item.TheVariants.{Total}
use Rattle.gh_dump.proofs.Lists.{and_parts}

pub name_same : (a b : Name) → same_name a b ≡ true → a ≡ b
name_same a b h =
    let p : a.goroutine ≡ b.goroutine = grind (arith, nat_tests) in
    let q : a.number ≡ b.number = grind (arith, nat_tests) in
    λ i. record { goroutine = p i; number = q i }

-- ---- one line

pub listed_name : (p : Name) (line : Option Item) → lists p line ≡ true → (q : Name) × (object_at line ≡ Some q) × (p ≡ q)
listed_name p None h = absurd (cc)
listed_name p (Some (Global k x)) h = absurd (cc)
listed_name p (Some (ObjectByGlobal x b r k)) h = (x, refl, name_same p x h)
listed_name p (Some (ObjectByParent x b r q i)) h = (x, refl, name_same p x h)
listed_name p (Some (Field i x)) h = absurd (cc)
listed_name p (Some (Total n b)) h = absurd (cc)

pub global_line : (k : ℕ) (o : Name) (line : Option Item) → is_global_to k o line ≡ true → (j : ℕ) × (x : Reference) × (line ≡ Some (Global j x)) × (o ≡ x.object)
global_line k o None h = absurd (cc)
global_line k o (Some (Global j x)) h = (j, x, refl, name_same o x.object (and_parts (k == j) (same_name o x.object) h).1)
global_line k o (Some (ObjectByGlobal x b r g)) h = absurd (cc)
global_line k o (Some (ObjectByParent x b r q i)) h = absurd (cc)
global_line k o (Some (Field i x)) h = absurd (cc)
global_line k o (Some (Total n b)) h = absurd (cc)

pub twice_of : (o : Name) (before : List (Option Item)) (line : Option Item) → lists o line ≡ true → is_twice_fault before line ≡ is_listed before o
twice_of o before None h = absurd (cc)
twice_of o before (Some (Global k x)) h = absurd (cc)
twice_of o before (Some (ObjectByGlobal x b r k)) h = ap (is_listed before) (sym (name_same o x h))
twice_of o before (Some (ObjectByParent x b r q i)) h = ap (is_listed before) (sym (name_same o x h))
twice_of o before (Some (Field i x)) h = absurd (cc)
twice_of o before (Some (Total n b)) h = absurd (cc)

pub above_some : (m : Option ℕ) (r : ℕ) → is_above m r ≡ true → (q : ℕ) × (m ≡ Some q) × (q + 1 ≡ r)
above_some None r h = absurd (cc)
above_some (Some q) r h = (q, refl, eqb-true (q + 1) r h)

pub held_some : (m : Option Name) (x : Name) → is_held m x ≡ true → (y : Name) × (m ≡ Some y) × (y ≡ x)
held_some None x h = absurd (cc)
held_some (Some y) x h = (y, refl, name_same y x h)

-- ---- ranks

-- an object that is listed has a rank
pub ranked : (items : List (Option Item)) (o : Name) → is_listed items o ≡ true → (r : ℕ) × (rank_of items o ≡ Some r)
unfolding rank_of
ranked [] o h = absurd (cc)
ranked (x ∷ xs) o h = go (lists o x) h (ranked xs o) where
  go : (b : Bool) → (b || list_any (lists o) xs) ≡ true → (list_any (lists o) xs ≡ true → (r : ℕ) × (rank_of xs o ≡ Some r)) → (r : ℕ) × (cond b (Some (rank_at x)) (rank_of xs o) ≡ Some r)
  go true h ih = (rank_at x, refl)
  go false h ih = ih h

-- a rank stands on a line that lists the object
pub rank_stands : (items : List (Option Item)) (o : Name) (r : ℕ) → rank_of items o ≡ Some r → (i : ℕ) × (line : Option Item) × (slice_get items i ≡ Some line) × (lists o line ≡ true) × (rank_at line ≡ r)
unfolding rank_of
rank_stands [] o r h = absurd (cc)
rank_stands (x ∷ xs) o r h = go (lists o x) refl h (rank_stands xs o r) where
  go : (b : Bool) → lists o x ≡ b → cond b (Some (rank_at x)) (rank_of xs o) ≡ Some r → (rank_of xs o ≡ Some r → (i : ℕ) × (line : Option Item) × (slice_get xs i ≡ Some line) × (lists o line ≡ true) × (rank_at line ≡ r)) →
      (i : ℕ) × (line : Option Item) × (slice_get (x ∷ xs) i ≡ Some line) × (lists o line ≡ true) × (rank_at line ≡ r)
  go true t h ih = (0, x, refl, t, same_Some (rank_at x) r h)
  go false f h ih = let s = ih h in (suc s.0, s.1, s.2, s.3, s.4)

-- ---- fields

-- a line says that a field holds this object; the last object's line before it lists `owner`
pub record FieldLine (items : List (Option Item)) (owner : Option Name) (y : Name) : Type 0 where
  pub place : ℕ
  pub number : ℕ
  pub held : Reference
  pub stands : slice_get items place ≡ Some (Some (Field number held))
  pub under : last_object (take place items) ≡ owner
  pub same : held.object ≡ y

-- behind one line more, which begins the group if it lists an object
behind : (x : Option Item) (items : List (Option Item)) (owner : Option Name) (y : Name) → object_at x ≡ owner → FieldLine items None y → FieldLine (x ∷ items) owner y
unfolding last_some
behind x items owner y e f = record {
  place = suc f.place;
  number = f.number;
  held = f.held;
  stands = f.stands;
  under = ap (λ (o : Option Name). option_or o (object_at x)) f.under ∙ e;
  same = f.same;
}

-- behind one line more, where a group has begun
further : (x : Option Item) (items : List (Option Item)) (q y : Name) → FieldLine items (Some q) y → FieldLine (x ∷ items) (Some q) y
unfolding last_some
further x items q y f = record {
  place = suc f.place;
  number = f.number;
  held = f.held;
  stands = f.stands;
  under = ap (λ (o : Option Name). option_or o (object_at x)) f.under;
  same = f.same;
}

here : (j : ℕ) (x : Reference) (items : List (Option Item)) → FieldLine (Some (Field j x) ∷ items) None x.object
unfolding last_some
here j x items = record { place = 0; number = j; held = x; stands = refl; under = refl; same = refl }

in_group : (items : List (Option Item)) (i : ℕ) (y : Name) → field_in_group items i ≡ Some y → FieldLine items None y
unfolding field_in_group
in_group [] i y h = absurd (cc)
in_group (None ∷ items) i y h = behind None items None y refl (in_group items i y h)
in_group (Some (Global k x) ∷ items) i y h = behind (Some (Global k x)) items None y refl (in_group items i y h)
in_group (Some (ObjectByGlobal x b r k) ∷ items) i y h = absurd (cc)
in_group (Some (ObjectByParent x b r q k) ∷ items) i y h = absurd (cc)
in_group (Some (Total n b) ∷ items) i y h = behind (Some (Total n b)) items None y refl (in_group items i y h)
in_group (Some (Field j x) ∷ items) i y h = go (i == j) h (in_group items i y) where
  go : (b : Bool) → cond b (Some x.object) (field_in_group items i) ≡ Some y → (field_in_group items i ≡ Some y → FieldLine items None y) → FieldLine (Some (Field j x) ∷ items) None y
  go true h ih = subst (FieldLine (Some (Field j x) ∷ items) None) (same_Some x.object y h) (here j x items)
  go false h ih = behind (Some (Field j x)) items None y refl (ih h)

-- what a field holds stands on a line behind the line of its object
pub field_stands : (items : List (Option Item)) (p : Name) (i : ℕ) (y : Name) → field_of items p i ≡ Some y → (q : Name) × (p ≡ q) × FieldLine items (Some q) y
unfolding field_of
field_stands [] p i y h = absurd (cc)
field_stands (x ∷ xs) p i y h = go (lists p x) refl h (field_stands xs p i y) where
  go : (b : Bool) → lists p x ≡ b → cond b (field_in_group xs i) (field_of xs p i) ≡ Some y → (field_of xs p i ≡ Some y → (q : Name) × (p ≡ q) × FieldLine xs (Some q) y) → (q : Name) × (p ≡ q) × FieldLine (x ∷ xs) (Some q) y
  go true t h ih = let n = listed_name p x t in (n.0, n.2, behind x xs (Some n.0) y n.1 (in_group xs i y h))
  go false f h ih = let s = ih h in (s.0, s.1, further x xs s.0 y s.2)
