-- What one line more adds.
use Rattle.std.proofs.Common.{◌≡◌, ℕ, ◌+◌, ◌==◌, ◌||◌, ◌&&◌, Bool, true, false, not, cond, List, [], ◌∷◌, ◌++◌, length, Option, Some, None, refl, sym, ap, ◌∙◌, arith}
use Rattle.std.proofs.lemmas.List.Sums.{sum_by-append, sum_by-cons}
use Rattle.gh_dump.specs.Kept.{field_here, first_of, is_open}
use Rattle.gh_dump.specs.Listing.{field_in_group, field_of, is_object, last_some, lists, rank_at}
use Rattle.gh_dump.specs.Vocabulary.{Field, Global, is_some, Item, list_any, Name, ObjectByGlobal, ObjectByParent, option_or, sum_by}
use Rattle.gh_dump.specs.declared.index.Listing.{Listing}
use Rattle.gh_dump.specs.declared.item.Item.TheVariants.{Total}

pub or_none : {A : Type 0} (m : Option A) → option_or m None ≡ m
or_none None = refl
or_none (Some x) = refl

or_assoc : {A : Type 0} (a b c : Option A) → option_or (option_or a b) c ≡ option_or a (option_or b c)
or_assoc None b c = refl
or_assoc (Some x) b c = refl

pub or_false : (a : Bool) → (a || false) ≡ a
or_false true = refl
or_false false = refl

pub any_more : {A : Type 0} (p : A → Bool) (xs : List A) (x : A) → list_any p (xs ++ x ∷ []) ≡ (list_any p xs || p x)
any_more p [] x = or_false (p x)
any_more p (y ∷ ys) x = go (p y) (any_more p ys x) where
  go : (b : Bool) → list_any p (ys ++ x ∷ []) ≡ (list_any p ys || p x) → (b || list_any p (ys ++ x ∷ [])) ≡ ((b || list_any p ys) || p x)
  go true ih = refl
  go false ih = ih

pub sum_more : {A : Type 0} (f : A → ℕ) (xs : List A) (x : A) → sum_by f (xs ++ x ∷ []) ≡ sum_by f xs + f x
sum_more f xs x = omega (arith, sum_by-append f xs (x ∷ []), sum_by-cons f x [])

pub last_more : {A B : Type 0} (f : A → Option B) (xs : List A) (x : A) → last_some f (xs ++ x ∷ []) ≡ option_or (f x) (last_some f xs)
unfolding last_some
last_more f [] x = sym (or_none (f x))
last_more f (y ∷ ys) x = ap (λ o. option_or o (f y)) (last_more f ys x) ∙ or_assoc (f x) (last_some f ys) (f y)

pub first_more : (n m : ℕ) (xs : List (Option Item)) (x : Option Item) (o : Name) → m ≡ n + length xs
    → first_of n (xs ++ x ∷ []) o ≡ option_or (first_of n xs o) (cond (lists o x) (Some (record { line = m; rank = rank_at x })) None)
unfolding first_of
first_more n m [] x o e = let same : n ≡ m = omega arith in ap (λ (k : ℕ). cond (lists o x) (Some (record { line = k; rank = rank_at x })) None) same
first_more n m (y ∷ ys) x o e = go (lists o y) (first_more (n + 1) m ys x o (omega arith)) where
  go : (b : Bool) → first_of (n + 1) (ys ++ x ∷ []) o ≡ option_or (first_of (n + 1) ys o) (cond (lists o x) (Some (record { line = m; rank = rank_at x })) None)
      → ◌≡◌ {A = Option Listing} (cond b (Some (record { line = n; rank = rank_at y })) (first_of (n + 1) (ys ++ x ∷ []) o))
      (option_or (cond b (Some (record { line = n; rank = rank_at y })) (first_of (n + 1) ys o)) (cond (lists o x) (Some (record { line = m; rank = rank_at x })) None))
  go true ih = refl
  go false ih = ih

-- ---- fields

group_one : (x : Option Item) (i : ℕ) → field_in_group (x ∷ []) i ≡ field_here x i
unfolding field_in_group
group_one None i = refl
group_one (Some (Global k x)) i = refl
group_one (Some (ObjectByGlobal o b r k)) i = refl
group_one (Some (ObjectByParent o b r p j)) i = refl
group_one (Some (Field j x)) i = refl
group_one (Some (Total n b)) i = refl

group_more : (xs : List (Option Item)) (x : Option Item) (i : ℕ) → field_in_group (xs ++ x ∷ []) i ≡ option_or (field_in_group xs i) (cond (list_any is_object xs) None (field_here x i))
unfolding field_in_group
group_more [] x i = group_one x i
group_more (None ∷ xs) x i = group_more xs x i
group_more (Some (Global k y) ∷ xs) x i = group_more xs x i
group_more (Some (ObjectByGlobal o b r k) ∷ xs) x i = refl
group_more (Some (ObjectByParent o b r p j) ∷ xs) x i = refl
group_more (Some (Total n b) ∷ xs) x i = group_more xs x i
group_more (Some (Field j y) ∷ xs) x i = go (i == j) (group_more xs x i) where
  go : (b : Bool) → field_in_group (xs ++ x ∷ []) i ≡ option_or (field_in_group xs i) (cond (list_any is_object xs) None (field_here x i))
      → cond b (Some y.object) (field_in_group (xs ++ x ∷ []) i) ≡ option_or (cond b (Some y.object) (field_in_group xs i)) (cond (list_any is_object xs) None (field_here x i))
  go true ih = refl
  go false ih = ih

cond_not : {A : Type 0} (b : Bool) (u v : A) → cond b u v ≡ cond (not b) v u
cond_not true u v = refl
cond_not false u v = refl

cond_both : {A : Type 0} (b : Bool) (u : A) → cond b u u ≡ u
cond_both true u = refl
cond_both false u = refl

pub field_more : (xs : List (Option Item)) (x : Option Item) (p : Name) (i : ℕ) → field_of (xs ++ x ∷ []) p i ≡ option_or (field_of xs p i) (cond (is_open xs p) (field_here x i) None)
unfolding field_of is_open field_in_group
field_more [] x p i = cond_both (lists p x) None
field_more (y ∷ ys) x p i = go (lists p y) (group_more ys x i) (field_more ys x p i) where
  go : (b : Bool) → field_in_group (ys ++ x ∷ []) i ≡ option_or (field_in_group ys i) (cond (list_any is_object ys) None (field_here x i))
      → field_of (ys ++ x ∷ []) p i ≡ option_or (field_of ys p i) (cond (is_open ys p) (field_here x i) None)
      → cond b (field_in_group (ys ++ x ∷ []) i) (field_of (ys ++ x ∷ []) p i)
      ≡ option_or (cond b (field_in_group ys i) (field_of ys p i)) (cond (cond b (not (list_any is_object ys)) (is_open ys p)) (field_here x i) None)
  go true g ih = g ∙ ap (option_or (field_in_group ys i)) (cond_not (list_any is_object ys) None (field_here x i))
  go false g ih = ih

open_one : (x : Option Item) (p : Name) → cond (lists p x) true false ≡ cond (is_object x) (lists p x && true) false
open_one None p = refl
open_one (Some (Global k y)) p = refl
open_one (Some (ObjectByGlobal o b r k)) p = go (lists p (Some (ObjectByGlobal o b r k))) where
  go : (b : Bool) → cond b true false ≡ (b && true)
  go true = refl
  go false = refl
open_one (Some (ObjectByParent o b r q j)) p = go (lists p (Some (ObjectByParent o b r q j))) where
  go : (b : Bool) → cond b true false ≡ (b && true)
  go true = refl
  go false = refl
open_one (Some (Field j y)) p = refl
open_one (Some (Total n b)) p = refl

open_closed : (a b l : Bool) → not (a || b) ≡ cond b (l && false) (not a)
open_closed true true true = refl
open_closed true true false = refl
open_closed true false l = refl
open_closed false true true = refl
open_closed false true false = refl
open_closed false false l = refl

pub open_more : (xs : List (Option Item)) (x : Option Item) (p : Name) → is_open (xs ++ x ∷ []) p ≡ cond (is_object x) (lists p x && not (list_any (lists p) xs)) (is_open xs p)
unfolding is_open
open_more [] x p = open_one x p
open_more (y ∷ ys) x p = go (lists p y) (any_more is_object ys x) (open_more ys x p) where
  go : (b : Bool) → list_any is_object (ys ++ x ∷ []) ≡ (list_any is_object ys || is_object x)
      → is_open (ys ++ x ∷ []) p ≡ cond (is_object x) (lists p x && not (list_any (lists p) ys)) (is_open ys p)
      → cond b (not (list_any is_object (ys ++ x ∷ []))) (is_open (ys ++ x ∷ []) p)
      ≡ cond (is_object x) (lists p x && not (b || list_any (lists p) ys)) (cond b (not (list_any is_object ys)) (is_open ys p))
  go true a ih = ap not a ∙ open_closed (list_any is_object ys) (is_object x) (lists p x)
  go false a ih = ih

-- ---- listed

-- an object is listed exactly if it has a first listing
pub first_listed : (n : ℕ) (xs : List (Option Item)) (o : Name) → is_some (first_of n xs o) ≡ list_any (lists o) xs
unfolding first_of
first_listed n [] o = refl
first_listed n (y ∷ ys) o = go (lists o y) (first_listed (n + 1) ys o) where
  go : (b : Bool) → is_some (first_of (n + 1) ys o) ≡ list_any (lists o) ys → is_some (cond b (Some (record { line = n; rank = rank_at y })) (first_of (n + 1) ys o)) ≡ (b || list_any (lists o) ys)
  go true ih = refl
  go false ih = ih
