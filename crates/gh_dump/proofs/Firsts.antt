-- Where an object is listed first, and with what rank.
use Rattle.std.proofs.Common.{◌≡◌, ℕ, zero, suc, ◌+◌, ◌-◌, ◌<◌, ◌≤◌, ◌==◌, ◌||◌, Bool, true, false, cond, List, [], ◌∷◌, take, Option, Some, None, refl, ap, arith}
use Rattle.std.specs.Prelude.{nat_lt}
use Rattle.std.proofs.lemmas.Bool.Decides.{nat_tests}
use Rattle.std.proofs.lemmas.Option.{same_Some}
use Rattle.gh_dump.specs.Kept.{first_of}
use Rattle.gh_dump.specs.Listing.{is_listed, lists, rank_at, rank_of}
use Rattle.gh_dump.specs.Vocabulary.{Item, list_any, Name}
use Rattle.gh_dump.specs.declared.index.Listing.{Listing}

abbrev pub rank_in : Option Listing → Option ℕ
rank_in None = None
rank_in (Some l) = Some l.rank

pub rank_first : (n : ℕ) (items : List (Option Item)) (o : Name) → rank_of items o ≡ rank_in (first_of n items o)
unfolding rank_of first_of
rank_first n [] o = refl
rank_first n (x ∷ xs) o = go (lists o x) (rank_first (n + 1) xs o) where
  go : (b : Bool) → rank_of xs o ≡ rank_in (first_of (n + 1) xs o) → cond b (Some (rank_at x)) (rank_of xs o) ≡ rank_in (cond b (Some (record { line = n; rank = rank_at x })) (first_of (n + 1) xs o))
  go true ih = refl
  go false ih = ih

-- the listing stands before line m
abbrev pub stands_before : ℕ → Option Listing → Bool
stands_before m None = false
stands_before m (Some l) = nat_lt l.line m

first_from : (k : ℕ) (items : List (Option Item)) (o : Name) (l : Listing) → first_of k items o ≡ Some l → k ≤ l.line
unfolding first_of
first_from k [] o l h = absurd (cc)
first_from k (x ∷ xs) o l h = go (lists o x) h (first_from (k + 1) xs o l) where
  go : (b : Bool) → cond b (Some (record { line = k; rank = rank_at x })) (first_of (k + 1) xs o) ≡ Some l → (first_of (k + 1) xs o ≡ Some l → k + 1 ≤ l.line) → k ≤ l.line
  go true h ih = let e : k ≡ l.line = ap (λ (m : Listing). m.line) (same_Some _ l h) in omega (arith, e)
  go false h ih = omega (arith, ih h)

before_from : (k m n : ℕ) (items : List (Option Item)) (o : Name) → m ≡ k + n → list_any (lists o) (take n items) ≡ stands_before m (first_of k items o)
unfolding first_of
before_from k m zero items o e = go (first_of k items o) refl where
  go : (f : Option Listing) → first_of k items o ≡ f → false ≡ stands_before m f
  go None h = refl
  go (Some l) h = let le : k ≤ l.line = first_from k items o l h in grind (arith, nat_tests)
before_from k m (suc n) [] o e = refl
before_from k m (suc n) (x ∷ xs) o e = go (lists o x) (before_from (k + 1) m n xs o (omega arith)) where
  go : (b : Bool) → list_any (lists o) (take n xs) ≡ stands_before m (first_of (k + 1) xs o) → (b || list_any (lists o) (take n xs)) ≡ stands_before m (cond b (Some (record { line = k; rank = rank_at x })) (first_of (k + 1) xs o))
  go true ih = grind (arith, nat_tests)
  go false ih = ih

pub listed_before : (items : List (Option Item)) (o : Name) (n : ℕ) → is_listed (take n items) o ≡ stands_before n (first_of 0 items o)
listed_before items o n = before_from 0 n n items o (omega arith)

pub above_by : (q r : ℕ) → 0 < r → (q == r - 1) ≡ (q + 1 == r)
above_by q r h = grind (arith, nat_tests)
