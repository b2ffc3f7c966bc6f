-- The items to come are passed one by one, and the actors that have not ended are kept one by one.
use Rattle.std.proofs.Common.{◌≡◌, ℕ, suc, ◌+◌, ◌-◌, ◌%◌, ◌<◌, ◌≤◌, Bool, true, false, cond, not, List, [], ◌∷◌, ◌++◌, length, drop, get_or, None, refl, sym, ap, ◌∙◌, append_assoc, arith, slice_get}
use Rattle.std.proofs.lemmas.List.{append-nil}
use Rattle.gh_replay.proofs.Vocabulary.{ActorsSoFar, at_drop_more, drop_all, filter, going, is_over, range_with_len, to_come, Turn}

-- ---- items

module _ (r : ActorsSoFar) (xs : List Turn) where
  -- the item at this place has ended
  pub come_past : (i : ℕ) (d : Turn) → i < length xs → is_over r (get_or xs i d) ≡ true → to_come r (drop (i + 1) xs) ≡ to_come r (drop i xs)
  come_past i d lt e = sym (at_drop_more (to_come r) xs i d lt ∙ ap (λ (b : Bool). cond b (to_come r (drop (i + 1) xs)) (get_or xs i d ∷ drop (i + 1) xs)) e)

  -- it has not
  pub come_here : (i : ℕ) (d : Turn) → i < length xs → is_over r (get_or xs i d) ≡ false → to_come r (drop i xs) ≡ drop i xs
  come_here i d lt e = at_drop_more (to_come r) xs i d lt ∙ ap (λ (b : Bool). cond b (to_come r (drop (i + 1) xs)) (get_or xs i d ∷ drop (i + 1) xs)) e ∙ sym (at_drop_more (λ (ys : List Turn). ys) xs i d lt)

  -- there is none
  pub come_to_end : (i : ℕ) → length xs ≤ i → drop (length xs) xs ≡ to_come r (drop i xs)
  come_to_end i le = drop_all (length xs) xs (omega arith) ∙ sym (ap (to_come r) (drop_all i xs le))

-- ---- actors

-- those from this one on
abbrev pub going_from : ActorsSoFar → ℕ → List ℕ
going_from r a = filter (λ b. not (r.ended b)) (range_with_len a (r.actors - a))

pub next_range : (n a : ℕ) → a < n → range_with_len a (n - a) ≡ a ∷ range_with_len (a + 1) (n - (a + 1))
next_range n a lt = let e : n - a ≡ suc (n - (a + 1)) = omega (arith, lt) in ap (range_with_len a) e

module _ (r : ActorsSoFar) (a : ℕ) (lt : a < r.actors) where
  here : going_from r a ≡ cond (not (r.ended a)) (a ∷ going_from r (a + 1)) (going_from r (a + 1))
  here = ap (filter (λ b. not (r.ended b))) (next_range r.actors a lt)

  pub goes_on : r.ended a ≡ false → going_from r a ≡ a ∷ going_from r (a + 1)
  goes_on e = here ∙ ap (λ (b : Bool). cond (not b) (a ∷ going_from r (a + 1)) (going_from r (a + 1))) e

  pub is_passed : r.ended a ≡ true → going_from r a ≡ going_from r (a + 1)
  is_passed e = here ∙ ap (λ (b : Bool). cond (not b) (a ∷ going_from r (a + 1)) (going_from r (a + 1))) e

pub none_from : (r : ActorsSoFar) (a : ℕ) → r.actors ≤ a → going_from r a ≡ []
none_from r a le = let e : r.actors - a ≡ 0 = omega (arith, le) in ap (λ (m : ℕ). filter (λ b. not (r.ended b)) (range_with_len a m)) e

-- ---- they are kept, from the first on

pub from_first : (r : ActorsSoFar) → going_from r 0 ≡ going r
from_first r = let e : r.actors - 0 ≡ r.actors = omega arith in ap (λ (m : ℕ). filter (λ b. not (r.ended b)) (range_with_len 0 m)) e

module _ (r : ActorsSoFar) (a : ℕ) (xs : List ℕ) (lt : a < r.actors) (so_far : xs ++ going_from r a ≡ going r) where
  pub joins : r.ended a ≡ false → (xs ++ a ∷ []) ++ going_from r (a + 1) ≡ going r
  joins e = append_assoc xs (a ∷ []) (going_from r (a + 1)) ∙ sym (ap (λ (as' : List ℕ). xs ++ as') (goes_on r a lt e)) ∙ so_far

  pub joins_not : r.ended a ≡ true → xs ++ going_from r (a + 1) ≡ going r
  joins_not e = sym (ap (λ (as' : List ℕ). xs ++ as') (is_passed r a lt e)) ∙ so_far

pub all_joined : (r : ActorsSoFar) (a : ℕ) (xs : List ℕ) → r.actors ≤ a → xs ++ going_from r a ≡ going r → xs ≡ going r
all_joined r a xs le so_far = sym (ap (λ (as' : List ℕ). xs ++ as') (none_from r a le) ∙ append-nil xs) ∙ so_far

-- none is chosen among none
pub none_chosen : (xs : List ℕ) (w : ℕ) → length xs ≡ 0 → None ≡ slice_get xs (w % length xs)
none_chosen [] w e = refl
none_chosen (x ∷ xs) w e = absurd (omega arith)
