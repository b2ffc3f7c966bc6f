-- Who goes on but for one actor: in ascending order, and among those that are kept.
use Rattle.std.proofs.Common.{◌≡◌, ℕ, ◌+◌, ◌-◌, ◌%◌, ◌<◌, ◌≤◌, Bool, true, false, cond, eqb, not, ◌||◌, List, [], ◌∷◌, ◌++◌, length, Option, Some, None, refl, sym, ap, ◌∙◌, arith, IfSome, slice_get}
use Rattle.gh_replay.proofs.Vocabulary.{ActorsSoFar, filter, first_going, going, mix_u64, nat_tests, range_with_len, turn_from, who_behind, with_actor_ended}
use Rattle.gh_replay.proofs.Going.{next_range}

-- ---- in ascending order

-- those from low to below high
abbrev pub first_within : (ended : ℕ → Bool) → (low high : ℕ) → Option ℕ
first_within ended low high = first_going ended (range_with_len low (high - low))

module _ (ended : ℕ → Bool) (a high : ℕ) where
  pub is_first : a < high → ended a ≡ false → first_within ended a high ≡ Some a
  is_first lt e = ap (first_going ended) (next_range high a lt) ∙ ap (λ (b : Bool). cond b (first_within ended (a + 1) high) (Some a)) e

  pub is_passed : a < high → ended a ≡ true → first_within ended a high ≡ first_within ended (a + 1) high
  is_passed lt e = ap (first_going ended) (next_range high a lt) ∙ ap (λ (b : Bool). cond b (first_within ended (a + 1) high) (Some a)) e

  pub none_within : high ≤ a → first_within ended a high ≡ None
  none_within le = let e : high - a ≡ 0 = omega (arith, le) in ap (λ (m : ℕ). first_going ended (range_with_len a m)) e

-- the first of these, or the first of those
pub first_of : (ended : ℕ → Bool) (xs ys : List ℕ) (a : ℕ) → first_going ended xs ≡ Some a → first_going ended (xs ++ ys) ≡ Some a
first_of ended [] ys a e = absurd cc
first_of ended (x ∷ xs) ys a e = go (ended x) (first_of ended xs ys a) e where
  go : (b : Bool) → (first_going ended xs ≡ Some a → first_going ended (xs ++ ys) ≡ Some a) → cond b (first_going ended xs) (Some x) ≡ Some a → cond b (first_going ended (xs ++ ys)) (Some x) ≡ Some a
  go true ih q = ih q
  go false ih q = q

pub then_of : (ended : ℕ → Bool) (xs ys : List ℕ) → first_going ended xs ≡ None → first_going ended (xs ++ ys) ≡ first_going ended ys
then_of ended [] ys e = refl
then_of ended (x ∷ xs) ys e = go (ended x) (then_of ended xs ys) e where
  go : (b : Bool) → (first_going ended xs ≡ None → first_going ended (xs ++ ys) ≡ first_going ended ys) → cond b (first_going ended xs) (Some x) ≡ None → cond b (first_going ended (xs ++ ys)) (Some x) ≡ first_going ended ys
  go true ih q = ih q
  go false ih q = absurd cc

module _ (ended : ℕ → Bool) (n m next : ℕ) (same : m ≡ n) where
  pub in_first : (a : ℕ) → first_within ended next m ≡ Some a → Some a ≡ turn_from ended n next
  in_first a e = grind (arith, first_of)

  pub in_second : (o : Option ℕ) → first_within ended next m ≡ None → o ≡ first_within ended 0 next → o ≡ turn_from ended n next
  in_second o e is = grind (arith, then_of)

-- nobody is the first exactly where nobody is kept
pub none_first : (ended : ℕ → Bool) (xs : List ℕ) (a : ℕ) → first_going ended xs ≡ Some a → eqb (length (filter (λ x. not (ended x)) xs)) 0 ≡ false
none_first ended [] a e = absurd cc
none_first ended (x ∷ xs) a e = go (ended x) (none_first ended xs a) e where
  go : (b : Bool) → (first_going ended xs ≡ Some a → eqb (length (filter (λ y. not (ended y)) xs)) 0 ≡ false) → cond b (first_going ended xs) (Some x) ≡ Some a → eqb (length (cond (not b) (x ∷ filter (λ y. not (ended y)) xs) (filter (λ y. not (ended y)) xs))) 0 ≡ false
  go true ih q = ih q
  go false ih q = grind (arith, nat_tests)

pub none_kept : (ended : ℕ → Bool) (xs : List ℕ) → first_going ended xs ≡ None → eqb (length (filter (λ x. not (ended x)) xs)) 0 ≡ true
none_kept ended [] e = refl
none_kept ended (x ∷ xs) e = go (ended x) (none_kept ended xs) e where
  go : (b : Bool) → (first_going ended xs ≡ None → eqb (length (filter (λ y. not (ended y)) xs)) 0 ≡ true) → cond b (first_going ended xs) (Some x) ≡ None → eqb (length (cond (not b) (x ∷ filter (λ y. not (ended y)) xs) (filter (λ y. not (ended y)) xs))) 0 ≡ true
  go true ih q = ih q
  go false ih q = absurd cc

module _ (r : ActorsSoFar) (m : ℕ) where
  pub some_in : (a : ℕ) → m ≡ r.actors → first_within r.ended 0 m ≡ Some a → eqb (length (going r)) 0 ≡ false
  some_in a same e = grind (arith, none_first)

  pub all_out : m ≡ r.actors → first_within r.ended 0 m ≡ None → eqb (length (going r)) 0 ≡ true
  all_out same e =
      let all : m - 0 ≡ r.actors = omega (arith, same) in
      none_kept r.ended (range_with_len 0 r.actors) (ap (λ (k : ℕ). first_going r.ended (range_with_len 0 k)) (sym all) ∙ e)

-- ---- those that are kept

-- they are the others of those that go on
kept_but : (f : ℕ → Bool) (actor : ℕ) (xs : List ℕ) → filter (λ x. not (eqb actor x || f x)) xs ≡ filter (λ x. not (eqb actor x)) (filter (λ x. not (f x)) xs)
kept_but f actor [] = refl
kept_but f actor (x ∷ xs) = go (eqb actor x) (f x) refl (kept_but f actor xs) where
  F : List ℕ
  F = filter (λ y. not (eqb actor y || f y)) xs

  G : List ℕ
  G = filter (λ y. not (f y)) xs

  go : (b c : Bool) → eqb actor x ≡ b → F ≡ filter (λ y. not (eqb actor y)) G → cond (not (b || c)) (x ∷ F) F ≡ filter (λ y. not (eqb actor y)) (cond (not c) (x ∷ G) G)
  go b c is ih = grind arith

pub going_but : (r : ActorsSoFar) (actor : ℕ) → going (with_actor_ended actor r) ≡ filter (λ x. not (eqb actor x)) (going r)
going_but r actor = kept_but r.ended actor (range_with_len 0 r.actors)

pub chosen_but : (r : ActorsSoFar) (actor next w x : ℕ) (kept : List ℕ) (drawn o : Option ℕ) → drawn ≡ Some x → w ≡ (mix_u64 x).0 → IfSome drawn (λ y. kept ≡ going r) →
    o ≡ slice_get (filter (λ b. not (eqb actor b)) kept) (w % length (filter (λ b. not (eqb actor b)) kept)) → o ≡ who_behind (with_actor_ended actor r) next drawn
chosen_but r actor next w x kept drawn o is word all says = grind (arith, going_but)

-- one after the other
abbrev pub but : ℕ → List ℕ → List ℕ
but actor xs = filter (λ y. not (eqb actor y)) xs
