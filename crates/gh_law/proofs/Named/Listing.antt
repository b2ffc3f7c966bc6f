-- Names listed by the heap words of their objects: as many as the words that pass, each once, and in sum what the words are in sum.
use Rattle.std.proofs.Common.{◌≡◌, ◌≢◌, ℕ, zero, suc, ◌+◌, ◌<◌, ◌≤◌, ◌⊎◌, inl, inr, Bool, true, false, cond, refl, sym, ap, subst, ◌∙◌, arith, List, [], ◌∷◌, ◌++◌, get_or, length, AllPairs, sum_by}
use Rattle.std.proofs.lemmas.List.{length-append}
use Rattle.std.proofs.lemmas.List.Sums.{sum_by-cons}
use Rattle.gh_law.proofs.Vocabulary.{bit, cases_lt, count_below, Name, sum_below, sum_more, sum_none}
use Rattle.gh_law.specs.Names.{IsAmong}

-- ---- of names

among_append : (n : Name) (xs ys : List Name) → IsAmong n (xs ++ ys) → IsAmong n xs ⊎ IsAmong n ys
among_append n [] ys h = inr h
among_append n (x ∷ xs) ys (inl e) = inl (inl e)
among_append n (x ∷ xs) ys (inr h) = elim (among_append n xs ys h) [ inl a ↦ inl (inr a) | inr b ↦ inr b ]

among_left : (n : Name) (xs ys : List Name) → IsAmong n xs → IsAmong n (xs ++ ys)
among_left n [] ys h = absurd h
among_left n (x ∷ xs) ys (inl e) = inl e
among_left n (x ∷ xs) ys (inr h) = inr (among_left n xs ys h)

among_right : (n : Name) (xs ys : List Name) → IsAmong n ys → IsAmong n (xs ++ ys)
among_right n [] ys h = h
among_right n (x ∷ xs) ys h = inr (among_right n xs ys h)

-- one of them taken out
record TakenOut (n : Name) (ys : List Name) : Type 0 where
  front : List Name
  back : List Name
  there : ys ≡ front ++ n ∷ back

takes_out : (n : Name) (ys : List Name) → IsAmong n ys → TakenOut n ys
takes_out n [] h = absurd h
takes_out n (y ∷ ys) (inl e) = record { front = []; back = ys; there = ap (λ (x : Name). x ∷ ys) (sym e) }
takes_out n (y ∷ ys) (inr h) = let t = takes_out n ys h in record { front = y ∷ t.front; back = t.back; there = ap (λ (xs : List Name). y ∷ xs) t.there }

-- each of them once
abbrev pub Once : List Name → Type 0
Once [] = Unit {0}
Once (x ∷ xs) = ((n : Name) → IsAmong n xs → x ≢ n) × Once xs

there_among : (xs : List Name) (j : ℕ) (d : Name) → j < length xs → IsAmong (get_or xs j d) xs
there_among [] j d lt = absurd (omega (arith, lt))
there_among (x ∷ xs) zero d lt = inl refl
there_among (x ∷ xs) (suc j) d lt = inr (there_among xs j d (omega (arith, lt)))

pub are_apart : (xs : List Name) → Once xs → AllPairs (λ n m. n ≢ m) xs
are_apart [] once i j d lt within = absurd (omega (arith, within))
are_apart (x ∷ xs) once zero zero d lt within = absurd (omega (arith, lt))
are_apart (x ∷ xs) once zero (suc j) d lt within = once.0 (get_or xs j d) (there_among xs j d (omega (arith, within)))
are_apart (x ∷ xs) once (suc i) zero d lt within = absurd (omega (arith, lt))
are_apart (x ∷ xs) once (suc i) (suc j) d lt within = are_apart xs once.1 i j d (omega (arith, lt)) (omega (arith, within))

-- as many at most, where each of these, once, is among those
pub no_more : (xs ys : List Name) → Once xs → ((n : Name) → IsAmong n xs → IsAmong n ys) → length xs ≤ length ys
no_more [] ys once h = omega arith
no_more (x ∷ xs) ys once h =
    let t = takes_out x ys (h x (inl refl)) in
    let rest = no_more xs (t.front ++ t.back) once.1 (λ n a. still n a t (once.0 n a)) in
    let long = ap length t.there ∙ length-append t.front (x ∷ t.back) in
    let other = length-append t.front t.back in
    omega (arith, rest, long, other) where
      still : (n : Name) → IsAmong n xs → (t : TakenOut x ys) → x ≢ n → IsAmong n (t.front ++ t.back)
      still n a t ne = elim (among_append n t.front (x ∷ t.back) (subst (IsAmong n) t.there (h n (inr a)))) [
        | inl f ↦ among_left n t.front t.back f
        | inr b ↦ among_right n t.front t.back (behind b)
      ] where
        behind : IsAmong n (x ∷ t.back) → IsAmong n t.back
        behind (inl e) = absurd (ne (sym e))
        behind (inr b) = b

-- ---- the names of the words that pass

module _ (test : ℕ → Bool) (name_at : ℕ → Name) where
  abbrev pub listed : (n : ℕ) → List Name
  listed zero = []
  listed (suc x) = cond (test x) (name_at x ∷ listed x) (listed x)

  pub many_are : (n : ℕ) → length (listed n) ≡ count_below test n
  many_are zero = sym (sum_none (λ k. bit (test k)))
  many_are (suc x) = go (test x) (many_are x) ∙ sym (sum_more (λ k. bit (test k)) x) where
    go : (b : Bool) → length (listed x) ≡ count_below test x → length (cond b (name_at x ∷ listed x) (listed x)) ≡ count_below test x + bit b
    go true ih = omega (arith, ih)
    go false ih = omega (arith, ih)

  pub sum_is : (f : Name → ℕ) (g : ℕ → ℕ) (n : ℕ) → ((x : ℕ) → test x ≡ true → x < n → f (name_at x) ≡ g x) → sum_by f (listed n) ≡ sum_below (λ x. cond (test x) (g x) 0) n
  sum_is f g zero h = sym (sum_none (λ x. cond (test x) (g x) 0))
  sum_is f g (suc x) h = go (test x) refl (sum_is f g x (λ y e lt. h y e (omega (arith, lt)))) ∙ sym (sum_more (λ x. cond (test x) (g x) 0) x) where
    go : (b : Bool) → test x ≡ b → sum_by f (listed x) ≡ sum_below (λ x. cond (test x) (g x) 0) x → sum_by f (cond b (name_at x ∷ listed x) (listed x)) ≡ sum_below (λ x. cond (test x) (g x) 0) x + cond b (g x) 0
    go true e ih = let one = h x e (omega arith) in let more = sum_by-cons f (name_at x) (listed x) in omega (arith, ih, one, more)
    go false e ih = omega (arith, ih)

  -- where it stands
  pub record StandsAt (m : Name) (n : ℕ) : Type 0 where
    pub x : ℕ
    pub below : x < n
    pub passes : test x ≡ true
    pub name_is : name_at x ≡ m

  pub is_listed : (m : Name) (n : ℕ) → StandsAt m n → IsAmong m (listed n)
  is_listed m zero s = absurd (let lt = s.below in omega (arith, lt))
  is_listed m (suc x) s = elim (cases_lt s.x x) [
    | inl lt ↦ further (test x) (is_listed m x (record { x = s.x; below = lt; passes = s.passes; name_is = s.name_is }))
    | inr le ↦ let lt = s.below in let same : s.x ≡ x = omega (arith, lt, le) in here (test x) (ap test (sym same) ∙ s.passes) (ap name_at (sym same) ∙ s.name_is)
  ] where
    further : (b : Bool) → IsAmong m (listed x) → IsAmong m (cond b (name_at x ∷ listed x) (listed x))
    further true a = inr a
    further false a = a

    here : (b : Bool) → b ≡ true → name_at x ≡ m → IsAmong m (cond b (name_at x ∷ listed x) (listed x))
    here true e is = inl (sym is)
    here false e is = absurd cc

  pub lists : (m : Name) (n : ℕ) → IsAmong m (listed n) → StandsAt m n
  lists m zero a = absurd a
  lists m (suc x) a = go (test x) refl (λ b. lists m x b) a where
    further : StandsAt m x → StandsAt m (suc x)
    further s = record { x = s.x; below = let lt = s.below in omega (arith, lt); passes = s.passes; name_is = s.name_is }

    go : (b : Bool) → test x ≡ b → (IsAmong m (listed x) → StandsAt m x) → IsAmong m (cond b (name_at x ∷ listed x) (listed x)) → StandsAt m (suc x)
    go b e before a = grind arith

  -- each once, where no two words have one name
  pub each_once : ((x y : ℕ) → test x ≡ true → test y ≡ true → name_at x ≡ name_at y → x ≡ y) → (n : ℕ) → Once (listed n)
  each_once one zero = tt
  each_once one (suc x) = go (test x) refl (each_once one x) where
    other : test x ≡ true → (m : Name) → IsAmong m (listed x) → name_at x ≢ m
    other e m a is =
        let s = lists m x a in
        let same : x ≡ s.x = one x s.x e s.passes (is ∙ sym s.name_is) in
        let lt = s.below in
        omega (arith, same, lt)

    go : (b : Bool) → test x ≡ b → Once (listed x) → Once (cond b (name_at x ∷ listed x) (listed x))
    go true e rest = (other e, rest)
    go false e rest = rest
