-- Lists of views and of actors: what a change of one view, and a view that comes, leave; and who owns an actor then.
use Rattle.std.proofs.Common.{◌≡◌, ◌≢◌, ◌⊎◌, ℕ, zero, suc, ◌+◌, ◌<◌, ◌==◌, Bool, true, false, cond, List, [], ◌∷◌, ◌++◌, length, set, refl, sym, ap, ◌∙◌, subst, inl, inr, ⊎_elim, eq-eqb, ne_eqb, ◌||◌, true≢false, arith}
use Rattle.std.proofs.lemmas.Bool.{eqb-true}
use Rattle.gh_table.proofs.Vocabulary.{get_elem?, has, NoSeatCarries, numbers_from, Once, some, some-injective, some-ne-none, View, without}
use Rattle.gh_table.proofs.Entries.{has-append, has-without}

pub at_end : {A : Type 0} (l : List A) (a b : A) (j : ℕ) → get_elem? (l ++ a ∷ []) j ≡ some b → (get_elem? l j ≡ some b) ⊎ ((j ≡ length l) × (a ≡ b))
at_end [] a b zero e = inr (refl, some-injective a b e)
at_end [] a b (suc j) e = absurd (some-ne-none b (sym e))
at_end (x ∷ xs) a b zero e = inl e
at_end (x ∷ xs) a b (suc j) e = ⊎_elim (λ t. inl t) (λ (t : (j ≡ length xs) × (a ≡ b)). inr (ap suc t.0, t.1)) (at_end xs a b j e)

pub has_one : (a c : ℕ) → has (a ∷ []) c ≡ true → a ≡ c
has_one a c h = grind arith

pub has_tail : (a : ℕ) (xs : List ℕ) (c : ℕ) → has xs c ≡ true → has (a ∷ xs) c ≡ true
has_tail a xs c h = grind arith

pub has_head : (a : ℕ) (xs : List ℕ) → has (a ∷ xs) a ≡ true
has_head a xs = rw (eq-eqb a a refl) refl

-- who owns an actor once a has gone to m
pub moved : (ℕ → ℕ) → ℕ → ℕ → ℕ → ℕ
moved owner a m c = cond (c == a) m (owner c)

pub moved-here : (owner : ℕ → ℕ) (a m c : ℕ) → c ≡ a → moved owner a m c ≡ m
unfolding moved
moved-here owner a m c e = rw (eq-eqb c a e) refl

pub moved-else : (owner : ℕ → ℕ) (a m c : ℕ) → c ≢ a → moved owner a m c ≡ owner c
unfolding moved
moved-else owner a m c n = rw (ne_eqb c a n) refl

-- the same, of those in xs
pub taken : (ℕ → ℕ) → List ℕ → ℕ → ℕ → ℕ
taken owner xs m c = cond (has xs c) m (owner c)

pub taken-in : (owner : ℕ → ℕ) (xs : List ℕ) (m c : ℕ) → has xs c ≡ true → taken owner xs m c ≡ m
unfolding taken
taken-in owner xs m c e = rw e refl

pub taken-out : (owner : ℕ → ℕ) (xs : List ℕ) (m c : ℕ) → has xs c ≡ false → taken owner xs m c ≡ owner c
unfolding taken
taken-out owner xs m c e = rw e refl

pub bool_cases : (b : Bool) → (b ≡ true) ⊎ (b ≡ false)
bool_cases b = grind arith

pub or_right : (a b : Bool) → (a || b) ≡ true → a ≡ false → b ≡ true
or_right a b e h = grind arith

pub has_from : (i n c : ℕ) → has (numbers_from i n) c ≡ true → c < i + n
has_from i zero c h = absurd (true≢false (sym h))
has_from i (suc n) c h = go (i == c) refl h (has_from (suc i) n c)
  where
    go : (b : Bool) → (i == c) ≡ b → cond b true (has (numbers_from (suc i) n) c) ≡ true → (has (numbers_from (suc i) n) c ≡ true → c < suc i + n) → c < i + suc n
    go true q t ih = let e = eqb-true i c q in omega arith
    go false q t ih = let l = ih t in omega arith

pub set_here : {A : Type 0} (l : List A) (i : ℕ) (a b : A) → get_elem? l i ≡ some b → get_elem? (set l i a) i ≡ some a
set_here [] i a b e = absurd (some-ne-none b (sym e))
set_here (x ∷ xs) zero a b e = refl
set_here (x ∷ xs) (suc i) a b e = set_here xs i a b e

pub set_else : {A : Type 0} (l : List A) (i j : ℕ) (a b : A) → j ≢ i → get_elem? l j ≡ some b → get_elem? (set l i a) j ≡ some b
set_else [] i j a b n e = e
set_else (x ∷ xs) zero zero a b n e = absurd (n refl)
set_else (x ∷ xs) zero (suc j) a b n e = e
set_else (x ∷ xs) (suc i) zero a b n e = e
set_else (x ∷ xs) (suc i) (suc j) a b n e = set_else xs i j a b (λ s. n (ap suc s)) e

-- whom no seat carries, where one view has changed and where one has come
module _ {K O : Type 0} where
  pub none_before : (c : ℕ) (views : List (View K O)) (id : ℕ) (old new : View K O) → get_elem? views id ≡ some old → has old.actors c ≡ false → NoSeatCarries (set views id new) c → NoSeatCarries views c
  none_before c [] id old new at out none j v is = none j v is
  none_before c (x ∷ xs) zero old new at out none zero v is = subst (λ (u : View K O). has u.actors c ≡ false) (sym (some-injective x old at) ∙ some-injective x v is) out
  none_before c (x ∷ xs) zero old new at out none (suc j) v is = none (suc j) v is
  none_before c (x ∷ xs) (suc id) old new at out none zero v is = none zero v is
  none_before c (x ∷ xs) (suc id) old new at out none (suc j) v is = none_before c xs id old new at out (λ k u q. none (suc k) u q) j v is

  pub none_left : (c : ℕ) (views : List (View K O)) (x : View K O) → NoSeatCarries (views ++ x ∷ []) c → NoSeatCarries views c
  none_left c [] x none j v is = absurd (some-ne-none v (sym is))
  none_left c (y ∷ ys) x none zero v is = none zero v is
  none_left c (y ∷ ys) x none (suc j) v is = none_left c ys x (λ k u q. none (suc k) u q) j v is

  pub none_last : (c : ℕ) (views : List (View K O)) (x : View K O) → NoSeatCarries (views ++ x ∷ []) c → has x.actors c ≡ false
  none_last c [] x none = none zero x refl
  none_last c (y ∷ ys) x none = none_last c ys x (λ k u q. none (suc k) u q)

-- whom neither the first nor those without it have, none of them is
pub has_neither : (a : ℕ) (xs : List ℕ) (c : ℕ) → has (without a xs) c ≡ false → has (a ∷ []) c ≡ false → has (a ∷ xs) c ≡ false
has_neither a xs c rest one = rw (other (a == c) refl one) (out xs rest)
  where
    other : (b : Bool) → (a == c) ≡ b → cond b true false ≡ false → (a == c) ≡ false
    other true q t = absurd (true≢false t)
    other false q t = q

    out : (ys : List ℕ) → has (without a ys) c ≡ false → has ys c ≡ false
    out [] t = refl
    out (y ∷ ys) t = go (y == a) refl t (out ys)
      where
        stays : (b : Bool) → (y == c) ≡ b → cond b true (has (without a ys) c) ≡ false → (has (without a ys) c ≡ false → has ys c ≡ false) → cond (y == c) true (has ys c) ≡ false
        stays true q t ih = absurd (true≢false t)
        stays false q t ih = rw q (ih t)

        go : (b : Bool) → (y == a) ≡ b → has (cond b (without a ys) (y ∷ without a ys)) c ≡ false → (has (without a ys) c ≡ false → has ys c ≡ false) → cond (y == c) true (has ys c) ≡ false
        go true q t ih = rw (ap (λ (k : ℕ). k == c) (eqb-true y a q) ∙ other (a == c) refl one) (ih t)
        go false q t ih = stays (y == c) refl t ih

pub or_left_false : (a b : Bool) → (a || b) ≡ false → a ≡ false
or_left_false a b e = grind arith

pub or_right_false : (a b : Bool) → (a || b) ≡ false → b ≡ false
or_right_false a b e = grind arith

-- ---- no actor stands twice

pub or_false : (a b : Bool) → a ≡ false → b ≡ false → (a || b) ≡ false
or_false a b e f = grind arith

head_out : (x : ℕ) (xs ys : List ℕ) → ((a : ℕ) → has (x ∷ xs) a ≡ true → has ys a ≡ false) → has ys x ≡ false
head_out x xs ys apart = apart x (has_head x xs)

pub once_append : (xs ys : List ℕ) → Once xs → Once ys → ((a : ℕ) → has xs a ≡ true → has ys a ≡ false) → Once (xs ++ ys)
once_append [] ys h k apart = k
once_append (x ∷ xs) ys h k apart = (has-append xs ys x ∙ or_false (has xs x) (has ys x) h.0 (head_out x xs ys apart), once_append xs ys h.1 k (λ a t. apart a (has_tail x xs a t)))

-- of lists in one of which no actor stands twice, none is in both
pub once_apart : (xs ys : List ℕ) → Once (xs ++ ys) → (a : ℕ) → has xs a ≡ true → has ys a ≡ false
once_apart [] ys h a t = absurd (true≢false (sym t))
once_apart (x ∷ xs) ys h a t = go (x == a) refl t (once_apart xs ys h.1 a)
  where
    go : (b : Bool) → (x == a) ≡ b → cond b true (has xs a) ≡ true → (has xs a ≡ true → has ys a ≡ false) → has ys a ≡ false
    go true q u ih = ap (has ys) (sym (eqb-true x a q)) ∙ or_right_false (has xs x) (has ys x) (sym (has-append xs ys x) ∙ h.0)
    go false q u ih = ih u

not_true : (b : Bool) → (b ≡ true → ⊥) → b ≡ false
not_true b h = grind arith

pub once_without : (a : ℕ) (xs : List ℕ) → Once xs → Once (without a xs)
once_without a [] h = tt
once_without a (x ∷ xs) h = go (x == a) (once_without a xs h.1)
  where
    go : (b : Bool) → Once (without a xs) → Once (cond b (without a xs) (x ∷ without a xs))
    go true ih = ih
    go false ih = (not_true (has (without a xs) x) (λ t. true≢false (sym (has-without a xs x t).1 ∙ h.0)), ih)

later : (k i n : ℕ) → k < i → has (numbers_from i n) k ≡ false
later k i zero lt = refl
later k i (suc n) lt = let ne : i ≢ k = omega arith in rw (ne_eqb i k ne) (later k (suc i) n (omega arith))

pub once_from : (i n : ℕ) → Once (numbers_from i n)
once_from i zero = tt
once_from i (suc n) = (later i (suc i) n (omega arith), once_from (suc i) n)
