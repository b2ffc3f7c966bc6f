-- The entries of one actor, and of some actors.
use Rattle.std.proofs.Common.{◌≡◌, ◌≢◌, ℕ, ◌==◌, Bool, true, false, cond, List, [], ◌∷◌, ◌++◌, refl, sym, ap, ◌∙◌, eq-eqb, ne_eqb, ◌||◌, true≢false, arith}
use Rattle.std.proofs.lemmas.Bool.{eqb-true}
use Rattle.gh_table.proofs.Vocabulary.{by, Entry, has, Kind, of_others, of_these, state_of, without}

pub has-append : (xs ys : List ℕ) (a : ℕ) → has (xs ++ ys) a ≡ (has xs a || has ys a)
has-append [] ys a = refl
has-append (x ∷ xs) ys a = go (x == a) (has-append xs ys a)
  where
    go : (b : Bool) → has (xs ++ ys) a ≡ (has xs a || has ys a) → cond b true (has (xs ++ ys) a) ≡ (cond b true (has xs a) || has ys a)
    go true ih = refl
    go false ih = ih

-- what is left without x has the others
pub has-without : (x : ℕ) (xs : List ℕ) (a : ℕ) → has (without x xs) a ≡ true → (x ≢ a) × (has xs a ≡ true)
has-without x [] a h = absurd (true≢false (sym h))
has-without x (y ∷ ys) a h = go (y == x) refl h (has-without x ys a)
  where
    in_tail : (b : Bool) → (has ys a ≡ true) → cond b true (has ys a) ≡ true
    in_tail true t = refl
    in_tail false t = t

    in_head : (b : Bool) → (y == a) ≡ b → (y == x) ≡ false → cond b true (has (without x ys) a) ≡ true → (has (without x ys) a ≡ true → (x ≢ a) × (has ys a ≡ true)) → (x ≢ a) × (cond b true (has ys a) ≡ true)
    in_head true p q t ih = ((λ e. true≢false (sym (eq-eqb y x (eqb-true y a p ∙ sym e)) ∙ q)), refl)
    in_head false p q t ih = ih t

    go : (b : Bool) → (y == x) ≡ b → has (cond b (without x ys) (y ∷ without x ys)) a ≡ true → (has (without x ys) a ≡ true → (x ≢ a) × (has ys a ≡ true)) → (x ≢ a) × (cond (y == a) true (has ys a) ≡ true)
    go true q t ih = ((ih t).0, in_tail (y == a) (ih t).1)
    go false q t ih = in_head (y == a) refl q t ih

module _ {O : Type 0} where
  pub by-else : (a : ℕ) (e : Entry O) (es : List (Entry O)) → e.actor ≢ a → by a (e ∷ es) ≡ by a es
  by-else a e es n = rw (ne_eqb e.actor a n) refl

  pub by-append : (a : ℕ) (xs ys : List (Entry O)) → by a (xs ++ ys) ≡ by a xs ++ by a ys
  by-append a [] ys = refl
  by-append a (x ∷ xs) ys = go (x.actor == a) (by-append a xs ys)
    where
      go : (b : Bool) → by a (xs ++ ys) ≡ by a xs ++ by a ys → cond b (x ∷ by a (xs ++ ys)) (by a (xs ++ ys)) ≡ cond b (x ∷ by a xs) (by a xs) ++ by a ys
      go true ih = ap (λ l. x ∷ l) ih
      go false ih = ih

  pub by-by : (a : ℕ) (es : List (Entry O)) → by a (by a es) ≡ by a es
  by-by a [] = refl
  by-by a (e ∷ es) = go (e.actor == a) refl (by-by a es)
    where
      go : (b : Bool) → (e.actor == a) ≡ b → by a (by a es) ≡ by a es → by a (cond b (e ∷ by a es) (by a es)) ≡ cond b (e ∷ by a es) (by a es)
      go true q ih = rw q (ap (λ l. e ∷ l) ih)
      go false q ih = ih

  pub by-these : (xs : List ℕ) (a : ℕ) (es : List (Entry O)) → has xs a ≡ true → by a (of_these xs es) ≡ by a es
  by-these xs a [] h = refl
  by-these xs a (e ∷ es) h = go (has xs e.actor) refl (e.actor == a) refl (by-these xs a es h)
    where
      go : (b : Bool) → has xs e.actor ≡ b → (c : Bool) → (e.actor == a) ≡ c → by a (of_these xs es) ≡ by a es → by a (cond b (e ∷ of_these xs es) (of_these xs es)) ≡ cond c (e ∷ by a es) (by a es)
      go b p c q ih = grind arith

  pub by-these-out : (xs : List ℕ) (a : ℕ) (es : List (Entry O)) → has xs a ≡ false → by a (of_these xs es) ≡ []
  by-these-out xs a [] h = refl
  by-these-out xs a (e ∷ es) h = go (has xs e.actor) refl (e.actor == a) refl (by-these-out xs a es h)
    where
      go : (b : Bool) → has xs e.actor ≡ b → (c : Bool) → (e.actor == a) ≡ c → by a (of_these xs es) ≡ [] → by a (cond b (e ∷ of_these xs es) (of_these xs es)) ≡ []
      go b p c q ih = grind arith

  pub by-others : (xs : List ℕ) (a : ℕ) (es : List (Entry O)) → has xs a ≡ false → by a (of_others xs es) ≡ by a es
  by-others xs a [] h = refl
  by-others xs a (e ∷ es) h = go (has xs e.actor) refl (e.actor == a) refl (by-others xs a es h)
    where
      go : (b : Bool) → has xs e.actor ≡ b → (c : Bool) → (e.actor == a) ≡ c → by a (of_others xs es) ≡ by a es → by a (cond b (of_others xs es) (e ∷ of_others xs es)) ≡ cond c (e ∷ by a es) (by a es)
      go b p c q ih = grind arith

  pub by-others-out : (xs : List ℕ) (a : ℕ) (es : List (Entry O)) → has xs a ≡ true → by a (of_others xs es) ≡ []
  by-others-out xs a [] h = refl
  by-others-out xs a (e ∷ es) h = go (has xs e.actor) refl (e.actor == a) refl (by-others-out xs a es h)
    where
      go : (b : Bool) → has xs e.actor ≡ b → (c : Bool) → (e.actor == a) ≡ c → by a (of_others xs es) ≡ [] → by a (cond b (of_others xs es) (e ∷ of_others xs es)) ≡ []
      go b p c q ih = grind arith

-- an actor's entries determine its state
abbrev pub Settles : Type 0 → Type 0 → Type 0
Settles M O = (k : Kind M O) (a : ℕ) (es : List (Entry O)) → state_of k a es ≡ state_of k a (by a es)

pub same_state : {M O : Type 0} → Settles M O → (k : Kind M O) (a : ℕ) (xs ys : List (Entry O)) → by a xs ≡ by a ys → state_of k a xs ≡ state_of k a ys
same_state settles k a xs ys e = settles k a xs ∙ (ap (λ (l : List (Entry _)). state_of k a l) e ∙ sym (settles k a ys))
