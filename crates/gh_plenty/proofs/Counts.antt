-- How many elements of a list pass a test.
use Rattle.std.proofs.Common.{◌≡◌, ℕ, suc, ◌+◌, ◌≤◌, Bool, true, false, cond, List, [], ◌∷◌, ◌++◌, length, map, reverse, refl, sym, ap, ◌∙◌, arith, length-append}
use Rattle.std.proofs.lemmas.List.{reverse-append}
use Rattle.std.proofs.lemmas.List.Elements.{filter-append}
use Rattle.gh_plenty.proofs.Vocabulary.{filter}

abbrev pub count : {X : Type 0} → (X → Bool) → List X → ℕ
count p xs = length (filter p xs)

pub count-append : {X : Type 0} (p : X → Bool) (xs ys : List X) → count p (xs ++ ys) ≡ count p xs + count p ys
count-append p xs ys = ap length (filter-append p xs ys) ∙ length-append (filter p xs) (filter p ys)

pub count-reverse : {X : Type 0} (p : X → Bool) (xs : List X) → count p (reverse xs) ≡ count p xs
count-reverse p [] = refl
count-reverse p (x ∷ xs) =
    let first = count-append p (x ∷ []) xs in
    let last = ap (count p) (reverse-append (x ∷ []) xs) ∙ count-append p (reverse xs) (x ∷ []) in
    let rest = count-reverse p xs in
    omega (arith, first, last, rest)

pub count-map : {X Y : Type 0} (p : Y → Bool) (f : X → Y) (xs : List X) → count p (map f xs) ≡ count (λ (x : X). p (f x)) xs
count-map p f [] = refl
count-map p f (x ∷ xs) = go (p (f x)) (count-map p f xs) where
  go : (b : Bool) → count p (map f xs) ≡ count (λ (y : _). p (f y)) xs → length (cond b (f x ∷ filter p (map f xs)) (filter p (map f xs))) ≡ length (cond b (x ∷ filter (λ (y : _). p (f y)) xs) (filter (λ (y : _). p (f y)) xs))
  go true e = ap suc e
  go false e = e

-- what passes it passes another too
pub count-filter : {X : Type 0} (p q : X → Bool) (xs : List X) → ((x : X) → p x ≡ true → q x ≡ true) → count p (filter q xs) ≡ count p xs
count-filter p q [] both = refl
count-filter p q (x ∷ xs) both = go (q x) refl (p x) refl (count-filter p q xs both) where
  go : (b : Bool) → q x ≡ b → (c : Bool) → p x ≡ c → count p (filter q xs) ≡ count p xs → count p (cond b (x ∷ filter q xs) (filter q xs)) ≡ length (cond c (x ∷ filter p xs) (filter p xs))
  go true e true f rest = ap (λ (d : Bool). length (cond d (x ∷ filter p (filter q xs)) (filter p (filter q xs)))) f ∙ ap suc rest
  go true e false f rest = ap (λ (d : Bool). length (cond d (x ∷ filter p (filter q xs)) (filter p (filter q xs)))) f ∙ rest
  go false e true f rest = absurd (let no : true ≡ false = sym (both x f) ∙ e in cc)
  go false e false f rest = rest

pub count-same : {X : Type 0} (p q : X → Bool) (xs : List X) → ((x : X) → p x ≡ q x) → count p xs ≡ count q xs
count-same p q [] same = refl
count-same p q (x ∷ xs) same = ap (λ (b : Bool). length (cond b (x ∷ filter p xs) (filter p xs))) (same x) ∙ go (q x) (count-same p q xs same) where
  go : (b : Bool) → count p xs ≡ count q xs → length (cond b (x ∷ filter p xs) (filter p xs)) ≡ length (cond b (x ∷ filter q xs) (filter q xs))
  go true e = ap suc e
  go false e = e

pub count-le : {X : Type 0} (p : X → Bool) (xs : List X) → count p xs ≤ length xs
count-le p [] = omega arith
count-le p (x ∷ xs) = go (p x) (count-le p xs) where
  go : (b : Bool) → count p xs ≤ length xs → length (cond b (x ∷ filter p xs) (filter p xs)) ≤ suc (length xs)
  go true le = omega (arith, le)
  go false le = omega (arith, le)
