-- Two lists of the same names, each name once, have the same length and the same sums.
use Rattle.std.proofs.Common.{◌≡◌, ◌≢◌, ℕ, suc, ◌<◌, ◌≤◌, ◌⊎◌, inl, inr, refl, sym, ap, subst, ◌∙◌, arith, List, [], ◌∷◌, ◌++◌, get_or, length, AllPairs, sum_by}
use Rattle.std.proofs.lemmas.List.{length-append}
use Rattle.gh_soak.proofs.Vocabulary.{AreLive, bytes_of, Ever, Shape, sum_by-append, sum_by-cons}
use Rattle.gh_base.specs.declared.value.Name.{Name}
use Rattle.gh_world.specs.RunVocabulary.{IsAmong}

among_append : (n : Name) (xs ys : List Name) → IsAmong n (xs ++ ys) → IsAmong n xs ⊎ IsAmong n ys
among_append n [] ys h = inr h
among_append n (x ∷ xs) ys (inl e) = inl (inl e)
among_append n (x ∷ xs) ys (inr h) = elim (among_append n xs ys h) [ inl a ↦ inl (inr a) | inr b ↦ inr b ]

among_left : (n : Name) (xs ys : List Name) → IsAmong n xs → IsAmong n (xs ++ ys)
among_left n [] ys h = absurd h
among_left n (x ∷ xs) ys (inl e) = inl e
among_left n (x ∷ xs) ys (inr h) = inr (among_left n xs ys h)

among_right : (n : Name) (xs ys : List Name) → IsAmong n ys → IsAmong n (xs ++ ys)
among_right n [] ys h = h
among_right n (x ∷ xs) ys h = inr (among_right n xs ys h)

-- one of them taken out
record TakenOut (n : Name) (ys : List Name) : Type 0 where
  front : List Name
  back : List Name
  there : ys ≡ front ++ n ∷ back

takes_out : (n : Name) (ys : List Name) → IsAmong n ys → TakenOut n ys
takes_out n [] h = absurd h
takes_out n (y ∷ ys) (inl e) = record { front = []; back = ys; there = ap (λ (x : Name). x ∷ ys) (sym e) }
takes_out n (y ∷ ys) (inr h) = let t = takes_out n ys h in record { front = y ∷ t.front; back = t.back; there = ap (λ (xs : List Name). y ∷ xs) t.there }

-- ---- each name once

abbrev Once : List Name → Type 0
Once xs = AllPairs (λ n m. n ≢ m) xs

record PlaceOf (n : Name) (xs : List Name) : Type 0 where
  at : ℕ
  within : at < length xs
  there : get_or xs at n ≡ n

place_of : (n : Name) (xs : List Name) → IsAmong n xs → PlaceOf n xs
place_of n [] h = absurd h
place_of n (x ∷ xs) (inl e) = record { at = 0; within = omega arith; there = sym e }
place_of n (x ∷ xs) (inr h) = let p = place_of n xs h in let lt = p.within in record { at = suc p.at; within = omega (arith, lt); there = p.there }

-- the first is none of the others
not_again : (x : Name) (xs : List Name) → Once (x ∷ xs) → (n : Name) → IsAmong n xs → x ≢ n
not_again x xs once n h =
    let p = place_of n xs h in
    let lt = p.within in
    subst (λ (m : Name). x ≢ m) p.there (once 0 (suc p.at) n (omega arith) (omega (arith, lt)))

rest_once : (x : Name) (xs : List Name) → Once (x ∷ xs) → Once xs
rest_once x xs once i j d lt within = once (suc i) (suc j) d (omega (arith, lt)) (omega (arith, within))

-- ---- no more than those among which they are

record NoMore (f : Name → ℕ) (xs ys : List Name) : Type 0 where
  many : length xs ≤ length ys
  sums : sum_by f xs ≤ sum_by f ys

no_more : (f : Name → ℕ) (xs ys : List Name) → Once xs → ((n : Name) → IsAmong n xs → IsAmong n ys) → NoMore f xs ys
no_more f [] ys once h = record { many = omega arith; sums = omega arith }
no_more f (x ∷ xs) ys once h =
    let t = takes_out x ys (h x (inl refl)) in
    let rest = no_more f xs (t.front ++ t.back) (rest_once x xs once) (λ n a. still n a t (not_again x xs once n a)) in
    let many = rest.many in
    let sums = rest.sums in
    let long = ap length t.there ∙ length-append t.front (x ∷ t.back) in
    let short = length-append t.front t.back in
    let all = ap (sum_by f) t.there ∙ sum_by-append f t.front (x ∷ t.back) in
    let own = sum_by-cons f x t.back in
    let others = sum_by-append f t.front t.back in
    let first = sum_by-cons f x xs in
    record { many = omega (arith, many, long, short); sums = omega (arith, sums, all, own, others, first) } where
      still : (n : Name) → IsAmong n xs → (t : TakenOut x ys) → x ≢ n → IsAmong n (t.front ++ t.back)
      still n a t ne = elim (among_append n t.front (x ∷ t.back) (subst (IsAmong n) t.there (h n (inr a)))) [
        | inl b ↦ among_left n t.front t.back b
        | inr b ↦ among_right n t.front t.back (behind b)
      ] where
        behind : IsAmong n (x ∷ t.back) → IsAmong n t.back
        behind (inl e) = absurd (ne (sym e))
        behind (inr b) = b

pub one_count : (shapes : List Shape) (e : Ever) (objects bytes more other : ℕ) → AreLive shapes e objects bytes → AreLive shapes e more other → (objects ≡ more) × (bytes ≡ other)
one_count shapes e objects bytes more other a b =
    let there = no_more (bytes_of shapes e) a.names b.names a.once (λ n among. (b.all n).0 ((a.all n).1 among)) in
    let back = no_more (bytes_of shapes e) b.names a.names b.once (λ n among. (a.all n).0 ((b.all n).1 among)) in
    let many = there.many in
    let few = back.many in
    let sums = there.sums in
    let less = back.sums in
    let objects_are = a.objects_are in
    let more_are = b.objects_are in
    let bytes_are = a.bytes_are in
    let other_are = b.bytes_are in
    (omega (arith, many, few, objects_are, more_are), omega (arith, sums, less, bytes_are, other_are))
