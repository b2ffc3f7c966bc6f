-- What the tests of names and places tell, and what stands where after a value was stored.
use Rattle.std.proofs.Common.{◌≡◌, Bool, true, false, cond, List, [], ◌∷◌, Some, refl, sym, ◌∙◌, subst, arith}
use Rattle.gh_ever.proofs.Vocabulary.{Cell, EverValue, IsDistinct, Name, nat_tests, Place, put_value, same_name, same_place, stored_value}

pub name_tells : (n m : Name) → same_name n m ≡ true → n ≡ m
name_tells n m h =
    let p : n.g ≡ m.g = grind (arith, nat_tests) in
    let q : n.k ≡ m.k = grind (arith, nat_tests) in
    λ i. record { g = p i; k = q i }

pub place_tells : (p q : Place) → same_place p q ≡ true → p ≡ q
place_tells p q h = grind arith

pub place_itself : (p : Place) → same_place p p ≡ true
place_itself p = grind arith

pub place_apart : (p q r : Place) → same_place p r ≡ false → same_place q r ≡ true → same_place q p ≡ false
place_apart p q r h e = grind arith

pub held-put : (cs : List Cell) (p : Place) (v : EverValue) (q : Place) → stored_value (put_value cs p v) q ≡ cond (same_place q p) (Some v) (stored_value cs q)
held-put [] p v q = refl
held-put (c ∷ cs) p v q = go (same_place p c.place) refl (held-put cs p v q) where
  further : (b : Bool) → same_place q c.place ≡ b → same_place p c.place ≡ false → stored_value (put_value cs p v) q ≡ cond (same_place q p) (Some v) (stored_value cs q) →
      cond b (Some c.value) (stored_value (put_value cs p v) q) ≡ cond (same_place q p) (Some v) (cond b (Some c.value) (stored_value cs q))
  further true t f ih = rw (place_apart p q c.place f t) refl
  further false n f ih = ih

  go : (b : Bool) → same_place p c.place ≡ b → stored_value (put_value cs p v) q ≡ cond (same_place q p) (Some v) (stored_value cs q) →
      stored_value (cond b (record c { value = v } ∷ cs) (c ∷ put_value cs p v)) q ≡ cond (same_place q p) (Some v) (cond (same_place q c.place) (Some c.value) (stored_value cs q))
  go true t ih = subst (λ (x : Place). cond (same_place q c.place) (Some v) (stored_value cs q) ≡ cond (same_place q x) (Some v) (cond (same_place q c.place) (Some c.value) (stored_value cs q))) (sym (place_tells p c.place t)) (there (same_place q c.place)) where
    there : (b : Bool) → cond b (Some v) (stored_value cs q) ≡ cond b (Some v) (cond b (Some c.value) (stored_value cs q))
    there true = refl
    there false = refl
  go false f ih = further (same_place q c.place) refl f ih

pub distinct-put : (cs : List Cell) (p : Place) (v : EverValue) → IsDistinct cs → IsDistinct (put_value cs p v)
distinct-put [] p v d = (refl, tt)
distinct-put (c ∷ cs) p v d = go (same_place p c.place) refl (distinct-put cs p v d.1) where
  apart : same_place p c.place ≡ false → same_place c.place p ≡ false
  apart f = place_apart p c.place c.place f (place_itself c.place)

  go : (b : Bool) → same_place p c.place ≡ b → IsDistinct (put_value cs p v) → IsDistinct (cond b (record c { value = v } ∷ cs) (c ∷ put_value cs p v))
  go true t ih = d
  go false f ih = (held-put cs p v c.place ∙ rw (apart f) d.0, ih)

-- Both tests may be turned round.

pub place_turned : (p q : Place) → same_place p q ≡ same_place q p
place_turned p q = grind (arith, nat_tests)

pub name_turned : (n m : Name) → same_name n m ≡ same_name m n
name_turned n m = grind arith
