-- A value that is stored in the lists stands in the heap.
use Rattle.std.proofs.Common.{◌≡◌, ℕ, ◌+◌, ◌-◌, ◌<◌, ◌≤◌, Bool, true, false, cond, List, length, get_or, Option, Some, refl, sym, ◌∙◌, ap, subst, arith, inl, inr, sum}
use Rattle.std.proofs.lemmas.List.{length-set, get_or-set_same, get_or-set_other, set_past}
use Rattle.std.proofs.lemmas.List.Sums.{sum_by-set}
use Rattle.gh_ever.proofs.Vocabulary.{cases_eq, cases_lt, ever_of, EverValue, Field, Global, IsInKnown, IsKnown, kind_of, Lists, Place, put_value, Register, same_place, same_Some, Sound, spent, stored_value, unstored, unwrap_or, with_field, with_global, with_register, with_value}
use Rattle.gh_ever.proofs.Places.{held-put, distinct-put, place_tells}
use Rattle.gh_ever.proofs.Same.{same_ever}

abbrev pub with_cell : Lists → Place → EverValue → List ℕ → Lists
with_cell v p x left = record v { cells = put_value v.cells p x; left = left }

-- what is found is the new value there, and what was elsewhere
found : (b : Bool) (x d : EverValue) (o : Option EverValue) → unwrap_or (cond b (Some x) o) d ≡ cond b x (unwrap_or o d)
found b x d o = grind arith

read-put : (v : Lists) (p : Place) (x d : EverValue) (q : Place) → unwrap_or (stored_value (put_value v.cells p x) q) d ≡ cond (same_place q p) x (unwrap_or (stored_value v.cells q) d)
read-put v p x d q = ap (λ (o : Option EverValue). unwrap_or o d) (held-put v.cells p x q) ∙ found (same_place q p) x d (stored_value v.cells q)

pub ever-with_cell : (v : Lists) (p : Place) (x : EverValue) (left : List ℕ) → ever_of (with_cell v p x left) ≡ with_value (ever_of v) p x
unfolding ever_of
ever-with_cell v (Global k) x left = same_ever (ever_of (with_cell v (Global k) x left)) (with_global (ever_of v) k x) (λ h. refl) (λ n. refl)
    (λ n j. read-put v (Global k) x (unstored v.shapes (kind_of v.objects n) j) (Field n j))
    (λ j. read-put v (Global k) x EverValue.Nil (Global j))
    (λ h d. read-put v (Global k) x EverValue.Nil (Register h d)) (λ h. refl)
ever-with_cell v (Register h c) x left = same_ever (ever_of (with_cell v (Register h c) x left)) (with_register (ever_of v) h c x) (λ h. refl) (λ n. refl)
    (λ n j. read-put v (Register h c) x (unstored v.shapes (kind_of v.objects n) j) (Field n j))
    (λ j. read-put v (Register h c) x EverValue.Nil (Global j))
    (λ i d. read-put v (Register h c) x EverValue.Nil (Register i d)) (λ h. refl)
ever-with_cell v (Field m k) x left = same_ever (ever_of (with_cell v (Field m k) x left)) (with_field (ever_of v) m k x) (λ h. refl) (λ n. refl)
    (λ n j. read-put v (Field m k) x (unstored v.shapes (kind_of v.objects n) j) (Field n j))
    (λ j. read-put v (Field m k) x EverValue.Nil (Global j))
    (λ i d. read-put v (Field m k) x EverValue.Nil (Register i d)) (λ h. refl)

-- Counting the statements to come.

pub length-spent : (left : List ℕ) (g : ℕ) → length (spent left g) ≡ length left
length-spent left g = length-set left g (get_or left g 0 - 1)

pub spent_le : (left : List ℕ) (g h : ℕ) → get_or (spent left g) h 0 ≤ get_or left h 0
spent_le left g h = elim (cases_eq h g) [
  | inl e ↦ elim (cases_lt g (length left)) [
    | inl w ↦ subst (λ (i : ℕ). get_or (spent left g) i 0 ≤ get_or left i 0) (sym e) (omega (arith, get_or-set_same left g (get_or left g 0 - 1) 0 w))
    | inr w ↦ rw (set_past left g (get_or left g 0 - 1) w) (omega arith)
  ]
  | inr n ↦ omega (arith, get_or-set_other left g h (get_or left g 0 - 1) 0 n)
]

pub sum-spent : (left : List ℕ) (g : ℕ) → g < length left → 0 < get_or left g 0 → sum (spent left g) + 1 ≡ sum left
sum-spent left g h k = omega (arith, sum_by-set (λ (x : ℕ). x) left g (get_or left g 0 - 1) 0 h)

pub sound_put : (v : Lists) (p : Place) (x : EverValue) → Sound v → IsInKnown v.objects p → IsKnown v.objects x → Sound (record v { cells = put_value v.cells p x })
sound_put v p x s inside known = record {
  sized = s.sized;
  counted = s.counted;
  told = s.told;
  fits = s.fits;
  numbered = s.numbered;
  typed = s.typed;
  values = λ q y e. go q y (same_place q p) refl (sym (held-put v.cells p x q) ∙ e);
  places = λ q y e. at q y (same_place q p) refl (sym (held-put v.cells p x q) ∙ e);
  distinct = distinct-put v.cells p x s.distinct;
} where
  go : (q : Place) (y : EverValue) (b : Bool) → same_place q p ≡ b → cond b (Some x) (stored_value v.cells q) ≡ Some y → IsKnown v.objects y
  go q y true t e = subst (λ (z : EverValue). IsKnown v.objects z) (same_Some x y e) known
  go q y false t e = s.values q y e

  at : (q : Place) (y : EverValue) (b : Bool) → same_place q p ≡ b → cond b (Some x) (stored_value v.cells q) ≡ Some y → IsInKnown v.objects q
  at q y true t e = subst (λ (z : Place). IsInKnown v.objects z) (sym (place_tells q p t)) inside
  at q y false t e = s.places q y e

pub sound_spend : (v : Lists) (g : ℕ) → Sound v → Sound (record v { left = spent v.left g })
sound_spend v g s = grind (arith, length-spent, spent_le)
