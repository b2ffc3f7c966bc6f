-- An object that is added to the lists is made in the heap.
use Rattle.std.proofs.Common.{◌≡◌, ℕ, ◌+◌, ◌-◌, ◌<◌, ◌≤◌, ◌^◌, Bool, true, false, cond, eqb, List, [], ◌∷◌, ◌++◌, length, get_or, Option, Some, None, refl, sym, ◌∙◌, ap, subst, arith, inl, inr, ◌⊎◌, true≢false, length-set, get_or-set_same, get_or-set_other}
use Rattle.std.proofs.lemmas.Bool.{cases_Bool}
use Rattle.gh_ever.proofs.Vocabulary.{cases_eq, Ever, ever_of, EverValue, Field, first_value, is_some, IsInKnown, IsKnown, IsSome, kind_of, Lists, Name, nat_tests, next_name, Object, Place, Register, same_name, same_Some, set, Sound, spent, stored_value, unstored, unwrap_or, with_object, with_register}
use Rattle.gh_base.specs.Shapes.{shape_at, is_pointer}
use Rattle.gh_ever.proofs.Places.{name_tells}
use Rattle.gh_ever.proofs.Same.{same_ever}
use Rattle.gh_ever.proofs.Writing.{with_cell, ever-with_cell, sound_put, spent_le, length-spent}

-- the name that goroutine g's next object gets
abbrev pub fresh : Lists → ℕ → Name
fresh v g = record { g = g; k = get_or v.made g 0 }

-- the lists with one object more
abbrev pub with_made : Lists → ℕ → ℕ → Lists
with_made v g t = record v { made = set v.made g (get_or v.made g 0 + 1); objects = v.objects ++ record { name = fresh v g; kind = t } ∷ [] }

name_apart : (n m r : Name) → same_name n r ≡ false → same_name m r ≡ true → same_name m n ≡ false
name_apart n m r h e = elim (cases_Bool (same_name m n)) [
  | inl t ↦ absurd (true≢false (sym (subst (λ (x : Name). same_name x r ≡ true) (name_tells m n t) e) ∙ h))
  | inr f ↦ f
]

pub kind_of-push : (os : List Object) (n : Name) (t : ℕ) (m : Name) → kind_of os n ≡ None → kind_of (os ++ record { name = n; kind = t } ∷ []) m ≡ cond (same_name m n) (Some t) (kind_of os m)
kind_of-push [] n t m e = refl
kind_of-push (o ∷ os) n t m e = go (same_name n o.name) refl e (kind_of-push os n t m) where
  further : (b : Bool) → same_name m o.name ≡ b → same_name n o.name ≡ false → kind_of (os ++ record { name = n; kind = t } ∷ []) m ≡ cond (same_name m n) (Some t) (kind_of os m) →
      cond b (Some o.kind) (kind_of (os ++ record { name = n; kind = t } ∷ []) m) ≡ cond (same_name m n) (Some t) (cond b (Some o.kind) (kind_of os m))
  further true h f ih = rw (name_apart n m o.name f h) refl
  further false h f ih = ih

  go : (b : Bool) → same_name n o.name ≡ b → cond b (Some o.kind) (kind_of os n) ≡ None → (kind_of os n ≡ None → kind_of (os ++ record { name = n; kind = t } ∷ []) m ≡ cond (same_name m n) (Some t) (kind_of os m)) →
      kind_of (o ∷ os ++ record { name = n; kind = t } ∷ []) m ≡ cond (same_name m n) (Some t) (cond (same_name m o.name) (Some o.kind) (kind_of os m))
  go true f h ih = cc
  go false f h ih = further (same_name m o.name) refl f (ih h)

-- the next object was not made yet
pub fresh_unmade : (v : Lists) (g : ℕ) → Sound v → kind_of v.objects (fresh v g) ≡ None
fresh_unmade v g s = grind arith

made_after : (v : Lists) (g h : ℕ) → g < length v.made → get_or (set v.made g (get_or v.made g 0 + 1)) h 0 ≡ cond (eqb h g) (get_or v.made g 0 + 1) (get_or v.made h 0)
made_after v g h w = grind (arith, nat_tests, get_or-set_same v.made g (get_or v.made g 0 + 1) 0 w, get_or-set_other v.made g h (get_or v.made g 0 + 1) 0, cases_eq h g)

kind_after : (b : Bool) (t : ℕ) (o : Option ℕ) → unwrap_or (cond b (Some t) o) 0 ≡ cond b t (unwrap_or o 0)
kind_after b t o = grind arith

field_after : (v : Lists) (g t : ℕ) (m : Name) (k : ℕ) → Sound v → (b : Bool) → same_name m (fresh v g) ≡ b →
    unwrap_or (stored_value v.cells (Field m k)) (unstored v.shapes (cond b (Some t) (kind_of v.objects m)) k) ≡
    cond b (first_value (is_pointer (shape_at v.shapes t) k)) (unwrap_or (stored_value v.cells (Field m k)) (unstored v.shapes (kind_of v.objects m) k))
field_after v g t m k s b e = grind arith

pub ever-with_made : (v : Lists) (g t : ℕ) → Sound v → g < length v.made → ever_of (with_made v g t) ≡ with_object v.shapes (ever_of v) g t
unfolding ever_of
ever-with_made v g t s w = same_ever (ever_of (with_made v g t)) (with_object v.shapes (ever_of v) g t)
    (λ h. made_after v g h w)
    (λ m. ap (λ (o : Option ℕ). unwrap_or o 0) (kind_of-push v.objects (fresh v g) t m (fresh_unmade v g s)) ∙ kind_after (same_name m (fresh v g)) t (kind_of v.objects m))
    (λ m k. ap (λ (o : Option ℕ). unwrap_or (stored_value v.cells (Field m k)) (unstored v.shapes o k)) (kind_of-push v.objects (fresh v g) t m (fresh_unmade v g s)) ∙ field_after v g t m k s (same_name m (fresh v g)) refl)
    (λ k. refl) (λ h d. refl) (λ h. refl)

-- The lists stay sound.

still_some : (os : List Object) (n : Name) (t : ℕ) (m : Name) → kind_of os n ≡ None → IsSome (kind_of os m) → IsSome (kind_of (os ++ record { name = n; kind = t } ∷ []) m)
still_some os n t m e h = go (same_name m n) (kind_of-push os n t m e) where
  go : (b : Bool) → kind_of (os ++ record { name = n; kind = t } ∷ []) m ≡ cond b (Some t) (kind_of os m) → IsSome (kind_of (os ++ record { name = n; kind = t } ∷ []) m)
  go true f = ap is_some f
  go false f = ap is_some f ∙ h

pub fresh_known : (v : Lists) (g t : ℕ) → Sound v → IsKnown (v.objects ++ record { name = fresh v g; kind = t } ∷ []) (EverValue.Ref (fresh v g))
fresh_known v g t s = grind (arith, fresh_unmade, kind_of-push)

known_still : (v : Lists) (g t : ℕ) → Sound v → (x : EverValue) → IsKnown v.objects x → IsKnown (v.objects ++ record { name = fresh v g; kind = t } ∷ []) x
known_still v g t s x h = grind (arith, fresh_unmade, still_some)

inside_still : (v : Lists) (g t : ℕ) → Sound v → (p : Place) → IsInKnown v.objects p → IsInKnown (v.objects ++ record { name = fresh v g; kind = t } ∷ []) p
inside_still v g t s p h = grind (arith, fresh_unmade, still_some)

-- with the register that names it
abbrev pub with_new : Lists → ℕ → ℕ → ℕ → List ℕ → Lists
with_new v g d t left = with_cell (with_made v g t) (Register g d) (EverValue.Ref (fresh v g)) left

pub sound_made : (v : Lists) (g t : ℕ) → Sound v → g < length v.left → 0 < get_or v.left g 0 → t < length v.shapes → Sound (record v { made = set v.made g (get_or v.made g 0 + 1); objects = v.objects ++ record { name = fresh v g; kind = t } ∷ []; left = spent v.left g })
sound_made v g t s w due kind = record {
  sized = s.sized;
  counted = length-set v.made g (get_or v.made g 0 + 1) ∙ s.counted ∙ sym (length-spent v.left g);
  told = s.told ∙ sym (length-spent v.left g);
  fits = λ h. fits_at h (cases_eq h g);
  numbered = λ n k e. at n k (same_name n (fresh v g)) refl (sym (kind_of-push v.objects (fresh v g) t n (fresh_unmade v g s)) ∙ e);
  typed = λ n k e. of n k (same_name n (fresh v g)) (sym (kind_of-push v.objects (fresh v g) t n (fresh_unmade v g s)) ∙ e);
  values = λ p x e. known_still v g t s x (s.values p x e);
  places = λ p x e. inside_still v g t s p (s.places p x e);
  distinct = s.distinct;
} where
  within : g < length v.made
  within = omega (arith, s.counted)

  fits_at : (h : ℕ) → (h ≡ g) ⊎ (h ≡ g → ⊥) → get_or (set v.made g (get_or v.made g 0 + 1)) h 0 + get_or (spent v.left g) h 0 < 2 ^ 32
  fits_at h (inl e) = subst (λ (i : ℕ). get_or (set v.made g (get_or v.made g 0 + 1)) i 0 + get_or (spent v.left g) i 0 < 2 ^ 32) (sym e)
      (omega (arith, s.fits g, get_or-set_same v.made g (get_or v.made g 0 + 1) 0 within, get_or-set_same v.left g (get_or v.left g 0 - 1) 0 w))
  fits_at h (inr e) = omega (arith, s.fits h, get_or-set_other v.made g h (get_or v.made g 0 + 1) 0 e, spent_le v.left g h)

  grows : (h : ℕ) → get_or v.made h 0 ≤ get_or (set v.made g (get_or v.made g 0 + 1)) h 0
  grows h = elim (cases_eq h g) [
    | inl e ↦ subst (λ (i : ℕ). get_or v.made i 0 ≤ get_or (set v.made g (get_or v.made g 0 + 1)) i 0) (sym e) (omega (arith, get_or-set_same v.made g (get_or v.made g 0 + 1) 0 within))
    | inr e ↦ omega (arith, get_or-set_other v.made g h (get_or v.made g 0 + 1) 0 e)
  ]

  at : (n : Name) (k : ℕ) (b : Bool) → same_name n (fresh v g) ≡ b → cond b (Some t) (kind_of v.objects n) ≡ Some k → n.k < get_or (set v.made g (get_or v.made g 0 + 1)) n.g 0
  at n k true f e = subst (λ (m : Name). m.k < get_or (set v.made g (get_or v.made g 0 + 1)) m.g 0) (sym (name_tells n (fresh v g) f)) (omega (arith, get_or-set_same v.made g (get_or v.made g 0 + 1) 0 within))
  at n k false f e = omega (arith, s.numbered n k e, grows n.g)

  of : (n : Name) (k : ℕ) (b : Bool) → cond b (Some t) (kind_of v.objects n) ≡ Some k → k < length v.shapes
  of n k true e = subst (λ (i : ℕ). i < length v.shapes) (same_Some t k e) kind
  of n k false e = s.typed n k e

pub sound_new : (v : Lists) (g d t : ℕ) → Sound v → g < length v.left → 0 < get_or v.left g 0 → t < length v.shapes → Sound (with_new v g d t (spent v.left g))
sound_new v g d t s w due kind = sound_put (record v { made = set v.made g (get_or v.made g 0 + 1); objects = v.objects ++ record { name = fresh v g; kind = t } ∷ []; left = spent v.left g })
    (Register g d) (EverValue.Ref (fresh v g)) (sound_made v g t s w due kind) tt (fresh_known v g t s)

pub fresh-next : (v : Lists) (g : ℕ) → next_name (ever_of v) g ≡ fresh v g
unfolding ever_of
fresh-next v g = refl

pub ever-new : (v : Lists) (g d t : ℕ) (left : List ℕ) → Sound v → g < length v.left → ever_of (with_new v g d t left) ≡ with_register (with_object v.shapes (ever_of v) g t) g d (EverValue.Ref (next_name (ever_of v) g))
ever-new v g d t left s w =
    let within : g < length v.made = omega (arith, s.counted) in
    ever-with_cell (with_made v g t) (Register g d) (EverValue.Ref (fresh v g)) left
    ∙ ap (λ (e : Ever). with_register e g d (EverValue.Ref (fresh v g))) (ever-with_made v g t s within)
    ∙ ap (λ (n : Name). with_register (with_object v.shapes (ever_of v) g t) g d (EverValue.Ref n)) (sym (fresh-next v g))
