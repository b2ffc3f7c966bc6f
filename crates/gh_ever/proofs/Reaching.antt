-- What is marked, and what a heap reaches.
use Rattle.std.proofs.Common.{◌≡◌, ℕ, zero, suc, ◌<◌, ◌≤◌, Bool, true, false, cond, not, List, [], ◌∷◌, length, get_or, Option, Some, None, refl, sym, ◌∙◌, ap, subst, arith, inl, inr, ◌⊎◌}
use Rattle.std.proofs.lemmas.Bool.{true≢false}
use Rattle.gh_ever.proofs.Vocabulary.{All, AreComplete, Cell, ever_of, EverValue, Field, first_value, from_field, from_global, from_register, Global, IsDistinct, IsFollowed, IsSome, IsSoundMarks, kind_of, leads, Lists, marked, Name, names, Object, Place, Reach, Register, same_name, same_place, same_Some, Sound, stored_value, unstored, unwrap_or, with_mark}
use Rattle.gh_base.specs.Shapes.{is_pointer, shape_at}
use Rattle.gh_ever.proofs.Places.{place_tells, place_itself}

-- The marks after one more.

-- what is marked afterwards is that object, or was marked before
pub marked_before : (os : List Object) (ms : List Bool) (n m : Name) → marked os (with_mark os ms n) m ≡ true → (m ≡ n) ⊎ (marked os ms m ≡ true)
marked_before [] ms n m h = inr h
marked_before (o ∷ os) [] n m h = inr h
marked_before (o ∷ os) (b ∷ ms) n m h = go (same_name n o.name) refl h (marked_before os ms n m) where
  go : (x : Bool) → same_name n o.name ≡ x → marked (o ∷ os) (cond x (true ∷ ms) (b ∷ with_mark os ms n)) m ≡ true → (marked os (with_mark os ms n) m ≡ true → (m ≡ n) ⊎ (marked os ms m ≡ true)) → (m ≡ n) ⊎ (cond (same_name m o.name) b (marked os ms m) ≡ true)
  go x t h ih = grind arith

-- an object that was made is marked afterwards
pub marked_itself : (os : List Object) (ms : List Bool) (n : Name) → length os ≤ length ms → IsSome (kind_of os n) → marked os (with_mark os ms n) n ≡ true
marked_itself [] ms n h k = absurd (true≢false (sym k))
marked_itself (o ∷ os) [] n h k = absurd (omega arith)
marked_itself (o ∷ os) (b ∷ ms) n h k = go (same_name n o.name) refl k (marked_itself os ms n (omega arith)) where
  go : (x : Bool) → same_name n o.name ≡ x → IsSome (cond x (Some o.kind) (kind_of os n)) → (IsSome (kind_of os n) → marked os (with_mark os ms n) n ≡ true) → marked (o ∷ os) (cond x (true ∷ ms) (b ∷ with_mark os ms n)) n ≡ true
  go true t k ih = rw t refl
  go false f k ih = rw f (ih k)

-- nothing is marked without marks
pub marked_none : (os : List Object) (ms : List Bool) (n : Name) → All (λ mark. mark ≡ false) ms → marked os ms n ≡ false
marked_none [] ms n h = refl
marked_none (o ∷ os) [] n h = refl
marked_none (o ∷ os) (b ∷ ms) n h = go (same_name n o.name) (marked_none os ms n (λ k d l. h (suc k) d (omega arith))) where
  go : (x : Bool) → marked os ms n ≡ false → cond x b (marked os ms n) ≡ false
  go true ih = h 0 false (omega arith)
  go false ih = ih

-- Cells and places.

-- what is held at a place stands in a cell
pub held_cell : (cs : List Cell) (p : Place) (v : EverValue) → stored_value cs p ≡ Some v → (i : ℕ) × (i < length cs) × ((d : Cell) → get_or cs i d ≡ record { place = p; value = v })
held_cell [] p v h = cc
held_cell (c ∷ cs) p v h = go (same_place p c.place) refl h (held_cell cs p v) where
  go : (x : Bool) → same_place p c.place ≡ x → cond x (Some c.value) (stored_value cs p) ≡ Some v → (stored_value cs p ≡ Some v → (i : ℕ) × (i < length cs) × ((d : Cell) → get_or cs i d ≡ record { place = p; value = v })) →
      (i : ℕ) × (i < length (c ∷ cs)) × ((d : Cell) → get_or (c ∷ cs) i d ≡ record { place = p; value = v })
  go true t h ih =
      let q : c.place ≡ p = sym (place_tells p c.place t) in
      let r : c.value ≡ v = same_Some c.value v h in
      (0, omega arith, λ d i. record { place = q i; value = r i })
  go false f h ih = let found = ih h in (suc found.0, omega (arith, found.1), found.2)

-- where no place has two cells, what stands in a cell is held at its place
pub cell_held : (cs : List Cell) (i : ℕ) (d : Cell) → IsDistinct cs → i < length cs → stored_value cs (get_or cs i d).place ≡ Some (get_or cs i d).value
cell_held [] i d h l = absurd (omega arith)
cell_held (c ∷ cs) zero d h l = rw (place_itself c.place) refl
cell_held (c ∷ cs) (suc i) d h l = go (get_or cs i d) (same_place (get_or cs i d).place c.place) refl (cell_held cs i d h.1 (omega arith)) where
  go : (e : Cell) (x : Bool) → same_place e.place c.place ≡ x → stored_value cs e.place ≡ Some e.value → cond x (Some c.value) (stored_value cs e.place) ≡ Some e.value
  go e x t ih = grind arith

-- Reach.

not_false : (b : Bool) → not b ≡ true → b ≡ false
not_false b h = grind arith

-- what a place leads to is reachable
pub leads_reach : (v : Lists) (ms : List Bool) (p : Place) (x : EverValue) (n : Name) → IsSoundMarks v ms → stored_value v.cells p ≡ Some x → names x ≡ Some n → leads v ms p ≡ true → Reach (ever_of v) n
unfolding ever_of
leads_reach v ms (Global k) x n s h q l = from_global k n (ap (λ (o : Option EverValue). names (unwrap_or o EverValue.Nil)) h ∙ q)
leads_reach v ms (Register g d) x n s h q l = from_register g d n (not_false (get_or v.ended g false) l) (ap (λ (o : Option EverValue). names (unwrap_or o EverValue.Nil)) h ∙ q)
leads_reach v ms (Field m k) x n s h q l = from_field m k n (s m l) (ap (λ (o : Option EverValue). names (unwrap_or o (unstored v.shapes (kind_of v.objects m) k))) h ∙ q)

first_no_name : (pointer : Bool) (n : Name) → names (first_value pointer) ≡ Some n → ⊥
first_no_name true n h = absurd (cc)
first_no_name false n h = absurd (cc)

unstored_no_name : (v : Lists) (o : Option ℕ) (k : ℕ) (n : Name) → names (unstored v.shapes o k) ≡ Some n → ⊥
unstored_no_name v None k n h = absurd (cc)
unstored_no_name v (Some kind) k n h = first_no_name (is_pointer (shape_at v.shapes kind) k) n h

-- what is named where nothing else is, is stored
stored : (o : Option EverValue) (d : EverValue) (n : Name) → (names d ≡ Some n → ⊥) → names (unwrap_or o d) ≡ Some n → (x : EverValue) × (o ≡ Some x) × (names x ≡ Some n)
stored None d n other h = absurd (other h)
stored (Some x) d n other h = (x, refl, h)

-- where no cell leads further, what a leading place holds is marked
followed : (v : Lists) (ms : List Bool) (p : Place) (n : Name) → AreComplete v ms → leads v ms p ≡ true → (x : EverValue) × (stored_value v.cells p ≡ Some x) × (names x ≡ Some n) → marked v.objects ms n ≡ true
followed v ms p n all l h =
    let found = held_cell v.cells p h.0 h.1 in
    let cell : Cell = record { place = p; value = h.0 } in
    let here : IsFollowed v ms cell = subst (λ (c : Cell). IsFollowed v ms c) (found.2 cell) (all found.0 cell found.1) in
    here l n h.2

nil_no_name : (n : Name) → names EverValue.Nil ≡ Some n → ⊥
nil_no_name n h = absurd (cc)

-- and so all that is reachable is marked
pub reach_marked : (v : Lists) (ms : List Bool) → AreComplete v ms → (n : Name) → Reach (ever_of v) n → marked v.objects ms n ≡ true
unfolding ever_of
reach_marked v ms all n (from_global k n' h) = followed v ms (Global k) n' all refl (stored (stored_value v.cells (Global k)) EverValue.Nil n' (nil_no_name n') h)
reach_marked v ms all n (from_register g d n' e h) = followed v ms (Register g d) n' all (ap not e) (stored (stored_value v.cells (Register g d)) EverValue.Nil n' (nil_no_name n') h)
reach_marked v ms all n (from_field m k n' r h) = followed v ms (Field m k) n' all (reach_marked v ms all m r) (stored (stored_value v.cells (Field m k)) (unstored v.shapes (kind_of v.objects m) k) n' (unstored_no_name v (kind_of v.objects m) k n') h)

-- One step.

pub sound_with_mark : (v : Lists) (ms : List Bool) (n : Name) → IsSoundMarks v ms → Reach (ever_of v) n → IsSoundMarks v (with_mark v.objects ms n)
sound_with_mark v ms n s r m h = elim (marked_before v.objects ms n m h) [
  | inl e ↦ subst (λ (x : Name). Reach (ever_of v) x) (sym e) r
  | inr was ↦ s m was
]

-- what a cell leads to is marked, and stays sound
pub followed_sound : (v w : Lists) (ms new : List Bool) (c : Cell) (n : Name) → w ≡ v → IsSoundMarks v ms → stored_value v.cells c.place ≡ Some c.value → c.value ≡ EverValue.Ref n → leads v ms c.place ≡ true → new ≡ with_mark w.objects ms n → IsSoundMarks v new
followed_sound v w ms new c n e s h i l f =
    let r : Reach (ever_of v) n = leads_reach v ms c.place c.value n s h (ap names i) l in
    let is : new ≡ with_mark v.objects ms n = f ∙ ap (λ (x : Lists). with_mark x.objects ms n) e in
    subst (λ (marks : List Bool). IsSoundMarks v marks) (sym is) (sound_with_mark v ms n s r)

pub followed_marked : (v w : Lists) (ms new : List Bool) (c : Cell) (n : Name) → w ≡ v → Sound w → length w.objects ≤ length ms → stored_value v.cells c.place ≡ Some c.value → c.value ≡ EverValue.Ref n → new ≡ with_mark w.objects ms n → IsFollowed v new c
followed_marked v w ms new c n e s len h i f l m j =
    let there : stored_value w.cells c.place ≡ Some (EverValue.Ref n) = ap (λ (x : Lists). stored_value x.cells c.place) e ∙ h ∙ ap Some i in
    let at : marked w.objects (with_mark w.objects ms n) n ≡ true = marked_itself w.objects ms n len (s.values c.place (EverValue.Ref n) there) in
    let here : marked v.objects new n ≡ true = ap (λ (x : List Bool). marked v.objects x n) f ∙ subst (λ (x : Lists). marked x.objects (with_mark w.objects ms n) n ≡ true) e at in
    subst (λ (x : Name). marked v.objects new x ≡ true) (same_Some n m (sym (ap names i) ∙ j)) here
