-- An object is made beside marking: it is black from the first, since its slot was marked before and its pointer fields are clear.
use Rattle.std.proofs.Common.{◌≡◌, ◌≢◌, ℕ, ◌+◌, ◌-◌, ◌*◌, ◌<◌, ◌≤◌, ◌⊎◌, Bool, true, false, cond, Some, refl, sym, ap, subst, ◌∙◌, inl, inr, arith, eq-eqb}
use Rattle.gh_cycle.proofs.Vocabulary.{alloc_words, Black, ClaimsSlot, Cycle, eqb_tells, EverValue, field_count, Good, Hands, Heap, InHand, is_pointer, IsKnownObject, IsMade, KnownOfMoves, Marking, Name, names, next_name, Placed, Placing, points, Reach, reference_of, RegistersFit, row_bit, same_name, Shape, shape_at, shape_for, size_for, update, view, with_object}
use Rattle.gh_heap.specs.Moves as heap
use Rattle.gh_marks.specs.Moves as marks
use Rattle.gh_cycle.proofs.Reaching.{name-itself, name-tells}
use Rattle.gh_cycle.proofs.Going.Objects.{here}
use Rattle.gh_cycle.proofs.Going.Plain.{fills-still, GoesBeside, hand_after, there, Together}
use Rattle.gh_cycle.proofs.Going.Steps.{set-fits}

update-here : {A : Type 0} (f : ℕ → A) (i : ℕ) (x : A) → update f i x i ≡ x
update-here f i x = rw (eq-eqb i i refl) refl

update-other : {A : Type 0} (f : ℕ → A) (i j : ℕ) (x : A) → i ≢ j → update f i x j ≡ f j
update-other f i j x ne = elim (eqb_tells i j) [ inl y ↦ absurd (ne y.1) | inr n ↦ rw (n.0) refl ]

module _ (k : KnownOfMoves) (z : Cycle) (a : ℕ) (h : Heap) (s : Marking) (w : Together z h s) (at g d t : ℕ) (may : heap.May z.arena a (view (here h s)) (heap.Make at g d t)) (reserved : s.colour at ≡ Placing a) where
  abbrev move : heap.Move
  move = heap.Make at g d t

  abbrev shape : Shape
  shape = shape_at z.arena.shapes t

  abbrev new : Name
  new = next_name h.ever g

  abbrev after : Heap
  after = there z a h s move

  -- The moves of marking.

  abbrev place : marks.Move
  place = marks.Place at (field_count shape) (is_pointer shape) shape.noscan g d

  abbrev then : Marking
  then = marks.moved z a s place

  -- the claimed slot lies in the heap
  within : field_count shape ≤ 1024 * z.arena.layout.pages
  within = elim (eqb_tells (field_count shape) 0) [
    | inl y ↦ omega (arith, y.1)
    | inr n ↦
        let c = may.ready.claim in
        let last = (k.apart z.arena (view (here h s)) w.heap).inside c.p c.i at (field_count shape) (field_count shape - 1) c.h c.slot (omega (arith, n.1)) in
        omega (arith, n.1, last.1, c.slot.span.within)
  ]

  may-place : marks.May z a s place
  may-place = grind (arith, within, w.beside.base at)

  went : marks.Went z a s then
  went = marks.goes s place marks.stays may-place

  hands : (x : InHand) → Hands a s x → Hands a then (hand_after move x)
  hands x is = (k.hands z a s x w.marking is).placed at (field_count shape) (is_pointer shape) shape.noscan g d ((is.has.is_reserved at).1 reserved)

  -- The new name, and the others.

  good-then : Good z.arena (view after)
  good-then = k.heap_keeps z.arena a (here h s) move w.heap may

  at-new : after.place new ≡ at
  at-new = ap (λ (b : Bool). cond b at (h.place new)) (name-itself new)

  new-made : IsMade after.ever.made new
  new-made = rw (eq-eqb g g refl) (omega arith)

  new-placed : Placed (alloc_words after.words) (view after).birth after.place new
  new-placed = record { set = ap (λ (x : ℕ). row_bit (alloc_words after.words) x) at-new ∙ k.rows.sets_one (alloc_words s.words) at; says = ap (view after).birth at-new ∙ may.ready.birth }

  other : (n : Name) → IsMade h.ever.made n → same_name n new ≡ false
  other n made = by (same_name n new) refl where
    by : (b : Bool) → same_name n new ≡ b → b ≡ false
    by true e = let same = name-tells n new e in let lt : new.k < h.ever.made new.g = subst (λ (m : Name). IsMade h.ever.made m) same made in absurd (omega (arith, lt))
    by false e = refl

  place-old : (n : Name) → IsMade h.ever.made n → after.place n ≡ h.place n
  place-old n made = grind (arith, other)

  made-before : (n : Name) → IsMade after.ever.made n → n ≢ new → IsMade h.ever.made n
  made-before n made ne = elim (eqb_tells n.g g) [
    | inr o ↦ subst (λ (b : Bool). n.k < cond b (h.ever.made g + 1) (h.ever.made n.g)) o.0 made
    | inl y ↦
        let below : n.k < h.ever.made g + 1 = subst (λ (b : Bool). n.k < cond b (h.ever.made g + 1) (h.ever.made n.g)) y.0 made in
        let another : n.k ≢ h.ever.made g = λ e. ne (λ i. record { g = y.1 i; k = e i }) in
        subst (λ (x : ℕ). n.k < h.ever.made x) (sym y.1) (omega (arith, below, another))
  ]

  -- an object that is known behind the move is the new one, or was one before, elsewhere
  record Old (n : Name) : Type 0 where
    of : IsKnownObject (here h s) s n
    other_place : at ≢ h.place n

  Cases : Name → Type 0
  Cases n = (n ≡ new) ⊎ Old n

  cases-of : (n : Name) → IsKnownObject after then n → Cases n
  unfolding Cases
  cases-of n o = elim (eqb_tells at (after.place n)) [
    | inl y ↦ inl ((k.apart z.arena (view after) good-then).once n new o.made new-made o.placed new-placed (sym y.1 ∙ sym at-new))
    | inr ne ↦ inr (old (made-before n o.made (λ e. ne.1 (sym (ap after.place e ∙ at-new)))) ne.1)
  ] where
    old : IsMade h.ever.made n → at ≢ after.place n → Old n
    old made ne =
        let apart : at ≢ h.place n = λ e. ne (e ∙ sym (place-old n made)) in
        record {
          of = record {
            made = made;
            placed = record {
              set = sym (k.rows.sets_no_other (alloc_words s.words) at (h.place n) apart) ∙ ap (λ (x : ℕ). row_bit (alloc_words after.words) x) (sym (place-old n made)) ∙ o.placed.set;
              says = ap (view after).birth (sym (place-old n made)) ∙ o.placed.says;
            };
            known = sym (update-other s.known at (h.place n) true apart) ∙ ap then.known (sym (place-old n made)) ∙ o.known;
          };
          other_place = apart;
        }

  type-new : after.ever.type_of new ≡ t
  type-new = ap (λ (b : Bool). cond b t (h.ever.type_of new)) (name-itself new)

  type-old : (n : Name) → IsMade h.ever.made n → after.ever.type_of n ≡ h.ever.type_of n
  type-old n made = grind (arith, other)

  -- The words of its type.

  size : (n : Name) → IsKnownObject after then n → then.extents.size (after.place n) ≡ size_for z.arena.shapes after.ever.type_of n
  unfolding Cases
  size n o = elim (cases-of n o) [
    | inl e ↦ subst (λ (m : Name). then.extents.size (after.place m) ≡ size_for z.arena.shapes after.ever.type_of m) (sym e)
        (ap then.extents.size at-new ∙ update-here s.extents.size at (field_count shape) ∙ ap (λ (x : ℕ). field_count (shape_at z.arena.shapes x)) (sym type-new))
    | inr p ↦ ap then.extents.size (place-old n p.of.made) ∙ update-other s.extents.size at (h.place n) (field_count shape) p.other_place ∙ w.beside.size n p.of ∙ ap (λ (x : ℕ). field_count (shape_at z.arena.shapes x)) (sym (type-old n p.of.made))
  ]

  pointer : (n : Name) (j : ℕ) → IsKnownObject after then n → j < size_for z.arena.shapes after.ever.type_of n → then.extents.pointer (after.place n) j ≡ points z.arena.shapes after.ever.type_of n j
  unfolding Cases
  pointer n j o l = elim (cases-of n o) [
    | inl e ↦ subst (λ (m : Name). then.extents.pointer (after.place m) j ≡ points z.arena.shapes after.ever.type_of m j) (sym e)
        (ap (λ (x : ℕ). then.extents.pointer x j) at-new ∙ ap (λ (f : ℕ → Bool). f j) (update-here s.extents.pointer at (is_pointer shape)) ∙ ap (λ (x : ℕ). is_pointer (shape_at z.arena.shapes x) j) (sym type-new))
    | inr p ↦ ap (λ (x : ℕ). then.extents.pointer x j) (place-old n p.of.made) ∙ ap (λ (f : ℕ → Bool). f j) (update-other s.extents.pointer at (h.place n) (is_pointer shape) p.other_place)
        ∙ w.beside.pointer n j p.of (subst (λ (x : ℕ). j < field_count (shape_at z.arena.shapes x)) (type-old n p.of.made) l) ∙ ap (λ (x : ℕ). is_pointer (shape_at z.arena.shapes x) j) (sym (type-old n p.of.made))
  ]

  noscan : (n : Name) → IsKnownObject after then n → then.extents.noscan (after.place n) ≡ (shape_for z.arena.shapes after.ever.type_of n).noscan
  unfolding Cases
  noscan n o = elim (cases-of n o) [
    | inl e ↦ subst (λ (m : Name). then.extents.noscan (after.place m) ≡ (shape_for z.arena.shapes after.ever.type_of m).noscan) (sym e)
        (ap then.extents.noscan at-new ∙ update-here s.extents.noscan at shape.noscan ∙ ap (λ (x : ℕ). (shape_at z.arena.shapes x).noscan) (sym type-new))
    | inr p ↦ ap then.extents.noscan (place-old n p.of.made) ∙ update-other s.extents.noscan at (h.place n) shape.noscan p.other_place ∙ w.beside.noscan n p.of ∙ ap (λ (x : ℕ). (shape_at z.arena.shapes x).noscan) (sym (type-old n p.of.made))
  ]

  -- What is reached, what is claimed, and registers.

  -- the new object is of a set of objects, and what a script reached before is still
  with-new : (f : ℕ → Bool) → ((n : Name) → Reach h.ever n → f (h.place n) ≡ true) → (n : Name) → Reach after.ever n → update f at true (after.place n) ≡ true
  with-new f before n r = elim (k.reaches z.arena a (here h s) move may n r) [
    | inl was ↦ ap (update f at true) (place-old n (k.made z.arena h.ever w.bounded n was)) ∙ still (h.place n) (before n was)
    | inr e ↦ let is : new ≡ n = cc in subst (λ (m : Name). update f at true (after.place m) ≡ true) is (ap (update f at true) at-new ∙ update-here f at true)
  ] where
    still : (x : ℕ) → f x ≡ true → update f at true x ≡ true
    still x is = elim (eqb_tells at x) [ inl y ↦ rw (y.0) refl | inr n ↦ rw (n.0) is ]

  filling : (o b : ℕ) → then.colour o ≡ Placing b → ClaimsSlot z.arena (view after) b o
  filling o b is = elim (eqb_tells at o) [
    | inl y ↦ absurd (let black : Black ≡ Placing b = sym (update-here s.colour at Black) ∙ ap then.colour y.1 ∙ is in cc)
    | inr ne ↦ of ne.1 (sym (update-other s.colour at o Black ne.1) ∙ is)
  ] where
    of : at ≢ o → s.colour o ≡ Placing b → ClaimsSlot z.arena (view after) b o
    of ne was = elim (eqb_tells b a) [
      | inr other ↦ fills-still k z a h s w.heap w.beside move may o b other.1 was
      | inl y ↦ let c = w.beside.filling o b was in record { size = c.size; claim = record { p = c.claim.p; h = c.claim.h; i = c.claim.i; held = c.claim.held; slot = c.claim.slot; clear = k.rows.sets_no_other (alloc_words s.words) at o ne ∙ c.claim.clear } }
    ]

  reference-same : (v : EverValue) → ((n : Name) → names v ≡ Some n → IsMade h.ever.made n) → reference_of h.place v ≡ reference_of after.place v
  reference-same EverValue.Nil made = refl
  reference-same (EverValue.Int i) made = refl
  reference-same (EverValue.Ref n) made = ap (λ (x : ℕ). x + 1) (sym (place-old n (made n refl)))

  fit : RegistersFit z.arena after then
  fit j c lj lc runs = ap (λ (x : ℕ). heap.update_at s.registers g d x j c) (ap (λ (x : ℕ). x + 1) (sym at-new))
      ∙ set-fits s.registers (with_object z.arena.shapes h.ever g t) after.place g d (EverValue.Ref new) j c (w.beside.registers j c lj lc runs ∙ reference-same (h.ever.register j c) (λ n is. (w.bounded.registers j c n is).2))

  pub makes : GoesBeside z a (here h s) s move
  makes = record {
    then = then;
    went = went;
    beside = record { words = refl; reached = with-new s.since w.beside.reached; known = with-new s.known w.beside.known; base = w.beside.base; size = size; pointer = pointer; noscan = noscan; filling = filling; registers = fit; goes_on = w.beside.goes_on };
    hands = hands;
    marked = λ o is. is;
  }
