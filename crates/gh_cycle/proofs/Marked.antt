-- What is marked at the end of a cycle.
use Rattle.std.proofs.Common.{◌≡◌, ◌≢◌, ℕ, ◌+◌, ◌/◌, ◌%◌, ◌<◌, Bool, true, false, eqb, ltb, List, [], length, Some, inl, inr, refl, sym, ap, subst, arith, ◌∙◌}
use Rattle.std.specs.Int.{bit_at}
use Rattle.std.proofs.lemmas.Bool.{ltb-true, ltb-false}
use Rattle.std.proofs.lemmas.List.{get_or_past}
use Rattle.gh_cycle.proofs.Vocabulary.{alloc_words, bit_at-zero, cases_Bool, Cell, Cycle, EverValue, FitsShape, from_field, from_global, from_register, Good, HasMark, Heap, Holds, is_pointer, IsBounded, IsPointer, mark_words, Marking, MarkingGood, Name, names, no_shape, path_field, path_global, path_register, Place, Placing, points, Reach, Reached, reference_to, RegistersFit, row_bit, Shape, shape_at, ShapesFit, TheMarkedStand, TheReachedAreMarkedBeside, TheReachedWereMade, view, Words}
use Rattle.gh_cycle.proofs.Beginning.{reference-told}
use Rattle.gh_marks.specs.Moves.{seen_is}
use Rattle.gh_cycle.proofs.Said.{IsSaid, said-beside}

-- a bit of no word is not set
no-bit : (i w : ℕ) → w ≡ 0 → eqb (bit_at w i) 1 ≡ false
no-bit i w is = rw is (ap (λ (n : ℕ). eqb n 1) (bit_at-zero i))

-- a type with a pointer field is not noscan
pointing-scans : (shapes : List Shape) → ShapesFit shapes → (t k : ℕ) → is_pointer (shape_at shapes t) k ≡ true → (shape_at shapes t).noscan ≡ false
pointing-scans shapes fit t k pointer = by (ltb t (length shapes)) refl where
  none : is_pointer no_shape k ≡ true → ⊥
  none e = let no = no-bit (k % 64) _ (get_or_past [] (k / 64) 0 (omega arith)) in absurd (cc)

  scans : (shape : Shape) → FitsShape shape → is_pointer shape k ≡ true → shape.noscan ≡ false
  scans shape fits e = elim (cases_Bool shape.noscan) [
    | inl t ↦ let no = (fits.noscan).0 t k in absurd (cc)
    | inr f ↦ f
  ]

  by : (b : Bool) → ltb t (length shapes) ≡ b → (shape_at shapes t).noscan ≡ false
  by true l = scans (shape_at shapes t) (fit t (ltb-true _ _ l)) pointer
  by false l = absurd (none (subst (λ (shape : Shape). is_pointer shape k ≡ true) (get_or_past shapes t no_shape (ltb-false _ _ l)) pointer))

-- At the end.

-- a word that holds a reference
holds-name : (place : Place) (made : ℕ → ℕ) (p : Bool) (v : EverValue) (n : Name) (word : ℕ) → names v ≡ Some n → Holds place made p v word → (p ≡ true) × (word ≡ reference_to place n)
holds-name place made p EverValue.Nil n word is holds = absurd (cc)
holds-name place made p (EverValue.Int i) n word is holds = absurd (cc)
holds-name place made p (EverValue.Ref m) n word is holds = let same : m ≡ n = cc in (holds.0, holds.1 ∙ ap (reference_to place) same)

module _ (z : Cycle) (h : Heap) (s : Marking) (g : Good z.arena (view h)) (fit : ShapesFit z.arena.shapes) (b : IsBounded z.arena h.ever) (same : s.words ≡ h.words) (base : (x : ℕ) → s.extents.base x ≡ x) (said : (n : Name) → Reach h.ever n → IsSaid z.arena h s n) (registers : RegistersFit z.arena h s) (made : TheReachedWereMade) where
  -- a path of names is a path of words
  path : (n : Name) → Reach h.ever n → Reached z s (h.place n)
  path n (from_global k n' is) =
      let within = (b.globals k n is).0 in
      let w = holds-name h.place h.ever.made true (h.ever.global k) n (h.words (Cell.Global k)) is (g.globals k within) in
      path_global k (h.place n) within (seen_is s.extents.base base (s.words (Cell.Global k)) ∙ ap (λ (u : Words). u (Cell.Global k)) same ∙ w.1)
  path n (from_register j d n' runs is) =
      let w = b.registers j d n is in
      path_register j d (h.place n) w.0 w.1 (registers j d w.0 w.1 runs ∙ reference-told h.place (h.ever.register j d) n is)
  path n (from_field m k n' r is) =
      let within = (b.fields m k n is).0 in
      let w = holds-name h.place h.ever.made (points z.arena.shapes h.ever.type_of m k) (h.ever.field m k) n (h.words (Cell.Field (h.place m + k))) is (g.fields m k (made z.arena h.ever b m r) (g.reached m r) within) in
      let pointer : IsPointer s.extents (h.place m) k = (
        subst (λ (x : ℕ). k < x) (sym (said m r).size) within,
        (said m r).pointer k within ∙ w.0,
        (said m r).noscan ∙ pointing-scans z.arena.shapes fit (h.ever.type_of m) k w.0,
      ) in
      path_field (h.place m) k (h.place n) (path m r) pointer (seen_is s.extents.base base (s.words (Cell.Field (h.place m + k))) ∙ ap (λ (u : Words). u (Cell.Field (h.place m + k))) same ∙ w.1)

pub reached-marked-beside : TheReachedWereMade → TheReachedAreMarkedBeside
reached-marked-beside made z h s g fit b c each n r =
    each (h.place n) (path z h s g fit b c.words c.base (λ m reached. said-beside z.arena h s c m (record { made = made z.arena h.ever b m reached; placed = g.reached m reached; known = c.known m reached })) c.registers made n r)

-- so it is of the cycle
pub marked-since : (z : Cycle) (s : Marking) → MarkingGood z s → ((o a : ℕ) → s.colour o ≢ Placing a) → (o : ℕ) → HasMark (mark_words s.words) o → s.since o ≡ true
marked-since z s g none o marked = grind arith

-- and stands
pub marked-stand : TheMarkedStand
marked-stand z h s g same none x set =
    let since : s.since x ≡ true = marked-since z s g none x (ap (λ (w : Words). row_bit (mark_words w) x) same ∙ set) in
    ap (λ (w : Words). row_bit (alloc_words w) x) (sym same) ∙ g.objects.placed x (g.objects.of_cycle x since)
