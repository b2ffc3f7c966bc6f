-- What the invariants of the picture say of marking, and of its end.
use Rattle.std.proofs.Common.{◌≡◌, ◌≢◌, ℕ, zero, suc, ◌+◌, ◌<◌, Bool, true, false, arith, refl, sym, ◌∙◌, ap, inl, inr, subst, Some}
use Rattle.gh_marks.proofs.Vocabulary.{cases_lt, Cell, Cycle, from_global, from_grey, from_white, Good, Invariants, is_black_stack, is_scanned, IsClean, IsDone, IsMarked, IsMarkingDone, IsPictured, IsPointer, IsReachedInPicture, IsSafe, mark_words, MarkedWhatIsReached, MarkingEndsClean, MarkingEndsDrawn, MarksGood, nat_tests, Protected, Reached, REGISTERS, Row, rows, seen_field, seen_global, shade_of, Shared, Shows, ThePictureSays, Tricolour, WhatThePictureSays, White}
use Rattle.gh_tri.specs.declared.Colour.{Colour}
use Rattle.gh_tri.specs.Invariants as tri
use Rattle.gh_marks.specs.Ends as ends
use Rattle.gh_marks.proofs.Drawing.Reading.{global-none, marked-bit, is-grey, is-waiting, is-white-colour, marked-clean, marked-object, named-some, named-word, pointer-some, pointer-word, value-field, value-global, within-fields}

module _ (z : Cycle) (s : Shared) (at : Row) (p : Tricolour) (marks : MarksGood (mark_words s.words) s.colour) (sh : Shows z s at p) (i : Invariants p) where
  -- a field of an object of the cycle that holds an object: it is a pointer field, and names it
  record IsField (n k m : ℕ) : Type 0 where
    pub pointer : IsPointer s.extents (at n) k
    pub word : seen_field s (at n + k) ≡ at m + 1
    pub some : 0 < m
    pub below : m < p.objects

  field-of : (n k m : ℕ) → 0 < n → n < p.objects → p.value n k ≡ Some m → IsField n k m
  field-of n k m some below e =
      let names = named-some at p.objects m (p.value n k) _ (sh.fields n k some below) e in
      let l = pointer-some s (at n) k (at m) names.2 in
      record { pointer = l; word = sym (pointer-word s (at n) k l) ∙ names.2; some = names.0; below = names.1 }

  record IsGlobal (k m : ℕ) : Type 0 where
    pub within : k < z.arena.layout.globals
    pub word : seen_global s k ≡ at m + 1
    pub some : 0 < m
    pub below : m < p.objects

  global-of : (k m : ℕ) → p.value 0 k ≡ Some m → IsGlobal k m
  global-of k m e = elim (cases_lt k z.arena.layout.globals) [
    | inl l ↦ (let names = named-some at p.objects m (p.value 0 k) _ (value-global z s at p sh k l) e in record { within = l; word = names.2; some = names.0; below = names.1 })
    | inr le ↦ (let names = named-some at p.objects m (p.value 0 k) _ (sh.globals k) e in absurd (clash m names.2 (global-none z s k le)))
  ] where
    clash : {w : ℕ} (m : ℕ) → w ≡ at m + 1 → w ≡ 0 → ⊥
    clash m x y = omega (arith, x, y)

  white-bit : (n : ℕ) → 0 < n → n < p.objects → p.colour n ≡ Colour.White → s.colour (at n) ≡ White
  white-bit n some below e = is-white-colour (s.colour (at n)) (sym (sh.colours n some below) ∙ e)

  -- what is not made is white
  made : (n : ℕ) → p.colour n ≢ Colour.White → n < p.objects
  made n h = elim (cases_lt n p.objects) [ inl l ↦ l | inr le ↦ absurd (h (i.unmade_objects.white n le)) ]

  -- a scanned global holds what is marked
  global-clean : (k : ℕ) → k < z.arena.layout.globals → is_scanned (s.progress k) ≡ true → IsClean s.colour (seen_global s k)
  global-clean k l done = marked-clean z s at p sh marks (p.value 0 k) _ (value-global z s at p sh k l) (i.scanned_fields 0 k (sh.scanned k l ∙ done))

  -- so does a field of a black object
  black-clean : (n k : ℕ) → 0 < n → n < p.objects → p.colour n ≡ Colour.Black → IsPointer s.extents (at n) k → IsClean s.colour (seen_field s (at n + k))
  black-clean n k some below black l =
      marked-clean z s at p sh marks (p.value n k) _ (value-field z s at p sh n k some below l)
      (i.scanned_fields n k (i.marked_objects.black n k black (within-fields z s at p sh n k some below l)))

  -- what is protected in the picture is protected
  abbrev Guarded : ℕ → Type 0
  Guarded m = (0 < m) × (m < p.objects) × Protected z.arena.layout.globals (rows s) (at m)

  global-guarded : (k m : ℕ) → p.scanned 0 k ≡ false → p.value 0 k ≡ Some m → p.colour m ≡ Colour.White → Guarded m
  global-guarded k m left e white =
      let g = global-of k m e in
      (g.some, g.below, from_global k (at m) (is-waiting (s.progress k) (sym (sh.scanned k g.within) ∙ left)) g.within g.word (white-bit m g.some g.below white))

  -- a global that is scanned holds no white object
  open-global : (k m : ℕ) (b : Bool) → p.scanned 0 k ≡ b → p.value 0 k ≡ Some m → p.colour m ≡ Colour.White → Guarded m
  open-global k m b left e white = grind (arith, global-guarded)

  guarded : (m : ℕ) → tri.Protected p m → Guarded m
  guarded m (tri.from_grey zero k m' grey edge white) = open-global k m (p.scanned 0 k) refl edge.holds white
  guarded m (tri.from_grey (suc n) k m' grey edge white) =
      let below = made (suc n) (λ e. grey-white (sym grey ∙ e)) in
      let f = field-of (suc n) k m (omega arith) below edge.holds in
      (f.some, f.below, from_grey (at (suc n)) k (at m) (is-grey (s.colour (at (suc n))) (sym (sh.colours (suc n) (omega arith) below) ∙ grey)) f.pointer f.word (white-bit m f.some f.below white))
    where
      grey-white : Colour.Grey ≡ Colour.White → ⊥
      grey-white e = cc
  guarded m (tri.from_global k m' left edge white) = global-guarded k m left edge.holds white
  guarded m (tri.from_white n k m' known edge white) =
      let g = guarded n known in
      let f = field-of n k m g.0 g.1 edge.holds in
      (f.some, f.below, from_white (at n) k (at m) g.2 f.pointer f.word (white-bit m f.some f.below white))

  stack-safe : (g d : ℕ) → g < z.arena.layout.goroutines → d < REGISTERS → is_black_stack z (s.words (Cell.Scanned g)) ≡ true → IsSafe z.arena.layout.globals (rows s) (s.registers g d)
  stack-safe g d l few black o e =
      let n = named-word at p.objects o (p.register g d) _ (sh.registers g d l few) e in
      elim (i.black_stacks.black g d n.0 (λ r below. sh.seen g r l below ∙ black) few n.4) [
        | inl marked ↦ inl (subst (IsMarked s.colour) n.3 (marked-object z s at p sh marks n.0 n.1 n.2 marked))
        | inr known ↦ inr (subst (Protected z.arena.layout.globals (rows s)) n.3 (guarded n.0 known).2)
      ]

-- Nothing is left to be marked: nothing is left in the picture.
module _ (z : Cycle) (s : Shared) (at : Row) (p : Tricolour) (sh : Shows z s at p) (i : Invariants p) (d : IsDone z s) where
  pub picture-done : IsMarkingDone p
  picture-done = grind arith

-- and each object that a path leads to is reached in it
module _ (z : Cycle) (s : Shared) (at : Row) (p : Tricolour) (sh : Shows z s at p) where
  abbrev Shown : ℕ → Type 0
  Shown o = (n : ℕ) × (0 < n) × (n < p.objects) × (at n ≡ o) × IsReachedInPicture p n

  shown : (o : ℕ) → Reached z s o → Shown o
  shown o (ends.from_global k o' l e) =
      let n = named-word at p.objects o (p.value 0 k) _ (value-global z s at p sh k l) e in
      (n.0, n.1, n.2, n.3, tri.field 0 k n.0 tri.globals (record { within = within k l; holds = n.4 }))
    where
      within : (k : ℕ) → k < z.arena.layout.globals → k < p.fields
      within k l = omega (arith, sh.globals_fit)
  shown o (ends.from_register g d' o' l few e) =
      let n = named-word at p.objects o (p.register g d') _ (sh.registers g d' l few) e in
      (n.0, n.1, n.2, n.3, tri.held g d' n.0 (rw (sh.stacks) l) few n.4)
  shown o (ends.from_field q k o' r l e) = next (shown q r) where
    next : Shown q → Shown o
    next t =
        let l' : IsPointer s.extents (at t.0) k = subst (λ x. IsPointer s.extents x k) (sym t.3) l in
        let e' : seen_field s (at t.0 + k) ≡ o + 1 = ap (λ x. seen_field s (x + k)) t.3 ∙ e in
        let n = named-word at p.objects o (p.value t.0 k) _ (value-field z s at p sh t.0 k t.1 t.2 l') e' in
        (n.0, n.1, n.2, n.3, tri.field t.0 k n.0 t.4 (record { within = within-fields z s at p sh t.0 k t.1 t.2 l'; holds = n.4 }))

says : (z : Cycle) (s : Shared) (at : Row) (p : Tricolour) → Good z s → Shows z s at p → Invariants p → ThePictureSays z s
says z s at p good sh i = record {
  globals = λ k l e. global-clean z s at p good.marks sh i k l (ap is_scanned e);
  blacks = λ o k e l. let n = sh.numbers.all o (good.objects.of_cycle o (good.objects.shaded o (rw e tt))) in
      subst (λ x. IsClean s.colour (seen_field s (x + k))) n.3
      (black-clean z s at p good.marks sh i n.0 k n.1 n.2 (sh.colours n.0 n.1 n.2 ∙ ap shade_of (ap s.colour n.3 ∙ e)) (subst (λ x. IsPointer s.extents x k) (sym n.3) l));
  stacks = λ g d l few e. stack-safe z s at p good.marks sh i g d l few (number (s.words (Cell.Scanned g)) e);
} where
  number : (word : ℕ) → word ≡ z.number → is_black_stack z word ≡ true
  number word e = grind (arith, nat_tests)

pub the-picture-says : WhatThePictureSays
the-picture-says z s good = let x : IsPictured z s 0 = good.pictured 0 in says z s x.at x.picture good x.shows x.invariants

pub marking-ends-drawn : MarkingEndsDrawn
marking-ends-drawn z s at p d sh i = picture-done z s at p sh i d

-- At the end each object that a path leads to is marked, since in the picture no white one is reached.
pub marking-ends-clean : MarkedWhatIsReached → MarkingEndsClean
marking-ends-clean law z s good d o r =
    let x : IsPictured z s 0 = good.pictured 0 in
    let n = shown z s x.at x.picture x.shows o r in
    marked-bit (s.colour o) (good.marks o) (subst (IsMarked s.colour) n.3
    (marked-object z s x.at x.picture x.shows good.marks n.0 n.1 n.2 (λ white. law x.picture x.invariants (picture-done z s x.at x.picture x.shows x.invariants d) n.0 white n.4)))
