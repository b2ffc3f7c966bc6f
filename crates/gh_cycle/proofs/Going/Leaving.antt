-- What a move over the heap leaves that makes no object. And whichever move makes one, where it is made the words tell.
use Rattle.std.proofs.Common.{◌≡◌, ℕ, ◌+◌, ◌/◌, ◌%◌, ◌^◌, ◌<◌, Bool, cond, eqb, refl, sym, ap, subst, ◌∙◌, inl, inr, arith, None}
use Rattle.std.proofs.lemmas.Bool.{eq-eqb}
use Rattle.gh_cycle.proofs.Vocabulary.{alloc_words, Ask, birth_words, Cell, Cycle, effect, eqb_tells, Heap, InHand, Marking, Name, name_made, next_name, Placed, row_bit, RowsAreWritten, View, view, with_object, Words}
use Rattle.gh_heap.specs.Moves as heap
use Rattle.gh_cycle.proofs.Bits.{zero_one}
use Rattle.gh_cycle.proofs.Going.Objects.{here}
use Rattle.gh_cycle.proofs.Going.Plain.{hand_after, there}
use Rattle.gh_cycle.proofs.Quiet.{quiet_view, with_words}

-- What a move leaves that makes no object.
pub record LeavesObjects (z : Cycle) (a : ℕ) (h : Heap) (s : Marking) (m : heap.Move) : Type 0 where
  pub none : name_made h.ever m ≡ None
  pub hand : (x : InHand) → hand_after m x ≡ x
  pub place : (there z a h s m).place ≡ h.place
  pub alloc : alloc_words (there z a h s m).words ≡ alloc_words s.words
  pub birth : (x : ℕ) → row_bit (alloc_words s.words) x ≡ 1 → birth_words (there z a h s m).words x ≡ birth_words s.words x

module _ (z : Cycle) (a : ℕ) (h : Heap) (s : Marking) where
  -- who makes an object has made one more
  one-more : (g t : ℕ) → (with_object z.arena.shapes h.ever g t).made ≡ h.ever.made → ⊥
  one-more g t same =
      let more : h.ever.made g < (with_object z.arena.shapes h.ever g t).made g = rw (eq-eqb g g refl) (omega arith) in
      let none : h.ever.made g < h.ever.made g = subst (λ (f : ℕ → ℕ). h.ever.made g < f g) same more in
      omega (arith, none)

  same-view : (step : Ask) → heap.IsQuiet step → view (with_words (here h s) (effect s.words step)) ≡ view (here h s)
  same-view step q = quiet_view (here h s) step q

  pub leaves : (m : heap.Move) → heap.May z.arena a (view (here h s)) m → (there z a h s m).ever.made ≡ h.ever.made → LeavesObjects z a h s m
  leaves (heap.Quiet step) may same = record { none = refl; hand = λ x. refl; place = refl; alloc = ap (λ (v : View). v.alloc) (same-view step may); birth = λ x set. ap (λ (v : View). v.birth x) (same-view step may) }
  leaves (heap.Takes step g d value) may same = record { none = refl; hand = λ x. refl; place = refl; alloc = ap (λ (v : View). v.alloc) (same-view step may.0); birth = λ x set. ap (λ (v : View). v.birth x) (same-view step may.0) }
  leaves (heap.Ends step g) may same = record { none = refl; hand = λ x. refl; place = refl; alloc = ap (λ (v : View). v.alloc) (same-view step may.0); birth = λ x set. ap (λ (v : View). v.birth x) (same-view step may.0) }
  leaves (heap.SetBirth at size n) may same = record {
    none = refl;
    hand = λ x. refl;
    place = refl;
    alloc = refl;
    birth = λ x set. elim (eqb_tells at x) [
      | inl y ↦ absurd (zero_one (row_bit (alloc_words s.words) x) (ap (λ (i : ℕ). row_bit (alloc_words s.words) i) (sym y.1) ∙ may.clear) set)
      | inr ne ↦ rw (ne.0) refl
    ];
  }
  leaves (heap.Make at g d t) may same = absurd (one-more g t same)
  leaves _ may same = record { none = refl; hand = λ x. refl; place = refl; alloc = refl; birth = λ x set. refl }

  -- what stands behind such a move stood before
  pub stood : (m : heap.Move) → LeavesObjects z a h s m → (n : Name) → Placed (alloc_words s.words) (birth_words (there z a h s m).words) h.place n → Placed (alloc_words s.words) (birth_words s.words) h.place n
  stood m left n p = record { set = p.set; says = sym (left.birth (h.place n) p.set) ∙ p.says }

  -- An object is made in a clear slot: by whom its count tells, and where the bit tells that is set then.
  module _ (rows : RowsAreWritten) (at g t : ℕ) (clear : row_bit (alloc_words s.words) at ≡ 0) where
    by-whom : (j y : ℕ) → (with_object z.arena.shapes h.ever j y).made ≡ (with_object z.arena.shapes h.ever g t).made → j ≡ g
    by-whom j y same = elim (eqb_tells g j) [
      | inl is ↦ sym is.1
      | inr ne ↦
          let counted : cond (eqb g j) (h.ever.made j + 1) (h.ever.made g) ≡ cond (eqb g g) (h.ever.made g + 1) (h.ever.made g) = ap (λ (f : ℕ → ℕ). f g) same in
          let more : h.ever.made g ≡ h.ever.made g + 1 = subst (λ (b : Bool). cond b (h.ever.made j + 1) (h.ever.made g) ≡ cond (eqb g g) (h.ever.made g + 1) (h.ever.made g)) ne.0 counted ∙ ap (λ (b : Bool). cond b (h.ever.made g + 1) (h.ever.made g)) (eq-eqb g g refl) in
          absurd (omega (arith, more))
    ]

    set-there : (x j d y : ℕ) → (there z a h s (heap.Make x j d y)).words ≡ effect s.words (Ask.Or (Cell.Alloc (at / 64)) (2 ^ (at % 64))) → x ≡ at
    set-there x j d y words = elim (eqb_tells x at) [
      | inl is ↦ is.1
      | inr ne ↦ absurd (zero_one (row_bit (alloc_words s.words) at) clear
          (sym (rows.sets_no_other (alloc_words s.words) x at ne.1) ∙ ap (λ (u : Words). row_bit (alloc_words u) at) words ∙ rows.sets_one (alloc_words s.words) at))
    ]

    pub made-there : (m : heap.Move) → (there z a h s m).words ≡ effect s.words (Ask.Or (Cell.Alloc (at / 64)) (2 ^ (at % 64))) → (there z a h s m).ever.made ≡ (with_object z.arena.shapes h.ever g t).made → (there z a h s m).place ≡ heap.placed_at h.place (next_name h.ever g) at
    made-there (heap.Make x j d y) words same = ap (λ (i : ℕ). heap.placed_at h.place (next_name h.ever i) x) (by-whom j y same) ∙ ap (λ (i : ℕ). heap.placed_at h.place (next_name h.ever g) i) (set-there x j d y words)
    made-there _ words same = absurd (one-more g t (sym same))
