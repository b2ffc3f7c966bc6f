-- The routine that sets pointer bits, run to its end: word after word of the bitmap.
use Rattle.std.proofs.Common.{◌≡◌, ◌≢◌, ℕ, zero, suc, ◌+◌, ◌-◌, ◌*◌, ◌/◌, ◌<◌, ◌≤◌, ◌⊎◌, Bool, true, false, is_none, cond, eqb, ltb, refl, sym, ap, subst, ◌∙◌, arith, inl, inr, eqb-true, ltb-true, ltb-false}
use Rattle.gh_bitmap.proofs.Vocabulary.{AreSet, asks_at, bit, Bitmap, Cell, CellsAreTold, Clear, effect, Ended, FitsSlot, given, is_pointer, IsHere, Layout, listing, next_stage, opening, pointer_bit, pointer_bits, PointerSetting, RowsAreWritten, Set, SetStage, Shape, steps_of, StepsOn, Touches, word_at, Words}
use Rattle.gh_base.specs.Routines.{Alone, alone, IsFolded, Leaves, steps_alone}
use Rattle.gh_bitmap.proofs.PointerSetting.Steps.{steps_on, word_is}

-- a word that has bits of the slot has that of one of its words
first_here : (at slot i : ℕ) → 1 ≤ slot → at / 64 ≤ i → 64 * i < at + slot → (k : ℕ) × (k < slot) × ((at + k) / 64 ≡ i)
first_here at slot i some begins ends = by (ltb at (64 * i)) refl where
  by : (b : Bool) → ltb at (64 * i) ≡ b → (k : ℕ) × (k < slot) × ((at + k) / 64 ≡ i)
  by true e =
      let lt : at < 64 * i = ltb-true _ _ e in
      let sum : at + (64 * i - at) ≡ 64 * i = omega arith in
      (64 * i - at, omega arith, rw sum (omega arith))
  by false e = let ge : 64 * i ≤ at = ltb-false _ _ e in (0, omega arith, omega arith)

module _ (l : Layout) (folded : IsFolded (steps_of l (listing l))) where
  busy_more : (r : Alone PointerSetting) → is_none (given r.routine) ≡ true → (steps : ℕ) → ((n : ℕ) → n < steps → is_none (given (alone (steps_of l (listing l)) (steps_alone (steps_of l (listing l)) r) n).routine) ≡ true) →
      (n : ℕ) → n < suc steps → is_none (given (alone (steps_of l (listing l)) r n).routine) ≡ true
  busy_more r busy steps later zero lt = busy
  busy_more r busy steps later (suc n) lt = ap (λ (s : Alone PointerSetting). is_none (given s.routine)) (folded.alone_first r n) ∙ later n (omega arith)

  -- it ends from where its next step leads
  ends_more : (r : Alone PointerSetting) (IsLeft : Words → Type 0) → is_none (given r.routine) ≡ true → Leaves (steps_of l (listing l)) (steps_alone (steps_of l (listing l)) r) IsLeft → Leaves (steps_of l (listing l)) r IsLeft
  ends_more r IsLeft busy e = record {
    steps = suc e.steps;
    busy = busy_more r busy e.steps e.busy;
    ended = ap (λ (s : Alone PointerSetting). is_none (given s.routine)) (folded.alone_first r e.steps) ∙ e.ended;
    left = subst (λ (s : Alone PointerSetting). IsLeft s.words) (sym (folded.alone_first r e.steps)) e.left;
  }

module _ (rows : RowsAreWritten) (told : CellsAreTold) (l : Layout) (folded : IsFolded (steps_of l (listing l))) (shape : Shape) (at slot : ℕ) (words : Words) (some : 1 ≤ slot) (within : at + slot ≤ 1024 * l.pages) (fits : FitsSlot shape slot) where
  abbrev here : SetStage → PointerSetting
  here p = record { shape = shape; at = at; slot = slot; stage = p }

  abbrev run : SetStage → Words → Alone PointerSetting
  run p ws = record { routine = here p; words = ws }

  abbrev IsOther : Cell → Type 0
  IsOther cell = (k : ℕ) → k < slot → cell ≢ Bitmap ((at + k) / 64)

  -- the slot's bits before word i are set, and nothing but the slot's bits is changed
  record Done (i : ℕ) (ws : Words) : Type 0 where
    set : (x : ℕ) → at ≤ x → x < at + slot → x < 64 * i → pointer_bit ws x ≡ bit (is_pointer shape (x - at))
    others : (x : ℕ) → (x < at) ⊎ (at + slot ≤ x) → pointer_bit ws x ≡ pointer_bit words x
    cells : (cell : Cell) → IsOther cell → ws cell ≡ words cell

  none_done : Done (at / 64) words
  none_done = record { set = λ x from below before. absurd (omega arith); others = λ x out. refl; cells = λ cell other. refl }

  all_done : (i : ℕ) (ws : Words) → at + slot ≤ 64 * i → Done i ws → AreSet shape at slot words ws
  all_done i ws long done = record {
    slot_bits = λ k lt. done.set (at + k) (omega arith) (omega arith) (omega arith) ∙ ap (λ (n : ℕ). bit (is_pointer shape n)) (let e : at + k - at ≡ k = omega arith in e);
    other_bits = done.others;
    other_cells = done.cells;
  }

  not_here : (i x : ℕ) → (x < at) ⊎ (at + slot ≤ x) → ¬ IsHere (here Ended) i x
  not_here i x (inl before) h = let from : at ≤ x = h.from in absurd (omega arith)
  not_here i x (inr behind) h = let below : x < at + slot = h.below in absurd (omega arith)

  module _ (i : ℕ) (touches : Touches at slot i) where
    on : (ws : Words) → StepsOn l (here Ended) i ws
    on ws = steps_on rows l (here Ended) i ws within fits touches

    -- word i has a bit of the slot, so it is none of the other cells
    not_other : (cell : Cell) → IsOther cell → cell ≢ Bitmap (word_at l i)
    not_other cell other e =
        let h = first_here at slot i some touches.begins touches.ends in
        other h.0 h.1 (e ∙ ap Bitmap (word_is l (here Ended) i within touches ∙ sym h.2))

    module _ (ws : Words) (done : Done i ws) where
      abbrev cleared : Words
      cleared = effect ws (asks_at l (here Ended) (Clear i))

      abbrev both : Words
      both = effect cleared (asks_at l (here Ended) (Set i))

      before : (x : ℕ) → x < 64 * i → ¬ IsHere (here Ended) i x
      before x lt h = let is : x / 64 ≡ i = h.word in absurd (omega arith)

      cleared_kept : Done i cleared
      cleared_kept = record {
        set = λ x from below lt. (on ws).clears.others x (before x lt) ∙ done.set x from below lt;
        others = λ x out. (on ws).clears.others x (not_here i x out) ∙ done.others x out;
        cells = λ cell other. told.put_elsewhere ws (Bitmap (word_at l i)) cell _ (λ e. not_other cell other (sym e)) ∙ done.cells cell other;
      }

      set_here : (ws' : Words) → ((x : ℕ) → IsHere (here Ended) i x → pointer_bit ws' x ≡ bit (is_pointer shape (x - at))) → ((x : ℕ) → at ≤ x → x < at + slot → x < 64 * i → pointer_bit ws' x ≡ bit (is_pointer shape (x - at))) →
          (x : ℕ) → at ≤ x → x < at + slot → x < 64 * (i + 1) → pointer_bit ws' x ≡ bit (is_pointer shape (x - at))
      set_here ws' this earlier x from below lt = grind arith

      -- no word of the slot that has its bit here is a pointer field
      done_without : pointer_bits shape at i ≡ 0 → Done (i + 1) cleared
      done_without none = record {
        set = set_here cleared (λ x h. (on ws).clears.slot x h ∙ sym (ap bit ((on ws).none none x h))) cleared_kept.set;
        others = cleared_kept.others;
        cells = cleared_kept.cells;
      }

      done_with : Done (i + 1) both
      done_with = record {
        set = set_here both (λ x h. (on cleared).sets.slot x h ((on ws).clears.slot x h)) (λ x from below lt. (on cleared).sets.others x (before x lt) ∙ cleared_kept.set x from below lt);
        others = λ x out. (on cleared).sets.others x (not_here i x out) ∙ cleared_kept.others x out;
        cells = λ cell other. told.put_elsewhere cleared (Bitmap (word_at l i)) cell _ (λ e. not_other cell other (sym e)) ∙ cleared_kept.cells cell other;
      }

  abbrev Ends : SetStage → Words → Type 0
  Ends p ws = Leaves (steps_of l (listing l)) (run p ws) (AreSet shape at slot words)

  -- from word i on it ends, if it does from the next
  abbrev EndsFrom : ℕ → Type 0
  EndsFrom d = (i : ℕ) (ws : Words) → Touches at slot i → at + slot ≤ 64 * (i + d) → Done i ws → Ends (Clear i) ws

  finished : (i : ℕ) (ws : Words) → at + slot ≤ 64 * i → Done i ws → Ends Ended ws
  finished i ws long done = grind (arith, all_done)

  ends_next : (d i : ℕ) (ws : Words) → EndsFrom d → at / 64 ≤ i → at + slot ≤ 64 * (i + suc d) → Done (i + 1) ws → Ends (next_stage (here Ended) i) ws
  ends_next d i ws later begins fuel done = by (ltb (64 * (i + 1)) (at + slot)) refl where
    by : (more : Bool) → ltb (64 * (i + 1)) (at + slot) ≡ more → Ends (cond more (Clear (i + 1)) Ended) ws
    by true e = later (i + 1) ws (record { begins = omega arith; ends = ltb-true _ _ e }) (omega arith) done
    by false e = finished (i + 1) ws (ltb-false _ _ e) done

  ends_here : (d : ℕ) → EndsFrom d → EndsFrom (suc d)
  ends_here d later i ws touches fuel done = ends_more l folded (run (Clear i) ws) _ refl (by (eqb (pointer_bits shape at i) 0) refl) where
    by : (none : Bool) → eqb (pointer_bits shape at i) 0 ≡ none → Ends (cond none (next_stage (here Ended) i) (Set i)) (cleared i touches ws done)
    by true e = ends_next d i (cleared i touches ws done) later touches.begins fuel (done_without i touches ws done (eqb-true _ _ e))
    by false e = ends_more l folded (run (Set i) (cleared i touches ws done)) _ refl (ends_next d i (both i touches ws done) later touches.begins fuel (done_with i touches ws done))

  ends_from : (d : ℕ) → EndsFrom d
  ends_from zero i ws touches fuel done = let ends : 64 * i < at + slot = touches.ends in absurd (omega arith)
  ends_from (suc d) i ws touches fuel done = ends_here d (ends_from d) i ws touches fuel done

  pub ends : Leaves (steps_of l (listing l)) (record { routine = opening shape at slot; words = words }) (AreSet shape at slot words)
  ends = ends_from (slot + 1) (at / 64) words (record { begins = omega arith; ends = omega arith }) (omega arith) none_done
