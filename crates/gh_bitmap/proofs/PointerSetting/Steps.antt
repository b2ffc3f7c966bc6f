-- What single steps do to the bits of the bitmap, and to its words.
use Rattle.std.proofs.Common.{◌≡◌, ◌≢◌, ℕ, ◌+◌, ◌-◌, ◌*◌, ◌/◌, ◌^◌, ◌<◌, ◌≤◌, ◌⊎◌, Bool, false, sym, subst, arith, inl, inr, bit_or, bit_and}
use Rattle.gh_bitmap.proofs.Vocabulary.{bit, bitmap_words, ClearsBits, FitsSlot, HasNone, is_pointer, IsHere, Layout, mod-eq_of_lt, pointer_bits, PointerSetting, Row, row_bit, RowsAreWritten, SetsBits, slot_bits, StepsOn, Touches, with_word, word_at, Words}
use Rattle.gh_bitmap.proofs.PointerSetting.BitRows.{clear_slot, clear_slot_other, no_pointers, set_pointers, set_pointers_other}

-- a word that has bits of a slot in the arena is one of the row's
pub word_is : (l : Layout) (s : PointerSetting) (i : ℕ) → s.at + s.slot ≤ 1024 * l.pages → Touches s.at s.slot i → word_at l i ≡ i
word_is l s i within touches = let ends : 64 * i < s.at + s.slot = touches.ends in mod-eq_of_lt (omega arith)

-- a heap word that has its bit elsewhere, or is not of the slot
outside : (s : PointerSetting) (i x : ℕ) → ¬ IsHere s i x → (i ≢ x / 64) ⊎ ((x < s.at) ⊎ (s.at + s.slot ≤ x))
outside s i x not = grind arith

module _ (rows : RowsAreWritten) (l : Layout) (s : PointerSetting) (i : ℕ) (words : Words) (within : s.at + s.slot ≤ 1024 * l.pages) (fits : FitsSlot s.shape s.slot) (touches : Touches s.at s.slot i) where
  abbrev row : Row
  row = bitmap_words words

  abbrev cleared : ℕ → Row
  cleared w = with_word row w (bit_and (row w) (2 ^ 64 - 1 - slot_bits s.at s.slot i))

  abbrev set : ℕ → Row
  set w = with_word row w (bit_or (row w) (pointer_bits s.shape s.at i))

  is : i ≡ word_at l i
  is = sym (word_is l s i within touches)

  behind : (k : ℕ) → s.slot ≤ k → is_pointer s.shape k ≡ false
  behind k above = let few = fits.within in fits.none k (omega arith)

  clears : ClearsBits l s i words
  clears = record {
    slot = λ x here. subst (λ (w : ℕ). row_bit (cleared w) x ≡ 0) is (clear_slot rows row s.at s.slot i x here.word here.from here.below);
    others = λ x not. subst (λ (w : ℕ). row_bit (cleared w) x ≡ row_bit row x) is (elim (outside s i x not) [
      | inl away ↦ rows.bit_elsewhere row i _ x away
      | inr out ↦ clear_slot_other rows row s.at s.slot i x out
    ]);
  }

  sets : SetsBits l s i words
  sets = record {
    slot = λ x here clear. subst (λ (w : ℕ). row_bit (set w) x ≡ bit (is_pointer s.shape (x - s.at))) is (set_pointers rows row s.shape s.at i x fits.narrow here.word here.from clear);
    others = λ x not. subst (λ (w : ℕ). row_bit (set w) x ≡ row_bit row x) is (elim (outside s i x not) [
      | inl away ↦ rows.bit_elsewhere row i _ x away
      | inr out ↦ set_pointers_other rows row s.shape s.at s.slot i x fits.narrow behind touches.begins out
    ]);
  }

  unset : (b : Bool) → bit b ≡ 0 → b ≡ false
  unset b e = grind arith

  has_none : HasNone s i
  has_none none x here = unset (is_pointer s.shape (x - s.at)) (no_pointers s.shape s.at i x fits.narrow none here.word here.from)

  pub steps_on : StepsOn l s i words
  steps_on = grind (arith, clears, has_none, sets)
