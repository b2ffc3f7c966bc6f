-- Bits of the rows once one of them is set, and what is said of marks then.
use Rattle.std.proofs.Common.{◌≡◌, ◌≢◌, ℕ, Bool, true, false, sym, ◌∙◌, arith, inl, inr}
use Rattle.gh_marks.proofs.Vocabulary.{alloc_words, Colour, eqb_tells, HasMark, IsClean, IsMarked, mark_of, mark_words, MarksGood, Row, row_bit, RowsAreWritten, set_alloc, set_mark, update, White, Words}

pub two-ways : {P : Type 0} {b : Bool} → b ≡ true → b ≡ false → P
two-ways e f = let clash : true ≡ false = sym e ∙ f in cc

pub white-colour : (mark : Row) (colour : ℕ → Colour) → MarksGood mark colour → (o : ℕ) → row_bit mark o ≡ 0 → colour o ≡ White
white-colour mark colour g o h = grind arith

pub clean-grows : (m n : ℕ → Colour) (v : ℕ) → ((o : ℕ) → IsMarked m o → IsMarked n o) → IsClean m v → IsClean n v
clean-grows m n v grow h o e = grow o (h o e)

-- an object takes a colour that is not white
pub colours-grow : (colour : ℕ → Colour) (o : ℕ) (c : Colour) → c ≢ White → (p : ℕ) → IsMarked colour p → IsMarked (update colour o c) p
colours-grow colour o c h p m = elim (eqb_tells o p) [ inl y ↦ rw (y.0) h | inr n ↦ rw (n.0) m ]

-- an object moves among the colours of one mark bit
pub marked-again : (mark : Row) (colour : ℕ → Colour) (o : ℕ) (c : Colour) → mark_of c ≡ mark_of (colour o) → MarksGood mark colour → MarksGood mark (update colour o c)
marked-again mark colour o c h g p = elim (eqb_tells o p) [ inl y ↦ rw (y.0, ← y.1) (g o ∙ sym h) | inr n ↦ rw (n.0) (g p) ]

module _ (k : RowsAreWritten) (w : Words) (o : ℕ) where
  mark-same : HasMark (mark_words (set_mark w o)) o
  mark-same = k.sets_one (mark_words w) o

  mark-other : (p : ℕ) → o ≢ p → row_bit (mark_words (set_mark w o)) p ≡ row_bit (mark_words w) p
  mark-other p ne = k.sets_no_other (mark_words w) o p ne

  pub alloc-same : row_bit (alloc_words (set_alloc w o)) o ≡ 1
  alloc-same = k.sets_one (alloc_words w) o

  pub alloc-other : (p : ℕ) → o ≢ p → row_bit (alloc_words (set_alloc w o)) p ≡ row_bit (alloc_words w) p
  alloc-other p ne = k.sets_no_other (alloc_words w) o p ne

  pub marks-grow : (p : ℕ) → HasMark (mark_words w) p → HasMark (mark_words (set_mark w o)) p
  marks-grow p h = elim (eqb_tells o p) [ inl y ↦ rw (← y.1) mark-same | inr n ↦ mark-other p n.1 ∙ h ]

  -- a mark bit is set, and its object takes a colour that is not white
  pub marked-set : (colour : ℕ → Colour) (c : Colour) → mark_of c ≡ 1 → MarksGood (mark_words w) colour → MarksGood (mark_words (set_mark w o)) (update colour o c)
  marked-set colour c h g p = elim (eqb_tells o p) [ inl y ↦ rw (y.0, ← y.1) (mark-same ∙ sym h) | inr n ↦ rw (n.0) (mark-other p n.1 ∙ g p) ]

  -- or it was set before
  pub marked-still : (colour : ℕ → Colour) → HasMark (mark_words w) o → MarksGood (mark_words w) colour → MarksGood (mark_words (set_mark w o)) colour
  marked-still colour h g p = elim (eqb_tells o p) [ inl y ↦ rw (← y.1) (mark-same ∙ (sym h ∙ g o)) | inr n ↦ mark-other p n.1 ∙ g p ]
