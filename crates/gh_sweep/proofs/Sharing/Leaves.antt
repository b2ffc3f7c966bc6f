-- What a move of one actor leaves to another.
use Rattle.std.proofs.Common.{◌≡◌, ◌≢◌, ℕ, ◌+◌, ◌*◌, ◌/◌, ◌<◌, ◌⊎◌, Bool, true, refl, sym, ap, ◌∙◌, arith, inl, inr}
use Rattle.gh_sweep.proofs.Vocabulary.{bit_words, By, Cell, Clears, Counts, Cuts, CycleEnd, Done, DoneStays, EachMoveLeaves, Ends, eqb_tells, Far, FitsHead, Frees, generation_of, Good, HasEnded, HasNotNumber, Head, head_word, in_sweep, InSpan, Lays, May, moved, once_swept, OthersLeave, owned_by, page_of, Passes, Places, Quiet, Row, Shared, SpanHead, SpanIsLeft, Starts, TellsHeap, TellsLive, TellsTally, Turns, Unswept, update, View, view, with_word}
use Rattle.gh_sweep.proofs.Sharing.KeepsPages.{fits_owned, fits_swept, fits_then, fresh_before, is_done, Known, number_in}
use Rattle.gh_sweep.proofs.Sharing.Lays as lay
use Rattle.gh_sweep.proofs.Sharing.Pages.{by_done, far_done, far_unswept, no_head_done, one_span, same_by, unswept_by, unswept_done}
use Rattle.gh_sweep.proofs.Sharing.Quiet.{quiet_view}
use Rattle.gh_sweep.proofs.Sharing.Sums.{off_entry}
use Rattle.gh_sweep.proofs.Sweeping.Facts.{not_numbered}

module _ (e : CycleEnd) (a : ℕ) (s : Shared) (g : Good e (view s)) where
  -- a page word changes, and how far its span is, of which neither was nor is the actor's
  module _ (q word : ℕ) (f : Far) (not_mine : s.far q ≢ By a) (not_then : f ≢ By a) (done_then : s.far q ≡ Done → f ≡ Done) (gone : (number : ℕ) → number + 2 ≡ generation_of e → HasNotNumber number word) where
    pub back_then : (p : ℕ) → update s.far q f p ≡ By a → s.far p ≡ By a
    back_then p is = elim (eqb_tells q p) [
      | inl y ↦ absurd (not_then (rw (y.0) at is))
      | inr n ↦ rw (n.0) at is
    ]

    pub done_there : (p : ℕ) → s.far p ≡ Done → update s.far q f p ≡ Done
    done_there p is = elim (eqb_tells q p) [
      | inl y ↦ rw (y.0) (done_then (ap s.far y.1 ∙ is))
      | inr n ↦ rw (n.0) is
    ]

    pub heads_then : (p number : ℕ) → number + 2 ≡ generation_of e → (with_word (view s).page q word p ≡ (view s).page p) ⊎ HasNotNumber number (with_word (view s).page q word p)
    heads_then p number n = elim (eqb_tells q p) [
      | inl y ↦ inr (rw (y.0) (gone number n))
      | inr x ↦ inl (off_entry (view s).page q p word x.1)
    ]

    off_mine : (p : ℕ) → s.far p ≡ By a → q ≢ p
    off_mine p by same = not_mine (ap s.far same ∙ by)

    pub page_left : (p : ℕ) → s.far p ≡ By a → with_word (view s).page q word p ≡ (view s).page p
    page_left p by = off_entry (view s).page q p word (off_mine p by)

    pub far_left : (p : ℕ) → s.far p ≡ By a → update s.far q f p ≡ By a
    far_left p by = off_entry s.far q p f (off_mine p by) ∙ by

  -- a word of bits that lies in a span which is not the actor's
  other_word : (j : ℕ) (t : InSpan (view s).page j) → s.far t.p ≢ By a → (p : ℕ) (h : SpanHead) → s.far p ≡ By a → page_of ((view s).page p) ≡ Head (in_sweep h) → (i : ℕ) → i < bit_words h → j ≢ 16 * p + i
  other_word j t ne p h by head i l same =
      let of : t.p ≡ p = one_span (view s).page g.apart j p (in_sweep h) head (omega arith) (omega arith) t in
      ne (ap s.far of ∙ by)

-- no word of the span changes
unchanged : (a p : ℕ) (h : SpanHead) (s t : Shared) → t.far p ≡ By a → t.words (Cell.Page p) ≡ s.words (Cell.Page p) → t.cut ≡ s.cut → t.clear ≡ s.clear → (view t).alloc ≡ (view s).alloc → (view t).mark ≡ (view s).mark → SpanIsLeft a p h s t
unchanged a p h s t by head cut clear alloc marks = record {
  by = by;
  head = head;
  cut = λ i l. ap (λ (f : ℕ → Bool). f (16 * p + i)) cut;
  clear = λ i l. ap (λ (f : ℕ → Bool). f (16 * p + i)) clear;
  alloc = λ i l. ap (λ (f : Row). f (16 * p + i)) alloc;
  marks = λ i l. ap (λ (f : Row). f (16 * p + i)) marks;
}

-- nor does any word of which something is said here
same_words : (e : CycleEnd) (a : ℕ) (s t : Shared) → (view t).page ≡ (view s).page → (view t).alloc ≡ (view s).alloc → (view t).mark ≡ (view s).mark → t.far ≡ s.far → t.cut ≡ s.cut → t.clear ≡ s.clear → t.due a ≡ s.due a → t.pend a ≡ s.pend a → OthersLeave e a s t
same_words e a s t page alloc mark far cut clear due pend = record {
  mine = λ p h by head. unchanged a p h s t (ap (λ (f : ℕ → Far). f p) far ∙ by) (ap (λ (f : Row). f p) page) cut clear alloc mark;
  back = λ p is. sym (ap (λ (f : ℕ → Far). f p) far) ∙ is;
  done = λ p is. ap (λ (f : ℕ → Far). f p) far ∙ is;
  heads = λ p number n. inl (ap (λ (f : Row). f p) page);
  due = due;
  pend = pend;
}

module _ (k : Known) (e : CycleEnd) (ended : HasEnded e) (a b : ℕ) (s : Shared) (ne : a ≢ b) (g : Good e (view s)) where
  abbrev gen : ℕ
  gen = generation_of e

  others_by : By b ≢ By a
  others_by is = ne (sym (same_by b a is))

  other_due : (d : _) → update s.due b d a ≡ s.due a
  other_due d = off_entry s.due b a d (λ same. ne (sym same))

  other_pend : (n : ℕ) → with_word s.pend b n a ≡ s.pend a
  other_pend n = off_entry s.pend b a n (λ same. ne (sym same))

  has_not : (j : SpanHead) → FitsHead j → (n : ℕ) → n ≡ j.number → (number : ℕ) → number < n → HasNotNumber number (head_word j)
  has_not j fits n is number less = not_numbered k.packed j number fits (λ same. absurd (omega arith))

  -- a page word and how far its span is
  page_and_far : (q word : ℕ) (f : Far) → s.far q ≢ By a → f ≢ By a → (s.far q ≡ Done → f ≡ Done) → ((number : ℕ) → number + 2 ≡ gen → HasNotNumber number word) → OthersLeave e a s (record s { words = (moved b s (Turns q word)).words; far = update s.far q f })
  page_and_far q word f mine then done gone = record {
    mine = λ p h by head. record { by = far_left e a s g q word f mine then done gone p by; head = page_left e a s g q word f mine then done gone p by; cut = λ i l. refl; clear = λ i l. refl; alloc = λ i l. refl; marks = λ i l. refl };
    back = back_then e a s g q word f mine then done gone;
    done = done_there e a s g q word f mine then done gone;
    heads = heads_then e a s g q word f mine then done gone;
    due = refl;
    pend = refl;
  }

  -- a page word alone, of a swept span or of none
  page_alone : (q word : ℕ) (slot : Row) → s.far q ≡ Done → ((number : ℕ) → number + 2 ≡ gen → HasNotNumber number word) → OthersLeave e a s (record s { words = (moved b s (Turns q word)).words; slot = slot })
  page_alone q word slot is gone = record {
    mine = λ p h by head. record { by = by; head = page_left e a s g q word Done not_mine done_by (λ x. refl) gone p by; cut = λ i l. refl; clear = λ i l. refl; alloc = λ i l. refl; marks = λ i l. refl };
    back = λ p x. x;
    done = λ p x. x;
    heads = heads_then e a s g q word Done not_mine done_by (λ x. refl) gone;
    due = refl;
    pend = refl;
  } where
    not_mine : s.far q ≢ By a
    not_mine by = by_done a (sym by ∙ is)

    done_by : Done ≢ By a
    done_by x = by_done a (sym x)

  starts_leaves : (p : ℕ) (h : SpanHead) → May e b s (Starts p h) → OthersLeave e a s (moved b s (Starts p h))
  starts_leaves p h may = page_and_far p (head_word (in_sweep h)) (By b) (λ by. unswept_by a (sym fresh ∙ by)) others_by (λ is. absurd (unswept_done (sym fresh ∙ is)))
      (λ number n. has_not (in_sweep h) (fits_then k e ended (view s) g b p h may.0 may.1) (h.number + 1) refl number (let m = may.1 in omega arith)) where
        fresh : s.far p ≡ Unswept
        fresh = fresh_before k e ended (view s) g b p h may.0 may.1

  cuts_leaves : (p : ℕ) (h : SpanHead) (i : ℕ) → May e b s (Cuts p h i) → OthersLeave e a s (moved b s (Cuts p h i))
  cuts_leaves p h i may = record {
    mine = λ q j by head. record { by = by; head = refl; cut = λ x l. off_entry s.cut (16 * p + i) (16 * q + x) true (off q j by head x l); clear = λ x l. refl; alloc = λ x l. off_entry (view s).alloc (16 * p + i) (16 * q + x) _ (off q j by head x l); marks = λ x l. refl };
    back = λ q x. x;
    done = λ q x. x;
    heads = λ q number n. inl refl;
    due = other_due _;
    pend = refl;
  } where
    span : InSpan (view s).page (16 * p + i)
    span = let l = may.2 in record { p = p; h = in_sweep h; head = may.1.head; from = omega arith; below = omega arith }

    off : (q : ℕ) (j : SpanHead) → s.far q ≡ By a → page_of ((view s).page q) ≡ Head (in_sweep j) → (x : ℕ) → x < bit_words j → 16 * p + i ≢ 16 * q + x
    off q j by head x l = other_word e a s g (16 * p + i) span (λ is. others_by (sym may.1.by ∙ is)) q j by head x l

  clears_leaves : (p : ℕ) (h : SpanHead) (i : ℕ) → May e b s (Clears p h i) → OthersLeave e a s (moved b s (Clears p h i))
  clears_leaves p h i may = record {
    mine = λ q j by head. record { by = by; head = refl; cut = λ x l. refl; clear = λ x l. off_entry s.clear (16 * p + i) (16 * q + x) true (off q j by head x l); alloc = λ x l. refl; marks = λ x l. off_entry (view s).mark (16 * p + i) (16 * q + x) 0 (off q j by head x l) };
    back = λ q x. x;
    done = λ q x. x;
    heads = λ q number n. inl refl;
    due = refl;
    pend = refl;
  } where
    span : InSpan (view s).page (16 * p + i)
    span = let l = may.1 in record { p = p; h = in_sweep h; head = may.0.head; from = omega arith; below = omega arith }

    off : (q : ℕ) (j : SpanHead) → s.far q ≡ By a → page_of ((view s).page q) ≡ Head (in_sweep j) → (x : ℕ) → x < bit_words j → 16 * p + i ≢ 16 * q + x
    off q j by head x l = other_word e a s g (16 * p + i) span (λ is. others_by (sym may.0.by ∙ is)) q j by head x l

  ends_leaves : (p : ℕ) (h : SpanHead) → May e b s (Ends p h) → OthersLeave e a s (moved b s (Ends p h))
  ends_leaves p h may = page_and_far p (head_word (once_swept h)) Done (λ by. others_by (sym may.0.by ∙ by)) (λ x. by_done a (sym x)) (λ x. refl)
      (λ number n. has_not (once_swept h) (fits_swept k e ended (view s) g b p h may.0.by may.0.head may.0.are_clear may.1) (h.number + 2) refl number (let m = (number_in k e ended (view s) g b p h may.0.by may.0.head may.0.are_clear may.1).0 in omega arith))

  passes_leaves : (p : ℕ) (h : SpanHead) (owner : ℕ) → May e b s (Passes p h owner) → OthersLeave e a s (moved b s (Passes p h owner))
  passes_leaves p h owner may = page_alone p (head_word (owned_by owner h)) s.slot (is_done k e ended (view s) g p h owner may.0 may.1)
      (λ number n. has_not (owned_by owner h) (fits_owned k e ended (view s) g p h owner may.0 may.1) h.number refl number (let m = may.0.number in omega arith))

  lays_leaves : (p : ℕ) (h : SpanHead) → May e b s (Lays p h) → OthersLeave e a s (moved b s (Lays p h))
  lays_leaves p h may = page_alone p (head_word h) (moved b s (Lays p h)).slot (lay.done_there k e (view s) g p h may) (λ number n. has_not h may.fits h.number refl number (let m = may.number in omega arith))

  no_head : (number : ℕ) → HasNotNumber number 0
  no_head number h e = absurd (cc)

  places_leaves : (x : ℕ) → May e b s (Places x) → OthersLeave e a s (moved b s (Places x))
  places_leaves x may = record {
    mine = λ q j by head. record { by = by; head = refl; cut = λ i l. refl; clear = λ i l. refl; alloc = λ i l. off_entry (view s).alloc (x / 64) (16 * q + i) _ (other_word e a s g (x / 64) may.1.span not_mine q j by head i l); marks = λ i l. refl };
    back = λ q x. x;
    done = λ q x. x;
    heads = λ q number n. inl refl;
    due = refl;
    pend = other_pend _;
  } where
    not_mine : s.far may.1.span.p ≢ By a
    not_mine by = by_done a (sym by ∙ far_done gen (view s).page s.far g.numbers may.1.span.p may.1.span.h may.1.span.head may.1.swept)

pub leaves : Known → EachMoveLeaves
leaves k e a b s (Quiet step) ne ended g may =
    let same = quiet_view s step may in
    same_words e a s (moved b s (Quiet step)) (ap (λ (v : View). v.page) same) (ap (λ (v : View). v.alloc) same) (ap (λ (v : View). v.mark) same) refl refl refl refl refl
leaves k e a b s (Starts p h) ne ended g may = starts_leaves k e ended a b s ne g p h may
leaves k e a b s (Cuts p h i) ne ended g may = cuts_leaves k e ended a b s ne g p h i may
leaves k e a b s (Clears p h i) ne ended g may = clears_leaves k e ended a b s ne g p h i may
leaves k e a b s TellsTally ne ended g may = same_words e a s (moved b s TellsTally) refl refl refl refl refl refl (other_due k e ended a b s ne g _) refl
leaves k e a b s TellsLive ne ended g may = same_words e a s (moved b s TellsLive) refl refl refl refl refl refl (other_due k e ended a b s ne g _) refl
leaves k e a b s TellsHeap ne ended g may = same_words e a s (moved b s TellsHeap) refl refl refl refl refl refl (other_due k e ended a b s ne g _) refl
leaves k e a b s (Ends p h) ne ended g may = ends_leaves k e ended a b s ne g p h may
leaves k e a b s (Passes p h owner) ne ended g may = passes_leaves k e ended a b s ne g p h owner may
leaves k e a b s (Lays p h) ne ended g may = lays_leaves k e ended a b s ne g p h may
leaves k e a b s (Frees p h) ne ended g may = page_alone k e ended a b s ne g p 0 s.slot (far_done (generation_of e) (view s).page s.far g.numbers p h may.0.head may.0.number) (λ number n. no_head k e ended a b s ne g number)
leaves k e a b s (Turns p word) ne ended g may = page_alone k e ended a b s ne g p word s.slot (no_head_done (generation_of e) (view s).page s.far g.numbers p may.0) (λ number n h is. absurd (may.1 h is))
leaves k e a b s (Places x) ne ended g may = places_leaves k e ended a b s ne g x may
leaves k e a b s Counts ne ended g may = same_words e a s (moved b s Counts) refl refl refl refl refl refl refl (other_pend k e ended a b s ne g _)

-- What is swept stays so, whoever moves.

starts_elsewhere : (e : CycleEnd) (a : ℕ) (s : Shared) (q : ℕ) (h : SpanHead) (p : ℕ) → Good e (view s) → May e a s (Starts q h) → s.far p ≡ Done → update s.far q (By a) p ≡ Done
starts_elsewhere e a s q h p g may is = elim (eqb_tells q p) [
  | inl y ↦ absurd (unswept_done (sym (far_unswept (generation_of e) (view s).page s.far g.numbers q h may.0 may.1) ∙ (ap s.far y.1 ∙ is)))
  | inr n ↦ off_entry s.far q p (By a) n.1 ∙ is
]

ends_there : (s : Shared) (q p : ℕ) → s.far p ≡ Done → update s.far q Done p ≡ Done
ends_there s q p is = elim (eqb_tells q p) [ inl y ↦ rw (y.0) refl | inr n ↦ rw (n.0) is ]

pub done_stays : DoneStays
done_stays e a s (Starts q h) p g may is = starts_elsewhere e a s q h p g may is
done_stays e a s (Ends q h) p g may is = ends_there s q p is
done_stays e a s _ p g may is = is
