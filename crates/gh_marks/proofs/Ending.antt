-- The end of marking: what the coordinator finds, and that what is dead is white.
use Rattle.std.proofs.Common.{◌≡◌, ℕ, zero, suc, ◌+◌, ◌%◌, ◌<◌, ◌≤◌, Bool, true, false, arith, refl, sym, ◌∙◌, ap, inl, inr, Some, None}
use Rattle.gh_marks.proofs.Vocabulary.{alloc_words, bit, Black, buffer_of, Buffered, Cell, Claimed, ClaimOf, Colour, Cycle, EachMoveLeavesTheDead, ENTRIES, eqb_tells, Good, holder_in, IsFoundAtTheEnd, IsGrey, mark_words, May, Move, moved, nat_tests, NoClaim, Pending, Place, Placing, Progress, Quiet, Read, ReadOf, row_bit, RowsAreWritten, Scanned, seats_among, seats_of, Shared, Taken, TheCursorIsSmall, TheDeadAreWhite, Untouched, WhatIsFoundIsDone, White}
use Rattle.gh_marks.proofs.Bits.{alloc-other}
use Rattle.gh_marks.proofs.Quiet.{ReadRows, Unread, unread}

nobody : {P : Type 0} (o : ℕ) → None ≡ Some o → P
nobody o e = cc

no-claim : {P : Type 0} (i : ℕ) → NoClaim ≡ ClaimOf i → P
no-claim i e = cc

no-read : {P : Type 0} (i v : ℕ) → NoClaim ≡ ReadOf i v → P
no-read i v e = cc

-- Nobody has anything, and no buffer has an entry: so nothing is grey, and no global waits.
module _ (z : Cycle) (s : Shared) (g : Good z s) (f : IsFoundAtTheEnd z s) where
  -- who holds a buffer would have it in hand
  nobody-holds : (b : ℕ) → holder_in (s.words (Cell.Buffer b)) ≡ 0
  nobody-holds b = go (holder_in (s.words (Cell.Buffer b))) refl where
    go : (n : ℕ) → holder_in (s.words (Cell.Buffer b)) ≡ n → n ≡ 0
    go zero e = refl
    go (suc a) e = absurd (((f.seats a).holds.only b).0 (omega (arith, e)))

  empty : (b : ℕ) → s.filled b ≡ 0
  empty b =
      let free : holder_in (s.words (Cell.Buffer b)) ≡ 0 = nobody-holds b in
      let is : s.words (Cell.Buffer b) ≡ s.filled b = g.counts.free b free in
      let few : s.filled b ≤ ENTRIES = g.counts.few b in
      let none : (buffer_of (s.words (Cell.Buffer b))).count ≡ 0 = f.empty b free in
      let word : s.words (Cell.Buffer b) % 256 ≡ s.words (Cell.Buffer b) = omega (arith, is, few) in
      let count : (buffer_of (s.words (Cell.Buffer b))).count ≡ s.words (Cell.Buffer b) = grind (arith, nat_tests, word, is, few) in
      sym is ∙ sym count ∙ none

  no-grey : (o : ℕ) → IsGrey (s.colour o) → ⊥
  no-grey o = go (s.colour o) refl where
    go : (c : Colour) → s.colour o ≡ c → IsGrey c → ⊥
    go White e x = x
    go (Placing a) e x = x
    go (Pending a) e x = nobody o (((f.seats a).has.is_pending o).1 e)
    go (Buffered b j) e x = omega (arith, (g.entries.buffered o b j e).0, empty b)
    go (Taken a) e x = nobody o (((f.seats a).has.is_taken o).1 e)
    go Black e x = x

  all-scanned : (i : ℕ) → i < z.arena.layout.globals → s.progress i ≡ Scanned
  all-scanned i l = go (s.progress i) refl where
    go : (c : Progress) → s.progress i ≡ c → s.progress i ≡ Scanned
    go Untouched e = absurd (omega (arith, g.cursor.untouched i l e, f.cursor))
    go (Claimed a) e = no-claim i (((f.seats a).has.is_claimed i).1 e)
    go (Read a v) e = no-read i v (((f.seats a).has.is_read i v).1 e)
    go Scanned e = e

pub found-done : WhatIsFoundIsDone
found-done z s g f = record {
  no_grey = no-grey z s g f;
  globals = all-scanned z s g f;
  stacks = λ h l. elim (g.stacks.most h) [ inr end ↦ inr end | inl most ↦ inl (omega (arith, most, f.stacks h l)) ];
}

-- What is dead is not of the cycle, and nothing else is shaded.
pub dead-white : TheDeadAreWhite
dead-white z s g o h = go (s.colour o) refl where
  go : (c : Colour) → s.colour o ≡ c → row_bit (mark_words s.words) o ≡ 0
  go c e = grind arith

-- What is placed stays so, and is no more known or of the cycle than before: an object is made in an empty slot.
module _ (k : RowsAreWritten) (z : Cycle) (a : ℕ) (s : Shared) (g : Good z s) (o : ℕ) (placed : row_bit (alloc_words s.words) o ≡ 1) where
  record StaysPlaced (t : Shared) : Type 0 where
    stands : row_bit (alloc_words t.words) o ≡ 1
    since : t.since o ≡ s.since o
    known : t.known o ≡ s.known o

  placed-place : (p size : ℕ) (pointer : ℕ → Bool) (noscan : Bool) (f d : ℕ) → May z a s (Place p size pointer noscan f d) → StaysPlaced (moved z a s (Place p size pointer noscan f d))
  placed-place p size pointer noscan f d may = elim (eqb_tells p o) [
    | inl y ↦ absurd (g.objects.placing p a may.reserved (rw (y.1) placed))
    | inr n ↦ record { stands = alloc-other k s.words p o n.1 ∙ placed; since = rw (n.0) refl; known = rw (n.0) refl }
  ]

  placed-quiet : (step : _) → May z a s (Quiet step) → StaysPlaced (moved z a s (Quiet step))
  placed-quiet step may = let u : Unread s (moved z a s (Quiet step)).words = unread s step may in
      record { stands = ap (λ (r : ReadRows). row_bit r.alloc o) u.rows_are ∙ placed; since = refl; known = refl }

  stays-placed : (m : Move) → May z a s m → StaysPlaced (moved z a s m)
  stays-placed (Quiet step) may = placed-quiet step may
  stays-placed (Place p size pointer noscan f d) may = placed-place p size pointer noscan f d may
  stays-placed _ may = record { stands = placed; since = refl; known = refl }

pub each-move-leaves-the-dead : RowsAreWritten → EachMoveLeavesTheDead
each-move-leaves-the-dead k z a s m g may o = (
  (λ h. let x = stays-placed k z a s g o h.placed m may in record { placed = x.stands; dead = x.since ∙ h.dead }),
  (λ h. let x = stays-placed k z a s g o h.placed m may in record { placed = x.stands; unknown = x.known ∙ h.unknown }),
)

-- The cursor is at most as many behind the last global as there are seats.
count-few : (passed : ℕ → Bool) (n : ℕ) → seats_among passed n ≤ n
count-few passed zero = omega arith
count-few passed (suc n) = by (passed n) (count-few passed n) where
  by : (b : Bool) → seats_among passed n ≤ n → seats_among passed n + bit b ≤ suc n
  by true h = omega arith
  by false h = omega arith

pub cursor-small : TheCursorIsSmall
cursor-small z s g =
    let l = z.arena.layout.limits in
    omega (arith, g.passes.few, count-few s.passed (seats_of z.arena.layout), l.globals_fit.1, l.procs_fit.1, l.workers_fit.1)
