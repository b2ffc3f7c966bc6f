-- The begin of marking and its end.
use Rattle.std.specs.Prelude.{◌≡◌, ℕ, ◌+◌, ◌*◌, ◌<◌, ◌≤◌, ◌⊎◌, true, false}
use Rattle.gh_marks.specs.Vocabulary.{alloc_words, buffer_of, Cell, END, holder_in, mark_words, REGISTERS, row_bit}
use Rattle.gh_marks.specs.Colours.{Cycle, HasMark, IsGrey, IsPointer, IsSince, Scanned, seen_field, seen_global, Shared, Untouched, White}
use Rattle.gh_marks.specs.Seats.{Hands, nothing}

-- As marking is switched on: nothing is marked, in a buffer or scanned. What is known lies in the heap, is placed, and is closed under what it names, and so are the objects of the cycle among them, with what globals and registers name.
pub record Opens (z : Cycle) (s : Shared) : Type 0 where
  pub marks : (o : ℕ) → row_bit (mark_words s.words) o ≡ 0
  pub white : (o : ℕ) → s.colour o ≡ White
  pub buffers : (b : ℕ) → s.words (Cell.Buffer b) ≡ 0
  pub filled : (b : ℕ) → s.filled b ≡ 0
  pub cursor : s.words Cell.Gcur ≡ 0
  pub untouched : (i : ℕ) → s.progress i ≡ Untouched
  pub passed : (a : ℕ) → s.passed a ≡ false
  pub scanned : (g : ℕ) → (s.words (Cell.Scanned g) < z.number) ⊎ (s.words (Cell.Scanned g) ≡ END)
  pub over : (g d : ℕ) → s.words (Cell.Scanned g) ≡ END → s.registers g d ≡ 0
  pub below : (o : ℕ) → s.known o ≡ true → o < 1024 * z.arena.layout.pages
  pub sizes : (o : ℕ) → s.known o ≡ true → s.extents.size o ≤ 1024 * z.arena.layout.pages
  pub placed : (o : ℕ) → s.known o ≡ true → row_bit (alloc_words s.words) o ≡ 1
  pub bases : (o : ℕ) → s.known o ≡ true → s.extents.base o ≡ o
  pub of_cycle : (o : ℕ) → s.since o ≡ true → s.known o ≡ true
  pub known_fields : (o k : ℕ) → s.known o ≡ true → IsPointer s.extents o k → IsSince s.known (seen_field s (o + k))
  pub fields : (o k : ℕ) → s.since o ≡ true → IsPointer s.extents o k → IsSince s.since (seen_field s (o + k))
  pub globals : (i : ℕ) → IsSince s.since (seen_global s i)
  pub registers : (g d : ℕ) → IsSince s.since (s.registers g d)

-- What the coordinator finds at the end of marking, while each seat has acknowledged a stop, with nothing in hand: no buffer that nobody holds has an entry, the cursor is past the last global, and no stack's word is that of a cycle before. The seats gave their buffers back before they acknowledged, so it has to look after that: an entry that a seat still held would be seen by nobody.
pub record IsFoundAtTheEnd (z : Cycle) (s : Shared) : Type 0 where
  pub seats : (a : ℕ) → Hands a s nothing
  pub empty : (b : ℕ) → holder_in (s.words (Cell.Buffer b)) ≡ 0 → (buffer_of (s.words (Cell.Buffer b))).count ≡ 0
  pub cursor : z.arena.layout.globals ≤ s.words Cell.Gcur
  pub stacks : (g : ℕ) → g < z.arena.layout.goroutines → z.number ≤ s.words (Cell.Scanned g)

-- nothing is left to be marked
pub record IsDone (z : Cycle) (s : Shared) : Type 0 where
  pub no_grey : (o : ℕ) → IsGrey (s.colour o) → ⊥
  pub globals : (i : ℕ) → i < z.arena.layout.globals → s.progress i ≡ Scanned
  pub stacks : (g : ℕ) → g < z.arena.layout.goroutines → (s.words (Cell.Scanned g) ≡ z.number) ⊎ (s.words (Cell.Scanned g) ≡ END)

-- a path of pointer fields leads to the object from a global or from a register
pub data Reached (z : Cycle) (s : Shared) : ℕ → Type 0 where
  from_global : (i o : ℕ) → i < z.arena.layout.globals → seen_global s i ≡ o + 1 → Reached z s o
  from_register : (g d o : ℕ) → g < z.arena.layout.goroutines → d < REGISTERS → s.registers g d ≡ o + 1 → Reached z s o
  from_field : (p k o : ℕ) → Reached z s p → IsPointer s.extents p k → seen_field s (p + k) ≡ o + 1 → Reached z s o

abbrev pub EachReachedIsMarked : Cycle → Shared → Type 0
EachReachedIsMarked z s = (o : ℕ) → Reached z s o → HasMark (mark_words s.words) o
