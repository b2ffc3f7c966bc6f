-- What holds at every moment while marking is on, group by group over the rows that each reads; and that there is a picture of the state.
use Rattle.std.specs.Prelude.{◌≡◌, ◌≢◌, ℕ, zero, suc, ◌+◌, ◌<◌, ◌≤◌, ◌⊎◌, Bool, true, false}
use Rattle.gh_marks.specs.Vocabulary.{alloc_words, AreCounted, bit, Cell, END, field_words, global_words, mark_words, Row, row_bit, seats_of}
use Rattle.gh_marks.specs.Colours.{Buffered, Colour, Cycle, Extents, IsClean, IsGrey, IsPointer, IsShaded, IsSince, Placing, Progress, Read, seen_row, Shared, Untouched, buffers_as_held, entry_words, mark_of, scanned_words}
use Rattle.gh_marks.specs.Shows.{IsPictured}

-- A heap word's mark bit is set exactly where its colour is not white.
abbrev pub MarksGood : (mark : Row) → (ℕ → Colour) → Type 0
MarksGood mark colour = (o : ℕ) → row_bit mark o ≡ mark_of (colour o)

-- What is known is placed, the objects of the cycle are known, and all that is shaded is one of the cycle: so what was dead when the cycle began is never marked, and is freed after it.
pub record ObjectsGood (alloc : Row) (colour : ℕ → Colour) (known since : ℕ → Bool) (extents : Extents) : Type 0 where
  pub placed : (o : ℕ) → known o ≡ true → row_bit alloc o ≡ 1
  -- and the first word of an object lies in it
  pub bases : (o : ℕ) → known o ≡ true → extents.base o ≡ o
  pub of_cycle : (o : ℕ) → since o ≡ true → known o ≡ true
  pub shaded : (o : ℕ) → IsShaded (colour o) → since o ≡ true
  -- what is grey may have pointer fields: an object without is done with its mark
  pub grey : (o : ℕ) → IsGrey (colour o) → extents.noscan o ≡ false
  -- what is being placed has no alloc bit yet
  pub placing : (o a : ℕ) → colour o ≡ Placing a → row_bit alloc o ≢ 1

-- An entry below a buffer's count names a grey object that is nowhere else.
pub record EntriesGood (entries : ℕ → Row) (filled : Row) (colour : ℕ → Colour) : Type 0 where
  pub some : (b j : ℕ) → j < filled b → 0 < entries b j
  pub entered : (b j o : ℕ) → j < filled b → entries b j ≡ o + 1 → colour o ≡ Buffered b j
  pub buffered : (o b j : ℕ) → colour o ≡ Buffered b j → (j < filled b) × (entries b j ≡ o + 1)

-- What objects of the cycle, globals and registers name is of the cycle: so paths never leave it. And what is known names what is known.
pub record ValuesGood (extents : Extents) (field global : Row) (registers : ℕ → Row) (known since : ℕ → Bool) : Type 0 where
  pub known_fields : (o k : ℕ) → known o ≡ true → IsPointer extents o k → IsSince known (field (o + k))
  pub fields : (o k : ℕ) → since o ≡ true → IsPointer extents o k → IsSince since (field (o + k))
  pub globals : (i : ℕ) → IsSince since (global i)
  pub stacks : (g d : ℕ) → IsSince since (registers g d)

-- The cursor divides the globals: those below it are somebody's or scanned. The cursor alone does not say that a global is scanned, since who raised it reads the global with a later step.
pub record CursorGood (globals gcur : ℕ) (global : Row) (progress : ℕ → Progress) (colour : ℕ → Colour) : Type 0 where
  pub untouched : (i : ℕ) → i < globals → progress i ≡ Untouched → gcur ≤ i
  pub ahead : (i : ℕ) → i < globals → gcur ≤ i → progress i ≡ Untouched
  -- what was read there stands there still, or the word that came in its place is clean
  pub read : (i a v : ℕ) → progress i ≡ Read a v → (global i ≡ v) ⊎ IsClean colour (global i)

-- how many of the first so many seats these are
abbrev pub seats_among : (ℕ → Bool) → (seats : ℕ) → ℕ
seats_among passed zero = 0
seats_among passed (suc n) = seats_among passed n + bit (passed n)

-- A seat raises the cursor past the last global at most once in a cycle, since it looks at the cursor before: so the cursor's word never begins anew.
pub record PassesGood (globals seats gcur : ℕ) (passed : ℕ → Bool) : Type 0 where
  pub behind : (a : ℕ) → passed a ≡ true → globals < gcur
  pub few : gcur ≤ globals + seats_among passed seats

-- The stack of a goroutine that has ended holds nothing.
pub record StacksGood (number : ℕ) (scanned : Row) (registers : ℕ → Row) : Type 0 where
  pub over : (g d : ℕ) → scanned g ≡ END → registers g d ≡ 0
  -- a stack's word is that of this cycle or of one before, unless its goroutine has ended
  pub most : (g : ℕ) → (scanned g ≤ number) ⊎ (scanned g ≡ END)

pub record Good (z : Cycle) (s : Shared) : Type 0 where
  pub marks : MarksGood (mark_words s.words) s.colour
  pub objects : ObjectsGood (alloc_words s.words) s.colour s.known s.since s.extents
  pub counts : AreCounted (buffers_as_held s.words s.filled)
  pub entries : EntriesGood (entry_words s.words) s.filled s.colour
  pub values : ValuesGood s.extents (seen_row s.extents.base (field_words s.words)) (seen_row s.extents.base (global_words s.words)) s.registers s.known s.since
  pub cursor : CursorGood z.arena.layout.globals (s.words Cell.Gcur) (seen_row s.extents.base (global_words s.words)) s.progress s.colour
  pub passes : PassesGood z.arena.layout.globals (seats_of z.arena.layout) (s.words Cell.Gcur) s.passed
  pub stacks : StacksGood z.number (scanned_words s.words) s.registers
  -- There is a picture of the state that has the invariants of gh_tri, with room for as many objects more as one likes. They say what black objects, scanned globals and scanned stacks hold.
  pub pictured : (room : ℕ) → IsPictured z s room
