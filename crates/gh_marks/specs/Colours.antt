-- The shared state of marking: the words, how far marking is with each object and each global, and which objects no path leads to any more.
use Rattle.std.specs.Prelude.{◌≡◌, ◌≢◌, ℕ, ◌+◌, ◌-◌, ◌<◌, ◌^◌, ◌⊎◌, Bool, true, false, ◌==◌, if◌then◌else◌}
use Rattle.gh_marks.specs.Vocabulary.{Arena, buffer_words, Buffers, Cell, field_words, global_words, Row, row_bit, Words}

-- A cycle of marking: the heap that it is in, and its number. A stack whose word is this number is black.
pub record Cycle : Type 0 where
  pub arena : Arena
  pub number : ℕ
  pub few : number < 2 ^ 48

-- How far marking is with the object that begins at a heap word. From its mark on until its fields are scanned it is grey, and in one place; so no grey object is lost, and none is scanned twice.
pub data Colour : Type 0 where
  White : Colour
  -- its mark bit is set, and its slot is not taken yet: the seat is placing it
  Placing : (seat : ℕ) → Colour
  -- the seat has marked it, and has still to put it into a buffer
  Pending : (seat : ℕ) → Colour
  -- it is this entry of a buffer
  Buffered : (buffer at : ℕ) → Colour
  -- the seat has taken it out of a buffer, and scans it
  Taken : (seat : ℕ) → Colour
  Black : Colour

-- How far marking is with a global. A global is a root: until it is scanned, what it names may be found from nowhere else.
pub data Progress : Type 0 where
  Untouched : Progress
  -- the seat has raised the cursor past it, and has still to read it
  Claimed : (seat : ℕ) → Progress
  -- the seat has read this value there, and has still to shade it
  Read : (seat value : ℕ) → Progress
  Scanned : Progress

-- What the words of an object are: how many, and which of them are pointer fields, counted from its first; and whether its span is one of objects without such. It is said of an object when the cycle begins or when the object is placed, and is not changed then.
pub record Extents : Type 0 where
  -- of each heap word the first word of the object that it lies in
  pub base : Row
  pub size : Row
  pub pointer : ℕ → ℕ → Bool
  pub noscan : ℕ → Bool

-- What all actors share while marking is on. An object is known by the heap word at which it begins.
pub record Shared : Type 0 where
  pub words : Words
  -- what each register of a goroutine names, as 0 or 1 more than a heap word. What a load has found counts from the load on, and a goroutine that has ended has nothing.
  pub registers : ℕ → Row
  pub colour : ℕ → Colour
  -- the entries of each buffer; while a seat holds it, its word does not say them
  pub filled : Row
  pub progress : ℕ → Progress
  -- which seats have raised the cursor past the last global
  pub passed : ℕ → Bool
  -- placed when the cycle began, and reached then or such that something may bring it back; or placed since
  pub known : ℕ → Bool
  -- those of them that were reached at some moment of the cycle. Nothing brings an object back, so these are all.
  pub since : ℕ → Bool
  pub extents : Extents

-- The rows of the words that gh_base does not name.

abbrev pub entry_words : Words → ℕ → Row
entry_words words b j = words (Cell.Entry b j)

abbrev pub scanned_words : Words → Row
scanned_words words g = words (Cell.Scanned g)

-- the buffers, as gh_base speaks of who holds which
abbrev pub buffers_as_held : Words → Row → Buffers
buffers_as_held words filled = record { words = buffer_words words; entries = entry_words words; filled = filled }

-- What marking sees of a word that is 0 or 1 more than a heap word: 0, or 1 more than the first word of the object that the heap word lies in.
abbrev pub seen_word : (base : Row) → (word : ℕ) → ℕ
seen_word base word = if word == 0 then 0 else base (word - 1) + 1

abbrev pub seen_row : (base : Row) → Row → Row
seen_row base row x = seen_word base (row x)

-- what it sees of a heap word, and of a global
abbrev pub seen_field : Shared → (x : ℕ) → ℕ
seen_field s x = seen_word s.extents.base (s.words (Cell.Field x))

abbrev pub seen_global : Shared → (i : ℕ) → ℕ
seen_global s i = seen_word s.extents.base (s.words (Cell.Global i))

-- the rows that paths are made of, as they are seen
pub record Rows : Type 0 where
  pub field : Row
  pub global : Row
  pub colour : ℕ → Colour
  pub progress : ℕ → Progress
  pub extents : Extents

abbrev pub rows : Shared → Rows
rows s = record { field = seen_row s.extents.base (field_words s.words); global = seen_row s.extents.base (global_words s.words); colour = s.colour; progress = s.progress; extents = s.extents }

-- What is said of an object and of a value, which is 0 or 1 more than the first word of an object.

-- its mark bit is set
abbrev pub HasMark : (mark : Row) → (o : ℕ) → Type 0
HasMark mark o = row_bit mark o ≡ 1

-- it was met by marking
abbrev pub IsMarked : (ℕ → Colour) → (o : ℕ) → Type 0
IsMarked colour o = colour o ≢ White

-- it names no object, or a marked one
abbrev pub IsClean : (ℕ → Colour) → (value : ℕ) → Type 0
IsClean colour value = (o : ℕ) → value ≡ o + 1 → IsMarked colour o

-- it names no object, or one of the cycle
abbrev pub IsSince : (ℕ → Bool) → (value : ℕ) → Type 0
IsSince since value = (o : ℕ) → value ≡ o + 1 → since o ≡ true

-- its mark bit
abbrev pub mark_of : Colour → ℕ
mark_of White = 0
mark_of (Placing a) = 1
mark_of (Pending a) = 1
mark_of (Buffered b j) = 1
mark_of (Taken a) = 1
mark_of Black = 1

abbrev pub IsGrey : Colour → Type 0
IsGrey White = ⊥
IsGrey (Placing a) = ⊥
IsGrey (Pending a) = Unit {0}
IsGrey (Buffered b j) = Unit {0}
IsGrey (Taken a) = Unit {0}
IsGrey Black = ⊥

-- grey or black
abbrev pub IsShaded : Colour → Type 0
IsShaded White = ⊥
IsShaded (Placing a) = ⊥
IsShaded (Pending a) = Unit {0}
IsShaded (Buffered b j) = Unit {0}
IsShaded (Taken a) = Unit {0}
IsShaded Black = Unit {0}

-- the global is not scanned yet
abbrev pub GlobalWaits : Progress → Type 0
GlobalWaits Untouched = Unit {0}
GlobalWaits (Claimed a) = Unit {0}
GlobalWaits (Read a v) = Unit {0}
GlobalWaits Scanned = ⊥

-- word k of the object is a pointer field
abbrev pub IsPointer : Extents → (o k : ℕ) → Type 0
IsPointer e o k = (k < e.size o) × (e.pointer o k ≡ true) × (e.noscan o ≡ false)

-- A white object that marking will still find: a path through white objects leads to it from a field of a grey object or from a global that is not scanned. A stack that is scanned may hold such an object, though nothing will look at the stack again.
pub data Protected (globals : ℕ) (r : Rows) : ℕ → Type 0 where
  from_grey : (p k o : ℕ) → IsGrey (r.colour p) → IsPointer r.extents p k → r.field (p + k) ≡ o + 1 → r.colour o ≡ White → Protected globals r o
  from_global : (i o : ℕ) → GlobalWaits (r.progress i) → i < globals → r.global i ≡ o + 1 → r.colour o ≡ White → Protected globals r o
  from_white : (p k o : ℕ) → Protected globals r p → IsPointer r.extents p k → r.field (p + k) ≡ o + 1 → r.colour o ≡ White → Protected globals r o

-- marked or protected
abbrev pub IsGuarded : (globals : ℕ) → Rows → (o : ℕ) → Type 0
IsGuarded globals r o = IsMarked r.colour o ⊎ Protected globals r o

-- it names no object, or a guarded one
abbrev pub IsSafe : (globals : ℕ) → Rows → (value : ℕ) → Type 0
IsSafe globals r value = (o : ℕ) → value ≡ o + 1 → IsGuarded globals r o
