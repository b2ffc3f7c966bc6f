-- The moves by which an actor changes the shared state, when it may make them, and what they leave to the others.
use Rattle.std.specs.Prelude.{◌≡◌, ◌≢◌, ℕ, ◌+◌, ◌*◌, ◌/◌, ◌%◌, ◌^◌, ◌<◌, ◌≤◌, true, false, ◌==◌, if◌then◌else◌, bit_and, bit_or, length, Option, Some, None, ◌⊎◌}
use Rattle.std.specs.Int.{bit_at}
use Rattle.gh_heap.specs.Vocabulary.{Ask, birth_word, bit, body_word, Cell, Ever, EverValue, field_count, FitsHead, Head, head_word, is_pointer, Large, MOST_STATEMENTS, Name, names, next_name, page_of, put, Reach, REGISTERS, Row, row_bit, same_name, shape_at, size_class_of, SpanHead, with_end, with_field, with_global, with_object, with_register, Words}
use Rattle.gh_base.specs.Steps.{cell_of, effect}
use Rattle.gh_heap.specs.Objects.{Holds, IsMade, Place, points, size_for}
use Rattle.gh_heap.specs.Rights.{Arena, Shared, View, view, Claims, IsOf}
use Rattle.gh_heap.specs.Spans.{slot_count, slot_size, BeingFreed, body_at, FitsClass, Freeing, IsEmpty, IsFull, IsSpan, LaidOut, Laying, numbered_by, owned_by}

-- A change of the shared state by one step, words and ghosts together.
pub data Move : Type 0 where
  -- a step that changes no word that a right guards
  Quiet : (step : Ask) → Move
  -- such a step, by which register d of goroutine g takes a value in the heap that never frees, or the goroutine ends there
  Takes : (step : Ask) → (g d : ℕ) → (value : EverValue) → Move
  Ends : (step : Ask) → (g : ℕ) → Move
  TakeLock : Move
  LeaveLock : Move
  -- the lock is left with nothing found: register d of goroutine g is nil
  Refuse : (g d : ℕ) → Move
  -- a further page of a span is written, and last its head
  LayBody : (y : Laying) → Move
  LayHead : (y : Laying) → Move
  -- a further page of a span is freed, and last its first
  FreeBody : (y : Freeing) → Move
  FreeHead : (y : Freeing) → Move
  -- a span that nobody owns is taken, one is given back, and that of a large object is
  Own : (p : ℕ) → (h : SpanHead) → Move
  Disown : (p : ℕ) → (h : SpanHead) → Move
  Publish : (p : ℕ) → (h : SpanHead) → Move
  -- field k of a claimed slot is cleared, its birth word is written, and its bits in one word of the bitmap are
  ClearField : (at size k : ℕ) → Move
  SetBirth : (at size : ℕ) → (n : Name) → Move
  SetBits : (at size i word : ℕ) → Move
  -- the object of type t is made in a claimed slot, and register d of goroutine g names it
  Make : (at g d t : ℕ) → Move
  -- field k of an object, or a global, takes a value
  Write : (n : Name) → (k : ℕ) → (value : EverValue) → (word : ℕ) → Move
  WriteGlobal : (k : ℕ) → (value : EverValue) → (word : ℕ) → Move

-- What a sweep changes of this, whoever sweeps: a span that is not swept takes another number, and the alloc bits of a word of such a span are cut to these. It needs no right here: who sweeps a span is said elsewhere.
pub data Sweep : Type 0 where
  Renumber : (p : ℕ) → (h : SpanHead) → (number : ℕ) → Sweep
  Thin : (i marks : ℕ) → Sweep

-- Rows that no right guards.
abbrev pub IsAside : Cell → Type 0
IsAside Cell.Lock = ⊥
IsAside Cell.Gen = ⊥
IsAside (Cell.Page i) = ⊥
IsAside (Cell.Alloc i) = ⊥
IsAside (Cell.Bitmap i) = ⊥
IsAside (Cell.Birth i) = ⊥
IsAside (Cell.Field i) = ⊥
IsAside (Cell.Global i) = ⊥
IsAside _ = Unit {0}

abbrev pub IsQuiet : Ask → Type 0
IsQuiet (Ask.Load c) = Unit {0}
IsQuiet step = IsAside (cell_of step)

-- a row with one entry changed
abbrev pub update : {A : Type 0} → (ℕ → A) → ℕ → A → ℕ → A
update f i x j = if i == j then x else f j

abbrev pub update_at : {A : Type 0} → (ℕ → ℕ → A) → (i j : ℕ) → A → ℕ → ℕ → A
update_at f i j x k m = if i == k then (if j == m then x else f k m) else f k m

-- the name's object is placed there
abbrev pub placed_at : Place → Name → (at : ℕ) → Place
placed_at place n at m = if same_name m n then at else place m

-- what is being laid out before the page at this distance is written: nothing, before the first
abbrev pub laid_so_far : Laying → Option Laying
laid_so_far y = if y.next == 1 then None else Some y

-- and what is being freed, likewise
abbrev pub freed_yet : Freeing → Option Freeing
freed_yet y = if y.next == 1 then None else Some y

abbrev pub moved : Arena → (a : ℕ) → Shared → Move → Shared
moved z a s (Quiet step) = record s { words = effect s.words step }
moved z a s (Takes step g d value) = record s { words = effect s.words step; ever = with_register s.ever g d value }
moved z a s (Ends step g) = record s { words = effect s.words step; ever = with_end s.ever g }
moved z a s TakeLock = record s { words = put s.words Cell.Lock (a + 1); locked = update s.locked a true }
moved z a s LeaveLock = record s { words = put s.words Cell.Lock 0; locked = update s.locked a false }
moved z a s (Refuse g d) = record s { words = put s.words Cell.Lock 0; locked = update s.locked a false; ever = with_register s.ever g d EverValue.Nil }
moved z a s (LayBody y) = record s { words = put s.words (Cell.Page (y.first + y.next)) (body_word (body_at y.head y.next)); laying = update s.laying a (Some (record y { next = y.next + 1 })) }
moved z a s (LayHead y) = record s { words = put s.words (Cell.Page y.first) (head_word y.head); laying = update s.laying a None; holds = update_at s.holds a y.first true }
moved z a s (FreeBody y) = record s { words = put s.words (Cell.Page (y.first + y.next)) 0; freeing = update s.freeing a (Some (record y { next = y.next + 1 })) }
moved z a s (FreeHead y) = record s { words = put s.words (Cell.Page y.first) 0; freeing = update s.freeing a None }
moved z a s (Own p h) = record s { words = put s.words (Cell.Page p) (head_word (owned_by (a + 1) h)); holds = update_at s.holds a p true }
moved z a s (Disown p h) = record s { words = put s.words (Cell.Page p) (head_word (owned_by 0 h)); holds = update_at s.holds a p false }
moved z a s (Publish p h) = record s { words = put s.words (Cell.Page p) (head_word (owned_by 0 h)); holds = update_at s.holds a p false }
moved z a s (ClearField at size k) = record s { words = put s.words (Cell.Field (at + k)) 0 }
moved z a s (SetBirth at size n) = record s { words = put s.words (Cell.Birth at) (birth_word n) }
moved z a s (SetBits at size i word) = record s { words = put s.words (Cell.Bitmap i) word }
moved z a s (Make at g d t) = record s {
  words = put s.words (Cell.Alloc (at / 64)) (bit_or (s.words (Cell.Alloc (at / 64))) (2 ^ (at % 64)));
  place = placed_at s.place (next_name s.ever g) at;
  ever = with_register (with_object z.shapes s.ever g t) g d (EverValue.Ref (next_name s.ever g));
}
moved z a s (Write n k value word) = record s { words = put s.words (Cell.Field (s.place n + k)) word; ever = with_field s.ever n k value }
moved z a s (WriteGlobal k value word) = record s { words = put s.words (Cell.Global k) word; ever = with_global s.ever k value }

abbrev pub swept : Shared → Sweep → Shared
swept s (Renumber p h number) = record s { words = put s.words (Cell.Page p) (head_word (numbered_by number h)) }
swept s (Thin i marks) = record s { words = put s.words (Cell.Alloc i) (bit_and (s.words (Cell.Alloc i)) marks) }

-- When a seat may make the move: by its rights, and by words that these let it rely on.

-- goroutine g runs on the processor at this seat, and has not ended
pub record GoroutineRuns (z : Arena) (v : View) (a g : ℕ) : Type 0 where
  pub of : IsOf z a g
  pub goes_on : v.ever.ended g ≡ false

-- a value that a register, a field or a global may take: it names nothing, or what a script reaches
abbrev pub IsReached : Ever → EverValue → Type 0
IsReached e v = (n : Name) → names v ≡ Some n → Reach e n

-- the bits of the word that are not the slot's are as they were
abbrev pub KeepsOthers : (bitmap : Row) → (at size i word : ℕ) → Type 0
KeepsOthers bitmap at size i word = (x : ℕ) → x / 64 ≡ i → (x < at) ⊎ (at + size ≤ x) → bit_at word (x % 64) ≡ row_bit bitmap x

-- the claimed slot is that of an object of the shape: its size, the class of its span, its fields, its pointer bits and its birth word
pub record IsReady (z : Arena) (v : View) (a at t : ℕ) (n : Name) : Type 0 where
  pub claim : Claims z v a at (field_count (shape_at z.shapes t))
  pub class : claim.h.class ≡ size_class_of (shape_at z.shapes t).words
  pub noscan : claim.h.noscan ≡ (shape_at z.shapes t).noscan
  pub fields : (k : ℕ) → k < field_count (shape_at z.shapes t) → v.field (at + k) ≡ 0
  pub pointers : (k : ℕ) → k < field_count (shape_at z.shapes t) → row_bit v.bitmap (at + k) ≡ bit (is_pointer (shape_at z.shapes t) k)
  pub birth : v.birth at ≡ birth_word n

pub record MayMake (z : Arena) (v : View) (a at g d t : ℕ) : Type 0 where
  pub runs : GoroutineRuns z v a g
  pub register : d < REGISTERS
  pub type : t < length z.shapes
  pub few : v.ever.made g < MOST_STATEMENTS
  pub ready : IsReady z v a at t (next_name v.ever g)

pub record MayWrite (z : Arena) (v : View) (a : ℕ) (n : Name) (k : ℕ) (value : EverValue) (word : ℕ) : Type 0 where
  pub reached : Reach v.ever n
  pub made : IsMade v.ever.made n
  pub within : k < size_for z.shapes v.ever.type_of n
  pub value_reached : IsReached v.ever value
  pub holds : Holds v.place v.ever.made (points z.shapes v.ever.type_of n k) value word

pub record MayWriteGlobal (z : Arena) (v : View) (k : ℕ) (value : EverValue) (word : ℕ) : Type 0 where
  pub within : k < z.layout.globals
  pub value_reached : IsReached v.ever value
  pub holds : Holds v.place v.ever.made true value word

pub record MayLay (z : Arena) (v : View) (a : ℕ) (y : Laying) : Type 0 where
  pub locked : v.locked a ≡ true
  pub laying : v.laying a ≡ laid_so_far y
  pub freeing : v.freeing a ≡ None
  pub laid : LaidOut z.layout.pages v.page y
  pub fits : FitsClass y.head
  pub word : FitsHead y.head
  pub owner : y.head.owner ≡ a + 1
  pub number : y.head.number ≡ v.generation

-- of a swept span that nobody owns and in which no object stands
pub record MayFree (v : View) (a : ℕ) (y : Freeing) : Type 0 where
  pub locked : v.locked a ≡ true
  pub laying : v.laying a ≡ None
  pub freeing : v.freeing a ≡ freed_yet y
  pub being : BeingFreed v.page y
  pub swept : being.h.number ≡ v.generation
  pub empty : IsEmpty v.alloc y.first y.pages

-- with the lock, laying nothing out and freeing nothing, of a page where a span begins; whose the span is each move asks for itself
pub record MayPass (v : View) (a p : ℕ) (h : SpanHead) : Type 0 where
  pub locked : v.locked a ≡ true
  pub laying : v.laying a ≡ None
  pub freeing : v.freeing a ≡ None
  pub head : page_of (v.page p) ≡ Head h

-- of a span that nobody owns and that is not swept
pub record MayRenumber (v : View) (p : ℕ) (h : SpanHead) (number : ℕ) : Type 0 where
  pub head : page_of (v.page p) ≡ Head h
  pub owner : h.owner ≡ 0
  pub waits : h.number ≢ v.generation
  pub few : number ≤ v.generation

-- of a word of its bits: the objects that a script reaches stay
pub record MayThin (z : Arena) (v : View) (i marks : ℕ) : Type 0 where
  pub p : ℕ
  pub h : SpanHead
  pub span : IsSpan z.layout.pages v.page p h
  pub from : 16 * p ≤ i
  pub below : i < 16 * (p + h.pages)
  pub waits : h.number ≢ v.generation
  pub reached : (n : Name) → Reach v.ever n → v.place n / 64 ≡ i → bit_at marks (v.place n % 64) ≡ 1

abbrev pub May : Arena → (a : ℕ) → View → Move → Type 0
May z a v (Quiet step) = IsQuiet step
May z a v (Takes step g d value) = IsQuiet step × GoroutineRuns z v a g × (d < REGISTERS) × IsReached v.ever value
May z a v (Ends step g) = IsQuiet step × GoroutineRuns z v a g
May z a v TakeLock = v.lock ≡ 0
May z a v LeaveLock = (v.locked a ≡ true) × (v.laying a ≡ None) × (v.freeing a ≡ None)
May z a v (Refuse g d) = (v.locked a ≡ true) × (v.laying a ≡ None) × (v.freeing a ≡ None) × GoroutineRuns z v a g × (d < REGISTERS)
May z a v (LayBody y) = MayLay z v a y × (y.next < y.head.pages)
May z a v (LayHead y) = MayLay z v a y × (y.next ≡ y.head.pages)
May z a v (FreeBody y) = MayFree v a y × (y.next < y.pages)
May z a v (FreeHead y) = MayFree v a y × (y.next ≡ y.pages)
May z a v (Own p h) = MayPass v a p h × (h.owner ≡ 0) × (a + 1 < 2 ^ 8) × (h.number ≡ v.generation)
May z a v (Disown p h) = MayPass v a p h × (v.holds a p ≡ true)
May z a v (Publish p h) = (v.holds a p ≡ true) × (page_of (v.page p) ≡ Head h) × (h.class ≡ Large) × IsFull v.alloc p h
May z a v (ClearField at size k) = Claims z v a at size × (k < size)
May z a v (SetBirth at size n) = Claims z v a at size
May z a v (SetBits at size i word) = Claims z v a at size × KeepsOthers v.bitmap at size i word
May z a v (Make at g d t) = MayMake z v a at g d t
May z a v (Write n k value word) = MayWrite z v a n k value word
May z a v (WriteGlobal k value word) = MayWriteGlobal z v k value word

abbrev pub MaySweep : Arena → View → Sweep → Type 0
MaySweep z v (Renumber p h number) = MayRenumber v p h number
MaySweep z v (Thin i marks) = MayThin z v i marks

-- What moves leave.

-- a large object's span, which another seat held, and which nobody owns any more
pub record Published (old new : Row) (alloc : Row) (p : ℕ) : Type 0 where
  pub h : SpanHead
  pub was : page_of (old p) ≡ Head h
  pub owned : h.owner ≢ 0
  pub large : h.class ≡ Large
  pub is : page_of (new p) ≡ Head (owned_by 0 h)
  pub full : IsFull alloc p h

-- a slot of a swept span that is taken stays so
abbrev pub KeepsTaken : (generation : ℕ) → (page old new : Row) → Type 0
KeepsTaken generation page old new = (p i : ℕ) (h : SpanHead) → page_of (page p) ≡ Head h → h.number ≡ generation → i < slot_count h → row_bit old (1024 * p + i * slot_size h) ≡ 1 → row_bit new (1024 * p + i * slot_size h) ≡ 1

-- a span that nobody owns, which was not swept, and has another number
pub record Renumbered (old new : Row) (generation p : ℕ) : Type 0 where
  pub h : SpanHead
  pub number : ℕ
  pub was : page_of (old p) ≡ Head h
  pub owner : h.owner ≡ 0
  pub waits : h.number ≢ generation
  pub is : page_of (new p) ≡ Head (numbered_by number h)

-- a swept span of a large object, in which the object stands
pub record IsGivenUp (alloc : Row) (generation p : ℕ) (h : SpanHead) : Type 0 where
  pub large : h.class ≡ Large
  pub full : IsFull alloc p h
  pub number : h.number ≡ generation

-- What a routine's own moves, short of its end, leave to who runs it: no span has come to be nobody's, save a large object's, and of swept spans no alloc bit was cleared.
pub record Leaves (v w : View) : Type 0 where
  pub generation : w.generation ≡ v.generation
  pub pages : (p : ℕ) (h : SpanHead) → page_of (w.page p) ≡ Head h → h.owner ≡ 0 → (page_of (v.page p) ≡ Head h) ⊎ (IsGivenUp w.alloc v.generation p h ⊎ Renumbered v.page w.page v.generation p)
  pub bits : KeepsTaken v.generation v.page v.alloc w.alloc

-- no object is made, and no value changes
abbrev pub KeepsObjects : (v w : View) → Type 0
KeepsObjects v w = (w.ever ≡ v.ever) × (w.place ≡ v.place)

-- What the moves of all others leave to a seat. While it has the lock, a page word changes only where another gives up the span of a large object, or sweeps one that nobody owns.
pub record Others (z : Arena) (a : ℕ) (v w : View) : Type 0 where
  pub locked : w.locked a ≡ v.locked a
  pub holds : (p : ℕ) → w.holds a p ≡ v.holds a p
  pub laying : w.laying a ≡ v.laying a
  pub freeing : w.freeing a ≡ v.freeing a
  pub generation : w.generation ≡ v.generation
  -- in a swept span no bit is cleared
  pub bits : KeepsTaken v.generation v.page v.alloc w.alloc
  pub leaves : v.locked a ≡ true → Leaves v w
  pub pages : v.locked a ≡ true → (p : ℕ) → (w.page p ≡ v.page p) ⊎ (Published v.page w.page w.alloc p ⊎ Renumbered v.page w.page v.generation p)
  -- in a span that nobody owns no object is placed
  pub clear : (p x : ℕ) (h : SpanHead) → IsSpan z.layout.pages v.page p h → h.owner ≡ 0 → 1024 * p ≤ x → x < 1024 * (p + h.pages) → row_bit v.alloc x ≡ 0 → row_bit w.alloc x ≡ 0
  -- in a span that it holds
  pub heads : (p : ℕ) (h : SpanHead) → v.holds a p ≡ true → page_of (v.page p) ≡ Head h → page_of (w.page p) ≡ Head h
  pub spans : (p : ℕ) (h : SpanHead) → v.holds a p ≡ true → IsSpan z.layout.pages v.page p h → IsSpan z.layout.pages w.page p h
  pub claims : (at size : ℕ) → Claims z v a at size → row_bit w.alloc at ≡ 0
  pub fields : (at size k : ℕ) → Claims z v a at size → k < size → w.field (at + k) ≡ v.field (at + k)
  pub pointers : (at size k : ℕ) → Claims z v a at size → k < size → row_bit w.bitmap (at + k) ≡ row_bit v.bitmap (at + k)
  pub births : (at size : ℕ) → Claims z v a at size → w.birth at ≡ v.birth at
  -- of objects, and of its own goroutines
  pub made : (n : Name) → IsMade v.ever.made n → IsMade w.ever.made n
  pub types : (n : Name) → IsMade v.ever.made n → w.ever.type_of n ≡ v.ever.type_of n
  pub places : (n : Name) → IsMade v.ever.made n → w.place n ≡ v.place n
  pub counts : (g : ℕ) → IsOf z a g → w.ever.made g ≡ v.ever.made g
  pub registers : (g d : ℕ) → IsOf z a g → w.ever.register g d ≡ v.ever.register g d
  pub ends : (g : ℕ) → IsOf z a g → w.ever.ended g ≡ v.ever.ended g

-- The step that a seat asks for is a move that it may make, and this holds then.
pub record Lands (z : Arena) (a : ℕ) (s : Shared) (words : Words) (Then : Shared → Type 0) : Type 0 where
  pub move : Move
  pub may : May z a (view s) move
  pub words_are : (moved z a s move).words ≡ words
  pub after : Then (moved z a s move)

abbrev pub Steps : Arena → (a : ℕ) → Shared → Ask → (Shared → Type 0) → Type 0
Steps z a s step Then = Lands z a s (effect s.words step) Then

-- what follows from what holds then
pub landing : (z : Arena) (a : ℕ) (s : Shared) (words : Words) (Then So : Shared → Type 0) → ((t : Shared) → Then t → So t) → Lands z a s words Then → Lands z a s words So
landing z a s words Then So f l = record { move = l.move; may = l.may; words_are = l.words_are; after = f (moved z a s l.move) l.after }
