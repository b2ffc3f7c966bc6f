-- The shared state: the words, each actor's rights to change them, and the ghosts beside them; and what holds of it at every moment.
use Rattle.std.specs.Prelude.{◌≡◌, ◌≢◌, ℕ, ◌+◌, ◌^◌, ◌<◌, ◌≤◌, Bool, true, List, ◌↔◌, Option, Some, None}
use Rattle.gh_heap.specs.Vocabulary.{alloc_words, birth_words, bitmap_words, Cell, Ever, field_words, global_words, Head, page_of, page_words, Row, row_bit, Shape, SpanHead, Words}
use Rattle.gh_base.specs.declared.layout.Layout.{Layout}
use Rattle.gh_heap.specs.Objects.{Place, BitsGood, ReachedGood, SlotsGood, PointersGood, FieldsGood, GlobalsGood, NamesGood}
use Rattle.gh_heap.specs.Spans.{FitsIn, IsSpan, IsSlotOf, IsFull, IsInUse, IsEmpty, owner_at, Laying, LaidOut, Freeing, BeingFreed}

-- What a heap is of: where its words lie, the types of its objects, and at which seat is the processor that runs a goroutine.
pub record Arena : Type 0 where
  pub layout : Layout
  pub shapes : List Shape
  pub seat_of : ℕ → ℕ

-- The words; a row for each kind of right, by seat: who has the lock, who holds the span that begins at a page, what is being laid out, and what is being freed; where each name was placed, and the heap that never frees.
pub record Shared : Type 0 where
  pub words : Words
  pub locked : ℕ → Bool
  pub holds : ℕ → ℕ → Bool
  pub laying : ℕ → Option Laying
  pub freeing : ℕ → Option Freeing
  pub place : Place
  pub ever : Ever

-- What is said of the shared state is said of this: of the words only the rows that a right guards.
pub record View : Type 0 where
  pub lock : ℕ
  pub generation : ℕ
  pub page : Row
  pub alloc : Row
  pub bitmap : Row
  pub birth : Row
  pub field : Row
  pub global : Row
  pub locked : ℕ → Bool
  pub holds : ℕ → ℕ → Bool
  pub laying : ℕ → Option Laying
  pub freeing : ℕ → Option Freeing
  pub place : Place
  pub ever : Ever

abbrev pub view : Shared → View
view s = record {
  lock = s.words Cell.Lock;
  generation = s.words Cell.Gen;
  page = page_words s.words;
  alloc = alloc_words s.words;
  bitmap = bitmap_words s.words;
  birth = birth_words s.words;
  field = field_words s.words;
  global = global_words s.words;
  locked = s.locked;
  holds = s.holds;
  laying = s.laying;
  freeing = s.freeing;
  place = s.place;
  ever = s.ever;
}

-- the rights of one seat: whether it has the lock, which spans it holds, what it lays out, and what it frees
pub record Rights (a : ℕ) (v : View) (l : Bool) (h : ℕ → Bool) (y : Option Laying) (f : Option Freeing) : Type 0 where
  pub locked : v.locked a ≡ l
  pub holds : (p : ℕ) → v.holds a p ≡ h p
  pub laying : v.laying a ≡ y
  pub freeing : v.freeing a ≡ f

-- of one that frees nothing
abbrev pub Right : (a : ℕ) → View → Bool → (ℕ → Bool) → Option Laying → Type 0
Right a v l h y = Rights a v l h y None

-- The groups of what holds at every moment, each over the rows that it reads. A tie of a right to a word goes both ways, so that nothing has to be counted; that of a span that is being laid out or freed goes one way, since its pages do not tell who is at it.

-- the lock's word names the seat that has the lock
abbrev pub LockGood : (lock : ℕ) → (ℕ → Bool) → Type 0
LockGood lock locked = (a : ℕ) → (lock ≡ a + 1) ↔ (locked a ≡ true)

-- each head fits where it stands
abbrev pub SpansGood : (pages : ℕ) → (page : Row) → Type 0
SpansGood pages page = (p : ℕ) (h : SpanHead) → page_of (page p) ≡ Head h → FitsIn pages p h

-- nobody frees the span that begins there
abbrev pub IsKept : (ℕ → Option Freeing) → (p : ℕ) → Type 0
IsKept freeing p = (a : ℕ) (y : Freeing) → freeing a ≡ Some y → y.first ≢ p

-- and then it is that of a whole span
abbrev pub WholeGood : (pages : ℕ) → (page : Row) → (ℕ → Option Freeing) → Type 0
WholeGood pages page freeing = (p : ℕ) (h : SpanHead) → page_of (page p) ≡ Head h → IsKept freeing p → IsSpan pages page p h

-- A span whose number is not that of the sweep generation is not swept: nobody owns it, and nobody frees it.
pub record IsNumbered (generation : ℕ) (freeing : ℕ → Option Freeing) (p : ℕ) (h : SpanHead) : Type 0 where
  pub few : h.number ≤ generation
  pub owned : h.owner ≢ 0 → h.number ≡ generation
  pub freed : (a : ℕ) (y : Freeing) → freeing a ≡ Some y → y.first ≡ p → h.number ≡ generation

abbrev pub NumbersGood : (page : Row) → (generation : ℕ) → (ℕ → Option Freeing) → Type 0
NumbersGood page generation freeing = (p : ℕ) (h : SpanHead) → page_of (page p) ≡ Head h → IsNumbered generation freeing p h

-- a head names the seat that holds its span
abbrev pub OwnersGood : (page : Row) → (ℕ → ℕ → Bool) → Type 0
OwnersGood page holds = (a p : ℕ) → (owner_at page p ≡ a + 1) ↔ (holds a p ≡ true)

-- who lays a span out has the lock
pub record Lays (pages : ℕ) (page : Row) (locked : ℕ → Bool) (a : ℕ) (y : Laying) : Type 0 where
  pub by_holder : locked a ≡ true
  pub laid : LaidOut pages page y

abbrev pub LayingGood : (pages : ℕ) → (page : Row) → (ℕ → Bool) → (ℕ → Option Laying) → Type 0
LayingGood pages page locked laying = (a : ℕ) (y : Laying) → laying a ≡ Some y → Lays pages page locked a y

-- who frees the pages of a span has the lock, and no object stands there
pub record Frees (page alloc : Row) (locked : ℕ → Bool) (a : ℕ) (y : Freeing) : Type 0 where
  pub by_holder : locked a ≡ true
  pub being : BeingFreed page y
  pub empty : IsEmpty alloc y.first y.pages

abbrev pub FreeingGood : (page alloc : Row) → (ℕ → Bool) → (ℕ → Option Freeing) → Type 0
FreeingGood page alloc locked freeing = (a : ℕ) (y : Freeing) → freeing a ≡ Some y → Frees page alloc locked a y

-- an alloc word is one of 64 bits
abbrev pub WordsGood : (alloc : Row) → Type 0
WordsGood alloc = (i : ℕ) → alloc i < 2 ^ 64

pub record Good (z : Arena) (v : View) : Type 0 where
  pub lock : LockGood v.lock v.locked
  pub spans : SpansGood z.layout.pages v.page
  pub whole : WholeGood z.layout.pages v.page v.freeing
  pub generation : v.generation < 2 ^ 34
  pub numbers : NumbersGood v.page v.generation v.freeing
  pub owners : OwnersGood v.page v.holds
  pub laying : LayingGood z.layout.pages v.page v.locked v.laying
  pub freeing : FreeingGood v.page v.alloc v.locked v.freeing
  pub words : WordsGood v.alloc
  pub bits : BitsGood v.alloc v.birth v.place v.ever.made
  pub reached : ReachedGood v.alloc v.birth v.place v.ever
  pub slots : SlotsGood z.shapes z.layout.pages v.page v.alloc v.birth v.place v.ever.made v.ever.type_of
  pub pointers : PointersGood z.shapes v.alloc v.birth v.bitmap v.place v.ever.made v.ever.type_of
  pub fields : FieldsGood z.shapes v.alloc v.birth v.field v.place v.ever.made v.ever.type_of v.ever.field
  pub globals : GlobalsGood z.layout.globals v.global v.place v.ever.made v.ever.global
  pub names : NamesGood z.layout.goroutines v.ever.made

-- What a right guards.

-- A slot in which no object stands, in a span that the seat holds: whoever holds the span has it for itself until its alloc bit is set.
pub record ClaimedSlot (pages : ℕ) (page alloc : Row) (holds : ℕ → ℕ → Bool) (a at size : ℕ) : Type 0 where
  pub p : ℕ
  pub h : SpanHead
  pub i : ℕ
  pub held : holds a p ≡ true
  pub slot : IsSlotOf pages page p h i at size
  pub clear : row_bit alloc at ≡ 0

abbrev pub Claims : Arena → View → (a at size : ℕ) → Type 0
Claims z v a at size = ClaimedSlot z.layout.pages v.page v.alloc v.holds a at size

-- a goroutine of the processor at this seat
abbrev pub IsOf : Arena → (a g : ℕ) → Type 0
IsOf z a g = (g < z.layout.goroutines) × (z.seat_of g ≡ a)

-- What a walk over the page words has found.

-- each span of the span class that nobody owns and that begins before page p is swept and full
abbrev pub FullBefore : (page alloc : Row) → (generation : ℕ) → (span : SpanHead) → (p : ℕ) → Type 0
FullBefore page alloc generation span p = (q : ℕ) (h : SpanHead) → q < p → page_of (page q) ≡ Head h → h.class ≡ span.class → h.noscan ≡ span.noscan → h.owner ≡ 0 → (h.number ≡ generation) × IsFull alloc q h

-- each span that nobody owns and that begins before page p is swept, and an object stands in it
abbrev pub TidyBefore : (page alloc : Row) → (generation : ℕ) → (p : ℕ) → Type 0
TidyBefore page alloc generation p = (q : ℕ) (h : SpanHead) → q < p → page_of (page q) ≡ Head h → h.owner ≡ 0 → (h.number ≡ generation) × IsInUse alloc q h
