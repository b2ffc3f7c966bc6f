-- Lists of steps of any number of processors over one heap, the newest first: which are legal, and what every legal one keeps.
use Rattle.std.specs.Prelude.{◌≡◌, ◌≢◌, ℕ, zero, suc, ◌+◌, ◌%◌, ◌<◌, ◌≤◌, nat_lt, Bool, true, false, not, ◌==◌, ◌&&◌, ◌||◌, if◌then◌else◌, ◌⊎◌, List, [], ◌∷◌, ◌++◌, length, map, Option, Some, None}
use Rattle.gh_lists.specs.Vocabulary.{Act, alloc_words, Answer, answered_by, AnsweredDeed, Arena, birth_words, bitmap_words, Cell, deeds, done_at, Entry, Ever, field_words, given_by, global_words, GlobalsGood, has_names, has_room, Holds, InSlot, is_busy_at, IsOf, Layout, meaning, Means, model_after, Name, Op, op_at, option_to_list, page_of, page_words, Place, Placed, Processor, processor_kind, Reach, register_of, REGISTERS, row_bit, Shape, size_for, state_of, Words, words_after}
use Rattle.gh_base.specs.declared.pack.PageWord.TheVariants.{Head, Free}
use Rattle.gh_heap.specs.Spans.{IsFull, IsSpan, IsVacant}
use Rattle.gh_base.specs.Shapes.{shape_at}
use Rattle.gh_alloc.specs.declared.sought.Sought.{Sought}
use Rattle.gh_mutator.specs.New.{sought_for}
use Rattle.gh_alloc.specs.Find.{span_for}
use Rattle.gh_base.specs.declared.pack.SpanHead.{SpanHead}
use Rattle.gh_class.specs.declared.class.SizeClass.{SizeClass}
use Rattle.gh_lists.specs.Order.{ended_in, goroutine_is_over, goroutine_of, has_left, in_range}

-- goroutine i is of processor i modulo their number; spans are given back whether or not each slot is taken
abbrev pub arena_of : List Shape → Layout → Arena
arena_of shapes l = record { layout = l; shapes = shapes; seat_of = λ g. g % l.procs }

-- Which operations may begin, by an actor's own entries: of a goroutine of this processor that has not ended; with registers, global and type in range; fewer `new` and `gc` of a goroutine than it has; no goroutine left before the leave; nothing after it; and a store where there is room for the two entries of its write barrier, as a poll sees to it.

abbrev pub is_of : Arena → (a : ℕ) → Option ℕ → Bool
is_of z a None = true
is_of z a (Some g) = z.seat_of g == a

-- it is a `new` or a `gc` of goroutine g
abbrev pub asks_collector : ℕ → Option Op → Bool
asks_collector g (Some (Op.New h d t)) = h == g
asks_collector g (Some (Op.Gc h)) = h == g
asks_collector g _ = false

abbrev pub asked_by : ℕ → List (Entry Op) → ℕ
asked_by g [] = 0
asked_by g (e ∷ es) = (if asks_collector g e.begun then 1 else 0) + asked_by g es

-- goroutine g has more of them than have begun
abbrev pub has_more : (counts : ℕ → ℕ) → List (Entry Op) → Op → Bool
has_more counts es (Op.New g d t) = nat_lt (asked_by g es) (counts g)
has_more counts es (Op.Gc g) = nat_lt (asked_by g es) (counts g)
has_more counts es _ = true

-- each goroutine below n that is of this seat has ended
abbrev pub all_ended : Arena → (a : ℕ) → List (Entry Op) → ℕ → Bool
all_ended z a es zero = true
all_ended z a es (suc n) = (not (z.seat_of n == a) || ended_in es n) && all_ended z a es n

abbrev pub may_leave : Arena → (a : ℕ) → List (Entry Op) → Op → Bool
may_leave z a es Op.Leave = all_ended z a es z.layout.goroutines
may_leave z a es _ = true

-- what each list needs
abbrev pub may_run : Arena → (a : ℕ) → Processor → List (Entry Op) → Op → Bool
may_run z a m es o = in_range z.layout.goroutines z.layout.globals (length z.shapes) o && is_of z a (goroutine_of o) && has_names m o && not (goroutine_is_over es (goroutine_of o))

abbrev pub may_begin : Arena → (counts : ℕ → ℕ) → (a : ℕ) → Processor → List (Entry Op) → Op → Bool
may_begin z counts a m es o = may_run z a m es o && not (has_left es) && has_more counts es o && may_leave z a es o && has_room m o

-- an object of this name is placed at heap word a
abbrev pub IsPlacedAt : Words → Name → (a : ℕ) → Type 0
IsPlacedAt words n a = Placed (alloc_words words) (birth_words words) (λ m. a) n

-- Each of these objects is placed at its address and at no other. Its slot is of its size, and its words, by its pointer bits, are its values; no two share a word. Globals and registers agree. What an operation past its point puts into a register counts as being there.
pub record StandsForThese (z : Arena) (These : Name → Type 0) (words : Words) (e : Ever) (at : ℕ → Processor) : Type 0 where
  pub place : Place
  pub placed : (n : Name) → These n → Placed (alloc_words words) (birth_words words) place n
  pub once : (n : Name) (a : ℕ) → These n → IsPlacedAt words n a → a ≡ place n
  pub slot : (n : Name) → These n → InSlot z.shapes z.layout.pages (page_words words) place e.type_of n
  pub fields : (n : Name) (k : ℕ) → These n → k < size_for z.shapes e.type_of n → Holds place e.made (row_bit (bitmap_words words) (place n + k) == 1) (e.field n k) (field_words words (place n + k))
  pub apart : (n m : Name) (j k : ℕ) → These n → These m → n ≢ m → j < size_for z.shapes e.type_of n → k < size_for z.shapes e.type_of m → place n + j ≢ place m + k
  pub globals : GlobalsGood z.layout.globals (global_words words) place e.made e.global
  pub registers : (a g d : ℕ) → IsOf z a g → d < REGISTERS → Means place e.made (e.register g d) (register_of (at a) g d)

-- each object that a script reaches
abbrev pub StandsFor : Arena → Words → Ever → (ℕ → Processor) → Type 0
StandsFor z words e at = StandsForThese z (Reach e) words e at

-- There is no room, for the processor at this seat.

-- heap page q lies in the empty span that starts at page p and that nobody owns
pub record LiesInUnused (z : Arena) (words : Words) (q p : ℕ) (h : SpanHead) : Type 0 where
  pub span : IsSpan z.layout.pages (page_words words) p h
  pub unowned : h.owner ≡ 0
  pub empty : IsVacant (alloc_words words) p h
  pub lies : (p ≤ q) × (q < p + h.pages)

-- heap page q is not free, and lies in no empty span that nobody owns
pub record IsTakenPage (z : Arena) (words : Words) (q : ℕ) : Type 0 where
  pub not_free : page_of (words (Cell.Page q)) ≢ Free
  pub in_none : (p : ℕ) (h : SpanHead) → ¬ LiesInUnused z words q p h

-- a run of so many pages has a page that is taken
pub record HasTakenPage (z : Arena) (words : Words) (first pages : ℕ) : Type 0 where
  pub page : ℕ
  pub lies : (first ≤ page) × (page < first + pages)
  pub taken : IsTakenPage z words page

-- another seat owns the span
pub record IsAnothers (z : Arena) (a : ℕ) (h : SpanHead) : Type 0 where
  pub who : ℕ
  pub seat : who < z.layout.procs
  pub other : who ≢ a
  pub owner : h.owner ≡ who + 1

-- A span of the span class begins at the page, which is not one of a large object.
pub record IsOfSpanClass (words : Words) (sought : Sought) (p : ℕ) (h : SpanHead) : Type 0 where
  pub small : (span_for sought).class ≢ SizeClass.Large
  pub head : page_of (words (Cell.Page p)) ≡ Head h
  pub class : h.class ≡ (span_for sought).class
  pub noscan : h.noscan ≡ (span_for sought).noscan

-- The seat owns no span of the span class. Every span of that class is owned by another seat, or swept with no clear slot; no span of any class is unswept; and each run of so many pages has a page that is not free and lies in no empty span that nobody owns. Of a large object the first two fall away.
pub record NoRoomFor (z : Arena) (a : ℕ) (words : Words) (sought : Sought) : Type 0 where
  pub own : (p : ℕ) (h : SpanHead) → IsOfSpanClass words sought p h → h.owner ≢ a + 1
  pub slots : (p : ℕ) (h : SpanHead) → IsOfSpanClass words sought p h → IsAnothers z a h ⊎ IsFull (alloc_words words) p h
  pub swept : (p : ℕ) (h : SpanHead) → page_of (words (Cell.Page p)) ≡ Head h → h.number ≡ words Cell.Gen
  pub run : (first : ℕ) → first + (span_for sought).pages ≤ z.layout.pages → HasTakenPage z words first (span_for sought).pages

-- the operation is to make an object, and of what is sought for it this holds
abbrev pub OfNew : List Shape → (Sought → Type 0) → Op → Type 0
OfNew shapes P (Op.New g d t) = P (sought_for (shape_at shapes t))
OfNew shapes P _ = ⊥

abbrev pub IsFullFor : Arena → (a : ℕ) → Words → Op → Type 0
IsFullFor z a words o = OfNew z.shapes (NoRoomFor z a words) o

module _ (z : Arena) (opening : Words) where
  -- the processor at a seat after the list
  abbrev pub at_seat : List (Entry Op) → ℕ → Processor
  at_seat es a = state_of (processor_kind z.shapes z.layout) a es

  -- the heap that never frees after the list
  abbrev pub ever_after_list : List (Entry Op) → Ever
  ever_after_list es = model_after (processor_kind z.shapes z.layout) (deeds z.layout z.shapes) (meaning z.shapes) es

  -- the answers of that heap to the actor's operations, in the order of their points, and those that it gave; the newest first
  abbrev pub answers_of : ℕ → List (Entry Op) → List Answer
  answers_of a es = map (λ (x : AnsweredDeed Act Answer). x.answer) (answered_by (processor_kind z.shapes z.layout) (deeds z.layout z.shapes) (meaning z.shapes) a es)

  abbrev pub given_of : ℕ → List (Entry Op) → List Answer
  given_of a es = given_by (processor_kind z.shapes z.layout) (deeds z.layout z.shapes) a es

  -- `full` stands only where there was no room
  abbrev pub FullOnlyThere : List (Entry Op) → Type 0
  FullOnlyThere [] = Unit {0}
  FullOnlyThere (e ∷ es) = FullOnlyThere es × ((x : Act) → done_at (processor_kind z.shapes z.layout) (deeds z.layout z.shapes) es e ≡ Some x → x.full ≡ true → IsFullFor z e.actor (words_after opening es) x.op)

  -- What a processor was answered is what that heap answers its operations, save at most one answer that it has still to give: none where nothing is begun, and none before what is begun has acted.
  pub record AnswersAsEver (a : ℕ) (es : List (Entry Op)) : Type 0 where
    pub pending : Option Answer
    pub answers : answers_of a es ≡ option_to_list pending ++ given_of a es
    pub resting : is_busy_at (at_seat es a).task ≡ false → pending ≡ None
    pub unacted : (o : Op) → op_at (at_seat es a).task ≡ Some o → pending ≡ None

  pub record ListStands (es : List (Entry Op)) : Type 0 where
    pub stands : StandsFor z (words_after opening es) (ever_after_list es) (at_seat es)
    pub answers : (a : ℕ) → a < z.layout.procs → AnswersAsEver a es
    pub full : FullOnlyThere es
