-- While a cycle is marked processors go on. What holds of the heap and of marking together then, and what steps leave of it.
use Rattle.std.specs.Prelude.{◌≡◌, ◌≢◌, ℕ, ◌+◌, ◌<◌, true, false}
use Rattle.gh_cycle.specs.Vocabulary.{alloc_words, Arena, Ask, birth_words, Cell, Claims, Cycle, EachReachedIsMarked, END, Good, Heap, IsMade, HasMark, mark_words, Marking, MarkingGood, Name, Placed, Placing, points, Reach, REGISTERS, row_bit, shape_for, size_for, View, view}
use Rattle.gh_base.specs.Shapes.{ShapesFit}
use Rattle.gh_heap.specs.Moves as heap
use Rattle.gh_marks.specs.Knows.{KnowsObjects}
use Rattle.gh_marks.specs.Moves as marks
use Rattle.gh_cycle.specs.Marked.{RegistersFit}
use Rattle.gh_cycle.specs.Opening.{IsCycleOf, RegistersAre, WordsAreAtRest}
use Rattle.gh_cycle.specs.Reached.{IsBounded}

-- the object was made, stands, and is known
pub record IsKnownObject (h : Heap) (s : Marking) (n : Name) : Type 0 where
  pub made : IsMade h.ever.made n
  pub placed : Placed (alloc_words h.words) (birth_words h.words) h.place n
  pub known : s.known (h.place n) ≡ true

-- the object was made, stands, and is one of the cycle
pub record IsOfCycle (h : Heap) (s : Marking) (n : Name) : Type 0 where
  pub made : IsMade h.ever.made n
  pub placed : Placed (alloc_words h.words) (birth_words h.words) h.place n
  pub since : s.since (h.place n) ≡ true

-- the seat claims a slot that begins there
pub record ClaimsSlot (z : Arena) (v : View) (a at : ℕ) : Type 0 where
  pub size : ℕ
  pub claim : Claims z v a at size

-- The state of marking is one of this heap, whatever processors do meanwhile. The words are the same. What a script reaches is of the cycle, and known: more may be, since a script may lose what it reached when the cycle began. Each object that is known has the words of its type, those that were made since among them. A slot whose mark is set before its object is made is claimed by who fills it.
pub record IsBeside (z : Arena) (h : Heap) (s : Marking) : Type 0 where
  pub words : s.words ≡ h.words
  pub reached : (n : Name) → Reach h.ever n → s.since (h.place n) ≡ true
  pub known : (n : Name) → Reach h.ever n → s.known (h.place n) ≡ true
  -- an object is named by its first word alone
  pub base : (x : ℕ) → s.extents.base x ≡ x
  pub size : (n : Name) → IsKnownObject h s n → s.extents.size (h.place n) ≡ size_for z.shapes h.ever.type_of n
  pub pointer : (n : Name) (k : ℕ) → IsKnownObject h s n → k < size_for z.shapes h.ever.type_of n → s.extents.pointer (h.place n) k ≡ points z.shapes h.ever.type_of n k
  pub noscan : (n : Name) → IsKnownObject h s n → s.extents.noscan (h.place n) ≡ (shape_for z.shapes h.ever.type_of n).noscan
  pub filling : (o a : ℕ) → s.colour o ≡ Placing a → ClaimsSlot z (view h) a o
  pub registers : RegistersFit z h s
  -- the word of a stack says that its goroutine has ended only where it has
  pub goes_on : (g : ℕ) → g < z.layout.goroutines → h.ever.ended g ≡ false → s.words (Cell.Scanned g) ≢ END

-- so it is where a cycle begins
abbrev pub CyclesBeginBeside : Type 0
CyclesBeginBeside = (z : Cycle) (h : Heap) (s : Marking) → Good z.arena (view h) → IsBounded z.arena h.ever → WordsAreAtRest z.arena z.number h → IsCycleOf z.arena h s → RegistersAre h s → ((o a : ℕ) → s.colour o ≢ Placing a) → IsBeside z.arena h s

-- page words and pointer bits say of each object of the cycle what marking relies on
abbrev pub ObjectsAreKnownBeside : Type 0
ObjectsAreKnownBeside = (z : Cycle) (h : Heap) (s : Marking) → Good z.arena (view h) → MarkingGood z s → IsBeside z.arena h s → KnowsObjects z s

-- The steps of processors over the heap.

-- no slot is being filled by this seat
abbrev pub FillsNone : (a : ℕ) → Marking → Type 0
FillsNone a s = (o : ℕ) → s.colour o ≢ Placing a

-- A claimed slot may be marked before its object is made: nobody else fills it, and it is white.
abbrev pub SlotsAreReserved : Type 0
SlotsAreReserved = (z : Cycle) (a at size : ℕ) (h : Heap) (s : Marking) → Good z.arena (view h) → MarkingGood z s → IsBeside z.arena h s → Claims z.arena (view h) a at size → FillsNone a s → marks.May z a s (marks.Reserve at) × IsBeside z.arena (record h { words = (marks.moved z a s (marks.Reserve at)).words }) (marks.moved z a s (marks.Reserve at))

-- A field of a claimed slot is none that marking reads: no object that is known has a word there.
abbrev pub ClaimedFieldsAreAside : Type 0
ClaimedFieldsAreAside = (z : Cycle) (a at size k : ℕ) (h : Heap) (s : Marking) → Good z.arena (view h) → MarkingGood z s → IsBeside z.arena h s → Claims z.arena (view h) a at size → k < size → marks.IsQuietInMarking s (Ask.Store (Cell.Field (at + k)) 0)

-- The steps of marking.

-- What a step of this seat leaves that is made of moves of marking, whichever they are, with the words as they are behind a move over the heap. The slots that it fills then it claims then. The registers of its own goroutines that go on are as they were, and no stack of theirs says that it has ended.
pub record MarksAlone (z : Cycle) (a : ℕ) (h k : Heap) (s t : Marking) : Type 0 where
  pub went : marks.Went z a s t
  pub words_are : t.words ≡ k.words
  pub fills : (o : ℕ) → t.colour o ≡ Placing a → ClaimsSlot z.arena (view k) a o
  pub registers : (g d : ℕ) → heap.GoroutineRuns z.arena (view h) a g → d < REGISTERS → t.registers g d ≡ s.registers g d
  pub goes_on : (g : ℕ) → heap.GoroutineRuns z.arena (view h) a g → t.words (Cell.Scanned g) ≢ END

-- Over the heap such a step may be any move of its seat that leaves the heap that never frees as it is: a span may be given back by it, and no object is made.
abbrev pub MarkingAloneGoesBeside : Type 0
MarkingAloneGoesBeside = (z : Cycle) (a : ℕ) (h : Heap) (s t : Marking) (m : heap.Move) → Good z.arena (view h) → MarkingGood z s → IsBeside z.arena h s → heap.May z.arena a (view h) m → (heap.moved z.arena a h m).ever ≡ h.ever →
    MarksAlone z a h (heap.moved z.arena a h m) s t → IsBeside z.arena (heap.moved z.arena a h m) t

-- The end of marking.

-- where marking has ended and nobody fills a slot what is marked stands
abbrev pub TheMarkedStand : Type 0
TheMarkedStand = (z : Cycle) (h : Heap) (s : Marking) → MarkingGood z s → s.words ≡ h.words → ((o a : ℕ) → s.colour o ≢ Placing a) → (x : ℕ) → row_bit (mark_words h.words) x ≡ 1 → row_bit (alloc_words h.words) x ≡ 1

-- each object that a script reaches is marked then
abbrev pub TheReachedAreMarkedBeside : Type 0
TheReachedAreMarkedBeside = (z : Cycle) (h : Heap) (s : Marking) → Good z.arena (view h) → ShapesFit z.arena.shapes → IsBounded z.arena h.ever → IsBeside z.arena h s → EachReachedIsMarked z s → (n : Name) → Reach h.ever n → HasMark (mark_words s.words) (h.place n)
