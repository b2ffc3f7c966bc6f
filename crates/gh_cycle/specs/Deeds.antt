-- While a cycle is marked: what a step of a processor does, whichever move over the heap it is, and what marking asks of it. A routine's law tells which words it writes and how the heap that never frees changes, and not by which move.
use Rattle.std.specs.Prelude.{◌≡◌, ℕ, ◌+◌, ◌/◌, ◌%◌, ◌^◌, ◌<◌, true, false, Some, None}
use Rattle.gh_cycle.specs.Vocabulary.{Arena, Ask, Cell, Cycle, END, Ever, EverValue, field_words, global_words, Good, HasMark, Heap, IsClean, mark_words, Marking, MarkingGood, Name, names, next_name, Placing, points, REGISTERS, seen_word, shape_for, size_for, view, with_end, with_field, with_global, with_object, with_register}
use Rattle.gh_base.specs.Steps.{effect}
use Rattle.gh_heap.specs.Moves as heap
use Rattle.gh_marks.specs.Moves as marks
use Rattle.gh_marks.specs.Seats.{Hands, InHand}
use Rattle.gh_cycle.specs.Beside.{FillsNone, IsBeside}
use Rattle.gh_cycle.specs.Reached.{IsBounded}

-- What a step does to objects and values.
pub data Deed : Type 0 where
  -- nothing: it may still take, lay out, free or give back a span, or clear a slot
  Rests : Deed
  -- register d of goroutine g takes a value, or the goroutine ends
  Sets : (g d : ℕ) → (value : EverValue) → Deed
  Ends : (g : ℕ) → Deed
  -- an object of type t is made at a heap word, and register d of goroutine g names it
  Makes : (at g d t : ℕ) → Deed
  -- field k of an object, or a global, takes a value, written as a word
  Puts : (n : Name) → (k : ℕ) → (value : EverValue) → (word : ℕ) → Deed
  PutsGlobal : (k : ℕ) → (value : EverValue) → (word : ℕ) → Deed

abbrev pub ever_by : Arena → Ever → Deed → Ever
ever_by z e Rests = e
ever_by z e (Sets g d value) = with_register e g d value
ever_by z e (Ends g) = with_end e g
ever_by z e (Makes at g d t) = with_register (with_object z.shapes e g t) g d (EverValue.Ref (next_name e g))
ever_by z e (Puts n k value word) = with_field e n k value
ever_by z e (PutsGlobal k value word) = with_global e k value

-- The heap behind such a step: its words, and what the heap that never frees is then. Where its objects are follows.
pub record ComesBy (z : Arena) (h k : Heap) (step : Ask) (d : Deed) : Type 0 where
  pub words : k.words ≡ effect h.words step
  pub ever : k.ever ≡ ever_by z h.ever d

-- Where a register of goroutine g takes its value from: it names nothing; or another of its registers holds it, a field of an object that one of them names, or a global. Marking does not look into the objects of a noscan type; so it takes that such a type has no pointer field there.
pub data TakesFrom (z : Arena) (e : Ever) (g : ℕ) : (value : EverValue) → Type 0 where
  from_nil : TakesFrom z e g EverValue.Nil
  from_number : (i : ℕ) → TakesFrom z e g (EverValue.Int i)
  from_register : (r : ℕ) → r < REGISTERS → TakesFrom z e g (e.register g r)
  from_field : (r : ℕ) (n : Name) (k : ℕ) → r < REGISTERS → names (e.register g r) ≡ Some n → k < size_for z.shapes e.type_of n → (points z.shapes e.type_of n k ≡ true → (shape_for z.shapes e.type_of n).noscan ≡ false) → TakesFrom z e g (e.field n k)
  from_global : (k : ℕ) → k < z.layout.globals → TakesFrom z e g (e.global k)

-- What marking asks of a step of this seat that does so. It writes no word that marking reads, save by the deed: the end of a goroutine is its stack's word, an object is its alloc bit, set where its mark was set before, and a pointer is written behind the write barrier. A register takes what its goroutine can see.
abbrev pub MeetsByDeed : Cycle → (a : ℕ) → Heap → Marking → Ask → Deed → Type 0
MeetsByDeed z a h s step Rests = marks.IsQuietInMarking s step × FillsNone a s
MeetsByDeed z a h s step (Sets g d value) = marks.IsQuietInMarking s step × FillsNone a s × heap.GoroutineRuns z.arena (view h) a g × (d < REGISTERS) × TakesFrom z.arena h.ever g value
MeetsByDeed z a h s step (Ends g) = (step ≡ Ask.Store (Cell.Scanned g) END) × FillsNone a s × heap.GoroutineRuns z.arena (view h) a g
MeetsByDeed z a h s step (Makes at g d t) = (step ≡ Ask.Or (Cell.Alloc (at / 64)) (2 ^ (at % 64))) × (s.colour at ≡ Placing a) × heap.MayMake z.arena (view h) a at g d t
MeetsByDeed z a h s step (Puts n k value word) = (step ≡ Ask.Store (Cell.Field (h.place n + k)) word) × FillsNone a s × heap.MayWrite z.arena (view h) a n k value word × (points z.arena.shapes h.ever.type_of n k ≡ true → IsClean s.colour (seen_word s.extents.base (field_words h.words (h.place n + k))) × IsClean s.colour (seen_word s.extents.base word))
MeetsByDeed z a h s step (PutsGlobal k value word) = (step ≡ Ask.Store (Cell.Global k) word) × FillsNone a s × heap.MayWriteGlobal z.arena (view h) k value word × IsClean s.colour (seen_word s.extents.base (global_words h.words k)) × IsClean s.colour (seen_word s.extents.base word)

abbrev pub hand_behind : Deed → InHand → InHand
hand_behind (Makes at g d t) hand = record hand { placing = None }
hand_behind _ hand = hand

-- The step is made of moves of marking, and the two states belong together behind it.
pub record StepsBeside (z : Cycle) (a : ℕ) (h k : Heap) (s : Marking) (d : Deed) : Type 0 where
  pub then : Marking
  pub went : marks.Went z a s then
  pub beside : IsBeside z.arena k then
  pub hands : (hand : InHand) → Hands a s hand → Hands a then (hand_behind d hand)
  pub marked : (o : ℕ) → HasMark (mark_words s.words) o → HasMark (mark_words then.words) o

-- whichever move of its seat it is
abbrev pub DeedsGoBeside : Type 0
DeedsGoBeside = (z : Cycle) (a : ℕ) (h : Heap) (s : Marking) (m : heap.Move) (step : Ask) (d : Deed) → Good z.arena (view h) → MarkingGood z s → IsBounded z.arena h.ever → IsBeside z.arena h s → heap.May z.arena a (view h) m →
    ComesBy z.arena h (heap.moved z.arena a h m) step d → MeetsByDeed z a h s step d → StepsBeside z a h (heap.moved z.arena a h m) s d
