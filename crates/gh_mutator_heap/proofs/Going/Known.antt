-- What a step of a processor comes to beside marking: a deed, by which the state of marking follows the heap; or moves of marking alone. And what is known of its stacks behind it.
use Rattle.std.proofs.Common.{◌≡◌, ◌≢◌, ℕ, ◌<◌, ◌≤◌, true, false, List, [], length, Option, Some, None, refl, sym, ap, subst, ◌∙◌, arith, slice_index_or}
use Rattle.gh_mutator_heap.proofs.Vocabulary.{acted, acts, Answer, Arena, AreRegisters, Ask, asks, AssistsByMoves, at_task, Cell, cell_of, ClaimedFieldsAreAside, ClaimsSlot, Cycle, Deed, DeedsGoBeside, DoesPoints, effect, END, Ever, ever_by, EverValue, FillsNone, hand_behind, Hands, Heap, InHand, IsBeside, IsOf, IsReached, IsSince, Keeps, KnowsAtAnyTime, KnowsMarking, KnowsStacks, MarkFacts, Marking, MarkingAloneGoesBeside, MarksByMoves, Means, MeetsByDeed, named, ObjectsAreKnownBeside, Place, Processor, REGISTERS, Row, RowsAreWritten, SlotsAreReserved, StepsOn, takes, Task, TaskFacts, Together, Value, view, Words, WritesByMoves}
use Rattle.gh_cycle.specs.Deeds as deed
use Rattle.gh_cycle.specs.Opening.{reference_of}
use Rattle.gh_heap.specs.Moves as heap
use Rattle.gh_marks.specs.Colours.{Placing}
use Rattle.gh_marks.specs.Laws.{EachHandFollows, EachOwnMoveLeaves}
use Rattle.gh_marks.specs.Moves as marks
use Rattle.gh_mutator_writes.specs.Writing.{IsWritten, ProcessorWritesItsOwn, StacksAreNoted}
use Rattle.gh_mutator_heap.proofs.Owning.Objects.{register_reached}
use Rattle.gh_mutator_heap.proofs.Owning.Parked.{stands_always}

pub record Known : Type 0 where
  pub rows : RowsAreWritten
  pub deeds : DeedsGoBeside
  pub alone : MarkingAloneGoesBeside
  pub objects : ObjectsAreKnownBeside
  pub aside : ClaimedFieldsAreAside
  pub reserve : SlotsAreReserved
  pub follow : EachHandFollows
  pub leave : EachOwnMoveLeaves
  pub writes : WritesByMoves
  pub assists : AssistsByMoves
  pub own : ProcessorWritesItsOwn
  pub notes : StacksAreNoted
  pub marks : MarksByMoves

-- no slot is filled where none is in hand
pub fills_none : (a : ℕ) (u : Marking) (hand : InHand) → hand.placing ≡ None → Hands a u hand → FillsNone a u
fills_none a u hand none x o is = let some : hand.placing ≡ Some o = (x.has.is_reserved o).1 is in cc

-- what a script reaches is of the cycle
since_of : (z : Arena) (h : Heap) (u : Marking) → IsBeside z h u → (v : EverValue) → IsReached h.ever v → IsSince u.since (reference_of h.place v)
since_of z h u beside EverValue.Nil reached o e = absurd (omega (arith, e))
since_of z h u beside (EverValue.Int i) reached o e = absurd (omega (arith, e))
since_of z h u beside (EverValue.Ref n) reached o e = let at : h.place n ≡ o = omega (arith, e) in subst (λ (x : ℕ). u.since x ≡ true) at (beside.reached n (reached n refl))

-- The registers of the processor and those that marking reads name the same.
same_name : (place : Place) (made : ℕ → ℕ) (v : EverValue) (w : Value) → Means place made v w → reference_of place v ≡ named w
same_name place made v w h = grind arith

some_name : (place : Place) (made : ℕ → ℕ) (v : EverValue) (r : ℕ) → Means place made v (Value.Ref r) → 1 ≤ r
some_name place made v r h = grind arith

-- these are what the values name
record AreNamed (row : Row) (registers : List Value) : Type 0 where
  pub whole : length registers ≡ REGISTERS
  pub each : (d : ℕ) → d < length registers → row d ≡ named (slice_index_or registers d Value.Nil)
  pub some : (d reference : ℕ) → d < length registers → slice_index_or registers d Value.Nil ≡ Value.Ref reference → 1 ≤ reference

-- the goroutine goes on
abbrev pub EndsNone : Deed → Type 0
EndsNone (deed.Ends g) = ⊥
EndsNone _ = Unit {0}

-- what is not the end of a goroutine writes no word of a stack
spares_stacks : (z : Cycle) (a : ℕ) (h : Heap) (s : Marking) (step : Ask) (d : Deed) → EndsNone d → MeetsByDeed z a h s step d → (g number : ℕ) → step ≢ Ask.Store (Cell.Scanned g) number
spares_stacks z a h s step deed.Rests on meets g number e = subst (λ (x : Ask). marks.IsQuietInMarking s x) e meets.0
spares_stacks z a h s step (deed.Sets i d v) on meets g number e = subst (λ (x : Ask). marks.IsQuietInMarking s x) e meets.0
spares_stacks z a h s step (deed.Ends i) on meets g number e = absurd on
spares_stacks z a h s step (deed.Makes at i d t) on meets g number e = let is = sym meets.0 ∙ e in cc
spares_stacks z a h s step (deed.Puts n i v word) on meets g number e = let is = sym meets.0 ∙ e in cc
spares_stacks z a h s step (deed.PutsGlobal i v word) on meets g number e = let is = sym meets.0 ∙ e in cc

ends_none : (z : Cycle) (e : Ever) (d : Deed) → EndsNone d → (g : ℕ) → (ever_by z.arena e d).ended g ≡ e.ended g
ends_none z e d on g = grind arith

-- A step by whichever move over the heap it is.
abbrev pub StepOf : Cycle → (a : ℕ) → Heap → Processor → Option Answer → Type 0
StepOf z a h m pending = heap.Steps z.arena a h (asks z.arena.layout m) (λ t. DoesPoints z.arena a h t m pending (h.words (cell_of (asks z.arena.layout m))))

abbrev pub StepAt : Task → Type 0
StepAt q = (z : Cycle) (a : ℕ) (h : Heap) (s : Marking) (m : Processor) (pending : Option Answer) → Together z a h s (at_task m q) pending → KnowsMarking (at_task m q) → (l : StepOf z a h (at_task m q) pending) →
    StepsOn z a (heap.moved z.arena a h l.move) s (takes z.arena.layout z.arena.shapes (at_task m q) (h.words (cell_of (asks z.arena.layout (at_task m q)))))

module _ (k : Known) (z : Cycle) (a : ℕ) (h : Heap) (s : Marking) (m : Processor) (pending : Option Answer) (t : Together z a h s m pending) (l : StepOf z a h m pending) where
  abbrev pub found_there : ℕ
  found_there = h.words (cell_of (asks z.arena.layout m))

  abbrev pub heap_then : Heap
  heap_then = heap.moved z.arena a h l.move

  abbrev pub processor_then : Processor
  processor_then = takes z.arena.layout z.arena.shapes m found_there

  pub goes_on : (g : ℕ) → heap.GoroutineRuns z.arena (view h) a g → s.words (Cell.Scanned g) ≢ END
  goes_on g runs = t.beside.goes_on g runs.of.0 runs.goes_on

  stands : KnowsAtAnyTime z.arena a (view heap_then) processor_then.poll
  stands = stands_always z.arena a (view heap_then) processor_then l.after.does.after l.after.does.fine

  places : z.arena.layout.goroutines ≤ length processor_then.poll.local.scanned
  places = let many = k.notes.as_many z.arena.layout z.arena.shapes m found_there t.sound in let was = t.facts.stacks.places in omega (arith, many, was)

  -- What is known of its stacks behind a step that leaves their words, by what is known of the heap.
  module _ (u : Marking) (beside : IsBeside z.arena heap_then u) (goes : (g : ℕ) → IsOf z.arena a g → u.words (Cell.Scanned g) ≢ END → heap_then.ever.ended g ≡ false) where
    named_so : (g : ℕ) → IsOf z.arena a g → u.words (Cell.Scanned g) ≢ END → AreNamed (u.registers g) (slice_index_or processor_then.poll.local.stacks g [])
    named_so g its on = grind (arith, same_name, some_name, stands)

    values : (g : ℕ) → IsOf z.arena a g → u.words (Cell.Scanned g) ≢ END → AreRegisters u.extents.base (u.registers g) (slice_index_or processor_then.poll.local.stacks g [])
    values g its on = let so = named_so g its on in record {
      whole = so.whole;
      each = λ d few. so.each d few ∙ sym (marks.seen_is u.extents.base beside.base (named (slice_index_or (slice_index_or processor_then.poll.local.stacks g []) d Value.Nil)));
      some = so.some;
    }

    since_so : (g : ℕ) → IsOf z.arena a g → u.words (Cell.Scanned g) ≢ END → (d : ℕ) → d < length (slice_index_or processor_then.poll.local.stacks g []) → IsSince u.since (u.registers g d)
    since_so g its on d few =
        let low : d < REGISTERS = subst (λ (n : ℕ). d < n) (named_so g its on).whole few in
        subst (λ (v : ℕ). IsSince u.since v) (sym (beside.registers g d its.0 low (goes g its on))) (since_of z.arena heap_then u beside (heap_then.ever.register g d) (register_reached heap_then.ever g d (goes g its on) (heap_then.ever.register g d) refl))

    pub stacks_by : ((g : ℕ) → IsOf z.arena a g → slice_index_or processor_then.poll.local.scanned g 0 ≡ u.words (Cell.Scanned g)) → KnowsStacks z a u processor_then.poll.local.stacks processor_then.poll.local.scanned
    stacks_by noted = record { own = t.facts.stacks.own; registers = values; since = since_so; noted = noted; places = places }

  module _ (u : Marking) (beside : IsBeside z.arena heap_then u) (spares : (g number : ℕ) → asks z.arena.layout m ≢ Ask.Store (Cell.Scanned g) number) (ends : (g : ℕ) → heap_then.ever.ended g ≡ h.ever.ended g) where
    unwritten : (g : ℕ) → IsWritten z.arena.layout m (Cell.Scanned g) → ⊥
    unwritten g h = grind arith

    word_stays : (g : ℕ) → u.words (Cell.Scanned g) ≡ h.words (Cell.Scanned g)
    word_stays g = ap (λ (w : Words). w (Cell.Scanned g)) (beside.words ∙ l.words_are) ∙ k.own.leaves z.arena.layout m h.words (Cell.Scanned g) t.sound (unwritten g)

    goes : (g : ℕ) → IsOf z.arena a g → u.words (Cell.Scanned g) ≢ END → heap_then.ever.ended g ≡ false
    goes g its on = grind (arith, word_stays)

    stacks_then : KnowsStacks z a u processor_then.poll.local.stacks processor_then.poll.local.scanned
    stacks_then = stacks_by u beside goes (λ g its. k.notes.keeps z.arena.layout z.arena.shapes m found_there g t.sound (spares g) ∙ t.facts.stacks.noted g its ∙ ap (λ (w : Words). w (Cell.Scanned g)) t.beside.words ∙ sym (word_stays g))

  pub facts_then : (u : Marking) → KnowsStacks z a u processor_then.poll.local.stacks processor_then.poll.local.scanned → TaskFacts z a u processor_then.poll processor_then.task → MarkFacts z a u processor_then
  facts_then u stacks f = record { seat_is = k.own.stays_there z.arena.layout z.arena.shapes m found_there t.sound ∙ t.facts.seat_is; stacks = stacks; task_is = f }

  -- what is known by the task behind a step, with what the seat has in hand then
  abbrev pub Comes : Deed → Type 0
  Comes d = (u : Marking) → ((hand : InHand) → Hands a s hand → Hands a u (hand_behind d hand)) → KnowsStacks z a u processor_then.poll.local.stacks processor_then.poll.local.scanned → TaskFacts z a u processor_then.poll processor_then.task

  -- The step is a deed.
  pub by_deed : (d : Deed) → EndsNone d → acted z.arena.shapes h.ever (acts z.arena.layout m found_there) ≡ ever_by z.arena h.ever d → MeetsByDeed z a h s (asks z.arena.layout m) d → Comes d → StepsOn z a heap_then s processor_then
  by_deed d on is meets comes =
      let ever_is = l.after.does.ever ∙ is in
      let b = k.deeds z a h s l.move (asks z.arena.layout m) d t.heap t.marking t.bounded t.beside l.may (record { words = l.words_are; ever = ever_is }) meets in
      let stacks = stacks_then b.then b.beside (spares_stacks z a h s (asks z.arena.layout m) d on meets) (λ g. ap (λ (e : Ever). e.ended g) ever_is ∙ ends_none z h.ever d on g) in
      record { then = b.then; went = b.went; beside = b.beside; facts = facts_then b.then stacks (comes b.then b.hands stacks) }

  -- It is made of moves of marking alone.
  module _ (is : acted z.arena.shapes h.ever (acts z.arena.layout m found_there) ≡ h.ever) (u : Marking) (went : marks.Went z a s u) (words_are : u.words ≡ effect s.words (asks z.arena.layout m)) (fills : (o : ℕ) → u.colour o ≡ Placing a → ClaimsSlot z.arena (view heap_then) a o) where
    pub by_marking : ((g d : ℕ) → heap.GoroutineRuns z.arena (view h) a g → d < REGISTERS → u.registers g d ≡ s.registers g d) → ((g : ℕ) → heap.GoroutineRuns z.arena (view h) a g → u.words (Cell.Scanned g) ≢ END) → MarkFacts z a u processor_then → StepsOn z a heap_then s processor_then
    by_marking registers on facts = record {
      then = u;
      went = went;
      beside = k.alone z a h s u l.move t.heap t.marking t.beside l.may (l.after.does.ever ∙ is) (record {
        went = went;
        words_are = words_are ∙ ap (λ (w : Words). effect w (asks z.arena.layout m)) t.beside.words ∙ sym l.words_are;
        fills = fills;
        registers = registers;
        goes_on = on;
      });
      facts = facts;
    }

    -- which change no stack
    pub by_keeping : Keeps z a s u → MarkFacts z a u processor_then → StepsOn z a heap_then s processor_then
    by_keeping kept facts = by_marking (λ g d runs low. kept.registers g d runs.of) (λ g runs e. goes_on g runs (sym (kept.stacks g runs.of) ∙ e)) facts

  -- It loads, and nothing changes.
  pub by_load : acted z.arena.shapes h.ever (acts z.arena.layout m found_there) ≡ h.ever → (c : Cell) → asks z.arena.layout m ≡ Ask.Load c → FillsNone a s → MarkFacts z a s processor_then → StepsOn z a heap_then s processor_then
  by_load is c loads fills facts = by_marking is s marks.stays (sym (ap (λ (x : Ask). effect s.words x) loads)) (λ o e. absurd (fills o e)) (λ g d runs low. refl) goes_on facts
