-- What ties a state of marking to a list of all actors: to its words, to the heap that never frees, and to what each actor is at.
use Rattle.std.specs.Prelude.{◌≡◌, ◌≢◌, ℕ, ◌+◌, ◌<◌, ◌≤◌, ◌↔◌, true, false, List, Some}
use Rattle.gh_marked.specs.Vocabulary.{acks_of, actors, Arena, arena_of, Cell, Cycle, END, Entry, Ever, ever_after_list, first_words, Good, Hands, Heap, HeapGood, IsBeside, IsBounded, IsPlacedAt, KnowsObjects, mark_words, MarkFacts, Marking, Marks, Name, nothing, Op, processor_kind, Reach, REGISTERS, row_bit, Setup, state_of, view, White, Words, words_after, Working}
use Rattle.gh_model.specs.Ever.{names}
use Rattle.gh_heap.specs.Objects.{points, shape_for, size_for}
use Rattle.gh_worker.specs.MarkFacts.{Facts as WorkerFacts}

module _ (setup : Setup) where
  abbrev z : Arena
  z = arena_of setup.shapes setup.layout

  -- the words after the list, and the heap that never frees

  abbrev told : List (Entry Op) → Words
  told es = words_after (first_words setup) es

  abbrev ever_told : List (Entry Op) → Ever
  ever_told es = ever_after_list z (first_words setup) es

  -- The state of marking is one of the heap after the list.
  pub record IsOfHeap (es : List (Entry Op)) (c : Cycle) (s : Marking) : Type 0 where
    -- There is a state of the heap with these words and with the heap that never frees. In it all holds that holds of the heap at every moment: so what a script reaches is placed, and has its slot.
    pub heap : Heap
    pub words_are : heap.words ≡ told es
    pub ever_is : heap.ever ≡ ever_told es
    pub bounded : IsBounded z heap.ever
    pub heap_good : HeapGood z (view heap)
    -- An object is white exactly where its mark bit is clear; and one that is grey is an entry of one buffer, below its count, or one seat has it in hand.
    pub good : Good c s
    -- What a script reaches is of the cycle. The objects of the cycle have the words of their types, and the registers of a goroutine that goes on name what they name in the heap that never frees.
    pub beside : IsBeside z heap s
    -- the page words and the pointer bits of the slots say the same of those objects
    pub objects : KnowsObjects c s
    -- the word of a stack says that its goroutine has ended exactly where it has
    pub over : (g : ℕ) → (told es (Cell.Scanned g) ≡ END) ↔ ((ever_told es).ended g ≡ true)

  -- And each actor has in hand, and knows, what its stage says. A processor has in its registers what marking has there; and in a store, from the load of the old value on, it knows that the field holds what was loaded, nil or a marked object, and behind its second shade that what it stores is nil or marked.
  pub record IsTied (es : List (Entry Op)) (c : Cycle) (s : Marking) : Type 0 where
    pub of_heap : IsOfHeap es c s
    pub processors : (a : ℕ) → a < setup.layout.procs → MarkFacts c a s (state_of (processor_kind setup.shapes setup.layout) a es)
    pub workers : (a : ℕ) (w : Working) → a < acks_of setup.layout → state_of (actors setup) a es ≡ Marks w → WorkerFacts c a s w
    -- the coordinator has nothing, and nobody is at a seat behind it
    pub others : (a : ℕ) → acks_of setup.layout ≤ a → Hands a s nothing

  -- So marking has what there is.

  -- the object is of the cycle, where it is placed, with the words of its type
  pub record HasObject (es : List (Entry Op)) (s : Marking) (n : Name) : Type 0 where
    pub at : ℕ
    pub placed : IsPlacedAt (told es) n at
    pub since : s.since at ≡ true
    pub some : 0 < s.extents.size at
    pub size : s.extents.size at ≡ size_for setup.shapes (ever_told es).type_of n
    pub pointer : (k : ℕ) → k < size_for setup.shapes (ever_told es).type_of n → s.extents.pointer at k ≡ points setup.shapes (ever_told es).type_of n k
    pub noscan : s.extents.noscan at ≡ (shape_for setup.shapes (ever_told es).type_of n).noscan

  -- Each object that a script reaches; what a register of a goroutine that goes on names; and what is marked. A state of marking with nothing in it is one of no list after which a script reaches an object.
  pub record ShowsWhatThereIs (es : List (Entry Op)) (s : Marking) : Type 0 where
    pub objects : (n : Name) → Reach (ever_told es) n → HasObject es s n
    pub registers : (g d : ℕ) (n : Name) → g < setup.layout.goroutines → d < REGISTERS → (ever_told es).ended g ≡ false → names ((ever_told es).register g d) ≡ Some n → (a : ℕ) × IsPlacedAt (told es) n a × (s.registers g d ≡ a + 1)
    pub marks : (a : ℕ) → row_bit (mark_words (told es)) a ≡ 1 → s.colour a ≢ White

abbrev pub TiesShowWhatThereIs : Type 0
TiesShowWhatThereIs = (setup : Setup) (es : List (Entry Op)) (c : Cycle) (s : Marking) → IsOfHeap setup es c s → ShowsWhatThereIs setup es s
