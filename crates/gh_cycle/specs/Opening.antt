-- Where a cycle begins: the state of the heap, and that of marking as it is switched on.
use Rattle.std.specs.Prelude.{◌≡◌, ℕ, ◌<◌, ◌≤◌, ◌⊎◌, ◌↔◌, true, if◌then◌else◌}
use Rattle.gh_cycle.specs.Vocabulary.{Arena, Cell, Cycle, END, EverValue, Good, Heap, mark_words, Marking, Name, Opens, Place, points, Reach, reference_to, row_bit, shape_for, size_for, view}
use Rattle.gh_base.specs.Cells.{opening_words}
use Rattle.gh_cycle.specs.Reached.{IsBounded, IsReachedAt}

-- The words as they are where the cycle of this number begins: no mark is set, no buffer is held or filled, the cursor is at the first global, and the word of each stack is that of a cycle before, or says that its goroutine has ended.
pub record WordsAreAtRest (z : Arena) (number : ℕ) (h : Heap) : Type 0 where
  pub marks : (o : ℕ) → row_bit (mark_words h.words) o ≡ 0
  pub buffers : (b : ℕ) → h.words (Cell.Buffer b) ≡ 0
  pub cursor : h.words Cell.Gcur ≡ 0
  pub scanned : (g : ℕ) → (h.words (Cell.Scanned g) < number) ⊎ (h.words (Cell.Scanned g) ≡ END)
  pub over : (g : ℕ) → h.words (Cell.Scanned g) ≡ END → h.ever.ended g ≡ true
  -- there is no global beyond these that names an object
  pub none : (i : ℕ) → z.layout.globals ≤ i → h.words (Cell.Global i) ≡ 0

-- A heap that was just opened is so before its first cycle.
abbrev pub OpenedHeapsAreAtRest : Type 0
OpenedHeapsAreAtRest = (z : Arena) (trigger number : ℕ) (h : Heap) → 0 < number → h.words ≡ opening_words z.layout trigger → WordsAreAtRest z number h

-- A state of marking is that of this heap: the words are the same, and what is known is what a script reaches, each object with the words of its type.
pub record IsCycleOf (z : Arena) (h : Heap) (s : Marking) : Type 0 where
  pub words : s.words ≡ h.words
  pub known : (o : ℕ) → (s.known o ≡ true) ↔ IsReachedAt h o
  -- Nothing brings an object back, so the objects of the cycle are all that is known. This clause alone says so.
  pub since : (o : ℕ) → s.since o ≡ s.known o
  -- an object is named by its first word alone
  pub base : (x : ℕ) → s.extents.base x ≡ x
  pub size : (n : Name) → Reach h.ever n → s.extents.size (h.place n) ≡ size_for z.shapes h.ever.type_of n
  pub pointer : (n : Name) (k : ℕ) → Reach h.ever n → k < size_for z.shapes h.ever.type_of n → s.extents.pointer (h.place n) k ≡ points z.shapes h.ever.type_of n k
  pub noscan : (n : Name) → Reach h.ever n → s.extents.noscan (h.place n) ≡ (shape_for z.shapes h.ever.type_of n).noscan

-- what a value names, as 0 or 1 more than a heap word
abbrev pub reference_of : Place → EverValue → ℕ
reference_of place (EverValue.Ref n) = reference_to place n
reference_of place _ = 0

-- what marking reads of a register: that of a goroutine which has ended names nothing
abbrev pub register_for_marking : Heap → (g d : ℕ) → ℕ
register_for_marking h g d = if h.ever.ended g then 0 else reference_of h.place (h.ever.register g d)

abbrev pub RegistersAre : Heap → Marking → Type 0
RegistersAre h s = (g d : ℕ) → s.registers g d ≡ register_for_marking h g d

-- a state of marking in which the cycle opens over the heap
pub record IsOpened (z : Cycle) (h : Heap) : Type 0 where
  pub marking : Marking
  pub of_heap : IsCycleOf z.arena h marking
  pub registers : RegistersAre h marking
  pub opens : Opens z marking

abbrev pub CyclesOpen : Type 0
CyclesOpen = (z : Cycle) (h : Heap) → Good z.arena (view h) → IsBounded z.arena h.ever → WordsAreAtRest z.arena z.number h → IsOpened z h
