-- How many steps an operation takes that neither makes an object nor polls.
use Rattle.std.specs.Prelude.{◌≡◌, ℕ, Bool, true, false, if◌then◌else◌}
use Rattle.gh_mutator.specs.Vocabulary.{EndsWithin, Layout, marking_at, Op}
use Rattle.gh_mutator.specs.Mutating.{begins, listing, Mutating}

-- a new object takes as many as the heap is large; a poll, and what polls or gives back, waits for others
abbrev pub may_wait : Op → Bool
may_wait (Op.New g d t) = true
may_wait (Op.Gc g) = true
may_wait Op.Poll = true
may_wait Op.Leave = true
may_wait _ = false

-- A load: the page word, the bitmap, the field, the name; a store: the page word, the bitmap, the field; a global's load: the global, the name. While marking is on, as the processor knows, a store of a pointer has the eight steps of a write behind the barrier in place of its last.
abbrev pub most_steps : (marking : Bool) → Op → ℕ
most_steps marking (Op.Load g d b k) = 4
most_steps marking (Op.Store g b k v) = if marking then 10 else 3
most_steps marking (Op.GetGlobal g d k) = 2
most_steps marking (Op.SetGlobal g k v) = if marking then 8 else 1
most_steps marking _ = 1

-- whatever the steps find
abbrev pub OperationsEnd : Type 0
OperationsEnd = (l : Layout) (m : Mutating) (o : Op) (found : ℕ → ℕ) → may_wait o ≡ false → EndsWithin (listing l) (most_steps (marking_at m.processor.poll) o) (begins m o) found
