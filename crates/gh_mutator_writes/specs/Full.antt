-- What a `new` leaves that is answered `full`.
use Rattle.std.specs.Prelude.{◌≡◌, ℕ, suc, ◌<◌, ◌≤◌, Bool, true, false, Some, None}
use Rattle.gh_mutator_writes.specs.Vocabulary.{Ask, at_poll, begins, cached_at, Cell, gives, Layout, listing, Mutating, NewStage, stacks_with, Task, Wait, wanted_of}
use Rattle.gh_base.specs.declared.operation.Op.TheVariants.{New}
use Rattle.gh_base.specs.declared.value.Answer.TheVariants.{Full}
use Rattle.gh_base.specs.declared.value.Value.TheVariants.{Nil}
use Rattle.gh_base.specs.Routines.{told}
use Rattle.gh_mutator.specs.Faults.{rested}
use Rattle.gh_mutator.specs.Mutating.{asks}

-- a load, a step on the heap's lock, a store to a page word, which says who has a span cached, or a step of a sweep: it swaps a head, cuts alloc bits, clears marks, and adds what it counted
abbrev pub is_looking : Ask → Bool
is_looking (Ask.Load cell) = true
is_looking (Ask.Store Cell.Lock value) = true
is_looking (Ask.Store (Cell.Page page) value) = true
is_looking (Ask.Swap Cell.Lock old new) = true
is_looking (Ask.Swap (Cell.Page page) old new) = true
is_looking (Ask.And (Cell.Alloc i) bits) = true
is_looking (Ask.Store (Cell.Mark i) value) = true
is_looking (Ask.Add Cell.Tally more) = true
is_looking (Ask.Add Cell.Live more) = true
is_looking (Ask.Add Cell.Heap more) = true
is_looking _ = false

-- a new object waits for a cycle
abbrev pub waits_at : NewStage → Bool
waits_at (Wait x) = true
waits_at _ = false

abbrev pub new_is_waiting : Task → Bool
new_is_waiting (Task.New x) = waits_at x.stage
new_is_waiting _ = false

module _ (l : Layout) (m : Mutating) (g d t : ℕ) (found : ℕ → ℕ) where
  -- the `new` begun at m after so many steps
  abbrev pub after : (n : ℕ) → Mutating
  after n = told (listing l) (begins m (New g d t)) found n

  -- before step n it loaded the number of the last swept cycle, and that was later than the cycle which the processor knew when the `new` began
  pub record HasWaited (n : ℕ) : Type 0 where
    pub at_step : ℕ
    pub before : at_step < n
    pub loads : asks l (after at_step) ≡ Ask.Load Cell.Swept
    pub later : m.processor.poll.local.view.begun < found at_step

  -- it is answered `full` by its step number n, counted from 0
  pub record ChangesLittle (n : ℕ) : Type 0 where
    -- each step up to that one looks for a slot, or is one of the wait for a cycle
    pub looks : (i : ℕ) → i ≤ n → new_is_waiting (after i).processor.task ≡ false → is_looking (asks l (after i)) ≡ true
    -- a cycle that began after it did was swept
    pub waited : HasWaited n
    -- The processor is what it was, beside what the wait's polls have changed of what it alone knows:
    pub leaves : after (suc n) ≡ rested m (at_poll m.processor (after (suc n)).processor.poll) Full
    -- of its registers the one of the `new` has changed, which is nil
    pub registers : (after (suc n)).processor.poll.local.stacks ≡ stacks_with m.processor.poll.local.stacks g d Nil
    -- and no span is cached of the object's span class
    pub cached : cached_at (after (suc n)).processor.poll (wanted_of m.shapes g d t).sought ≡ None
    pub seat : (after (suc n)).processor.poll.seat ≡ m.processor.poll.seat

-- whatever the steps find
abbrev pub FullChangesLittle : Type 0
FullChangesLittle = (l : Layout) (m : Mutating) (g d t : ℕ) (found : ℕ → ℕ) (n : ℕ) →
    gives l (after l m g d t found n) (found n) ≡ Some Full → ChangesLittle l m g d t found n
