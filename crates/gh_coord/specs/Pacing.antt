-- What the coordinator paces cycles by.
use Rattle.std.specs.Prelude.{ℕ, ◌%◌, ◌^◌, Option}
use Rattle.gh_coord.specs.Vocabulary.{goal, Layout, roots, trigger, work}

-- what is taken of a number of bytes that was found in a word: all of it, where it is that of a heap
abbrev pub taken_bytes : ℕ → ℕ
taken_bytes found = found % 2 ^ 31

-- the word that the trigger opens with: nothing is live
abbrev pub first_trigger : (globals goroutines gogc minheap : ℕ) → ℕ
first_trigger globals goroutines gogc minheap = trigger 0 (goal 0 (roots globals goroutines) gogc minheap)

-- The goal, the trigger and the work of the next cycle, where so many bytes were found to be live.
module _ (l : Layout) (gogc minheap live : ℕ) where
  unfoldable pub next_goal : Option ℕ
  next_goal = goal (taken_bytes live) (roots l.globals l.goroutines) gogc minheap

  unfoldable pub next_trigger : ℕ
  next_trigger = trigger (taken_bytes live) next_goal

  unfoldable pub next_work : ℕ
  next_work = work (taken_bytes live) (roots l.globals l.goroutines) next_goal
