-- The processor's private state: what it alone knows, which is kept with its poll; the numbers of objects; and its task.
use Rattle.std.specs.Prelude.{ℕ, List}
use Rattle.gh_mutator.specs.Vocabulary.{Polling, Task}

pub record Processor : Type 0 where
  -- its seat and what it alone knows, with the poll that it is at, if it is at one
  pub poll : Polling
  -- how many objects each goroutine has made
  pub made : List ℕ
  -- what it is at
  pub task : Task
