-- Each operation acts once, with a point or without, whatever the processor finds.
use Rattle.std.specs.Prelude.{◌≡◌, ℕ, true, false, List, Option, Some, None}
use Rattle.gh_mutator.specs.Vocabulary.{Layout, Op, Shape, Task}
use Rattle.gh_mutator.specs.Processing.{Processor}
use Rattle.gh_mutator.specs.Listing.{Act, acts, begins_at, is_busy_at, op_at, takes}

-- from the operation that is to act before a step to that behind it: the step acts for it, or leaves it so
abbrev pub ActsOnce : (before after : Option Op) → Option Act → Type 0
ActsOnce before after None = after ≡ before
ActsOnce before after (Some x) = (before ≡ Some x.op) × (after ≡ None)

pub record EachOperationActsOnce : Type 0 where
  -- what is begun is to act, and at rest nothing is
  pub begins : (shapes : List Shape) (m : Processor) (o : Op) → is_busy_at (begins_at shapes m o) ≡ true → op_at (begins_at shapes m o) ≡ Some o
  pub rests : (t : Task) → is_busy_at t ≡ false → op_at t ≡ None
  -- a step of what is begun
  pub steps : (l : Layout) (shapes : List Shape) (m : Processor) (found : ℕ) → is_busy_at m.task ≡ true → ActsOnce (op_at m.task) (op_at (takes l shapes m found).task) (acts l m found)
