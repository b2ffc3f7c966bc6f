-- What the second reading finds, while no line of the text has a cause and at the first that has one.
use Rattle.std.specs.Prelude.{◌≡◌, ℕ, ◌+◌, ◌<◌, List, length, Option, Some, None}
use Rattle.gh_dump.specs.Kept.{IsBefore}
use Rattle.gh_dump.specs.Verdict.{line_cause}
use Rattle.gh_dump.specs.Vocabulary.{DumpFault, Item}
use Rattle.gh_dump.specs.declared.before.Before.{Before}

-- none of the lines has a cause, and this is what they say
pub record AreRight (before : Before) (items : List (Option Item)) : Type 0 where
  pub said : IsBefore before items
  pub none : (i : ℕ) → i < length items → line_cause items i ≡ None

-- the line at place i is the first that has a cause
pub record IsFirstFault (fault : DumpFault) (items : List (Option Item)) : Type 0 where
  pub place : ℕ
  pub within : place < length items
  pub line : fault.line ≡ place + 1
  pub cause : line_cause items place ≡ Some fault.why
  pub none : (i : ℕ) → i < place → line_cause items i ≡ None
