-- What the laws of lower crates say, as far as those on processors that go on beside marking use it.
use Rattle.gh_cycle.specs.Vocabulary.{RowsAreWritten}
use Rattle.gh_heap.specs.Laws as heap
use Rattle.gh_marks.specs.Laws as marks
use Rattle.gh_cycle.specs.Reached.{TheReachedWereMade}

pub record KnownOfMoves : Type 0 where
  pub rows : RowsAreWritten
  pub apart : heap.TheHeapIsApart
  pub made : TheReachedWereMade
  pub reaches : heap.EachMoveReachesNoMore
  pub heap_keeps : heap.EachMoveKeeps
  pub heap_leaves : heap.EachMoveLeaves
  pub heap_facts : heap.EachFactLasts
  pub keeps : marks.EachMoveKeeps
  pub leaves : marks.EachMoveLeaves
  pub own : marks.EachOwnMoveLeaves
  pub steps : marks.EachStepGoesByMoves
  pub hands : marks.EachHandFollows
