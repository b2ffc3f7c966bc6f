-- A calm processor writes no word of marking: by its tasks.
use Rattle.std.proofs.Common.{ℕ, List, arith}
use Rattle.gh_mutator_writes.proofs.Vocabulary.{asks, IsWrittenCalmly, Layout, Polling, RunsWithNone, Task, WritesOf}
use Rattle.gh_mutator_writes.proofs.Writing.Processor.{running}

pub writes_calmly : (l : Layout) (p : Polling) (made : List ℕ) (t : Task) → RunsWithNone p t → WritesOf (IsWrittenCalmly l (running p made t)) (asks l (running p made t))
writes_calmly l p made t x = grind arith
