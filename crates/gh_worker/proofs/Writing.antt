-- Which words a worker writes; and that it writes none of marking while it is calm.
use Rattle.std.proofs.Common.{◌≡◌, ℕ, true, None, arith}
use Rattle.gh_worker.proofs.Vocabulary.{Ask, asks_at, CalmWorkersMarkNothing, is_busy, Layout, SoundAt, sweep_at, WorkerStage, WorkersWriteTheirOwn, Working, WritesItsOwn}

-- a routine of marking writes these words by no addition
abbrev pub WritesPlainly : (seat : ℕ) → Ask → Type 0
WritesPlainly seat (Ask.Add c more) = ⊥
WritesPlainly seat step = WritesItsOwn seat step

pub writes_at : (l : Layout) (w : Working) (p : WorkerStage) → SoundAt w p → sweep_at p ≡ None → is_busy p ≡ true → WritesItsOwn w.seat (asks_at l w p)
writes_at l w p s e b = grind arith

pub writes_its_own : WorkersWriteTheirOwn
writes_its_own l w s e b = writes_at l w w.stage s e b

-- While it is calm.

pub calm_marks_nothing : CalmWorkersMarkNothing
calm_marks_nothing = grind arith
