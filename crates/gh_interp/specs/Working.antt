-- What a goroutine does.
use Rattle.std.specs.Prelude.{ℕ, slice_get, Option, Some, None}
use Rattle.gh_base.specs.declared.operation.Op.{Op}
use Rattle.gh_script.specs.declared.statement.Stmt.{Stmt}
use Rattle.gh_script.specs.Program.{Program, statements_of, statement_as_op}

-- a statement as an operation of goroutine g; where there is none, it ends
abbrev pub work_at : ℕ → Option Stmt → Op
work_at g (Some s) = statement_as_op g s
work_at g None = Op.End g

-- what goroutine g does in round r, from 0: its statement number r + 1, or it ends
abbrev pub work_of : Program → (r g : ℕ) → Op
work_of p r g = work_at g (slice_get (statements_of p g) r)
