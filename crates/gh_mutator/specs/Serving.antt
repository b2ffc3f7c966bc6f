-- What a step, and the task before it, are to a goroutine's statement.
use Rattle.std.specs.Prelude.{ℕ, Bool, true, false, if◌then◌else◌, Option, Some, None}
use Rattle.gh_mutator.specs.Vocabulary.{Answer, End, Idle, Layout, Leave, Left, New, Op, Poll, says_gone, Task}
use Rattle.gh_mutator.specs.Processing.{Processor}
use Rattle.gh_mutator.specs.Listing.{gives_at, Act}

-- a statement of a goroutine, and no step of the processor's own
abbrev pub is_statement : Op → Bool
is_statement Op.Poll = false
is_statement (Op.End g) = false
is_statement Op.Leave = false
is_statement _ = true

-- the step is the point of a statement
abbrev pub is_point : Option Act → Bool
is_point None = false
is_point (Some a) = is_statement a.op

-- the processor runs a statement
abbrev pub is_serving : Task → Bool
is_serving Idle = false
is_serving Left = false
is_serving Poll = false
is_serving (End g) = false
is_serving (Leave x) = false
is_serving _ = true

-- the step ends a statement, which is answered so: the processor's own steps end none
abbrev pub answer_at : Task → Option Answer → Option Answer
answer_at t answer = if is_serving t then answer else None

abbrev pub statement_answer : Layout → Processor → (found : ℕ) → Option Answer
statement_answer l m found = answer_at m.task (gives_at l m m.task found)

-- its next step is its last
abbrev pub is_last : Task → Bool
is_last (Leave x) = says_gone x.stage
is_last _ = false

abbrev pub has_left_at : Task → Bool
has_left_at Left = true
has_left_at _ = false

-- the processor leaves, or has left
abbrev pub is_leaving : Task → Bool
is_leaving Left = true
is_leaving (Leave x) = true
is_leaving _ = false

-- an object is to be made
abbrev pub is_making : Task → Bool
is_making (New x) = true
is_making _ = false
