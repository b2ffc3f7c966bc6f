-- What follows from the form of the command line.
use Rattle.std.specs.Prelude.{◌≡◌, ◌≤◌, ◌⊎◌, ℕ, Bool, List, Some}
use Rattle.gh_replay.specs.Plan.{Plan}
use Rattle.gh_command.specs.CommandLine.{Text, command_line}
use Rattle.gh_command.specs.declared.line.Line.TheVariants.{Gen, Replay, Soak}

-- the budget of a replay is in its range
abbrev pub BudgetIsInRange : Type 0
BudgetIsInRange = (words : List Text) (plan : Plan) (budget : ℕ) (check : Bool) → command_line words ≡ Some (Replay plan budget check) → (1 ≤ budget) × (budget ≤ 1000000000)

-- and so is the size of a script that is generated
abbrev pub SizeIsInRange : Type 0
SizeIsInRange = (words : List Text) (seed size : ℕ) → (command_line words ≡ Some (Gen seed size)) ⊎ (command_line words ≡ Some (Soak seed size)) → (4 ≤ size) × (size ≤ 200000)
