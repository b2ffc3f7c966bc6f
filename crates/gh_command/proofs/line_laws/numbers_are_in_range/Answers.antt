use Rattle.std.proofs.Common.{inl, inr, subst}
use Rattle.gh_command.proofs.CommandLineRange.{IsInRange, numbers_in_range}
use Rattle.gh_command.proofs.line_laws.numbers_are_in_range.Goals as goal

pub returns-clause-budget : goal.returns-clause-budget
returns-clause-budget c = λ words plan budget check is. subst IsInRange is (numbers_in_range words)

pub returns-clause-size : goal.returns-clause-size
returns-clause-size c = λ words seed size is.
    elim is [
      | inl gen ↦ subst IsInRange gen (numbers_in_range words)
      | inr soak ↦ subst IsInRange soak (numbers_in_range words)
    ]
