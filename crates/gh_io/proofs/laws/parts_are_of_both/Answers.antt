use Rattle.gh_io.proofs.Told.{TookPart-first, TookPart-second}
use Rattle.gh_io.proofs.laws.parts_are_of_both.Goals as goal

pub returns-clause-first : goal.returns-clause-first
returns-clause-first c = TookPart-first

pub returns-clause-second : goal.returns-clause-second
returns-clause-second c = TookPart-second
