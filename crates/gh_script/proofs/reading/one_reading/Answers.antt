use Rattle.gh_script.proofs.Formed.{some_reading, cut_reading, WellFormed-Spells}
use Rattle.gh_script.proofs.reading.one_reading.Goals as goal

pub returns-clause-some : goal.returns-clause-some
returns-clause-some c = some_reading

pub returns-clause-cut : goal.returns-clause-cut
returns-clause-cut c = cut_reading

pub returns-clause-formed : goal.returns-clause-formed
returns-clause-formed c = WellFormed-Spells
