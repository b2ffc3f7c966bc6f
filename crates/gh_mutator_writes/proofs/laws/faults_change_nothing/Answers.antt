use Rattle.gh_mutator_writes.proofs.Faults.{faults_change_nothing}
use Rattle.gh_mutator_writes.proofs.laws.faults_change_nothing.Goals as goal

pub returns : goal.returns
returns c = faults_change_nothing
