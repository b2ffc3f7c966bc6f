use Rattle.gh_sweep.proofs.Sweeping.Steps.{takes_its_steps}
use Rattle.gh_sweep.proofs.laws.sweep_takes_its_steps.Goals as goal

pub returns : goal.returns
returns c = takes_its_steps
