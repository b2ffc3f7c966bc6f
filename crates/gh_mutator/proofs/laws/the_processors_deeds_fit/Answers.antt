use Rattle.gh_mutator.proofs.Deeds.{processors_deeds_fit}
use Rattle.gh_mutator.proofs.laws.the_processors_deeds_fit.Goals as goal

pub returns : goal.returns
returns c = processors_deeds_fit
