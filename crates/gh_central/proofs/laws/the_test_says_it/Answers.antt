use Rattle.gh_central.proofs.Lacking.{lacks_is, lacks_means}
use Rattle.gh_central.proofs.laws.the_test_says_it.Goals as goal

pub returns : goal.returns
returns c slot slots first word found = (lacks_means slot first word found slots, lacks_is slot first word found slots)
