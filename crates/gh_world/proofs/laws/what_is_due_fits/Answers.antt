use Rattle.gh_world.proofs.Places.{each_keeps_its_place, what_is_due_fits}
use Rattle.gh_world.proofs.laws.what_is_due_fits.Goals as goal

pub returns-clause-fits : goal.returns-clause-fits
returns-clause-fits c = what_is_due_fits

pub returns-clause-kept : goal.returns-clause-kept
returns-clause-kept c = each_keeps_its_place
