use Rattle.gh_alloc.proofs.Quiet.{is_quiet}
use Rattle.gh_alloc.proofs.laws.allocation_is_quiet.Goals as goal

pub returns : goal.returns
returns c = is_quiet
