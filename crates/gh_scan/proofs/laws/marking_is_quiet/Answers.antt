use Rattle.gh_scan.proofs.Quiet.{is_quiet}
use Rattle.gh_scan.proofs.laws.marking_is_quiet.Goals as goal

pub returns : goal.returns
returns c = is_quiet
