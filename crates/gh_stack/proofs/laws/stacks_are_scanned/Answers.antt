use Rattle.gh_stack.proofs.Scanning.{scans}
use Rattle.gh_stack.proofs.laws.stacks_are_scanned.Goals as goal

pub returns : goal.returns
returns c = scans
