use Rattle.gh_worker.proofs.laws.calm_workers_mark_nothing.Goals as goal
use Rattle.gh_worker.proofs.Writing.{calm_marks_nothing}

pub returns : goal.returns
returns c = calm_marks_nothing
