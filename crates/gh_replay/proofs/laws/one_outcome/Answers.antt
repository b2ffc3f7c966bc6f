use Rattle.gh_replay.proofs.OneOutcome.{not_both, one}
use Rattle.gh_replay.proofs.EitherOne.{either_one}
use Rattle.gh_replay.proofs.laws.one_outcome.Goals as goal

pub returns-clause-not_both : goal.returns-clause-not_both
returns-clause-not_both c = not_both c.a_script_has_one_run.ensures.ordered

pub returns-clause-one : goal.returns-clause-one
returns-clause-one c = one c.a_script_has_one_run.ensures.ordered

pub returns-clause-either : goal.returns-clause-either
returns-clause-either c = either_one c.every_run_is_explained.ensures c.runs_go_on.ensures.on c.runs_go_on.ensures.whole
