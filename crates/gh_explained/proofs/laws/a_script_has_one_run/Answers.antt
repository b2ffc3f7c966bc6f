use Rattle.gh_explained.proofs.Vocabulary.{every_order_has_one_run, every_run_is_one, none_is_longer}
use Rattle.gh_explained.proofs.laws.a_script_has_one_run.Goals as goal

pub returns-clause-ordered : goal.returns-clause-ordered
returns-clause-ordered c = every_order_has_one_run

pub returns-clause-same : goal.returns-clause-same
returns-clause-same c = every_run_is_one

pub returns-clause-longest : goal.returns-clause-longest
returns-clause-longest c = none_is_longer
