use Rattle.std.proofs.Common.{sym, ◌∙◌}
use Rattle.gh_world.proofs.Due.{none_due}
use Rattle.gh_world.proofs.progress.Progress.due.Goals as goal

pub returns-clause-none : goal.returns-clause-none
returns-clause-none c none seat = none_due c.args.script.now seat c.args.self.now.next (sym c.due.ensures ∙ none)
