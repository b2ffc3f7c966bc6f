use Rattle.std.proofs.Common.{sym, ◌∙◌}
use Rattle.gh_world.proofs.Fitting.{turns_open}
use Rattle.gh_world.proofs.Turning.{opens_at}
use Rattle.gh_world.proofs.progress.Progress.opening.Goals as goal

pub returns-clause-all : goal.returns-clause-all
returns-clause-all c = c.next_turn.ensures.come ∙ sym (opens_at c.args.script.now c.args.seat)

pub returns-clause-turns : goal.returns-clause-turns
returns-clause-turns c = turns_open c.args.script.now c.args.seat c.next_turn.result c.next_turn.ensures.come c.next_turn.ensures.stands
