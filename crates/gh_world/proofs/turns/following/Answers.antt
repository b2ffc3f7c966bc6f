use Rattle.gh_world.proofs.Turning.{follows_run}
use Rattle.gh_world.proofs.turns.following.Goals as goal

pub returns-in-Run-clause-follows : goal.returns-in-Run-clause-follows
returns-in-Run-clause-follows c = λ o due. follows_run c.args.script.now c.args.seat c.args.next c.in-Run.round c.in-Run.g o c.next_turn.result c.in-Run.is c.requires due c.next_turn.ensures.come c.next_turn.ensures.stands c.next_turn.ensures.over c.next_turn.ensures.going
