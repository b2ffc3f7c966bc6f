use Rattle.std.proofs.Common.{None}
use Rattle.gh_table.proofs.Running.{saw_legal_list}
use Rattle.gh_table.proofs.hand.Hand.go_on.Goals as goal

pub returns-clause-saw : goal.returns-clause-saw
returns-clause-saw g c = saw_legal_list g.K.Plan.setting c.args.self.now.actor None (g.M.Machine.asks c.args.self.now.machine) c.perform.ensures.step.0 c.args.self.now.seat.me c.perform.new.seat.me c.perform.ensures.step.1
