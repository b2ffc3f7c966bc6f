use Rattle.gh_dump.proofs.Noted.{global_noted}
use Rattle.gh_dump.proofs.index.put_global.Goals as goal

pub returns : goal.returns
returns c = global_noted c.args.globals.now c.insert.new.self c.args.k c.args.object c.in_ok-insert.ensures.updates.0
