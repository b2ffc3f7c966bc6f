use Rattle.gh_table.proofs.Keeping.{looks}
use Rattle.gh_table.proofs.table.look.Goals as goal

pub load-requires : goal.load-requires
load-requires g c = (c.requires.table.0, c.requires.table.1, looks g.K.Plan.setting c.args.words.now.key c.args.words.now.table_id.slots c.args.seat.now.id c.args.seat.now.me 0)
