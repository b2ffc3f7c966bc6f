use Rattle.std.specs.Slots.{slots_items}
use Rattle.gh_table.proofs.Keeping.{ends}
use Rattle.gh_table.proofs.table.close.Goals as goal

pub returns-clause-after : goal.returns-clause-after
returns-clause-after g c = ends g.K.Plan.setting c.args.table.shared.key c.args.seat.id c.args.seat.me.0 (slots_items c.close_with.result.words) (slots_items c.close_with.result.slots) c.close_with.ensures.values.2
