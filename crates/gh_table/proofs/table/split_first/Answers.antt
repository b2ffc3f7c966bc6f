use Rattle.std.proofs.Common.{ap, ◌∙◌}
use Rattle.gh_table.proofs.Keeping.{splits}
use Rattle.gh_table.proofs.Running.{leaves_first, stays_first}
use Rattle.gh_table.proofs.table.split_first.Goals as goal

pub split_seat-requires : goal.split_seat-requires
split_seat-requires g c = (c.requires.table.0, c.requires.table.1, splits g.K.Plan.setting c.args.words.now.key c.args.seat.now.id c.args.seat.now.me.0)

pub returns-clause-dealt : goal.returns-clause-dealt
returns-clause-dealt g c p a n is some = (
  ap (λ m. m.0) c.split_seat.ensures.4 ∙ leaves_first c.args.seat.now.me.0 p a n is some,
  ap (λ m. m.0) c.split_seat.ensures.2 ∙ stays_first c.args.seat.now.me.0 p a n is some,
)
