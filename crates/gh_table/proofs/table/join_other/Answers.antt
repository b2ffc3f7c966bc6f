use Rattle.std.proofs.Common.{◌∙◌, subst}
use Rattle.gh_table.proofs.Vocabulary.{Once}
use Rattle.gh_table.proofs.Entries.{has-append}
use Rattle.gh_table.proofs.Keeping.{joins, joined-mine, joined-its}
use Rattle.gh_table.proofs.Seats.{once_apart}
use Rattle.gh_table.proofs.table.join_other.Goals as goal

pub join_seat-requires : goal.join_seat-requires
join_seat-requires g c = (
  c.requires.table.0,
  c.requires.table.1,
  c.requires.slotless,
  c.requires.table.2,
  joins g.K.Plan.setting c.args.words.now.key c.args.seat.now.id c.args.seat.now.me.0 c.args.other.id c.args.other.me.0 g.K.Plan.nothing c.args.mine c.args.its c.requires.carries.0 c.requires.carries.1,
)

pub returns-clause-carries : goal.returns-clause-carries
returns-clause-carries g c a = rw (c.look.ensures.same.1 ∙ c.join_seat.ensures.2) (has-append c.args.seat.now.me.0.actors c.args.other.me.0.actors a)

pub returns-clause-apart : goal.returns-clause-apart
returns-clause-apart g c = once_apart c.args.seat.now.me.0.actors c.args.other.me.0.actors (subst (λ m. Once m.0.actors) c.join_seat.ensures.2 c.look.ensures.once)

pub returns-clause-own : goal.returns-clause-own
returns-clause-own g c a h = rw (c.look.ensures.same.1 ∙ c.join_seat.ensures.2) (joined-mine c.args.seat.now.me.0 c.args.other.me.0 a h)

pub returns-clause-other : goal.returns-clause-other
returns-clause-other g c a h = rw (c.look.ensures.same.1 ∙ c.join_seat.ensures.2) (joined-its c.args.seat.now.me.0 c.args.other.me.0 a h)
