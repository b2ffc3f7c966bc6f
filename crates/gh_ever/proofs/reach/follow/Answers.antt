use Rattle.std.proofs.Common.{sym, ◌∙◌, arith}
use Rattle.gh_ever.proofs.Vocabulary.{lists_of}
use Rattle.gh_ever.proofs.Reaching.{followed_sound, followed_marked}
use Rattle.gh_ever.proofs.reach.follow.Goals as goal

pub returns-then-leads-clause-sound : goal.returns-then-leads-clause-sound
returns-then-leads-clause-sound c = λ sound.
    followed_sound c.args.kept.now (lists_of c.kept.inside) c.args.marks.now.items c.mark.new.marks.items c.args.cell c.in-Ref.n c.kept.view_is sound c.requires.held c.in-Ref.is
    (sym c.leads.ensures ∙ c.if-leads.true) c.mark.ensures.marked

pub returns-then-leads-clause-followed : goal.returns-then-leads-clause-followed
returns-then-leads-clause-followed c = λ kept_same.
    followed_marked c.args.kept.now (lists_of c.kept.inside) c.args.marks.now.items c.mark.new.marks.items c.args.cell c.in-Ref.n c.kept.view_is c.kept.invariant.sound
    (grind (arith, c.kept.view_is, c.requires.room, c.args.marks.now.ok.0)) c.requires.held c.in-Ref.is c.mark.ensures.marked
