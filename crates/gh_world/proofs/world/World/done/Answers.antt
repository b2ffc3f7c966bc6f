use Rattle.std.proofs.Common.{subst, arith}
use Rattle.gh_world.proofs.Vocabulary.{State}
use Rattle.gh_world.proofs.OneStep.{Kept}
use Rattle.gh_world.proofs.Whole.{whole}
use Rattle.gh_world.proofs.world.World.done.Goals as goal

pub returns-clause-whole : goal.returns-clause-whole
returns-clause-whole c = λ e es after.
    let kept : Kept c.args.self.now = subst (λ (w : State). Kept w) c.self.view_is (record { noted = _; room = _; fit = c.self.invariant }) in
    whole c.args.self.now kept es after (λ a lt. c.loop-actor.invariant.so_far a (omega (arith, lt, c.loop-actor-test.false, c.actors-actor-end.ensures.are)))
