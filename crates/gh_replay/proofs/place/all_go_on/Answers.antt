use Rattle.std.proofs.Common.{false, sym, ◌∙◌, arith}
use Rattle.gh_replay.proofs.Vocabulary.{is_done}
use Rattle.gh_replay.proofs.Kept.{goes_on_to}
use Rattle.gh_replay.proofs.place.all_go_on.Goals as goal

pub loop-a-init : goal.loop-a-init
loop-a-init c = λ b lt. absurd (omega (arith, lt))

pub loop-a-preserved : goal.loop-a-preserved
loop-a-preserved c = goes_on_to (is_done c.args.world.now) c.loop-a.a c.loop-a.invariant (sym c.is_done.ensures ∙ c.if-is_done.false)

pub returns : goal.returns
returns c = λ is b lt. c.loop-a.invariant b (omega (arith, lt, c.loop-a-test.false, c.actors-a-end.ensures.are))
