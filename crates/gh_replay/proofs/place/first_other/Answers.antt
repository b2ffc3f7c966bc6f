use Rattle.std.proofs.Common.{sym, ◌∙◌, arith}
use Rattle.gh_replay.proofs.Vocabulary.{seen_of, with_actor_ended}
use Rattle.gh_replay.proofs.Others.{is_first, is_passed, none_within}
use Rattle.gh_replay.proofs.place.first_other.Goals as goal

pub loop-other-preserved : goal.loop-other-preserved
loop-other-preserved c = sym (is_passed (with_actor_ended c.args.actor (seen_of c.args.world.now)).ended c.loop-other.other c.args.high c.loop-other-test.true (sym c.is_out.ensures ∙ c.if-not-is_out.false)) ∙ c.loop-other.invariant

pub returns-then-not-is_out : goal.returns-then-not-is_out
returns-then-not-is_out c = sym (is_first (with_actor_ended c.args.actor (seen_of c.args.world.now)).ended c.loop-other.other c.args.high c.loop-other-test.true (sym c.is_out.ensures ∙ c.if-not-is_out.true)) ∙ c.loop-other.invariant

pub returns : goal.returns
returns c = sym (none_within (with_actor_ended c.args.actor (seen_of c.args.world.now)).ended c.loop-other.other c.args.high (omega (arith, c.loop-other-test.false))) ∙ c.loop-other.invariant
