use Rattle.std.proofs.Common.{◌∙◌, arith, sym}
use Rattle.gh_world.proofs.Turning.{has_one, passed}
use Rattle.gh_world.proofs.turns.first_turn.Goals as goal

pub returns-then-has_turn-clause-turns : goal.returns-then-has_turn-clause-turns
returns-then-has_turn-clause-turns c = c.loop-h.invariant.same ∙ has_one c.args.script.now c.args.seat c.args.round c.loop-h.h (omega arith) (sym c.has_turn.ensures ∙ c.if-has_turn.true)

pub loop-h-preserved : goal.loop-h-preserved
loop-h-preserved c = record {
  behind = omega (arith, c.loop-h.invariant.behind);
  within = omega arith;
  same = c.loop-h.invariant.same ∙ passed c.args.script.now c.args.seat c.args.round c.loop-h.h (omega arith) (sym c.has_turn.ensures ∙ c.if-has_turn.false);
}
