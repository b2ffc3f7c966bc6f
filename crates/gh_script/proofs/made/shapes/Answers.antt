use Rattle.std.proofs.Common.{◌≡◌, sym, ◌∙◌}
use Rattle.gh_script.proofs.Asking.{shapes_more, type_more, type_refused, types_end}
use Rattle.gh_script.proofs.made.shapes.Goals as goal

pub returns-in-Err-clause-cause : goal.returns-in-Err-clause-cause
returns-in-Err-clause-cause c = type_refused (λ t. t.now) c.args.types.now c.loop-i.i _ c.in-Err.e _ c.loop-i-test.true c.loop-i.invariant.cause c.in-Err.ensures.cause

pub loop-i-preserved : goal.loop-i-preserved
loop-i-preserved c = record {
  cause = sym (type_more (λ t. t.now) c.args.types.now c.loop-i.i _ c.loop-i-test.true c.in-Ok.ensures.cause) ∙ c.loop-i.invariant.cause;
  shapes = rw c.in_ok-push-in-Ok.ensures.items (shapes_more (λ t. t.now) c.args.types.now c.loop-i.i _ c.loop-i.rows.items _ c.in-Ok.shape c.loop-i-test.true c.in-Ok.ensures.shape c.loop-i.invariant.shapes);
}

pub returns-clause-cause : goal.returns-clause-cause
returns-clause-cause c = sym c.loop-i.invariant.cause ∙ types_end (λ t. t.now) c.args.types.now c.loop-i.i c.loop-i-test.false
