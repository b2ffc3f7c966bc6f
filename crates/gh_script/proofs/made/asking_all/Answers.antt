use Rattle.std.proofs.Common.{◌≡◌, sym, ◌∙◌}
use Rattle.gh_script.proofs.Asking.{asking_end, asking_more, goroutine_more, goroutine_refused, goroutines_end}
use Rattle.gh_script.proofs.made.asking_all.Goals as goal

pub returns-in-Err-clause-cause : goal.returns-in-Err-clause-cause
returns-in-Err-clause-cause c = goroutine_refused c.args.types c.loop-g.g c.loop-g.before c.args.wishes.now _ c.in-Err.e _ c.loop-g-test.true c.loop-g.invariant.cause c.in-Err.ensures.cause

pub loop-g-preserved : goal.loop-g-preserved
loop-g-preserved c = record {
  few = c.in-Ok.ensures.few;
  cause = sym (goroutine_more c.args.types c.loop-g.g c.loop-g.before c.args.wishes.now _ c.loop-g-test.true c.in-Ok.ensures.cause) ∙ c.loop-g.invariant.cause;
  goroutines = rw c.in_ok-push-in-Ok.ensures.items (asking_more c.args.wishes.now c.loop-g.g _ c.loop-g.goroutines.items _ c.in-Ok.goroutine c.loop-g-test.true c.in-Ok.ensures.goroutine c.loop-g.invariant.goroutines);
}

pub returns-clause-cause : goal.returns-clause-cause
returns-clause-cause c = sym c.loop-g.invariant.cause ∙ goroutines_end c.args.types c.loop-g.g c.loop-g.before c.args.wishes.now c.loop-g-test.false

pub returns-clause-goroutines : goal.returns-clause-goroutines
returns-clause-goroutines c = asking_end c.args.wishes.now c.loop-g.g c.loop-g.goroutines.items _ c.loop-g-test.false c.loop-g.invariant.goroutines
