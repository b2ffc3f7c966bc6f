use Rattle.std.proofs.Common.{◌≡◌, true}
use Rattle.gh_base.proofs.trace.run_alone.Given as goal

abbrev pub invariant-loop : goal.invariant-loop
invariant-loop g l = g.M.Machine.busy l.machine ≡ true
