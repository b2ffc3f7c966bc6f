use Rattle.gh_base.specs.Machines.{Runs}
use Rattle.gh_base.proofs.trace.run_routine_alone.Given as goal

abbrev pub invariant-loop : goal.invariant-loop
invariant-loop g l = Runs (g.R.Routine.listing l.layout) l.routine
