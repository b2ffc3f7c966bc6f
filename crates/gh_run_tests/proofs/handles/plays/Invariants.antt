use Rattle.gh_shared.specs.Handles.{IsHandleOf}
use Rattle.gh_run_tests.proofs.handles.plays.Given as goal

abbrev pub invariant-loop : goal.invariant-loop
invariant-loop g l = IsHandleOf l.heap l.h
