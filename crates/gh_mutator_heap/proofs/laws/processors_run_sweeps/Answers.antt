use Rattle.gh_mutator_heap.proofs.laws.processors_run_sweeps.Goals as goal
use Rattle.gh_mutator_heap.proofs.Sweeping.{runs_sweeps}

pub returns : goal.returns
returns c = runs_sweeps (record { runs = c.searches_run_sweeps.ensures; here = c.searching_keeps_its_facts.ensures.here; run_on = c.sweeps_are_run_on.ensures })
