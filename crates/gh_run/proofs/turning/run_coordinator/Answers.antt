use Rattle.gh_run.proofs.Starting.{coordinator_other, fresh_going, other_ended}
use Rattle.gh_run.proofs.turning.run_coordinator.Goals as goal

pub coordinate-requires-clause-going : goal.coordinate-requires-clause-going
coordinate-requires-clause-going g c = fresh_going c.args.heap.now c.args.h.now c.requires.start.fresh

pub returns-clause-end : goal.returns-clause-end
returns-clause-end g c = other_ended c.args._script.now c.args.heap.now c.args.h.now c.args._progress.now c.args._answers.now.items _ c.coordinate.new.h c.coordinate.ensures.0 c.requires.start (coordinator_other _ c.requires.coordinator) c.coordinate.ensures.1

pub returns-clause-number : goal.returns-clause-number
returns-clause-number g c = c.coordinate.ensures.1.number
