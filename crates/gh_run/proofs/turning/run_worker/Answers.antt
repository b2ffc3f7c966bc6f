use Rattle.gh_run.proofs.Starting.{worker_other, fresh_going, other_ended}
use Rattle.gh_run.proofs.turning.run_worker.Goals as goal

pub work-requires-clause-going : goal.work-requires-clause-going
work-requires-clause-going g c = fresh_going c.args.heap.now c.args.h.now c.requires.start.fresh

pub returns-clause-end : goal.returns-clause-end
returns-clause-end g c = other_ended c.args._script.now c.args.heap.now c.args.h.now c.args._progress.now c.args._answers.now.items _ c.work.new.h c.work.ensures.0 c.requires.start (worker_other _ c.requires.worker) c.work.ensures.1

pub returns-clause-number : goal.returns-clause-number
returns-clause-number g c = c.work.ensures.1.number
