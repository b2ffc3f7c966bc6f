use Rattle.std.proofs.Common.{subst, sym}
use Rattle.gh_worker.proofs.Vocabulary.{SoundWorking}
use Rattle.gh_worker.proofs.worker.WorkerRoutine.take.Goals as goal

pub returns-clause-sound : goal.returns-clause-sound
returns-clause-sound c = subst (SoundWorking c.args.layout.now) (sym c.go.ensures) ((c.workers_are_routines.ensures.is_routine c.args.layout.now).keeps c.args.self.now c.args.found c.ranges.found.fits c.requires.sound c.requires.busy)
