use Rattle.std.proofs.Common.{◌≡◌, arith, subst, sym, true}
use Rattle.gh_worker.proofs.Vocabulary.{is_busy, loads_phase_or_page, SoundWorking, WorkerStage}
use Rattle.gh_worker.proofs.worker.Worker.idle.Goals as goal

busy_at : (p : WorkerStage) → loads_phase_or_page p ≡ true → is_busy p ≡ true
busy_at p idle = grind arith

pub returns-clause-sound : goal.returns-clause-sound
returns-clause-sound c = subst (SoundWorking c.args.layout.now) (sym c.look.ensures.goes) ((c.workers_are_routines.ensures.is_routine c.args.layout.now).keeps c.args.self.now c.args.found c.ranges.found.fits c.requires.sound (busy_at c.args.self.now.stage c.requires.idle))
