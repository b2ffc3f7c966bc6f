use Rattle.std.proofs.Common.{◌≡◌, ◌<◌, length, refl, ap, sym, subst, ◌∙◌, Some, slice_get}
use Rattle.gh_world.proofs.Vocabulary.{IsStepOfWorker, request, set, slice_get_read, State}
use Rattle.gh_worker.specs.Listing.{asks}
use Rattle.gh_world.proofs.Fitting.{fits_again, others_worked, work_is}
use Rattle.gh_world.proofs.world.World.work.Goals as goal
use Rattle.gh_world.proofs.world.World.work.Goals.{After-index_mut-worker}

-- the worker that is lent is the one at the place
there : (c : After-index_mut-worker) → slice_get c.self.inside.workers.items c.args.i ≡ Some c.index_mut-worker.result.now
there c =
    let low : c.args.i < length c.self.inside.workers.items = subst (λ (w : State). c.args.i < length w.workers) (sym c.self.view_is) c.requires.there in
    slice_get_read c.self.inside.workers.items (length c.self.inside.workers.items) c.args.i c.index_mut-worker.result.now refl low c.index_mut-worker.ensures.value

pub step_of_worker-out-requires-clause-busy : goal.step_of_worker-out-requires-clause-busy
step_of_worker-out-requires-clause-busy c = c.requires.busy c.index_mut-worker.result.now (ap (λ (w : State). slice_get w.workers c.args.i) (sym c.self.view_is) ∙ there (goal.at.step_of_worker-out-requires-clause-busy c).After-index_mut-worker)

pub step_of_worker-out-requires-clause-sound : goal.step_of_worker-out-requires-clause-sound
step_of_worker-out-requires-clause-sound c = c.self.invariant.others.works c.args.i c.index_mut-worker.result.now (there (goal.at.step_of_worker-out-requires-clause-sound c).After-index_mut-worker)

pub invariant_of-self : goal.invariant_of-self
invariant_of-self c = record {
  base = fits_again _ _ _ _ (request c.self.inside.layout (asks c.self.inside.layout c.index_mut-worker.result.now)) c.step_of_worker-out.ensures.words c.self.invariant.base;
  running = c.self.invariant.running;
  others = others_worked _ _ _ _ c.args.i c.index_mut-worker.result.now c.step_of_worker-out.new.machine (there (goal.at.invariant_of-self c).After-index_mut-worker) c.step_of_worker-out.ensures.sound c.self.invariant.others;
}

pub returns : goal.returns
returns c =
    subst (λ (w : State). IsStepOfWorker w (record { script = c.self.inside.script.now; layout = c.self.inside.layout; words = c.step_of_worker-out.new.words; runners = c.self.inside.runners.items; workers = set c.self.inside.workers.items c.args.i c.step_of_worker-out.new.machine; coord = c.self.inside.coord; points = c.self.inside.points.items }) c.args.i c.done_or.result) c.self.view_is
    (work_is _ c.args.i c.index_mut-worker.result.now c.step_of_worker-out.new.words c.step_of_worker-out.new.machine c.step_of_worker-out.result c.done_or.result (there (goal.at.returns c).After-index_mut-worker) c.step_of_worker-out.ensures.within c.step_of_worker-out.ensures.words c.step_of_worker-out.ensures.machine c.step_of_worker-out.ensures.out c.done_or.ensures)
