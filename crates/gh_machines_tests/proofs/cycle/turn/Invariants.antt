use Rattle.std.proofs.Common.{◌≡◌, length}
use Rattle.std.specs.Prelude.{IsTrue}
use Rattle.gh_base.specs.Cells.{length_of}
use Rattle.gh_base.specs.Machines.{IsBusy}
use Rattle.gh_coord.specs.Sound.{listing, SoundCoordinating}
use Rattle.gh_mutator.specs.Sound.{SoundMutating}
use Rattle.gh_worker.specs.Sound.{SoundWorking}
use Rattle.gh_world.specs.World.{MadeAtMost}
use Rattle.gh_machines_tests.proofs.cycle.turn.Given as goal

abbrev pub invariant-loop : goal.invariant-loop
invariant-loop l = record {
  words : length l.actors.words ≡ length_of l.actors.layout;
  worker : SoundWorking l.actors.layout l.actors.worker;
  leads : IsTrue l.actors.leads → IsBusy (listing l.actors.layout) l.actors.coord;
  coord : SoundCoordinating l.actors.layout l.actors.coord;
  processor : SoundMutating l.actors.layout l.actors.processor.shapes l.actors.processor.processor;
  made : MadeAtMost l.actors.begun l.actors.processor.processor;
  layout : l.actors.layout ≡ l.initial.actors.layout;
  shapes : l.actors.processor.shapes ≡ l.initial.actors.processor.shapes;
}
