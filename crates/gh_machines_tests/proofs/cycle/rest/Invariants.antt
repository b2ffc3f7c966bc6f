use Rattle.std.proofs.Common.{◌≡◌, length}
use Rattle.std.specs.Prelude.{IsTrue}
use Rattle.gh_base.specs.Cells.{length_of}
use Rattle.gh_base.specs.Machines.{IsBusy}
use Rattle.gh_coord.specs.Sound.{listing, SoundCoordinating}
use Rattle.gh_worker.specs.Sound.{SoundWorking}
use Rattle.gh_machines_tests.proofs.cycle.rest.Given as goal

abbrev pub invariant-loop : goal.invariant-loop
invariant-loop l = (length l.actors.words ≡ length_of l.actors.layout) × SoundWorking l.actors.layout l.actors.worker × (IsTrue l.actors.leads → IsBusy (listing l.actors.layout) l.actors.coord) × SoundCoordinating l.actors.layout l.actors.coord × (l.actors.layout ≡ l.initial.actors.layout)
