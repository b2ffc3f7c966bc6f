-- What the routine knows of its own numbers, whatever it is told.
use Rattle.std.specs.Prelude.{◌+◌, ◌^◌, ◌<◌}
use Rattle.gh_phase.specs.Vocabulary.{Layout, Resume}
use Rattle.gh_phase.specs.Views.{FitsView}

-- the seat is that of a processor or a worker, who acknowledge stops
pub record SoundResuming (l : Layout) (r : Resume) : Type 0 where
  pub seat : r.seat < l.procs + l.workers
  pub stops : r.stops < 2 ^ 62
  pub view : FitsView r.view
