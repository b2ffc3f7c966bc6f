-- The coordinator is a routine, and so is each part of it.
use Rattle.gh_coord.specs.Vocabulary.{IsRoutine, Layout}
use Rattle.gh_coord.specs.Closing as close
use Rattle.gh_coord.specs.Counting as count
use Rattle.gh_coord.specs.Opening as open_
use Rattle.gh_coord.specs.Sound.{listing}
use Rattle.gh_coord.specs.Stopping as stop
use Rattle.gh_coord.specs.SweepingAll as sweep
use Rattle.gh_coord.specs.Telling as tell
use Rattle.gh_coord.specs.Watching as watch

pub record PartsAreRoutines (l : Layout) : Type 0 where
  pub stop : IsRoutine l (stop.listing l)
  pub opens : IsRoutine l (open_.listing l)
  pub watch : IsRoutine l (watch.listing l)
  pub close : IsRoutine l (close.listing l)
  pub sweep : IsRoutine l (sweep.listing l)
  pub count : IsRoutine l (count.listing l)
  pub tell : IsRoutine l (tell.listing l)

abbrev pub TheCoordinatorIsARoutine : Type 0
TheCoordinatorIsARoutine = (l : Layout) → IsRoutine l (listing l)
