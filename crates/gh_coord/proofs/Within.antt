-- Whatever the coordinator is told, each of its steps is on a word that there is: by what a step comes to.
use Rattle.std.proofs.Common.{ℕ, ◌^◌, ◌<◌, arith}
use Rattle.gh_coord.proofs.Vocabulary.{by_event, Coordinating, CoordStage, goes_at, Layout, nat_tests}
use Rattle.gh_coord.specs.Stopping as stop
use Rattle.gh_coord.specs.SweepingAll as all
use Rattle.gh_coord.specs.Watching as watch
use Rattle.gh_coord.specs.Within.{StandsAt, StandsWithin, TheCoordinatorStaysWithin}
use Rattle.gh_coord.proofs.PartsRoutines.{page_stays}

module _ (l : Layout) (found : ℕ) where
  stop_on : (s : stop.Stopping) → stop.Sound l s → stop.Sound l (stop.goes l s found)
  stop_on s f = grind arith

  watch_on : (w : watch.Watching) → watch.Sound l w → watch.Sound l (watch.goes l w found)
  watch_on w f = grind (arith, nat_tests)

  sweep_on : (s : all.SweepingAll) → all.IsAtPage l s.stage → all.IsAtPage l (all.goes l s found).stage
  sweep_on s f = grind (arith, nat_tests, page_stays)

module _ (l : Layout) (u : Coordinating) (found : ℕ) (procs : 0 < l.procs) (pages : 0 < l.pages) (stops : u.stops < 2 ^ 62) (generation : u.generation < 2 ^ 34) where
  stays_at : (p : CoordStage) → StandsAt l p → StandsAt l u.stage → StandsWithin l (goes_at l u p found)
  stays_at p f here = by_event l u found (StandsWithin l) p (λ e may. grind (arith, stop_on, watch_on, sweep_on))

pub stays_within : TheCoordinatorStaysWithin
stays_within = record { at_first = grind arith; stays = grind (arith, stays_at); within = grind arith }
