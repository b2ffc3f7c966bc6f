-- What a processor that leaves knows of its own numbers, whatever it is told.
use Rattle.std.specs.Prelude.{◌<◌}
use Rattle.gh_poll.specs.Vocabulary.{Giving, Layout, LeaveStage, Runs}
use Rattle.gh_poll.specs.declared.leave.Leave.{Leave}
use Rattle.gh_poll.specs.Give as give

abbrev pub SoundStage : Layout → LeaveStage → Type 0
SoundStage l (Giving g) = Runs (give.listing l) g
SoundStage l _ = Unit {0}

pub record SoundLeaving (l : Layout) (w : Leave) : Type 0 where
  pub seat : w.seat < l.procs
  pub stage : SoundStage l w.stage
