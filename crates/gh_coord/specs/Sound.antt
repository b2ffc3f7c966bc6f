-- What the coordinator knows of its own numbers, whatever it is told, and what it is as a routine.
use Rattle.std.specs.Prelude.{◌≡◌, ℕ, ◌<◌, true, false, Option, Some, None}
use Rattle.gh_coord.specs.Vocabulary.{ack_row, Check, Close, CoordStage, Count, Done, Footprint, Layout, Listing, LoadAck, LoadWant, MarkOn, Open, Runs, Stop, StopAgain, Sweep, Tell, Watch}
use Rattle.gh_base.specs.Footprints as row
use Rattle.gh_coord.specs.Closing as close
use Rattle.gh_coord.specs.Counting as count
use Rattle.gh_coord.specs.Handshake.{FitsNumbers}
use Rattle.gh_coord.specs.Listing.{asks, Coordinating, given, goes}
use Rattle.gh_coord.specs.Opening as open_
use Rattle.gh_coord.specs.Stopping as stop
use Rattle.gh_coord.specs.SweepingAll as sweep
use Rattle.gh_coord.specs.Telling as tell
use Rattle.gh_coord.specs.Watching as watch

-- each part knows what it needs of its own numbers, in this heap, and asks for a step
abbrev pub SoundStage : Layout → CoordStage → Type 0
SoundStage l (LoadAck i) = i < l.procs
SoundStage l LoadWant = Unit {0}
SoundStage l (Stop s) = Runs (stop.listing l) s
SoundStage l (Open o) = Runs (open_.listing l) o
SoundStage l (Watch w) = Runs (watch.listing l) w
SoundStage l (StopAgain s) = Runs (stop.listing l) s
SoundStage l (Check w) = Runs (watch.listing l) w
SoundStage l MarkOn = Unit {0}
SoundStage l (Close c) = Runs (close.listing l) c
SoundStage l (Sweep s) = Runs (sweep.listing l) s
SoundStage l (Count c) = Runs (count.listing l) c
SoundStage l (Tell t) = Runs (tell.listing l) t
SoundStage l Done = Unit {0}

pub record SoundCoordinating (l : Layout) (s : Coordinating) : Type 0 where
  -- there are processors and pages
  pub procs : 0 < l.procs
  pub pages : 0 < l.pages
  pub first_ack : s.first_ack ≡ ack_row l
  pub numbers : FitsNumbers s.stops s.begun s.generation
  pub stage : SoundStage l s.stage

-- it and its parts write neither objects nor roots, no buffer, and no acknowledgement
abbrev pub writes : Footprint
writes row.Touch = false
writes row.Lock = false
writes row.Bitmap = false
writes row.Birth = false
writes row.Field = false
writes row.Global = false
writes row.Buffer = false
writes row.Entry = false
writes row.Ack = false
writes row.Scanned = false
writes _ = true

abbrev pub listing : Layout → Listing Coordinating (Unit {0})
listing l = record { asks = asks l; goes = goes l; given = given; sound = SoundCoordinating l; writes = writes }

-- The acknowledgement that an idle coordinator loads next is kept beside its stage: where there is one, that is its stage, and what stands for a stage is the load of the request.
abbrev pub stage_kept : Option ℕ → CoordStage → CoordStage
stage_kept (Some i) stage = LoadAck i
stage_kept None stage = stage

abbrev pub LooksSo : Option ℕ → CoordStage → Type 0
LooksSo (Some i) stage = stage ≡ LoadWant
LooksSo None (LoadAck i) = ⊥
LooksSo None _ = Unit {0}
