-- What a poll knows of its own numbers and routines, whatever it is told.
use Rattle.std.specs.Prelude.{◌≡◌, ℕ, ◌^◌, ◌<◌, Bool, true, false, [], length, slice_index_or}
use Rattle.gh_poll.specs.Vocabulary.{Ended, FitsView, IsHeld, Layout, LoadPhase, Local, Marking, MOST_GOROUTINES, PollStage, REGISTERS, Resuming, Runs, SPAN_CLASSES}
use Rattle.gh_phase.specs.Listing as resume
use Rattle.gh_wbuf.specs.RoomFinding as room
use Rattle.gh_poll.specs.declared.poll.PollAt.{PollAt}
use Rattle.gh_poll.specs.declared.poll.PollAt.TheVariants.{Begins, Amid, Over}
use Rattle.gh_poll.specs.declared.poll.PollStage.TheVariants.{Giving, FindRoom}
use Rattle.gh_poll.specs.Give as give
use Rattle.gh_poll.specs.GiveSound.{FitsCache}
use Rattle.gh_poll.specs.MarkStack as mark
use Rattle.gh_poll.specs.Polling.{Polling}

pub record SoundLocal (l : Layout) (local : Local) : Type 0 where
  pub view : FitsView local.view
  pub room : length local.cache ≡ SPAN_CLASSES
  pub cache : FitsCache l local.cache
  pub held : IsHeld l local.held
  pub scanned : length local.scanned ≡ MOST_GOROUTINES
  pub stacks : length local.stacks ≡ MOST_GOROUTINES
  pub rows : (g : ℕ) → g < MOST_GOROUTINES → length (slice_index_or local.stacks g []) ≡ REGISTERS

pub record GivesAt (l : Layout) (g : give.Giving) (stops : ℕ) : Type 0 where
  pub runs : Runs (give.listing l) g
  pub number : stops < 2 ^ 62

pub record MarksOne (l : Layout) (g : ℕ) (m : mark.StackMarking) : Type 0 where
  pub there : g < l.goroutines
  pub runs : Runs (mark.listing l) m

abbrev pub SoundStage : Layout → PollStage → Type 0
SoundStage l (Giving g stops) = GivesAt l g stops
SoundStage l (Resuming r) = Runs (resume.listing l) r
SoundStage l (Marking g m) = MarksOne l g m
SoundStage l (FindRoom r) = Runs (room.listing l) r
SoundStage l _ = Unit {0}

-- a poll has begun, and is not over
abbrev pub is_amid : PollStage → Bool
is_amid LoadPhase = false
is_amid Ended = false
is_amid _ = true

-- Where a poll stands is kept beside its stage, which counts only amid the stages.
abbrev pub stage_kept : PollAt → PollStage → PollStage
stage_kept Begins stage = LoadPhase
stage_kept Amid stage = stage
stage_kept Over stage = Ended

abbrev pub StandsSo : PollAt → PollStage → Type 0
StandsSo Amid stage = is_amid stage ≡ true
StandsSo _ stage = Unit {0}

pub record SoundPolling (l : Layout) (p : Polling) : Type 0 where
  pub seat : p.seat < l.procs
  pub local : SoundLocal l p.local
  pub stage : SoundStage l p.stage
