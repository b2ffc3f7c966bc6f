-- What an assist knows of its own numbers and routines, whatever it is told.
use Rattle.std.specs.Prelude.{◌≡◌, ℕ, ◌^◌, ◌<◌, ◌≤◌, true}
use Rattle.gh_assist.specs.Vocabulary.{Assist, AssistStage, Drawing, IsHeld, Layout, LoadSlack, Runs, Scanning, seats_of, Taking}
use Rattle.gh_assist.specs.declared.assist.TheConstants.{MOST_ASSIST_BYTES}
use Rattle.gh_credit.specs.Drawing as draw
use Rattle.gh_scan.specs.Listing as scan
use Rattle.gh_wbuf.specs.EntryTaking as take

-- a slack by which a debt can be divided
pub record FitsSlack (slack : ℕ) : Type 0 where
  pub some : 1 ≤ slack
  pub most : slack ≤ 2 ^ 31

abbrev pub SoundStage : Layout → AssistStage → Type 0
SoundStage l (LoadSlack work) = work < 2 ^ 31
SoundStage l (Drawing d) = Runs (draw.listing l) d
SoundStage l (Taking t) = Runs (take.listing l) t
SoundStage l (Scanning s) = Runs (scan.listing l) s
SoundStage l _ = Unit {0}

pub record SoundAssisting (l : Layout) (x : Assist) : Type 0 where
  pub seat : x.seat < seats_of l
  pub held : IsHeld l x.held
  pub bytes : x.bytes ≤ MOST_ASSIST_BYTES
  pub stage : SoundStage l x.stage

-- Of its routines, whatever it is told: each has a step to make, and the draw is for all that is owed.
abbrev pub SoundParts : (owed : ℕ) → AssistStage → Type 0
SoundParts owed (Drawing d) = (draw.is_busy d.stage ≡ true) × (d.owed ≡ owed)
SoundParts owed (Taking t) = take.is_busy t.stage ≡ true
SoundParts owed (Scanning s) = scan.is_busy s.stage ≡ true
SoundParts owed _ = Unit {0}

abbrev pub IsSound : Assist → Type 0
IsSound x = SoundParts x.owed x.stage
