-- Where a worker stands in the handshake of a stop.
use Rattle.std.specs.Prelude.{◌≡◌, ℕ, ◌⊎◌, true, Option, Some, None}
use Rattle.gh_worker.specs.Vocabulary.{Awake, Cell, Done, Earning, EarningAtStop, Finished, first_party, GiveBack, Gives, Gone, Held, KeepsHandshake, Layout, Leave, Leaves, Load, LoadPage, LoadPhase, Mark, Party, phase_of, Resuming, run_phase, Stage, steps_of, Sweeping, WorkerStage}
use Rattle.gh_credit.specs.Earning as earn
use Rattle.gh_phase.specs.Listing as resume
use Rattle.gh_phase.specs.ResumePlaces as resumes
use Rattle.gh_worker.specs.Listing.{asks, goes, is_busy, opening, Working}
use Rattle.gh_worker.specs.Sound.{listing}

-- while it takes, scans and shades it is awake; at a stop it hands over what it has scanned, and gives its buffer back
abbrev pub stands_at : WorkerStage → Stage
stands_at (EarningAtStop e stops) = Gives stops
stands_at (GiveBack g stops) = Gives stops
stands_at (Resuming r) = resumes.stage_of r
stands_at Leave = Leaves
stands_at Done = Gone
stands_at _ = Awake

-- while it goes on after a stop, it knows what that knows
abbrev pub party_at : Working → WorkerStage → Party
party_at w (Resuming r) = resumes.party_of r
party_at w _ = record { seat = w.seat; view = w.view }

abbrev pub stage_of : Working → Stage
stage_of w = stands_at w.stage

abbrev pub party_of : Working → Party
party_of w = party_at w w.stage

-- it hands over all that it has scanned and not handed over yet
pub record HandsOver (scan_work : ℕ) (e : earn.Earning) : Type 0 where
  pub words_are : e.words ≡ scan_work
  pub busy : earn.is_busy e.stage ≡ true

-- it goes on after a stop for its own seat, with no buffer held and nothing left to hand over
pub record GoesOnWithNone (seat : ℕ) (held : Option Held) (scan_work : ℕ) (r : resume.Resuming) : Type 0 where
  pub seat_is : r.seat ≡ seat
  pub busy : resume.is_busy r ≡ true
  pub none : held ≡ None
  pub handed : scan_work ≡ 0

-- at a stop it gives its buffer back once nothing is left to hand over
abbrev pub SoundAt : Working → WorkerStage → Type 0
SoundAt w (Earning e) = HandsOver w.scan_work e
SoundAt w (EarningAtStop e stops) = HandsOver w.scan_work e
SoundAt w (GiveBack g stops) = w.scan_work ≡ 0
SoundAt w (Resuming r) = GoesOnWithNone w.seat w.held w.scan_work r
SoundAt w _ = Unit {0}

abbrev pub Sound : Working → Type 0
Sound w = SoundAt w w.stage

-- it is about to say that it is gone, or is done
abbrev pub IsLeaving : WorkerStage → Type 0
IsLeaving Leave = Unit {0}
IsLeaving Done = Unit {0}
IsLeaving _ = ⊥

-- it takes, scans or shades, claims a global, or hands over what it has scanned before it goes on: at no stage of the phase, of a page or a sweep, of a stop, or of leaving
abbrev pub IsMarking : WorkerStage → Type 0
IsMarking LoadPhase = ⊥
IsMarking LoadPage = ⊥
IsMarking (Sweeping sw) = ⊥
IsMarking (EarningAtStop e stops) = ⊥
IsMarking (GiveBack g stops) = ⊥
IsMarking (Resuming r) = ⊥
IsMarking Leave = ⊥
IsMarking Done = ⊥
IsMarking _ = Unit {0}

-- it was marking before the step, or finds with it that marking is on
pub record FindsMarking (found : ℕ) (w : Working) (stage : WorkerStage) (to : Working) : Type 0 where
  pub view_stays : to.view ≡ w.view
  pub finds : IsMarking stage ⊎ ((stage ≡ LoadPhase) × (run_phase (phase_of found).phase ≡ Some Mark))

pub record WorkersKeepHandshake : Type 0 where
  -- before its first step
  pub sound : (seat : ℕ) → Sound (opening seat)
  pub party : (seat : ℕ) → party_of (opening seat) ≡ first_party seat
  pub awake : (seat : ℕ) → stage_of (opening seat) ≡ Awake
  -- and by each step
  pub keeps : (l : Layout) → KeepsHandshake (steps_of l (listing l)) Sound party_of stage_of
  -- it leaves only where it finds the last phase
  pub leaves : (l : Layout) (w : Working) (found : ℕ) → is_busy w.stage ≡ true → IsLeaving (goes l w found).stage → IsLeaving w.stage ⊎ ((asks l w ≡ Load Cell.Phase) × (run_phase (phase_of found).phase ≡ Some Finished))
  -- it marks only where it finds that marking is on
  pub marks : (l : Layout) (w : Working) (found : ℕ) → is_busy w.stage ≡ true → IsMarking (goes l w found).stage → FindsMarking found w w.stage (goes l w found)
