-- What a worker knows of its own numbers and routines, whatever it is told, and what it is as a routine.
use Rattle.std.specs.Prelude.{◌≡◌, ℕ, ◌+◌, ◌^◌, ◌<◌, ◌≤◌, Bool, true, false, ◌||◌}
use Rattle.gh_worker.specs.Vocabulary.{Earning, EarningAtStop, FindRoom, FitsView, Footprint, GiveBack, Layout, Listing, LoadGlobal, LoadPage, LoadPhase, Resuming, Runs, Scanning, Shading, Sweeping, Taking, WorkerStage}
use Rattle.gh_base.specs.Footprints as row
use Rattle.gh_base.specs.Holding.{IsHeld}
use Rattle.gh_credit.specs.Earning as earn
use Rattle.gh_phase.specs.Listing as resume
use Rattle.gh_scan.specs.Listing as scan
use Rattle.gh_scan.specs.Sound.{ShadingWaits}
use Rattle.gh_shade.specs.Listing as shade
use Rattle.gh_sweep.specs.Listing as sweep
use Rattle.gh_assist.specs.Within.{RoomWithin, ScanWithin, ShadeWithin, TakeWithin}
use Rattle.gh_wbuf.specs.BufferGiving as give
use Rattle.gh_wbuf.specs.EntryTaking as take
use Rattle.gh_wbuf.specs.Sound.{SoundGiveStage}
use Rattle.gh_worker.specs.Listing.{asks, given, goes, Working}

-- the seat of a worker: the processors have the seats before, and the coordinator the one behind
pub record IsWorkersSeat (l : Layout) (seat : ℕ) : Type 0 where
  pub from : l.procs ≤ seat
  pub below : seat < l.procs + l.workers

-- a routine that it runs at the stop of this number
pub record RunsAtStop {M Out : Type 0} (r : Listing M Out) (m : M) (number : ℕ) : Type 0 where
  pub runs : Runs r m
  pub stops : number < 2 ^ 62

-- a number that a stage has of its own, and no routine has, is of something that there is
abbrev pub NumberFits : Layout → WorkerStage → Type 0
NumberFits l (LoadGlobal i) = i < l.globals
NumberFits l _ = Unit {0}

abbrev pub SoundStage : Layout → WorkerStage → Type 0
SoundStage l (Sweeping sw) = Runs (sweep.listing l) sw
SoundStage l (EarningAtStop e stops) = RunsAtStop (earn.listing l) e stops
SoundStage l (GiveBack g stops) = RunsAtStop (give.listing l) g stops
SoundStage l (Resuming r) = Runs (resume.listing l) r
SoundStage l (Taking t) = Runs (take.listing l) t
SoundStage l (Scanning s) = Runs (scan.listing l) s
SoundStage l (Earning e) = Runs (earn.listing l) e
SoundStage l (Shading sh) = Runs (shade.listing l) sh
SoundStage l (FindRoom sh r) = ShadingWaits l sh r
SoundStage l p = NumberFits l p

-- what is kept of a stage whatever is found, be it no word of 64 bits: enough for its next step to be on a word that there is
abbrev pub StageWithin : Layout → WorkerStage → Type 0
StageWithin l (Sweeping sw) = sw.page < l.pages
StageWithin l (GiveBack g stops) = SoundGiveStage l g.stage
StageWithin l (Resuming r) = r.seat < l.procs + l.workers
StageWithin l (Taking t) = TakeWithin l t
StageWithin l (Scanning s) = ScanWithin l s
StageWithin l (Shading sh) = ShadeWithin l sh
StageWithin l (FindRoom sh r) = ShadeWithin l sh × RoomWithin l r
StageWithin l p = NumberFits l p

-- That a worker looks at a page next is kept beside its stage: what stands for a stage is the load of the phase then.
abbrev pub stage_kept : Bool → WorkerStage → WorkerStage
stage_kept true p = LoadPage
stage_kept false p = p

abbrev pub LooksSo : Bool → WorkerStage → Type 0
LooksSo true p = p ≡ LoadPhase
LooksSo false LoadPage = ⊥
LooksSo false _ = Unit {0}

abbrev pub is_at_page : WorkerStage → Bool
is_at_page LoadPage = true
is_at_page _ = false

abbrev pub rest_of : WorkerStage → WorkerStage
rest_of LoadPage = LoadPhase
rest_of p = p

pub record SoundWorking (l : Layout) (w : Working) : Type 0 where
  pub seat : IsWorkersSeat l w.seat
  pub held : IsHeld l w.held
  pub view : FitsView w.view
  pub page : w.page < l.pages
  pub stage : SoundStage l w.stage

-- and of the worker
pub record StandsWithin (l : Layout) (w : Working) : Type 0 where
  pub pages : 1 ≤ l.pages
  pub seat : IsWorkersSeat l w.seat
  pub held : IsHeld l w.held
  pub page : w.page < l.pages
  pub stage : StageWithin l w.stage

-- the rows that it writes while it sweeps no span: those of the scan of an object, and three of its own
abbrev pub marks : Footprint
marks row.Gcur = true
marks row.Bank = true
marks row.Ack = true
marks r = scan.writes r

-- and those that its sweeps write
abbrev pub writes : Footprint
writes r = marks r || sweep.writes r

abbrev pub listing : Layout → Listing Working (Unit {0})
listing l = record { asks = asks l; goes = goes l; given = given; sound = SoundWorking l; writes = writes }
