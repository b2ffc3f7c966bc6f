-- Each step of a worker is on a word that there is, whatever is found: by its stages.
use Rattle.std.proofs.Common.{◌≡◌, ℕ, ◌+◌, ◌<◌, Option, Some, None, arith}
use Rattle.std.proofs.lemmas.Bool.Decides.{nat_tests}
use Rattle.gh_worker.proofs.Vocabulary.{after_page, after_resume, after_room, after_scan, after_shade, after_sweep, after_take, asks_at, at_stage, by_phase, by_work, cell_of, counted, done_with, EarnStage, gives_back, goes_at, handed_over, Held, InRange, Layout, LoadPhase, PageWord, Phase, phase_of, Resumed, ResumeStage, Scanning, Shaded, SweepEnd, WorkerStage, Working}
use Rattle.gh_assist.specs.Within.{HasRoomForEntry, RoomWithin, ScanWithin, ShadeWithin, TakenIsReference, TakeWithin, TakingAndScanningAreWithin}
use Rattle.gh_base.specs.Holding.{IsHeld}
use Rattle.gh_credit.specs.Earning as earn
use Rattle.gh_phase.specs.Listing as resume
use Rattle.gh_scan.specs.Listing as scan
use Rattle.gh_shade.specs.Listing as shade
use Rattle.gh_sweep.specs.Listing as sweep
use Rattle.gh_wbuf.specs.BufferGiving as give
use Rattle.gh_wbuf.specs.EntryTaking as take
use Rattle.gh_wbuf.specs.RoomFinding as room
use Rattle.gh_wbuf.specs.Sound.{SoundGiveStage}
use Rattle.gh_worker.specs.Routine.{WorkersStayWithin}
use Rattle.gh_worker.specs.Sound.{StageWithin, StandsWithin}

-- routines whose steps depend on few of their numbers

span_stays : (sw : sweep.Sweeping) (found : ℕ) → (sweep.goes sw found).page ≡ sw.page
span_stays sw found = grind arith

span_within : (l : Layout) (sw : sweep.Sweeping) → sw.page < l.pages → InRange l (cell_of (sweep.asks l sw))
span_within l sw lt = grind arith

seat_stays : (r : resume.Resuming) (p : ResumeStage) (found : ℕ) → (resume.goes_at r p found).seat ≡ r.seat
seat_stays r p found = grind arith

resume_within : (l : Layout) (r : resume.Resuming) → r.seat < l.procs + l.workers → InRange l (cell_of (resume.asks r))
resume_within l r lt = grind arith

earn_within : (l : Layout) (x : earn.Earning) (p : EarnStage) → InRange l (cell_of (earn.asks_at x p))
earn_within l x p = grind arith

give_within : (l : Layout) (g : give.BufferGiving) → SoundGiveStage l g.stage → InRange l (cell_of (give.asks g))
give_within l g f = grind arith

module _ (k : TakingAndScanningAreWithin) (l : Layout) (w : Working) (f : StandsWithin l w) where
  -- at another stage, with this held
  on : (held : Option Held) (stage : WorkerStage) → IsHeld l held → StageWithin l stage → StandsWithin l (record w { held = held; stage = stage })
  on held stage h s = record { pages = f.pages; seat = f.seat; held = h; page = f.page; stage = s }

  at : (stage : WorkerStage) → StageWithin l stage → StandsWithin l (at_stage w stage)
  at stage s = on w.held stage f.held s

  done_so : (held : Option Held) (words : ℕ) → IsHeld l held → StandsWithin l (done_with w held words)
  done_so held words h = record { pages = f.pages; seat = f.seat; held = h; page = f.page; stage = by_work (StageWithin l) (counted w.scan_work words) tt tt }

  back_so : (stops : ℕ) (held : Option Held) → IsHeld l held → StageWithin l (gives_back w stops held)
  back_so stops held h = grind arith

  handed_so : (stage : WorkerStage) → StageWithin l stage → StandsWithin l (handed_over w stage)
  handed_so stage s = record { pages = f.pages; seat = f.seat; held = f.held; page = f.page; stage = s }

  phase_so : (stops : ℕ) (found : Phase) → StageWithin l (by_phase w stops found)
  phase_so stops found = grind (arith, nat_tests)

  page_so : (word : PageWord) → StandsWithin l (after_page l w word)
  page_so word = grind (arith, nat_tests)

  sweep_so : (sw : sweep.Sweeping) (out : Option SweepEnd) → sw.page < l.pages → StandsWithin l (after_sweep l w sw out)
  sweep_so sw out s = grind arith

  resume_so : (r : resume.Resuming) (out : Option Resumed) → r.seat < l.procs + l.workers → StandsWithin l (after_resume w r out)
  resume_so r out s = grind arith

  take_so : (t : take.EntryTaking) (out : Option (Option ℕ)) → TakeWithin l t → TakenIsReference l out → StandsWithin l (after_take w t out)
  take_so t out s r = grind arith

  scan_so : (s : scan.Scanning) (out : Option ℕ) → ScanWithin l s → StandsWithin l (after_scan w s out)
  scan_so s None x = at (Scanning s) x
  scan_so s (Some words) x = done_so _ words (k.scan_holds l s x)

  shade_so : (sh : shade.Shading) (out : Option Shaded) → ShadeWithin l sh → StandsWithin l (after_shade w sh out)
  shade_so sh out s = grind (arith, nat_tests)

  room_so : (sh : shade.Shading) (r : room.RoomFinding) (out : Option Held) → ShadeWithin l sh → RoomWithin l r → HasRoomForEntry l out → StandsWithin l (after_room w sh r out)
  room_so sh r out s x g = grind arith

  stays_at : (p : WorkerStage) (found : ℕ) → StageWithin l p → StandsWithin l (goes_at l w p found)
  stays_at LoadPhase found s = at _ (phase_so (phase_of found).stops (phase_of found).phase)
  stays_at _ found s = grind (arith, nat_tests, phase_so, page_so, sweep_so, back_so, handed_so, resume_so, take_so, scan_so, shade_so, room_so, span_stays, seat_stays)

  within_at : (p : WorkerStage) → StageWithin l p → InRange l (cell_of (asks_at l w p))
  within_at _ s = grind (arith, span_within, earn_within, give_within, resume_within)

pub stay_within : TakingAndScanningAreWithin → WorkersStayWithin
stay_within k = record {
  at_first = λ l seat pages is. record { pages = pages; seat = is; held = tt; page = pages; stage = tt };
  stays = λ l w found f. stays_at k l w f w.stage found f.stage;
  within = λ l w f. within_at k l w f w.stage f.stage;
}
