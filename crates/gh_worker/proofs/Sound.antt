-- A worker stays sound, its steps lie in the heap, and they write the rows of its footprint: by its stages. Of its routines it is known that they are routines.
use Rattle.std.proofs.Common.{◌≡◌, ℕ, ◌^◌, ◌<◌, true, Option, Some, None, refl, subst, arith}
use Rattle.std.proofs.lemmas.Bool.Decides.{nat_tests}
use Rattle.gh_worker.proofs.Vocabulary.{after_give, after_page, after_resume, after_room, after_scan, after_shade, after_sweep, after_take, Ask, asks, asks_at, at_stage, by_phase, by_stop, by_work, cell_of, counted, Done, done_with, Earning, EarningAtStop, EarnStage, FindRoom, FitsPage, Footprint, FootprintsHold, GiveBack, gives_back, goes_at, handed_over, Held, InRange, IsOutsideMarking, Layout, Leave, LoadPage, LoadPhase, marks, page_of, PageWord, Phase, phase_of, Resumed, ResumeStage, Resuming, Scanning, Shaded, Shading, SoundAt, SoundStage, SoundWorking, sweep_at, SweepEnd, Sweeping, Taking, WaitForRoom, WorkerStage, Working, Writes, writes}
use Rattle.gh_base.specs.Holding.{IsHeld}
use Rattle.gh_base.specs.Machines.{IsRoutine}
use Rattle.gh_credit.specs.Earning as earn
use Rattle.gh_phase.specs.Listing as resume
use Rattle.gh_scan.specs.Listing as scan
use Rattle.gh_scan.specs.Sound.{SoundScanning}
use Rattle.gh_shade.specs.Listing as shade
use Rattle.gh_shade.specs.Sound.{IsReference, SoundShading}
use Rattle.gh_sweep.specs.Listing as sweep
use Rattle.gh_wbuf.specs.BufferGiving as give
use Rattle.gh_wbuf.specs.EntryTaking as take
use Rattle.gh_wbuf.specs.RoomFinding as room
use Rattle.gh_wbuf.specs.Sound.{SoundEntryTaking, SoundRoomFinding}
use Rattle.gh_worker.specs.Blind as blind
use Rattle.gh_worker.specs.Routine.{acknowledges, claims, hands_over, OwnStep, shades, WorkersAreRoutines, WritesAlone}
use Rattle.gh_worker.specs.declared.worker.WorkerStage.TheVariants.{Claim}

pub record Known : Type 0 where
  pub footprints : FootprintsHold
  pub reads : (word : ℕ) → word < 2 ^ 64 → FitsPage (page_of word)
  pub earn : (l : Layout) → IsRoutine l (earn.listing l)
  pub give : (l : Layout) → IsRoutine l (give.listing l)
  pub resume : (l : Layout) → IsRoutine l (resume.listing l)
  pub take : (l : Layout) → IsRoutine l (take.listing l)
  pub scan : (l : Layout) → IsRoutine l (scan.listing l)
  pub shade : (l : Layout) → IsRoutine l (shade.listing l)
  pub room : (l : Layout) → IsRoutine l (room.listing l)
  pub sweep : (l : Layout) → IsRoutine l (sweep.listing l)

-- the steps by which it hands over words, and those by which it acknowledges
earn_own : (seat : ℕ) (e : earn.Earning) (p : EarnStage) → OwnStep seat (earn.asks_at e p)
earn_own seat e EarnStage.Add = hands_over e.words refl
earn_own seat e EarnStage.Ended = shades refl

resume_own : (r : resume.Resuming) (p : ResumeStage) → OwnStep r.seat (resume.asks_at r p)
resume_own r ResumeStage.Acknowledge = acknowledges r.stops refl
resume_own r _ = shades refl

-- what is taken is a reference, whatever word is found
abbrev IsTaken : Layout → Option (Option ℕ) → Type 0
IsTaken l (Some (Some reference)) = IsReference l reference
IsTaken l _ = Unit {0}

module _ (l : Layout) (w : Working) (x : SoundWorking l w) where
  taken_is : (t : take.EntryTaking) (found : ℕ) → take.is_busy t.stage ≡ true → IsTaken l (take.gives l t found)
  taken_is t found busy = let there = x.page in grind arith

  -- at another stage, with this held
  on : (held : Option Held) (p : WorkerStage) → IsHeld l held → SoundStage l p → SoundWorking l (record w { held = held; stage = p })
  on held p h s = record { seat = x.seat; held = h; view = x.view; page = x.page; stage = s }

  at : (p : WorkerStage) → SoundStage l p → SoundWorking l (at_stage w p)
  at p s = on w.held p x.held s

  done_so : (held : Option Held) (words : ℕ) → IsHeld l held → SoundWorking l (done_with w held words)
  done_so held words h = record { seat = x.seat; held = h; view = x.view; page = x.page; stage = by_work (SoundStage l) (counted w.scan_work words) tt (record { sound = tt; busy = refl }) }

  back_so : (stops : ℕ) (held : Option Held) → stops < 2 ^ 62 → IsHeld l held → SoundStage l (gives_back w stops held)
  back_so stops held few h = grind arith

  handed_so : (p : WorkerStage) → SoundStage l p → SoundWorking l (handed_over w p)
  handed_so p s = record { seat = x.seat; held = x.held; view = x.view; page = x.page; stage = s }

  phase_so : (stops : ℕ) (phase : Phase) → stops < 2 ^ 62 → SoundStage l (by_phase w stops phase)
  phase_so stops phase few = grind (arith, nat_tests, back_so, by_stop)

  page_so : (word : PageWord) → FitsPage word → SoundWorking l (after_page l w word)
  page_so word fits = grind (arith, nat_tests)

  sweep_so : (sw : sweep.Sweeping) (out : Option SweepEnd) → sweep.given sw ≡ out → (sweep.listing l).sound sw → SoundWorking l (after_sweep l w sw out)
  sweep_so sw out e s = grind (arith, nat_tests)

  give_so : (g : give.BufferGiving) (stops : ℕ) (out : Option (Unit {0})) → give.given g ≡ out → (give.listing l).sound g → stops < 2 ^ 62 → SoundWorking l (after_give w g stops out)
  give_so g stops out e s few = grind arith

  resume_so : (r : resume.Resuming) (out : Option Resumed) → resume.given r ≡ out → (resume.listing l).sound r → SoundWorking l (after_resume w r out)
  resume_so r out e s = grind arith

  take_so : (t : take.EntryTaking) (out : Option (Option ℕ)) → take.given t ≡ out → SoundEntryTaking l t → IsTaken l out → SoundWorking l (after_take w t out)
  take_so t out e s is = grind arith

  scan_so : (sc : scan.Scanning) (out : Option ℕ) → scan.given sc ≡ out → SoundScanning l sc → SoundWorking l (after_scan w sc out)
  scan_so sc out e s = grind (arith, done_so)

  shade_so : (sh : shade.Shading) (out : Option Shaded) → shade.given sh ≡ out → SoundShading l sh → SoundWorking l (after_shade w sh out)
  shade_so sh out e s = grind (arith, done_so)

  room_so : (sh : shade.Shading) (r : room.RoomFinding) (out : Option Held) → room.given r ≡ out → SoundShading l sh → sh.stage ≡ WaitForRoom → SoundRoomFinding l r → SoundWorking l (after_room w sh r out)
  room_so sh r out e s waits sound = grind (arith, nat_tests)

  module _ (k : Known) where
    keeps_at : (p : WorkerStage) (found : ℕ) → found < 2 ^ 64 → SoundStage l p → SoundWorking l (goes_at l w p found)
    keeps_at LoadPhase found few s = at _ (phase_so (phase_of found).stops (phase_of found).phase (omega arith))
    keeps_at (Resuming r) found few s = resume_so (resume.goes r found) _ refl ((k.resume l).keeps r found few s.sound s.busy)
    keeps_at (Taking t) found few s = take_so (take.goes l t found) _ refl ((k.take l).keeps t found few s.sound s.busy) (taken_is t found s.busy)
    keeps_at (Scanning sc) found few s = scan_so (scan.goes l sc found) _ refl ((k.scan l).keeps sc found few s.sound s.busy)
    keeps_at (FindRoom sh r) found few s = room_so sh (room.goes l r found) _ refl s.shade s.waits ((k.room l).keeps r found few s.runs.sound s.runs.busy)
    keeps_at _ found few s = let there = x.page in grind (arith, nat_tests, done_so, page_so, sweep_so, back_so, handed_so, give_so, resume_so, take_so, scan_so, shade_so, room_so, taken_is)

    within_at : (p : WorkerStage) → SoundStage l p → InRange l (cell_of (asks_at l w p))
    within_at LoadPage s = x.page
    within_at (Taking t) s = (k.take l).within t s.sound s.busy
    within_at (Scanning sc) s = (k.scan l).within sc s.sound s.busy
    within_at (FindRoom sh r) s = (k.room l).within r s.runs.sound s.runs.busy
    within_at _ s = let below = x.seat.below in grind arith

-- the rows that it writes at a stage: those of the routine that it runs there
abbrev pub rows_at : Layout → WorkerStage → Footprint
rows_at l (Sweeping sw) = sweep.writes
rows_at l (EarningAtStop e stops) = earn.writes
rows_at l (GiveBack g stops) = (give.listing l).writes
rows_at l (Resuming r) = resume.writes
rows_at l (Taking t) = (take.listing l).writes
rows_at l (Scanning sc) = scan.writes
rows_at l (Earning e) = earn.writes
rows_at l Claim = marks
rows_at l (Shading sh) = shade.writes
rows_at l (FindRoom sh r) = (room.listing l).writes
rows_at l Leave = resume.writes
rows_at l _ = scan.writes

module _ (k : Known) (l : Layout) (w : Working) where
  pub rows_so : (p : WorkerStage) → Writes (rows_at l p) (asks_at l w p)
  rows_so (Sweeping sw) = (k.sweep l).writes sw
  rows_so (EarningAtStop e stops) = (k.earn l).writes e
  rows_so (GiveBack g stops) = (k.give l).writes g
  rows_so (Resuming r) = (k.resume l).writes r
  rows_so (Taking t) = (k.take l).writes t
  rows_so (Scanning sc) = (k.scan l).writes sc
  rows_so (Earning e) = (k.earn l).writes e
  rows_so (Shading sh) = (k.shade l).writes sh
  rows_so (FindRoom sh r) = (k.room l).writes r
  rows_so _ = refl

  own_at : (p : WorkerStage) → SoundAt w p → sweep_at p ≡ None → OwnStep w.seat (asks_at l w p)
  own_at (Sweeping sw) s none = absurd (cc)
  own_at (EarningAtStop e stops) s none = earn_own w.seat e e.stage
  own_at (Resuming r) s none = subst (λ (seat : ℕ). OwnStep seat (resume.asks r)) s.seat_is (resume_own r r.stage)
  own_at (Earning e) s none = earn_own w.seat e e.stage
  own_at Claim s none = claims refl
  own_at Leave s none = acknowledges _ refl
  own_at p s none = shades (k.footprints.among (rows_at l p) scan.writes (asks_at l w p) refl (rows_so p))

  marks_at : (p : WorkerStage) → sweep_at p ≡ None → Writes marks (asks_at l w p)
  marks_at (Sweeping sw) none = absurd (cc)
  marks_at p none = k.footprints.among (rows_at l p) marks (asks_at l w p) refl (rows_so p)

  writes_at : (p : WorkerStage) → Writes writes (asks_at l w p)
  writes_at (Sweeping sw) = k.footprints.among sweep.writes writes _ refl (rows_so (Sweeping sw))
  writes_at p = k.footprints.among (rows_at l p) writes (asks_at l w p) refl (rows_so p)

  sweeps_at : (p : WorkerStage) (sw : sweep.Sweeping) → sweep_at p ≡ Some sw → Writes sweep.writes (asks_at l w p)
  sweeps_at (Sweeping x) sw is = rows_so (Sweeping x)
  sweeps_at _ sw is = absurd (cc)

  rests_at : (p : WorkerStage) → IsOutsideMarking p → sweep_at p ≡ None → Writes resume.writes (asks_at l w p)
  rests_at (Sweeping sw) rests none = absurd (cc)
  rests_at (Resuming r) rests none = rows_so (Resuming r)
  rests_at LoadPhase rests none = refl
  rests_at LoadPage rests none = refl
  rests_at Leave rests none = refl
  rests_at Done rests none = refl
  rests_at _ rests none = absurd rests

alone : Known → (f : Footprint) (step : Ask) → Writes f step → WritesAlone f step
alone k f step writes = record { writes = writes; leaves = λ words c none. k.footprints.leaves f step words c writes none }

pub are_routines : Known → WorkersAreRoutines
are_routines k = record {
  is_routine = λ l. record {
    keeps = λ w found few x busy. keeps_at l w x k w.stage found few x.stage;
    within = λ w x busy. within_at l w x k w.stage x.stage;
    writes = λ w. writes_at k l w w.stage;
    blind = blind.blind l;
  };
  opens = λ l seat is. record { seat = is; held = tt; view = record { generation = omega arith; begun = omega arith }; page = omega (arith, l.limits.pages_fit.0); stage = tt };
  alone = λ l w. alone k writes (asks l w) (writes_at k l w w.stage);
  sweeps_alone = λ l w sw is. alone k sweep.writes (asks l w) (sweeps_at k l w w.stage sw is);
  marks_alone = λ l w none. alone k marks (asks l w) (marks_at k l w w.stage none);
  rests_alone = λ l w calm none. alone k resume.writes (asks l w) (rests_at k l w w.stage calm.rests none);
  own_step = λ l w s none. own_at k l w w.stage s none;
}
