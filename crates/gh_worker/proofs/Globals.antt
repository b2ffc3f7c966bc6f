-- A worker's global, step by step.
use Rattle.std.proofs.Common.{◌≡◌, ◌⊎◌, ℕ, ◌+◌, nat_lt, if◌then◌else◌, false, Option, refl, arith}
use Rattle.gh_worker.specs.Vocabulary.{Claim}
use Rattle.gh_worker.proofs.Vocabulary.{after_give, after_page, after_resume, after_room, after_scan, after_shade, after_sweep, after_take, Ask, asks_at, by_phase, Footprint, gives_back, global_held, goes_at, Held, IsMarking, IsOutsideMarking, Layout, LoadPhase, PageWord, Phase, phase_of, Resumed, Shaded, shading_word, SweepEnd, words_done, WorkerStage, Working, Writes}
use Rattle.gh_base.specs.Footprints as row
use Rattle.gh_phase.specs.Listing as resume
use Rattle.gh_scan.specs.Listing as scan
use Rattle.gh_shade.specs.Listing as shade
use Rattle.gh_sweep.specs.Listing as sweep
use Rattle.gh_wbuf.specs.BufferGiving as give
use Rattle.gh_wbuf.specs.EntryTaking as take
use Rattle.gh_wbuf.specs.RoomFinding as room
use Rattle.gh_worker.specs.Globals.{claimed_by, global_done, object_done, WorkersCountGlobals}
use Rattle.gh_worker.proofs.Sound.{Known, rows_at, rows_so}

-- the stage at which it claims one, where there is one left
abbrev claims_at : Layout → WorkerStage → (found : ℕ) → ℕ
claims_at l Claim found = if nat_lt found l.globals then 1 else 0
claims_at l _ found = 0

-- a step of another row claims none
none_claimed : (l : Layout) (f : Footprint) (step : Ask) (found : ℕ) → Writes f step → f row.Gcur ≡ false → claimed_by l step found ≡ 0
none_claimed l f step found writes other = grind arith

module _ (l : Layout) (w : Working) where
  abbrev Left : Working → ℕ
  Left to = global_held to.stage

  by_phase_so : (stops : ℕ) (phase : Phase) → global_held (by_phase w stops phase) ≡ 0
  by_phase_so stops phase = grind arith

  page_so : (word : PageWord) → Left (after_page l w word) ≡ 0
  page_so word = grind arith

  sweep_so : (sw : sweep.Sweeping) (out : Option SweepEnd) → Left (after_sweep l w sw out) ≡ 0
  sweep_so sw out = grind arith

  back_so : (stops : ℕ) (held : Option Held) → global_held (gives_back w stops held) ≡ 0
  back_so stops held = grind arith

  give_so : (g : give.BufferGiving) (stops : ℕ) (out : Option (Unit {0})) → Left (after_give w g stops out) ≡ 0
  give_so g stops out = grind arith

  resume_so : (r : resume.Resuming) (out : Option Resumed) → Left (after_resume w r out) ≡ 0
  resume_so r out = grind arith

  take_so : (t : take.EntryTaking) (out : Option (Option ℕ)) → Left (after_take w t out) ≡ 0
  take_so t out = grind arith

  scan_so : (s : scan.Scanning) (out : Option ℕ) → Left (after_scan w s out) ≡ 0
  scan_so s out = grind arith

  shade_so : (sh : shade.Shading) (out : Option Shaded) → Left (after_shade w sh out) + shading_word out ≡ 1
  shade_so sh out = grind arith

  room_so : (sh : shade.Shading) (r : room.RoomFinding) (out : Option Held) → Left (after_room w sh r out) ≡ 1
  room_so sh r out = grind arith

  -- where nothing is in hand before and behind
  none : (n : ℕ) → n ≡ 0 → n + 0 ≡ 0 + 0
  none n is = omega (arith, is)

  module _ (found : ℕ) where
    left_at : (p : WorkerStage) → Left (goes_at l w p found) + global_done p found ≡ global_held p + claims_at l p found
    left_at LoadPhase = none _ (by_phase_so (phase_of found).stops (phase_of found).phase)
    left_at _ = grind (arith, page_so, sweep_so, back_so, give_so, resume_so, take_so, scan_so, shade_so, room_so)

    claimed_is : Known → (p : WorkerStage) → claimed_by l (asks_at l w p) found ≡ claims_at l p found
    claimed_is k Claim = refl
    claimed_is k p = none_claimed l (rows_at l p) (asks_at l w p) found (rows_so k l w p) refl

    holds_at : Known → (p : WorkerStage) → Left (goes_at l w p found) + global_done p found ≡ global_held p + claimed_by l (asks_at l w p) found
    holds_at k p = let left = left_at p in let claimed = claimed_is k p in omega (arith, left, claimed)

parts_at : (l : Layout) (p : WorkerStage) (found : ℕ) → words_done l p found ≡ global_done p found + object_done l p found
parts_at l p found = grind arith

marks_at : (l : Layout) (p : WorkerStage) (found : ℕ) → (words_done l p found ≡ 0) ⊎ IsMarking p
marks_at l p found = grind arith

rests_at : (l : Layout) (p : WorkerStage) (found : ℕ) → IsOutsideMarking p → words_done l p found ≡ 0
rests_at l p found rests = grind arith

pub count_globals : Known → WorkersCountGlobals
count_globals k = record {
  parts = λ l w found. parts_at l w.stage found;
  holds = λ l w found. holds_at l w found k w.stage;
  marks = λ l w found. marks_at l w.stage found;
  rests = λ l w found calm. rests_at l w.stage found calm.rests;
}
