-- What holds of either of two stages holds of the one that a worker goes on at.
use Rattle.std.proofs.Common.{arith, ◌≡◌, ℕ, Option}
use Rattle.gh_worker.specs.Vocabulary.{Earning, EarningAtStop, Held, LoadPhase, WorkerStage}
use Rattle.gh_credit.specs.Earning as earn
use Rattle.gh_worker.specs.Listing.{gives_back, stops_at, with_work, Working}

-- with so many words scanned and not handed over
pub by_work : (P : WorkerStage → Type 0) (scan_work : ℕ) → P LoadPhase → P (Earning (earn.opening scan_work)) → P (with_work scan_work)
by_work P scan_work one other = grind arith

-- at a stop
pub by_stop : (P : WorkerStage → Type 0) (w : Working) (stops : ℕ) (held : Option Held) → (w.scan_work ≡ 0 → P (gives_back w stops held)) → P (EarningAtStop (earn.opening w.scan_work) stops) → P (stops_at w stops held)
by_stop P w stops held one other = grind arith
