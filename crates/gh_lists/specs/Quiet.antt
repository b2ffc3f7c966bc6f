-- Steps that write none of the words of cycles: those of sweeps and of workers; and the coordinator's where it stops the world, looks and checks, sweeps, and loads what was counted.
use Rattle.std.proofs.Common.{◌≡◌, ℕ, true, inl, arith}
use Rattle.gh_lists.specs.Vocabulary.{Ask, Cell, effect, Layout, Words, WorkersWriteTheirOwn}
use Rattle.gh_coord.specs.Counting as count
use Rattle.gh_coord.specs.Stopping as stop
use Rattle.gh_coord.specs.SweepingAll as all
use Rattle.gh_coord.specs.Watching as watch
use Rattle.gh_worker.specs.Handshake as working
use Rattle.gh_worker.specs.Listing as worker
use Rattle.gh_lists.specs.LemmaVocabulary.{asked_after, CountStage, opened_after, StopStage, SweepAllStage, WatchStage}
use Rattle.gh_lists.specs.Frames.{LeavesCycleWords, numbers_of}

-- no cycle is opened, asked for, begun, ended or told, and no stack's word is written
pub record Quiet (w : Words) (ask : Ask) : Type 0 where
  pub opens_none : (before : ℕ) → opened_after ask before ≡ before
  pub asks_none : (before : ℕ) → asked_after ask before ≡ before
  pub want : effect w ask Cell.Want ≡ w Cell.Want
  pub scanned : (g : ℕ) → effect w ask (Cell.Scanned g) ≡ w (Cell.Scanned g)
  pub numbers : numbers_of (effect w ask) ≡ numbers_of w

-- so they stay
pub leaves_all : (w : Words) (ask : Ask) → Quiet w ask → LeavesCycleWords w ask
leaves_all w ask q = record { numbers = q.numbers; opens_none = q.opens_none; want = inl (q.asks_none, q.want) }

module _ (w : Words) where
  pub stop_quiet : (st : stop.Stopping) (p : StopStage) → Quiet w (stop.asks_at st p)
  stop_quiet st p = grind arith

  pub watch_quiet : (l : Layout) (p : WatchStage) → Quiet w (watch.asks_at l p)
  watch_quiet l p = grind arith

  pub count_quiet : (p : CountStage) → Quiet w (count.asks_at p)
  count_quiet p = grind arith

  pub all_quiet : (l : Layout) (p : SweepAllStage) → Quiet w (all.asks_at l p)
  all_quiet l p = record { opens_none = grind arith; asks_none = grind arith; want = grind arith; scanned = grind arith; numbers = grind arith }

  module _ (works : WorkersWriteTheirOwn) (l : Layout) (v : worker.Working) (sound : working.Sound v) (busy : worker.is_busy v.stage ≡ true) where
    pub worker_quiet : Quiet w (worker.asks l v)
    worker_quiet = record { opens_none = grind arith; asks_none = grind arith; want = grind arith; scanned = grind arith; numbers = grind arith }
