-- Each step of a worker is one of the handshake of a stop: by its stages.
use Rattle.std.proofs.Common.{◌≡◌, ℕ, true, refl, ap, inl, inr, Option, Some, None, arith}
use Rattle.gh_worker.proofs.Vocabulary.{after_give, after_resume, Ask, asks_at, at_stage, Awake, by_phase, by_stop, Cell, Done, EarningAtStop, EarnStage, FromAwake, GiveBack, gives_back, goes_at, GoesOnWithNone, handed_over, Held, is_busy, IsQuietInHandshake, Layout, Leave, Load, LoadPhase, party_at, party_of, Phase, phase_of, Resumed, Resuming, run_phase, Sound, SoundAt, stage_of, StageGoes, stands_at, stops_at, SweepStage, WorkersKeepHandshake, WorkerStage, Working}
use Rattle.gh_credit.specs.Earning as earn
use Rattle.gh_phase.specs.Listing as resume
use Rattle.gh_phase.specs.ResumePlaces.{ResumesInHandshake}
use Rattle.gh_scan.specs.Quiet.{MarkingIsQuiet}
use Rattle.gh_sweep.specs.Listing as sweep
use Rattle.gh_wbuf.specs.BufferGiving as give
use Rattle.gh_base.specs.declared.pack.Phase.TheVariants.{Stop}
use Rattle.gh_worker.proofs.Phases.{leaves_at, marks_at}

-- what is scanned is handed over by no word of the handshake
earn_quiet : (x : earn.Earning) (p : EarnStage) → IsQuietInHandshake (earn.asks_at x p)
earn_quiet x p = grind arith

-- the worker that a step leads to, from one that is awake
abbrev FromAwakeTo : (found : ℕ) → Ask → (w to : Working) → Type 0
FromAwakeTo found ask w to = Sound to × (party_of to ≡ record { seat = w.seat; view = w.view }) × FromAwake found ask (stage_of to)

-- and from one at this stage
abbrev Goes : Layout → (found : ℕ) → (w : Working) → WorkerStage → (to : Working) → Type 0
Goes l found w stage to = Sound to × StageGoes found (party_at w stage) (stands_at stage) (asks_at l w stage) (party_of to) (stage_of to)

module _ (l : Layout) (found : ℕ) (w : Working) where
  -- by the phase that it found
  backs : (held : Option Held) → w.held ≡ held → w.scan_work ≡ 0 → (phase_of found).phase ≡ Stop → FromAwakeTo found (Load Cell.Phase) w (at_stage w (gives_back w (phase_of found).stops held))
  backs held none z e = grind arith

  stops : (phase_of found).phase ≡ Stop → FromAwakeTo found (Load Cell.Phase) w (at_stage w (stops_at w (phase_of found).stops w.held))
  stops e = by_stop (λ p. FromAwakeTo found (Load Cell.Phase) w (at_stage w p)) w (phase_of found).stops w.held (λ z. backs w.held refl z e) (record { words_are = refl; busy = refl }, refl, (refl, record { stops = ap run_phase e; number_is = refl }))

  phases : (phase : Phase) → (phase_of found).phase ≡ phase → FromAwakeTo found (Load Cell.Phase) w (at_stage w (by_phase w (phase_of found).stops phase))
  phases Stop e = stops e
  phases _ e = (tt, refl, tt)

  -- what it has scanned is handed over at a stop
  earns : (x : earn.Earning) (stops : ℕ) (held : Option Held) → w.held ≡ held → Goes l found w (EarningAtStop x stops) (handed_over w (gives_back w stops held))
  earns x stops held none = grind arith

  -- the buffer is given back
  gives : (q : MarkingIsQuiet) (g : give.BufferGiving) (stops : ℕ) (out : Option (Unit {0})) → w.scan_work ≡ 0 → Goes l found w (GiveBack g stops) (after_give w (give.goes g found) stops out)
  gives q g stops None z = (z, (refl, q.gives g, inl refl))
  gives q g stops (Some u) z = (record { seat_is = refl; busy = refl; none = refl; handed = z }, (refl, q.gives g, inr refl))

  -- it goes on after the stop
  module _ (h : ResumesInHandshake) (r : resume.Resuming) (s : GoesOnWithNone w.seat w.held w.scan_work r) where
    goes_on : (out : Option Resumed) → resume.gives r found ≡ out → Goes l found w (Resuming r) (after_resume w (resume.goes r found) out)
    goes_on out e = let keeps = h.keeps l in grind arith

-- a sweep writes no word of the handshake
sweep_quiet : (l : Layout) (sw : sweep.Sweeping) (p : SweepStage) → IsQuietInHandshake (sweep.asks_at l sw p)
sweep_quiet l sw p = grind arith

-- nor does any step between two stops
quiet_at : MarkingIsQuiet → (l : Layout) (w : Working) (p : WorkerStage) → (is_busy p ≡ true) → stands_at p ≡ Awake → IsQuietInHandshake (asks_at l w p)
quiet_at q l w p busy awake = grind (arith, earn_quiet, sweep_quiet, q.takes, q.scans, q.shades, q.finds_room)

awakes : (found : ℕ) (w to : Working) (ask : Ask) → IsQuietInHandshake ask → FromAwakeTo found ask w to → Sound to × StageGoes found (record { seat = w.seat; view = w.view }) Awake ask (party_of to) (stage_of to)
awakes found w to ask q f = (f.0, (f.1, q, f.2))

module _ (q : MarkingIsQuiet) (h : ResumesInHandshake) where
  goes : (l : Layout) (found : ℕ) (w : Working) (stage : WorkerStage) → SoundAt w stage → is_busy stage ≡ true → Goes l found w stage (goes_at l w stage found)
  goes l found w LoadPhase s busy = awakes found w (goes_at l w LoadPhase found) (Load Cell.Phase) tt (phases l found w (phase_of found).phase refl)
  goes l found w (EarningAtStop x stops) s busy = earns l found w x stops w.held refl
  goes l found w (GiveBack g stops) s busy = gives l found w q g stops (give.gives g found) s
  goes l found w (Resuming r) s busy = goes_on l found w h r s (resume.gives r found) refl
  goes l found w Leave s busy = (tt, (refl, refl, refl))
  goes l found w Done s busy = absurd cc
  goes l found w p s busy = awakes found w (goes_at l w p found) (asks_at l w p) (quiet_at q l w p busy refl) (grind arith)

  pub keeps_handshake : WorkersKeepHandshake
  keeps_handshake = record {
    sound = λ seat. tt;
    party = λ seat. refl;
    awake = λ seat. refl;
    leaves = λ l w found busy x. leaves_at l found w w.stage busy x;
    marks = λ l w found busy x. marks_at l found w w.stage busy x;
    keeps = λ l. record { stays_sound = λ w found s busy. (goes l found w w.stage s busy).0; goes = λ w found s busy. (goes l found w w.stage s busy).1 };
  }
