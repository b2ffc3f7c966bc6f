-- Where a worker is between two stops, and what it finds before it is there.
use Rattle.std.specs.Prelude.{◌≡◌, ℕ, ◌⊎◌, true, Some}
use Rattle.gh_worker.specs.Vocabulary.{Awake, Cell, Cycle, Gone, Hands, Layout, Load, LoadPage, Mark, nothing, phase_of, Resumes, run_phase, Shared, SpanSweep, Sweeping, WorkerStage}
use Rattle.gh_phase.specs.declared.resume.ResumeStage.{ResumeStage}
use Rattle.gh_phase.specs.declared.view.RunPhase.{RunPhase}
use Rattle.gh_phase.specs.declared.view.RunPhase.TheVariants.{Off}
use Rattle.gh_worker.specs.Handshake.{IsLeaving, IsMarking, party_of, Sound, stage_of}
use Rattle.gh_worker.specs.Listing.{asks, goes, is_busy, sweep_in, Working}
use Rattle.gh_worker.specs.MarkFacts.{StageFacts}
use Rattle.gh_worker.specs.Writing.{IsCalm}

-- it looks at a page for a span, or sweeps the span that it has found there
abbrev pub Looks : WorkerStage → Type 0
Looks LoadPage = Unit {0}
Looks (Sweeping sw) = Unit {0}
Looks _ = ⊥

-- it is awake, and what it knows of the phase is its own
pub record IsAtWork (w : Working) : Type 0 where
  pub awake : stage_of w ≡ Awake
  pub party_is : party_of w ≡ record { seat = w.seat; view = w.view }

-- so it is between two steps of its work, where it loads the phase
pub record Polls (w : Working) : Type 0 where
  pub asks_it : (l : Layout) → asks l w ≡ Load Cell.Phase
  pub works : IsAtWork w

-- it was there before the step, or finds with it that this is the phase
pub record Finds (phase : RunPhase) (IsThere : WorkerStage → Type 0) (found : ℕ) (w to : Working) : Type 0 where
  pub view_stays : to.view ≡ w.view
  pub finds : IsThere w.stage ⊎ (Polls w × (run_phase (phase_of found).phase ≡ Some phase))

-- at a stop it has nothing: it holds no buffer, and has nothing to hand over
pub record RestsAtStop (w : Working) : Type 0 where
  pub calm : IsCalm w
  pub seat_is : (party_of w).seat ≡ w.seat
  pub hands : (z : Cycle) (a : ℕ) (s : Shared) → Hands a s nothing → StageFacts z a s w.held w.stage

pub record WorkersKeepPlaces : Type 0 where
  pub marks : (w : Working) → IsMarking w.stage → IsAtWork w
  pub looks : (w : Working) → Looks w.stage → IsAtWork w
  pub sweeps : (w : Working) (sw : SpanSweep) → sweep_in w ≡ Some sw → Looks w.stage
  -- it marks only where it has found that marking is on, and looks for spans and sweeps them only where it has found that it is off
  pub finds_on : (l : Layout) (w : Working) (found : ℕ) → is_busy w.stage ≡ true → IsMarking (goes l w found).stage → Finds Mark IsMarking found w (goes l w found)
  pub finds_off : (l : Layout) (w : Working) (found : ℕ) → Looks (goes l w found).stage → Finds Off Looks found w (goes l w found)
  -- it begins a sweep only where it looked
  pub begins : (l : Layout) (w : Working) (found : ℕ) (sw : SpanSweep) → sweep_in (goes l w found) ≡ Some sw → Looks w.stage
  -- where it stands as one that is gone it has left
  pub gone : (w : Working) → stage_of w ≡ Gone → IsLeaving w.stage
  pub rests : (w : Working) (stops : ℕ) (at : ResumeStage) → Sound w → stage_of w ≡ Resumes stops at → RestsAtStop w
