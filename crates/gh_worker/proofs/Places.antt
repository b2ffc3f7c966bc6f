-- Where a worker is between two stops, by what it does.
use Rattle.std.proofs.Common.{◌≡◌, ℕ, Some, ◌⊎◌, inl, inr, refl, sym, ap, subst, arith}
use Rattle.gh_worker.proofs.Vocabulary.{asks_at, at_stage, Cell, goes_at, Gone, IsAtWork, IsLeaving, IsMarking, Layout, Load, LoadPage, LoadPhase, Looks, Phase, phase_of, Polls, RestsAtStop, Resumes, ResumeStage, Resuming, run_phase, SoundAt, stands_at, sweep_at, WorkersKeepPlaces, WorkerStage, Working}
use Rattle.gh_sweep.specs.Listing as sweep
use Rattle.gh_worker.proofs.Phases.{marks_at}

works_at : (w : Working) (p : WorkerStage) → IsMarking p ⊎ (Looks p ⊎ (p ≡ LoadPhase)) → IsAtWork (at_stage w p)
works_at w p is = grind arith

polls_at : (w : Working) → w.stage ≡ LoadPhase → Polls w
polls_at w is = subst (λ (p : WorkerStage). Polls (at_stage w p)) (sym is) (record { asks_it = λ l. refl; works = works_at w LoadPhase (inr (inr refl)) })

rests_at : (w : Working) (p : WorkerStage) (stops : ℕ) (at : ResumeStage) → SoundAt w p → stands_at p ≡ Resumes stops at → RestsAtStop (at_stage w p)
rests_at w (Resuming r) stops at s is = record { calm = record { none = s.none; handed = s.handed; rests = tt }; seat_is = s.seat_is; hands = λ z a t x. (x, s.none) }
rests_at w _ stops at s is = absurd cc

gone_at : (p : WorkerStage) → stands_at p ≡ Gone → IsLeaving p
gone_at p is = grind arith

sweeps_look : (p : WorkerStage) (sw : sweep.Sweeping) → sweep_at p ≡ Some sw → Looks p
sweeps_look p sw is = grind arith

module _ (l : Layout) (found : ℕ) (w : Working) where
  view_at : (p : WorkerStage) → Looks (goes_at l w p found).stage → (goes_at l w p found).view ≡ w.view
  view_at p x = grind arith

  -- it looked before, or loaded the phase and finds that marking is off
  looked_at : (p : WorkerStage) → Looks (goes_at l w p found).stage → Looks p ⊎ ((p ≡ LoadPhase) × ((phase_of found).phase ≡ Phase.Off))
  looked_at p x = grind arith

  -- it comes to a look at a page by a load of the phase alone
  pub looks_at : (p : WorkerStage) → (goes_at l w p found).stage ≡ LoadPage → (asks_at l w p ≡ Load Cell.Phase) × ((phase_of found).phase ≡ Phase.Off)
  looks_at p e = (grind arith, grind arith)

  -- a step that begins a sweep is no load of the phase
  pub begins_at : (sw : sweep.Sweeping) (p : WorkerStage) → sweep_at (goes_at l w p found).stage ≡ Some sw → Looks p
  begins_at sw p is = grind arith

pub keep_places : WorkersKeepPlaces
keep_places = record {
  marks = λ w m. works_at w w.stage (inl m);
  looks = λ w x. works_at w w.stage (inr (inl x));
  sweeps = λ w sw is. sweeps_look w.stage sw is;
  finds_on = λ l w found busy m. let f = marks_at l found w w.stage busy m in record { view_stays = f.view_stays; finds = elim f.finds [ inl before ↦ inl before | inr on ↦ inr (polls_at w on.0, on.1) ] };
  finds_off = λ l w found x. record {
    view_stays = view_at l found w w.stage x;
    finds = elim (looked_at l found w w.stage x) [ inl before ↦ inl before | inr off ↦ inr (polls_at w off.0, ap run_phase off.1) ];
  };
  begins = λ l w found sw is. begins_at l found w sw w.stage is;
  gone = λ w is. gone_at w.stage is;
  rests = λ w stops at s is. rests_at w w.stage stops at s is;
}
