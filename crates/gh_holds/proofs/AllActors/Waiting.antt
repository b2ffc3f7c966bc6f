-- A processor that waits at a stop: the step that finds that stop leaves it as it is, is no point and gives no answer.
use Rattle.std.proofs.Common.{◌≡◌, ℕ, Bool, true, cond, refl, sym, ap, ◌∙◌, ◌⊎◌, inl, inr, List, Option, None, eq-eqb, arith}
use Rattle.gh_holds.proofs.Vocabulary.{acts, asks, Cell, given_at, gives, is_busy_at, IsParked, Layout, Load, new_stage_at, PackedWordsAreReadBack, phase_of, Polling, Processor, Shape, SoundAt, SoundPlace, stage_at, stage_of, stop_word, takes, Task}
use Rattle.gh_base.specs.declared.pack.Phase.{Phase}
use Rattle.gh_phase.specs.Listing as resume
use Rattle.gh_phase.specs.ResumePlaces as places
use Rattle.gh_phase.specs.Waiting.{phase_on}
use Rattle.gh_poll.specs.declared.wait.Wait.{Wait}
use Rattle.gh_poll.specs.Handshake.{poll_stage_of, wait_stage_of}
use Rattle.gh_poll.specs.Leave as leave
use Rattle.gh_poll.specs.Poll as poll
use Rattle.gh_poll.specs.Wait as wait
use Rattle.gh_marked.proofs.Vocabulary.{leaves_at, LeaveStage, Leaving, New, NewStage, PhaseWord, polls_at, PollStage, ResumeStage, run_phase, waits_at, WaitStage}

-- where the poll waits
pub record WaitsAt (stops : ℕ) (p : Polling) : Type 0 where
  pub routine : resume.Resuming
  pub is_at : p.stage ≡ PollStage.Resuming routine
  pub loads : routine.stage ≡ ResumeStage.LoadPhase
  pub stop_is : routine.stops ≡ stops

at_load : (number stops : ℕ) (s : ResumeStage) → IsParked stops (places.stands_at number s) → (s ≡ ResumeStage.LoadPhase) × (number ≡ stops)
at_load number stops s p = grind arith

polls_parked : (stops : ℕ) (p : Polling) → IsParked stops (poll_stage_of p) → WaitsAt stops p
polls_parked stops p k = go p.stage refl k where
  go : (s : PollStage) → p.stage ≡ s → IsParked stops (polls_at p s) → WaitsAt stops p
  go (PollStage.Resuming r) is k = let x = at_load r.stops stops r.stage k in record { routine = r; is_at = is; loads = x.0; stop_is = x.1 }
  go _ is k = absurd k

module _ (l : Layout) (back : PackedWordsAreReadBack) (stops : ℕ) where
  abbrev found : ℕ
  found = stop_word stops

  abbrev word : PhaseWord
  word = record { stops = stops; phase = Phase.Stop }

  -- the routine of going on
  resumes : (r : resume.Resuming) → r.stage ≡ ResumeStage.LoadPhase → r.stops ≡ stops → resume.goes r found ≡ r
  resumes r loads same =
      ap (λ (s : ResumeStage). resume.goes_at r s found) loads
      ∙ (ap (λ (w : PhaseWord). resume.after_phase r w.stops (run_phase w.phase)) (back.phase word)
      ∙ (ap (λ (b : Bool). cond b (resume.at_stage r ResumeStage.LoadPhase) (record r { stops = stops; stage = ResumeStage.Acknowledge })) (eq-eqb stops r.stops (sym same))
      ∙ ap (resume.at_stage r) (sym loads)))

  none_resumed : (r : resume.Resuming) → r.stage ≡ ResumeStage.LoadPhase → resume.gives r found ≡ None
  none_resumed r loads = ap (λ (s : ResumeStage). resume.given (resume.goes_at r s found)) loads ∙ phase_on r (phase_of found).stops (run_phase (phase_of found).phase)

  polls_ask : (p : Polling) → WaitsAt stops p → poll.asks p ≡ Load Cell.Phase
  polls_ask p w = ap poll.asks_at w.is_at ∙ ap (resume.asks_at w.routine) w.loads

  waits_ask : (w : wait.Waiting) → w.wait.stage ≡ WaitStage.Polling → WaitsAt stops w.poll → wait.asks w ≡ Load Cell.Phase
  waits_ask w is at = ap (wait.asks_at w) is ∙ polls_ask w.poll at

  -- the poll
  polls : (p : Polling) → WaitsAt stops p → poll.goes l p found ≡ p
  polls p w = grind (arith, none_resumed, resumes)

  none_polled : (p : Polling) → WaitsAt stops p → poll.gives l p found ≡ None
  none_polled p w = grind (arith, polls)

  -- the wait for a cycle
  waits : (w : wait.Waiting) → w.wait.stage ≡ WaitStage.Polling → WaitsAt stops w.poll → wait.goes l w found ≡ w
  waits w is at =
      ap (λ (s : WaitStage). wait.goes_at l w s found) is
      ∙ (ap (λ (x : Option (Unit {0})). wait.after_poll w (poll.goes l w.poll found) x) (none_polled w.poll at)
      ∙ (ap (λ (p : Polling). wait.after_poll w p None) (polls w.poll at)
      ∙ ap (λ (s : WaitStage). record w { wait = record (w.wait) { stage = s } }) (sym is)))

  none_waited : (w : wait.Waiting) → w.wait.stage ≡ WaitStage.Polling → WaitsAt stops w.poll → wait.gives l w found ≡ None
  none_waited w is at = grind (arith, waits)

  waits_parked : (w : wait.Waiting) → IsParked stops (wait_stage_of w) → (w.wait.stage ≡ WaitStage.Polling) × WaitsAt stops w.poll
  waits_parked w k = go w.wait.stage refl k where
    go : (s : WaitStage) → w.wait.stage ≡ s → IsParked stops (waits_at w s) → (w.wait.stage ≡ WaitStage.Polling) × WaitsAt stops w.poll
    go WaitStage.Polling is k = (is, polls_parked stops w.poll k)
    go WaitStage.Want is k = absurd k
    go _ is k = absurd k

  module _ (shapes : List Shape) (m : Processor) where
    -- it stays as it is
    pub record StandsStill : Type 0 where
      pub busy : is_busy_at m.task ≡ true
      pub loads : asks l m ≡ Load Cell.Phase
      pub stays : takes l shapes m found ≡ m
      pub no_act : acts l m found ≡ None
      pub no_answer : given_at m.task (gives l m found) ≡ None

    polls_still : m.task ≡ Task.Poll → WaitsAt stops m.poll → StandsStill
    polls_still is at = grind (arith, none_polled, polls, polls_ask)

    gc_still : (g : ℕ) (x : Wait) → m.task ≡ Task.Gc g x → x.stage ≡ WaitStage.Polling → WaitsAt stops m.poll → StandsStill
    gc_still g x is on at = grind (arith, none_waited, waits, waits_ask)

    new_still : (x : New) (y : Wait) → m.task ≡ Task.New x → x.stage ≡ NewStage.Wait y → y.stage ≡ WaitStage.Polling → WaitsAt stops m.poll → StandsStill
    new_still x y is here on at = grind (arith, none_waited, waits, waits_ask)

    -- a processor that is parked waits so, or has left
    pub stands_still : SoundPlace m → IsParked stops (stage_of m) → StandsStill ⊎ (m.task ≡ Task.Left)
    stands_still sound k = go m.task refl sound.1 k where
      in_new : (x : New) → m.task ≡ Task.New x → (s : NewStage) → x.stage ≡ s → IsParked stops (new_stage_at m.poll s) → StandsStill ⊎ (m.task ≡ Task.Left)
      in_new x is (NewStage.Wait y) here k = let w = waits_parked (wait.waiting y m.poll) k in inl (new_still x y is here w.0 w.1)
      in_new x is (NewStage.Search waited q) here k = absurd k
      in_new x is (NewStage.Place p) here k = absurd k
      in_new x is (NewStage.Want n) here k = absurd k
      in_new x is (NewStage.Assist n y) here k = absurd k

      in_leave : (x : Leaving) → (s : LeaveStage) → x.stage ≡ s → leave.is_busy x.stage ≡ true → IsParked stops (leaves_at s) → ⊥
      in_leave x s is b k = grind arith

      go : (t : Task) → m.task ≡ t → SoundAt m.poll t → IsParked stops (stage_at m.poll t) → StandsStill ⊎ (m.task ≡ Task.Left)
      go Task.Left is s k = inr is
      go (Task.New x) is s k = in_new x is x.stage refl k
      go (Task.Gc g x) is s k = let w = waits_parked (wait.waiting x m.poll) k in inl (gc_still g x is w.0 w.1)
      go Task.Poll is s k = inl (polls_still is (polls_parked stops m.poll k))
      go (Task.Leave x) is s k = absurd (in_leave x x.stage refl s.busy k)
      go _ is s k = absurd k
