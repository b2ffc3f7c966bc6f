-- What is known of a processor or a worker by where it stands in the handshake, and what the coordinator's steps leave of that.
use Rattle.std.proofs.Common.{◌≡◌, ℕ, ◌^◌, ◌<◌, ◌⊎◌, Bool, true, false, cond, ap, arith, Some, None}
use Rattle.gh_phase.proofs.Vocabulary.{Acknowledge, Awake, Ended, Finished, Gives, GONE, Gone, IsAcked, IsParked, Leaves, LoadBegun, LoadGeneration, LoadPhase, nat_tests, next_stop, Off, phase_of, phase_word, PhaseWord, resume_goes, resume_view, Resumes, ResumeStage, run_word, RunPhase, Stage, stop_before, stop_word, View}
use Rattle.gh_base.specs.declared.pack.Phase.{Phase}
use Rattle.gh_phase.specs.Views.{run_phase}

-- what the coordinator has announced: the number of the stop, whether the phase is that stop, the last phase that was none, the sweep generation, and the cycles begun
pub record Announced : Type 0 where
  pub stops : ℕ
  pub on : Bool
  pub phase : RunPhase
  pub generation : ℕ
  pub begun : ℕ

abbrev pub word_of : Announced → ℕ
word_of v = cond v.on (stop_word v.stops) (run_word v.stops v.phase)

pub record Fits (v : Announced) : Type 0 where
  pub stops : v.stops < 2 ^ 62
  pub generation : v.generation < 2 ^ 34

-- the acknowledgement of who has not acknowledged the stop
abbrev pub owed : Announced → ℕ
owed v = cond v.on (stop_before v.stops) v.stops

-- once the last cycle is swept, that marking is off is known still by who looked before
abbrev pub Reads : (phase : RunPhase) → RunPhase → Type 0
Reads phase known = (known ≡ phase) ⊎ ((phase ≡ Finished) × (known ≡ Off))

pub record Copies (v : Announced) (known : View) : Type 0 where
  pub phase : Reads v.phase known.phase
  pub generation : known.generation ≡ v.generation
  pub begun : known.begun ≡ v.begun

abbrev pub InResume : Announced → (ack : ℕ) → View → (stops : ℕ) → ResumeStage → Type 0
InResume v ack known stops Acknowledge = (v.on ≡ true) × (stops ≡ v.stops) × (ack ≡ stop_before v.stops)
InResume v ack known stops LoadPhase = (ack ≡ stops) × ((stops ≡ v.stops) ⊎ ((v.on ≡ true) × (stops ≡ stop_before v.stops)))
InResume v ack known stops LoadGeneration = (ack ≡ owed v) × Reads v.phase known.phase
InResume v ack known stops LoadBegun = (ack ≡ owed v) × Reads v.phase known.phase × (known.generation ≡ v.generation)
InResume v ack known stops (Ended another) = ⊥

-- what is known where its acknowledgement is this
abbrev pub Stands : Announced → (ack : ℕ) → View → Stage → Type 0
Stands v ack known Awake = (ack ≡ owed v) × Copies v known
Stands v ack known (Gives stops) = (v.on ≡ true) × (stops ≡ v.stops) × (ack ≡ owed v) × Copies v known
Stands v ack known (Resumes stops stage) = InResume v ack known stops stage
Stands v ack known Leaves = (ack ≡ owed v) × Copies v known
Stands v ack known Gone = ack ≡ GONE

pub next_fits : (s : ℕ) → next_stop s < 2 ^ 62
next_fits s = omega arith

pub owed_on : (v : Announced) → v.on ≡ true → owed v ≡ stop_before v.stops
owed_on v on = rw on

-- the phase words of a stop, and of a world that runs
abbrev at_stop : ℕ → PhaseWord
at_stop stops = record { stops = stops; phase = Phase.Stop }

module _ (back : (p : PhaseWord) → phase_of (phase_word p) ≡ p) where
  pub stop_told : (stops : ℕ) → run_phase (phase_of (stop_word stops)).phase ≡ None
  stop_told stops = ap (λ (p : PhaseWord). run_phase p.phase) (back (at_stop stops))

  pub run_told : (stops : ℕ) (phase : RunPhase) → run_phase (phase_of (run_word stops phase)).phase ≡ Some phase
  run_told stops phase = grind arith

-- a stop is stored
abbrev pub halted : Announced → Announced
halted v = record v { stops = next_stop v.stops; on = true }

pub keeps_stop : (v : Announced) (ack : ℕ) (known : View) (stage : Stage) → Fits v → v.on ≡ false → Stands v ack known stage → Stands (halted v) ack known stage
keeps_stop v ack known stage h off f = grind arith

abbrev pub finished : Announced → Announced
finished v = record v { phase = Finished }

pub keeps_finish : (v : Announced) (ack : ℕ) (known : View) (stage : Stage) → v.phase ≡ Off → Stands v ack known stage → Stands (finished v) ack known stage
keeps_finish v ack known stage off f = grind arith

pub parked : (v : Announced) (ack : ℕ) (known : View) (stage : Stage) → Fits v → v.on ≡ true → IsAcked v.stops ack → Stands v ack known stage → IsParked v.stops stage
parked v ack known stage h on a f = grind arith

-- whatever is announced to those who wait, while the number of the stop stays
pub keeps_parked : (v u : Announced) (ack : ℕ) (known : View) (stage : Stage) → u.stops ≡ v.stops → IsParked v.stops stage → Stands v ack known stage → Stands u ack known stage
keeps_parked v u ack known stage e p f = grind arith

pub is_gone : (v : Announced) (ack : ℕ) (known : View) (stage : Stage) → Fits v → Stands v ack known stage → ack ≡ GONE → stage ≡ Gone
is_gone v ack known stage h f e = grind arith

-- an acknowledgement becomes that of the stop, or of one that is gone, and nothing else
abbrev pub Moves : Announced → (old new : ℕ) → Type 0
Moves v old new = (new ≡ old) ⊎ ((new ≡ GONE) ⊎ (new ≡ v.stops))

-- going on after a stop: the acknowledgement that a step leaves, and what is known then
abbrev pub resume_ack : (ack stops : ℕ) → ResumeStage → ℕ
resume_ack ack stops Acknowledge = stops
resume_ack ack stops _ = ack

abbrev pub Finds : Announced → ResumeStage → (found : ℕ) → Type 0
Finds v Acknowledge found = Unit {0}
Finds v LoadPhase found = found ≡ word_of v
Finds v LoadGeneration found = found ≡ v.generation
Finds v LoadBegun found = found ≡ v.begun
Finds v (Ended another) found = Unit {0}

module _ (back : (p : PhaseWord) → phase_of (phase_word p) ≡ p) where
  pub resumes : (v : Announced) (ack : ℕ) (known : View) (stops : ℕ) (stage : ResumeStage) (found : ℕ) → Fits v → Finds v stage found → InResume v ack known stops stage →
      Stands v (resume_ack ack stops stage) (resume_view known stage found) (resume_goes stops stage found)
  resumes v ack known stops stage found h e f = grind (arith, nat_tests)
