-- What holds after every legal list of steps of actors that are in the handshake.
use Rattle.std.specs.Prelude.{◌≡◌, ℕ, ◌↔◌, ◌+◌, ◌<◌, ◌⊎◌, if◌then◌else◌, List, [], ◌∷◌, Option, Some, None}
use Rattle.gh_phase.specs.Vocabulary.{Ack, Ask, Begun, Finished, Gen, GONE, Load, LoadPhase, Off, Phase, phase_of, RunPhase, Setting, state_of, Store, View, words_after}
use Rattle.gh_base.specs.declared.machine.Entry.{Entry}
use Rattle.gh_base.specs.Cells.{Words}
use Rattle.gh_phase.specs.Handshake.{Acts, Awake, Gives, Gone, HandshakePlace, is_stop, last_of, Lead, Leads, Leaves, Party, Resumes, run_word, Stage, stop_word, Stopped}
use Rattle.gh_phase.specs.Views.{run_phase}

-- it is not gone, and does not acknowledge a stop or go on after it
abbrev pub IsAwake : Stage → Type 0
IsAwake Awake = Unit {0}
IsAwake (Gives stops) = Unit {0}
IsAwake (Resumes stops stage) = ⊥
IsAwake Leaves = Unit {0}
IsAwake Gone = ⊥

-- it waits at the stop of this number, or is gone
abbrev pub IsParked : (stops : ℕ) → Stage → Type 0
IsParked stops (Resumes number LoadPhase) = number ≡ stops
IsParked stops Gone = Unit {0}
IsParked stops _ = ⊥

-- the last phase that was no stop
abbrev pub phase_or : Option RunPhase → RunPhase → RunPhase
phase_or None before = before
phase_or (Some phase) before = phase

abbrev pub phase_stored : Ask → RunPhase → RunPhase
phase_stored (Store Phase word) before = phase_or (run_phase (phase_of word).phase) before
phase_stored _ before = before

abbrev pub last_phase : {O : Type 0} → List (Entry O) → RunPhase
last_phase [] = Off
last_phase (e ∷ es) = phase_stored e.ask (last_phase es)

-- A view is of the last phase that was no stop, and of the words as they stand. Once the last cycle is swept, who looked before knows still that marking is off.
pub record IsCurrent (phase : RunPhase) (words : Words) (v : View) : Type 0 where
  pub phase_is : (v.phase ≡ phase) ⊎ ((phase ≡ Finished) × (v.phase ≡ Off))
  pub generation_is : v.generation ≡ words Gen
  pub begun_is : v.begun ≡ words Begun

-- the coordinator's numbers are the words, and the phase word is as it stored it
pub record IsLed (phase : RunPhase) (words : Words) (l : Lead) : Type 0 where
  pub phase_is : words Phase ≡ (if is_stop l.post then stop_word l.stops else run_word l.stops phase)
  pub generation_is : words Gen ≡ l.generation
  pub begun_is : words Begun ≡ l.begun
  pub last_is : phase ≡ last_of l.post

module _ {M O : Type 0} (setting : Setting M O) (n : ℕ) (sound : M → Type 0) (place : M → HandshakePlace) (es : List (Entry O)) where
  abbrev pub place_of : ℕ → HandshakePlace
  place_of a = place (state_of setting.kind a es)

  abbrev pub words : Words
  words = words_after setting.opening es

  pub record Shakes : Type 0 where
    -- the coordinator is at its seat, and at each other is a processor or a worker
    pub lead : Lead
    pub leads : place_of n ≡ Leads lead
    pub led : IsLed (last_phase es) words lead
    pub each : (a : ℕ) → a < n → (party : Party) × (stage : Stage) × (place_of a ≡ Acts party stage) × (party.seat ≡ a)
    -- what each knows while it is awake
    pub views : (a : ℕ) (party : Party) (stage : Stage) → a < n → place_of a ≡ Acts party stage → IsAwake stage → IsCurrent (last_phase es) words party.view
    -- where the world is stopped each waits at that stop, or is gone
    pub stopped : (phase : RunPhase) (a : ℕ) (party : Party) (stage : Stage) → lead.post ≡ Stopped phase → a < n → place_of a ≡ Acts party stage → IsParked lead.stops stage
    pub all_sound : (a : ℕ) → a < n + 1 → sound (state_of setting.kind a es)
    -- that it is gone is acknowledged for an actor exactly where it is
    pub gone : (a : ℕ) (party : Party) (stage : Stage) → a < n → place_of a ≡ Acts party stage → (words (Ack a) ≡ GONE ↔ (stage ≡ Gone))

-- once the last cycle is swept, no other phase follows
abbrev pub FinishedStays : {O : Type 0} → Entry O → List (Entry O) → Type 0
FinishedStays e es = last_phase es ≡ Finished → last_phase (e ∷ es) ≡ Finished

-- what one entry more leaves
module _ {M O : Type 0} (setting : Setting M O) (n : ℕ) (place : M → HandshakePlace) (e : Entry O) (es : List (Entry O)) where
  -- who is gone stays gone
  abbrev pub GoneStay : Type 0
  GoneStay = (a : ℕ) → a < n → words_after setting.opening es (Ack a) ≡ GONE → words_after setting.opening (e ∷ es) (Ack a) ≡ GONE

  -- in a stopped world a step of a processor or a worker is a load of the phase that finds the stop, and leaves its place
  abbrev pub NobodyMoves : Type 0
  NobodyMoves = (lead : Lead) (phase : RunPhase) → place (state_of setting.kind n es) ≡ Leads lead → lead.post ≡ Stopped phase → e.actor < n →
      (e.ask ≡ Load Phase) × (e.found ≡ stop_word lead.stops) × (place (state_of setting.kind e.actor (e ∷ es)) ≡ place (state_of setting.kind e.actor es))
