-- The places of actors in the handshake of a stop, and the steps between them. An actor is in the handshake where each of its steps is one of these.
use Rattle.std.specs.Prelude.{◌≡◌, ◌≢◌, ℕ, ◌+◌, ◌-◌, ◌^◌, ◌%◌, ◌<◌, ◌⊎◌, Bool, true, false, nat_lt, ◌==◌, if◌then◌else◌, Option, Some, None}
use Rattle.gh_phase.specs.Vocabulary.{Ack, Acknowledge, Add, And, Ask, Begun, Ended, Finished, Gen, GONE, Load, LoadBegun, LoadGeneration, LoadPhase, Mark, Off, Or, Phase, phase_of, phase_word, PhaseKind, ResumeStage, RunPhase, Setting, Store, Swap, Touch, View}
use Rattle.gh_base.specs.declared.cell.Cell.{Cell}
use Rattle.gh_base.specs.declared.pack.Phase.TheVariants as kind
use Rattle.gh_base.specs.Routines.{Listing}
use Rattle.gh_phase.specs.Resumes.{IsStop}
use Rattle.gh_phase.specs.Views.{first_view, generation_found, run_phase}

-- the numbers of stops, of cycles and of sweep generations begin anew where their words end
abbrev pub next_stop : ℕ → ℕ
next_stop stops = (stops + 1) % 2 ^ 62

abbrev pub stop_before : ℕ → ℕ
stop_before stops = (stops + (2 ^ 62 - 1)) % 2 ^ 62

abbrev pub next_cycle : ℕ → ℕ
next_cycle begun = (begun + 1) % 2 ^ 64

abbrev pub next_generation : ℕ → ℕ
next_generation generation = (generation + 2) % 2 ^ 34

-- A processor or a worker in the handshake.

-- its seat, and what it knows of the phase
pub record Party : Type 0 where
  pub seat : ℕ
  pub view : View

-- where it stands
pub data Stage : Type 0 where
  -- it runs
  Awake : Stage
  -- it gives back what it holds, at the stop of this number
  Gives : (stops : ℕ) → Stage
  -- it acknowledges that stop, and goes on after it
  Resumes : (stops : ℕ) → (stage : ResumeStage) → Stage
  -- it is about to say that it is gone
  Leaves : Stage
  Gone : Stage

-- The steps of going on after a stop: what is asked for, where that leads, and what is known of the phase then.
abbrev pub resume_asks : (seat stops : ℕ) → ResumeStage → Ask
resume_asks seat stops Acknowledge = Store (Ack seat) stops
resume_asks seat stops LoadPhase = Load Phase
resume_asks seat stops LoadGeneration = Load Gen
resume_asks seat stops LoadBegun = Load Begun
resume_asks seat stops (Ended another_cycle) = Load Touch

-- the same stop is waited for, and another is acknowledged
abbrev pub by_phase : (stops number : ℕ) → Option RunPhase → Stage
by_phase stops number None = if number == stops then Resumes stops LoadPhase else Resumes number Acknowledge
by_phase stops number (Some phase) = Resumes stops LoadGeneration

abbrev pub resume_goes : (stops : ℕ) → ResumeStage → (found : ℕ) → Stage
resume_goes stops Acknowledge found = Resumes stops LoadPhase
resume_goes stops LoadPhase found = by_phase stops (phase_of found).stops (run_phase (phase_of found).phase)
resume_goes stops LoadGeneration found = Resumes stops LoadBegun
resume_goes stops LoadBegun found = Awake
resume_goes stops (Ended another_cycle) found = Awake

abbrev pub with_phase : View → Option RunPhase → View
with_phase v None = v
with_phase v (Some phase) = record v { phase = phase }

abbrev pub resume_view : View → ResumeStage → (found : ℕ) → View
resume_view v Acknowledge found = v
resume_view v LoadPhase found = with_phase v (run_phase (phase_of found).phase)
resume_view v LoadGeneration found = record v { generation = generation_found found }
resume_view v LoadBegun found = record v { begun = found }
resume_view v (Ended another_cycle) found = v

-- the step writes no word of the handshake
abbrev pub IsFree : Cell → Type 0
IsFree Phase = ⊥
IsFree Gen = ⊥
IsFree Begun = ⊥
IsFree (Ack i) = ⊥
IsFree _ = Unit {0}

abbrev pub IsQuietInHandshake : Ask → Type 0
IsQuietInHandshake (Load cell) = Unit {0}
IsQuietInHandshake (Store cell value) = IsFree cell
IsQuietInHandshake (Or cell bits) = IsFree cell
IsQuietInHandshake (And cell bits) = IsFree cell
IsQuietInHandshake (Add cell more) = IsFree cell
IsQuietInHandshake (Swap cell old new) = IsFree cell

-- who is awake stays so; or has found a stop, and acknowledges it at once where nothing is to be given back; or is about to leave
abbrev pub FromAwake : (found : ℕ) → Ask → Stage → Type 0
FromAwake found ask Awake = Unit {0}
FromAwake found ask (Gives stops) = (ask ≡ Load Phase) × IsStop found stops
FromAwake found ask (Resumes stops Acknowledge) = (ask ≡ Load Phase) × IsStop found stops
FromAwake found ask (Resumes stops _) = ⊥
FromAwake found ask Leaves = Unit {0}
FromAwake found ask Gone = ⊥

-- a step of a processor or a worker, by where it stood; one that is gone makes none
abbrev pub StageGoes : (found : ℕ) → Party → Stage → Ask → Party → Stage → Type 0
StageGoes found from Awake ask to stage = (to ≡ from) × IsQuietInHandshake ask × FromAwake found ask stage
StageGoes found from (Gives stops) ask to stage = (to ≡ from) × IsQuietInHandshake ask × ((stage ≡ Gives stops) ⊎ (stage ≡ Resumes stops Acknowledge))
StageGoes found from (Resumes stops at) ask to stage = (to ≡ record from { view = resume_view from.view at found }) × (ask ≡ resume_asks from.seat stops at) × (stage ≡ resume_goes stops at found)
StageGoes found from Leaves ask to stage = (to ≡ from) × (ask ≡ Store (Ack from.seat) GONE) × (stage ≡ Gone)
StageGoes found from Gone ask to stage = ⊥

-- The coordinator in the handshake.

-- where it stands, with the last phase that was no stop
pub data Post : Type 0 where
  -- the world runs
  Calm : (phase : RunPhase) → Post
  -- it waits for this acknowledgement; those before it are there
  Looks : (phase : RunPhase) → (ack : ℕ) → Post
  -- all are there: the world is stopped
  Stopped : (phase : RunPhase) → Post

-- the numbers that it has stored last, of the stop, the cycle and the sweep generation
pub record Lead : Type 0 where
  pub stops : ℕ
  pub begun : ℕ
  pub generation : ℕ
  pub post : Post

abbrev pub is_stop : Post → Bool
is_stop (Calm phase) = false
is_stop (Looks phase ack) = true
is_stop (Stopped phase) = true

abbrev pub last_of : Post → RunPhase
last_of (Calm phase) = phase
last_of (Looks phase ack) = phase
last_of (Stopped phase) = phase

-- the phase of a world that runs, as it stands in the phase word
abbrev pub phase_while : RunPhase → PhaseKind
phase_while Off = kind.Off
phase_while Mark = kind.Mark
phase_while Finished = kind.Finished

abbrev pub stop_word : (stops : ℕ) → ℕ
stop_word stops = phase_word (record { stops = stops; phase = kind.Stop })

abbrev pub run_word : (stops : ℕ) → RunPhase → ℕ
run_word stops phase = phase_word (record { stops = stops; phase = phase_while phase })

-- the acknowledgement of this stop, or of one that is gone
abbrev pub IsAcked : (stops found : ℕ) → Type 0
IsAcked stops found = (found ≡ stops) ⊎ (found ≡ GONE)

-- behind this acknowledgement, of n
abbrev pub behind_ack : (n : ℕ) → RunPhase → (ack : ℕ) → Post
behind_ack n phase ack = if nat_lt (ack + 1) n then Looks phase (ack + 1) else Stopped phase

-- A step of the coordinator of n processors and workers: it writes no word of the handshake; or stores a stop; or sees an acknowledgement; or begins a cycle, or another sweep generation, in a stopped world; or stores a phase that is no stop, in a stopped world or behind a phase that is off.
pub data LeadGoes (n found : ℕ) (from : Lead) (ask : Ask) (to : Lead) : Type 0 where
  quiet : IsQuietInHandshake ask → to ≡ from → LeadGoes n found from ask to
  stops : (phase : RunPhase) → phase ≢ Finished → from.post ≡ Calm phase → ask ≡ Store Phase (stop_word (next_stop from.stops)) → to ≡ record from { stops = next_stop from.stops; post = Looks phase 0 } → LeadGoes n found from ask to
  sees : (phase : RunPhase) (ack : ℕ) → from.post ≡ Looks phase ack → ask ≡ Load (Ack ack) → IsAcked from.stops found → to ≡ record from { post = behind_ack n phase ack } → LeadGoes n found from ask to
  begins : (phase : RunPhase) → from.post ≡ Stopped phase → ask ≡ Store Begun (next_cycle from.begun) → to ≡ record from { begun = next_cycle from.begun } → LeadGoes n found from ask to
  ends : (phase : RunPhase) → from.post ≡ Stopped phase → ask ≡ Store Gen (next_generation from.generation) → to ≡ record from { generation = next_generation from.generation } → LeadGoes n found from ask to
  goes : (phase next : RunPhase) → phase ≢ Finished → from.post ≡ Stopped phase → ask ≡ Store Phase (run_word from.stops next) → to ≡ record from { post = Calm next } → LeadGoes n found from ask to
  finishes : from.post ≡ Calm Off → ask ≡ Store Phase (run_word from.stops Finished) → to ≡ record from { post = Calm Finished } → LeadGoes n found from ask to

-- All actors.

pub data HandshakePlace : Type 0 where
  Acts : (party : Party) → (stage : Stage) → HandshakePlace
  Leads : (lead : Lead) → HandshakePlace

abbrev pub PlaceGoes : (n found : ℕ) → HandshakePlace → Ask → HandshakePlace → Type 0
PlaceGoes n found (Acts from stage) ask (Acts to next) = StageGoes found from stage ask to next
PlaceGoes n found (Leads from) ask (Leads to) = LeadGoes n found from ask to
PlaceGoes n found _ ask _ = ⊥

-- an operation that is begun keeps the place, or begins to leave with nothing to give back
abbrev pub PlaceBegins : HandshakePlace → HandshakePlace → Type 0
PlaceBegins from to = (to ≡ from) ⊎ ((party : Party) × (from ≡ Acts party Awake) × (to ≡ Acts party Leaves))

abbrev pub first_party : (seat : ℕ) → Party
first_party seat = record { seat = seat; view = first_view }

abbrev pub first_lead : Lead
first_lead = record { stops = 0; begun = 0; generation = 2; post = Calm Off }

-- What a routine says of itself: where each of its states stands, and what holds of a state whatever it was told. Each of its steps is then one of the handshake.
pub record KeepsHandshake {M Out : Type 0} (r : Listing M Out) (sound : M → Type 0) (party : M → Party) (stage : M → Stage) : Type 0 where
  pub stays_sound : (m : M) (found : ℕ) → sound m → r.busy m ≡ true → sound (r.goes m found)
  pub goes : (m : M) (found : ℕ) → sound m → r.busy m ≡ true → StageGoes found (party m) (stage m) (r.asks m) (party (r.goes m found)) (stage (r.goes m found))

-- The actors of the setting are in the handshake: n processors and workers, and the coordinator at the seat behind them. `sound` is what holds of a private state whatever it was told.
pub record IsHandshake {M O : Type 0} (setting : Setting M O) (n : ℕ) (sound : M → Type 0) (place : M → HandshakePlace) : Type 0 where
  pub actors : setting.actors ≡ n + 1
  pub phase : setting.opening Phase ≡ run_word 0 Off
  pub gen : setting.opening Gen ≡ first_lead.generation
  pub begun : setting.opening Begun ≡ first_lead.begun
  pub acks : (a : ℕ) → a < n → setting.opening (Ack a) ≡ 0
  pub start : (a : ℕ) → a < n → place (setting.kind.start a) ≡ Acts (first_party a) Awake
  pub leader : place (setting.kind.start n) ≡ Leads first_lead
  pub sound_start : (a : ℕ) → a < n + 1 → sound (setting.kind.start a)
  pub sound_begins : (m : M) (o : O) → sound m → setting.kind.busy m ≡ false → sound (setting.kind.begins m o)
  pub sound_takes : (m : M) (found : ℕ) → sound m → setting.kind.busy m ≡ true → sound (setting.kind.takes m found)
  pub begins : (m : M) (o : O) → sound m → setting.kind.busy m ≡ false → PlaceBegins (place m) (place (setting.kind.begins m o))
  pub takes : (m : M) (found : ℕ) → sound m → setting.kind.busy m ≡ true → PlaceGoes n found (place m) (setting.kind.asks m) (place (setting.kind.takes m found))
