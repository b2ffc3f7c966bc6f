-- Where the coordinator stands in the handshake of a stop.
use Rattle.std.specs.Prelude.{◌≡◌, ◌≢◌, ℕ, ◌+◌, ◌-◌, ◌%◌, ◌^◌, ◌<◌, ◌⊎◌, ◌↔◌, Bool, true, if◌then◌else◌}
use Rattle.gh_coord.specs.Vocabulary.{Cell, Check, Close, CloseStage, CoordStage, Count, Done, GONE, Layout, Load, LoadAck, LoadWant, MarkOn, Open, OpenStage, Stop, StopAgain, StopStage, Store, Sweep, Tell, TellStage, Watch}
use Rattle.gh_phase.specs.declared.view.RunPhase.{RunPhase}
use Rattle.gh_phase.specs.Handshake.{Calm, first_lead, last_of, Lead, LeadGoes, Looks, Post, stop_before, stop_word, Stopped}
use Rattle.gh_coord.specs.Closing as close
use Rattle.gh_coord.specs.Opening as open_
use Rattle.gh_coord.specs.Listing.{asks, asks_at, Coordinating, goes, is_busy, opening}
use Rattle.gh_coord.specs.Stopping.{acks_of}
use Rattle.gh_coord.specs.Telling as tell

-- the numbers before these
abbrev pub cycle_before : ℕ → ℕ
cycle_before begun = (begun + (2 ^ 64 - 1)) % 2 ^ 64

abbrev pub generation_before : ℕ → ℕ
generation_before generation = (generation + (2 ^ 34 - 2)) % 2 ^ 34

-- in a stop behind this phase
abbrev pub stop_post : RunPhase → StopStage → Post
stop_post phase StopStage.StorePhase = Calm phase
stop_post phase (StopStage.Await ack) = Looks phase ack
stop_post phase StopStage.Ended = Stopped phase

abbrev pub open_post : OpenStage → Post
open_post OpenStage.Ended = Calm RunPhase.Mark
open_post _ = Stopped RunPhase.Off

abbrev pub told_phase : (is_last : Bool) → RunPhase
told_phase is_last = if is_last then RunPhase.Finished else RunPhase.Off

abbrev pub tell_post : (is_last : Bool) → TellStage → Post
tell_post is_last TellStage.Ended = Calm (told_phase is_last)
tell_post is_last _ = Calm RunPhase.Off

abbrev pub close_post : CloseStage → Post
close_post CloseStage.Ended = Calm RunPhase.Off
close_post _ = Stopped RunPhase.Mark

-- The world is stopped while a cycle is opened, and from the check on until its marking is ended. It runs while spans are swept.
abbrev pub post_at : CoordStage → Post
post_at (LoadAck i) = Calm RunPhase.Off
post_at LoadWant = Calm RunPhase.Off
post_at (Stop st) = stop_post RunPhase.Off st.stage
post_at (Open o) = open_post o.stage
post_at (Watch w) = Calm RunPhase.Mark
post_at (StopAgain st) = stop_post RunPhase.Mark st.stage
post_at (Check w) = Stopped RunPhase.Mark
post_at MarkOn = Stopped RunPhase.Mark
post_at (Close c) = close_post c.stage
post_at (Sweep w) = Calm RunPhase.Off
post_at (Count c) = Calm RunPhase.Off
post_at (Tell t) = tell_post t.is_last t.stage
post_at Done = Calm RunPhase.Finished

-- The numbers that are stored: a number that it raises is stored later.

abbrev pub stored_stop : (stops : ℕ) → StopStage → ℕ
stored_stop stops StopStage.StorePhase = stop_before stops
stored_stop stops _ = stops

abbrev pub stop_stored_at : (stops : ℕ) → CoordStage → ℕ
stop_stored_at stops (Stop st) = stored_stop stops st.stage
stop_stored_at stops (StopAgain st) = stored_stop stops st.stage
stop_stored_at stops _ = stops

abbrev pub stored_cycle : (begun : ℕ) → OpenStage → ℕ
stored_cycle begun OpenStage.StorePhase = begun
stored_cycle begun OpenStage.Ended = begun
stored_cycle begun _ = cycle_before begun

abbrev pub begun_at : (begun : ℕ) → CoordStage → ℕ
begun_at begun (Open o) = stored_cycle begun o.stage
begun_at begun _ = begun

abbrev pub stored_generation : (generation : ℕ) → CloseStage → ℕ
stored_generation generation CloseStage.StorePhase = generation
stored_generation generation CloseStage.Ended = generation
stored_generation generation _ = generation_before generation

abbrev pub generation_at : (generation : ℕ) → CoordStage → ℕ
generation_at generation (Close c) = stored_generation generation c.stage
generation_at generation _ = generation

abbrev pub lead_at : Coordinating → CoordStage → Lead
lead_at s stage = record { stops = stop_stored_at s.stops stage; begun = begun_at s.begun stage; generation = generation_at s.generation stage; post = post_at stage }

abbrev pub lead_of : Coordinating → Lead
lead_of s = lead_at s s.stage

-- each number fits its word
pub record FitsNumbers (stops begun generation : ℕ) : Type 0 where
  pub stops_fit : stops < 2 ^ 62
  pub begun_fits : begun < 2 ^ 64
  pub generation_fits : generation < 2 ^ 34

-- what is stored at each stage is by the coordinator's own numbers
abbrev pub SoundAt : Coordinating → CoordStage → Type 0
SoundAt s (Stop st) = st ≡ record { stops = s.stops; stage = st.stage }
SoundAt s (StopAgain st) = st ≡ record { stops = s.stops; stage = st.stage }
SoundAt s (Open o) = (o ≡ record { stops = s.stops; cycle = s.begun; work = o.work; goal = o.goal; heap = o.heap; stage = o.stage }) × (open_.is_busy o.stage ≡ true)
SoundAt s (Close c) = c ≡ record { lapsed = c.lapsed; generation = s.generation; stops = s.stops; stage = c.stage }
SoundAt s (Sweep w) = w.generation ≡ s.generation
SoundAt s (Tell t) = (t ≡ record { trigger = t.trigger; cycle = t.cycle; stops = s.stops; is_last = s.is_last; stage = t.stage }) × (tell.stores_phase t.stage ≡ true → s.is_last ≡ true)
SoundAt s Done = s.is_last ≡ true
SoundAt s _ = Unit {0}

abbrev pub Sound : Coordinating → Type 0
Sound s = FitsNumbers s.stops s.begun s.generation × SoundAt s s.stage

-- A cycle is marked: from the store of the phase that begins it to that of the next sweep generation.
abbrev pub Marks : CoordStage → Type 0
Marks (Watch w) = Unit {0}
Marks (StopAgain st) = Unit {0}
Marks (Check w) = Unit {0}
Marks MarkOn = Unit {0}
Marks (Close c) = close.is_marking c.stage ≡ true
Marks _ = ⊥

-- The last cycle: it is begun once each processor was found to be gone, one after the other.

-- the processors below this were found gone
abbrev pub gone_to : CoordStage → ℕ
gone_to (LoadAck i) = i
gone_to _ = 0

-- the processor at this seat was found gone before, or is found so by this step
abbrev pub IsFoundGone : Layout → (found : ℕ) → Coordinating → CoordStage → (a : ℕ) → Type 0
IsFoundGone l found s stage a = (a < gone_to stage) ⊎ ((asks_at l s stage ≡ Load (Cell.Ack a)) × (found ≡ GONE))

-- a step that leads here
pub record FindsGone (l : Layout) (found : ℕ) (s : Coordinating) (stage : CoordStage) (to : Coordinating) : Type 0 where
  pub below : (a : ℕ) → a < gone_to to.stage → IsFoundGone l found s stage a
  pub last : to.is_last ≡ true → (s.is_last ≡ true) ⊎ ((a : ℕ) → a < l.procs → IsFoundGone l found s stage a)

-- Why it stops the world behind a step that leads here: that found a request for a cycle; or it is for the last cycle; or a cycle is marked, and its marking seems to be over.
abbrev pub StopsFor : Layout → (found : ℕ) → (s to : Coordinating) → Type 0
StopsFor l found s to = ((asks l s ≡ Load Cell.Want) × (found ≢ 0)) ⊎ ((to.is_last ≡ true) ⊎ (last_of (post_at s.stage) ≡ RunPhase.Mark))

pub record LeadsHandshake : Type 0 where
  -- before its first step
  pub sound : (l : Layout) (seat gogc minheap room : ℕ) → Sound (opening l seat gogc minheap room)
  pub leads : (l : Layout) (seat gogc minheap room : ℕ) → lead_of (opening l seat gogc minheap room) ≡ first_lead
  -- the last phase is stored in the last cycle, for which each processor was found gone
  pub finds_gone : (l : Layout) (s : Coordinating) (found : ℕ) → is_busy s.stage ≡ true → FindsGone l found s s.stage (goes l s found)
  pub finishes : (s : Coordinating) → Sound s → last_of (post_at s.stage) ≡ RunPhase.Finished → s.is_last ≡ true
  -- it stores a stop only where there is a reason to
  pub stops_for : (l : Layout) (s : Coordinating) (found stop : ℕ) → asks l (goes l s found) ≡ Store Cell.Phase (stop_word stop) → StopsFor l found s (goes l s found)
  pub stops_at_first : (l : Layout) (seat gogc minheap room stop : ℕ) → asks l (opening l seat gogc minheap room) ≢ Store Cell.Phase (stop_word stop)
  -- the world is never stopped behind the last phase
  pub stops_go_on : (s : Coordinating) (phase : RunPhase) → post_at s.stage ≡ Stopped phase → phase ≢ RunPhase.Finished
  -- where the world is not stopped the last phase that was no stop is that of marking exactly while a cycle is marked
  pub marks_on : (s : Coordinating) → Sound s → ((phase : RunPhase) → post_at s.stage ≡ Stopped phase → ⊥) → last_of (post_at s.stage) ≡ RunPhase.Mark ↔ Marks s.stage
  -- each step is one of the handshake
  pub stays_sound : (l : Layout) (s : Coordinating) (found : ℕ) → Sound s → is_busy s.stage ≡ true → Sound (goes l s found)
  pub goes : (l : Layout) (s : Coordinating) (found : ℕ) → Sound s → is_busy s.stage ≡ true → LeadGoes (acks_of l) found (lead_of s) (asks l s) (lead_of (goes l s found))
