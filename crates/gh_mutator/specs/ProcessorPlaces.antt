-- Where the whole processor stands in the handshake of a stop: awake, but where it polls, waits for a cycle, or leaves.
use Rattle.std.specs.Prelude.{◌≡◌, ℕ, true, false, List, None}
use Rattle.gh_mutator.specs.Vocabulary.{Acts, Awake, first_party, Gone, is_busy, Layout, Leaving, NewStage, Op, Party, PlaceBegins, Polling, Shape, Stage, StageGoes, Task, Wait, waiting, waits_still}
use Rattle.gh_base.specs.declared.cell.Ask.TheVariants.{Store}
use Rattle.gh_base.specs.declared.cell.Cell.TheVariants.{Ack}
use Rattle.gh_mutator.specs.Deeds.{processor_kind}
use Rattle.gh_poll.specs.Give.{none_cached}
use Rattle.gh_poll.specs.Handshake.{HasPlaces, knower, leaves_at, poll_stage_of, poller_of, PollsOn, SoundWait, wait_stage_of, waiter_of}
use Rattle.gh_mutator.specs.Listing.{asks, is_busy_at, takes}
use Rattle.gh_mutator.specs.Processor.{opening_processor}
use Rattle.gh_mutator.specs.Processing.{Processor}
use Rattle.gh_poll.specs.declared.wait.Wait.{Wait as WaitState}

-- it leaves from its own seat, with all that it held, and is not gone yet
pub record LeavesOn (p : Polling) (x : Leaving) : Type 0 where
  pub seat_is : x.seat ≡ p.seat
  pub busy : is_busy x.stage ≡ true
  pub no_span : p.local.cache ≡ none_cached
  pub no_buffer : p.local.held ≡ None

module _ (p : Polling) where
  -- a new object
  abbrev pub new_stage_at : NewStage → Stage
  new_stage_at (Wait x) = wait_stage_of (waiting x p)
  new_stage_at _ = Awake

  abbrev pub new_party_at : NewStage → Party
  new_party_at (Wait x) = waiter_of (waiting x p)
  new_party_at _ = knower p

  -- the wait goes on
  abbrev pub WaitsOn : WaitState → Type 0
  WaitsOn x = SoundWait (waiting x p) × (waits_still x.stage ≡ true)

  abbrev pub SoundNewAt : NewStage → Type 0
  SoundNewAt (Wait x) = WaitsOn x
  SoundNewAt _ = Unit {0}

  abbrev pub stage_at : Task → Stage
  stage_at Task.Left = Gone
  stage_at (Task.New x) = new_stage_at x.stage
  stage_at (Task.Gc g x) = wait_stage_of (waiting x p)
  stage_at Task.Poll = poll_stage_of p
  stage_at (Task.Leave x) = leaves_at x.stage
  stage_at _ = Awake

  abbrev pub party_at : Task → Party
  party_at (Task.New x) = new_party_at x.stage
  party_at (Task.Gc g x) = waiter_of (waiting x p)
  party_at Task.Poll = poller_of p
  party_at _ = knower p

  abbrev pub SoundAt : Task → Type 0
  SoundAt (Task.New x) = SoundNewAt x.stage
  SoundAt (Task.Gc g x) = WaitsOn x
  SoundAt Task.Poll = PollsOn p
  SoundAt (Task.Leave x) = LeavesOn p x
  SoundAt _ = Unit {0}

abbrev pub stage_of : Processor → Stage
stage_of m = stage_at m.poll m.task

abbrev pub party_of : Processor → Party
party_of m = party_at m.poll m.task

abbrev pub SoundPlace : Processor → Type 0
SoundPlace m = HasPlaces m.poll.local.cache × SoundAt m.poll m.task

-- what is so of a processor that acknowledges for seat i: it is its own, and no span is cached and no buffer held
pub record HoldsNothing (p : Polling) (i : ℕ) : Type 0 where
  pub own : i ≡ p.seat
  pub no_span : p.local.cache ≡ none_cached
  pub no_buffer : p.local.held ≡ None

-- Whatever it finds, each of its steps is one of the handshake.
pub record ProcessorInHandshake : Type 0 where
  pub first : (seat : ℕ) → party_of (opening_processor seat) ≡ first_party seat
  pub awake : (seat : ℕ) → stage_of (opening_processor seat) ≡ Awake
  pub sound_first : (seat : ℕ) → SoundPlace (opening_processor seat)
  pub sound_begins : (shapes : List Shape) (l : Layout) (m : Processor) (o : Op) → SoundPlace m → is_busy_at m.task ≡ false → SoundPlace ((processor_kind shapes l).begins m o)
  pub sound_takes : (l : Layout) (shapes : List Shape) (m : Processor) (found : ℕ) → SoundPlace m → is_busy_at m.task ≡ true → SoundPlace (takes l shapes m found)
  -- what it begins leaves it awake, or about to say that it is gone; one that has left begins nothing
  pub begins_so : (shapes : List Shape) (l : Layout) (m : Processor) (o : Op) → SoundPlace m → is_busy_at m.task ≡ false →
      PlaceBegins (Acts (party_of m) (stage_of m)) (Acts (party_of ((processor_kind shapes l).begins m o)) (stage_of ((processor_kind shapes l).begins m o)))
  pub takes_so : (l : Layout) (shapes : List Shape) (m : Processor) (found : ℕ) → SoundPlace m → is_busy_at m.task ≡ true →
      StageGoes found (party_of m) (stage_of m) (asks l m) (party_of (takes l shapes m found)) (stage_of (takes l shapes m found))
  -- whatever it runs, it acknowledges a stop, or says that it is gone, with nothing held
  pub acknowledges : (l : Layout) (m : Processor) (i number : ℕ) → SoundPlace m → asks l m ≡ Store (Ack i) number → HoldsNothing m.poll i
