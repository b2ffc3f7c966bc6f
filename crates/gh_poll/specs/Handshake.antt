-- Where a processor among a collector stands in the handshake of a stop, while it polls, waits or leaves.
use Rattle.std.specs.Prelude.{◌≡◌, ℕ, Bool, true, false, List, length, Option, None}
use Rattle.gh_poll.specs.Vocabulary.{Acts, Awake, CachedSpan, Gives, GiveStage, Gone, Held, KeepsHandshake, Layout, Leaves, LeaveStage, Local, Mark, Party, PlaceBegins, PollStage, SPAN_CLASSES, Stage, View, WaitStage}
use Rattle.gh_phase.specs.Listing as resume
use Rattle.gh_phase.specs.ResumePlaces as resumes
use Rattle.gh_poll.specs.Give.{Giving, none_cached}
use Rattle.gh_poll.specs.Leave as leave
use Rattle.gh_poll.specs.Poll as poll
use Rattle.gh_poll.specs.Wait as wait

-- awake, with what the processor knows between two operations
abbrev pub IsPlace : Party → Stage → (seat : ℕ) → Local → Type 0
IsPlace party stage seat local = (party ≡ record { seat = seat; view = local.view }) × (stage ≡ Awake)

-- The giving back. Once it has ended nothing is left.
abbrev pub GivesSo : Giving → GiveStage → Type 0
GivesSo g (GiveStage.GiveBuffer b) = g.cache ≡ none_cached
GivesSo g GiveStage.Ended = (g.cache ≡ none_cached) × (g.held ≡ None)
GivesSo g _ = Unit {0}

-- the cache has a place for each span class
abbrev pub HasPlaces : List (Option CachedSpan) → Type 0
HasPlaces cache = length cache ≡ SPAN_CLASSES

-- it goes on after a stop for its own seat, with no span cached and no buffer held
pub record GoesOnWithNothing (seat : ℕ) (local : Local) (r : resume.Resuming) : Type 0 where
  pub seat_is : r.seat ≡ seat
  pub busy : resume.is_busy r ≡ true
  pub no_span : local.cache ≡ none_cached
  pub no_buffer : local.held ≡ None

-- A poll: while it scans a stack, or looks for a buffer with room, the processor is awake and knows that marking is on.
module _ (p : poll.Polling) where
  abbrev pub polls_at : PollStage → Stage
  polls_at (PollStage.Giving g stops) = Gives stops
  polls_at (PollStage.Resuming r) = resumes.stage_of r
  polls_at _ = Awake

  -- while it goes on after a stop, it knows what that knows
  abbrev pub poller_at : PollStage → Party
  poller_at (PollStage.Resuming r) = resumes.party_of r
  poller_at _ = record { seat = p.seat; view = p.local.view }

  abbrev pub PollsSoundAt : PollStage → Type 0
  PollsSoundAt (PollStage.Giving g stops) = GivesSo g g.stage
  PollsSoundAt (PollStage.Resuming r) = GoesOnWithNothing p.seat p.local r
  PollsSoundAt (PollStage.Marking g m) = p.local.view.phase ≡ Mark
  PollsSoundAt (PollStage.FindRoom r) = p.local.view.phase ≡ Mark
  PollsSoundAt _ = Unit {0}

  abbrev pub poll_stage_of : Stage
  poll_stage_of = polls_at p.stage

  abbrev pub poller_of : Party
  poller_of = poller_at p.stage

  abbrev pub SoundPoll : Type 0
  SoundPoll = HasPlaces p.local.cache × PollsSoundAt p.stage

-- it is a poll that goes on
pub record PollsOn (p : poll.Polling) : Type 0 where
  pub busy : poll.is_busy p.stage ≡ true
  pub sound : SoundPoll p

-- what a processor is to the others, between two polls
abbrev pub knower : poll.Polling → Party
knower p = record { seat = p.seat; view = p.local.view }

-- A wait: while it polls, it stands where the poll does.
module _ (w : wait.Waiting) where
  abbrev pub waits_at : WaitStage → Stage
  waits_at WaitStage.Polling = poll_stage_of w.poll
  waits_at _ = Awake

  abbrev pub waiter_at : WaitStage → Party
  waiter_at WaitStage.Polling = poller_of w.poll
  waiter_at _ = knower w.poll

  abbrev pub WaitsSoundAt : WaitStage → Type 0
  WaitsSoundAt WaitStage.Polling = PollsOn w.poll
  WaitsSoundAt _ = Unit {0}

  abbrev pub wait_stage_of : Stage
  wait_stage_of = waits_at w.wait.stage

  abbrev pub waiter_of : Party
  waiter_of = waiter_at w.wait.stage

  abbrev pub SoundWait : Type 0
  SoundWait = HasPlaces w.poll.local.cache × WaitsSoundAt w.wait.stage

-- Leaving: what the processor knows of the phase stays.
abbrev pub leaves_at : LeaveStage → Stage
leaves_at (LeaveStage.Giving g) = Awake
leaves_at LeaveStage.Leave = Leaves
leaves_at LeaveStage.Left = Gone

abbrev pub leaver : View → leave.Leaving → Party
leaver v w = record { seat = w.seat; view = v }

pub record PollsInHandshake : Type 0 where
  pub sound : (seat : ℕ) (local : Local) (waits : Bool) → HasPlaces local.cache → SoundPoll (poll.opening seat local waits)
  -- it begins awake, and so it ends
  pub begins : (seat : ℕ) (local : Local) (waits : Bool) → IsPlace (poller_of (poll.opening seat local waits)) (poll_stage_of (poll.opening seat local waits)) seat local
  pub keeps : (l : Layout) → KeepsHandshake (poll.transitions l) SoundPoll poller_of poll_stage_of
  pub seat_stays : (l : Layout) (p : poll.Polling) (found : ℕ) → SoundPoll p → poll.is_busy p.stage ≡ true → (poll.goes l p found).seat ≡ p.seat
  pub ends : (p : poll.Polling) → poll.is_busy p.stage ≡ false → IsPlace (poller_of p) (poll_stage_of p) p.seat p.local

pub record WaitsInHandshake : Type 0 where
  pub sound : (p : poll.Polling) → HasPlaces p.local.cache → SoundWait (wait.opening p)
  pub begins : (p : poll.Polling) → IsPlace (waiter_of (wait.opening p)) (wait_stage_of (wait.opening p)) p.seat p.local
  pub keeps : (l : Layout) → KeepsHandshake (wait.transitions l) SoundWait waiter_of wait_stage_of
  pub ends : (w : wait.Waiting) → wait.is_busy w.wait.stage ≡ false → IsPlace (waiter_of w) (wait_stage_of w) w.poll.seat w.poll.local

pub record LeavesInHandshake : Type 0 where
  -- it begins awake, or with nothing to give back
  pub begins : (seat generation : ℕ) (cache : List (Option CachedSpan)) (held : Option Held) (v : View) →
      PlaceBegins (Acts (record { seat = seat; view = v }) Awake) (Acts (leaver v (leave.opening seat generation cache held)) (leaves_at (leave.opening seat generation cache held).stage))
  pub keeps : (l : Layout) (v : View) → KeepsHandshake (leave.transitions l) (λ w. Unit {0}) (leaver v) (λ w. leaves_at w.stage)
  pub ends : (w : leave.Leaving) → leave.is_busy w.stage ≡ false → leaves_at w.stage ≡ Gone
