-- What a processor knows of the heap while it polls, waits or leaves beside any number of others, at each stage, and under which rights. Between two operations it holds what it has cached; at a stop it gives that back under the lock, and then it holds nothing until it goes on.
use Rattle.std.specs.Prelude.{◌≡◌, ℕ, ◌<◌, ◌≤◌, Bool, true, false, ◌==◌, ◌||◌, List, [], ◌∷◌, drop, length, slice_index_or, Option, Some, None}
use Rattle.gh_mutator_heap.specs.Vocabulary.{Arena, cached_in, IsCached, IsHeld, IsOf, Leaving, Means, MOST_GOROUTINES, Polling, register_at, REGISTERS, Right, Small, SoundGiveStage, SoundRoomFinding, SpanClass, View, Waiting}
use Rattle.gh_phase.specs.declared.resume.ResumeStage.{ResumeStage}
use Rattle.gh_phase.specs.declared.view.View.{View as PhaseView}
use Rattle.gh_phase.specs.Listing as resume
use Rattle.gh_poll.specs.declared.give.GiveStage.{GiveStage}
use Rattle.gh_poll.specs.declared.leave.LeaveStage.{LeaveStage}
use Rattle.gh_poll.specs.declared.poll.PollStage.{PollStage}
use Rattle.gh_poll.specs.declared.wait.WaitStage.{WaitStage}
use Rattle.gh_poll.specs.Give.{Giving, none_cached, span_class}
use Rattle.gh_mutator_heap.specs.PollWithin.{ScansWithin}
use Rattle.gh_mutator.specs.Vocabulary.{CachedSpan}
use Rattle.gh_class.specs.declared.class.TheConstants.{SPAN_CLASSES}

-- Between two operations.

-- the processor is at this seat, in this arena; its tables are whole, and there is such a buffer as it holds
pub record SeatFacts (z : Arena) (a : ℕ) (p : Polling) : Type 0 where
  pub seat : p.seat ≡ a
  pub few : a < z.layout.procs
  pub stacks : length p.local.stacks ≡ MOST_GOROUTINES
  pub registers : (g : ℕ) → g < MOST_GOROUTINES → length (slice_index_or p.local.stacks g []) ≡ REGISTERS
  pub scanned : length p.local.scanned ≡ MOST_GOROUTINES
  pub cache : length p.local.cache ≡ SPAN_CLASSES
  pub held : IsHeld z.layout p.local.held

-- the registers of its goroutines hold what they hold in the heap that never frees
abbrev pub PollRegistersFit : Arena → (a : ℕ) → View → Polling → Type 0
PollRegistersFit z a v p = (g d : ℕ) → IsOf z a g → d < REGISTERS → Means v.place v.ever.made (v.ever.register g d) (register_at p g d)

-- what it knows at any time, whatever it is at
pub record KnowsAtAnyTime (z : Arena) (a : ℕ) (v : View) (p : Polling) : Type 0 where
  pub sits : SeatFacts z a p
  pub registers : PollRegistersFit z a v p

-- it holds each span that it has cached, and the slots before its cursor are taken
abbrev pub CachesAll : (a : ℕ) → View → List (Option CachedSpan) → Type 0
CachesAll a v cache = (c : SpanClass) (k : CachedSpan) → c.class < 25 → cached_in cache (Small c) ≡ Some k → IsCached a v c k

-- while it is awake it knows the sweep generation, and what it has cached
pub record KnowsSpans (a : ℕ) (v : View) (p : Polling) : Type 0 where
  pub generation : p.local.view.generation ≡ v.generation
  pub caches : CachesAll a v p.local.cache

pub record Rests (z : Arena) (a : ℕ) (v : View) (p : Polling) : Type 0 where
  pub stands : KnowsAtAnyTime z a v p
  pub knows : KnowsSpans a v p

-- Its rights.

-- a cache lists the span that begins at page p
abbrev pub lists : List (Option CachedSpan) → (p : ℕ) → Bool
lists [] p = false
lists (None ∷ ks) p = lists ks p
lists (Some k ∷ ks) p = (k.head == p) || lists ks p

-- no span is held
abbrev pub no_page : ℕ → Bool
no_page p = false

-- it has the lock or not, holds these spans, and is at no other
abbrev pub Has : (a : ℕ) → View → (locked : Bool) → (held : ℕ → Bool) → Type 0
Has a v locked held = Right a v locked held None

-- while it gives back, from a span class on
abbrev pub give_held_at : List (Option CachedSpan) → GiveStage → ℕ → Bool
give_held_at cache (GiveStage.GiveSpan class s) = lists (drop class cache)
give_held_at cache GiveStage.Unlock = no_page
give_held_at cache _ = lists cache

abbrev pub give_locked_at : GiveStage → Bool
give_locked_at (GiveStage.GiveSpan class s) = true
give_locked_at GiveStage.Unlock = true
give_locked_at _ = false

abbrev pub give_held : Giving → ℕ → Bool
give_held g = give_held_at g.cache g.stage

abbrev pub give_locked : Giving → Bool
give_locked g = give_locked_at g.stage

abbrev pub poll_held_at : List (Option CachedSpan) → PollStage → ℕ → Bool
poll_held_at cache (PollStage.Giving g stops) = give_held g
poll_held_at cache _ = lists cache

abbrev pub poll_locked_at : PollStage → Bool
poll_locked_at (PollStage.Giving g stops) = give_locked g
poll_locked_at _ = false

abbrev pub poll_held : Polling → ℕ → Bool
poll_held p = poll_held_at p.local.cache p.stage

abbrev pub poll_locked : Polling → Bool
poll_locked p = poll_locked_at p.stage

-- a wait holds what its processor does
abbrev pub waits_held_at : Polling → WaitStage → ℕ → Bool
waits_held_at p WaitStage.Polling = poll_held p
waits_held_at p _ = lists p.local.cache

abbrev pub waits_locked_at : Polling → WaitStage → Bool
waits_locked_at p WaitStage.Polling = poll_locked p
waits_locked_at p _ = false

abbrev pub waits_held : Waiting → ℕ → Bool
waits_held w = waits_held_at w.poll w.wait.stage

abbrev pub waits_locked : Waiting → Bool
waits_locked w = waits_locked_at w.poll w.wait.stage

abbrev pub leave_held_at : LeaveStage → ℕ → Bool
leave_held_at (LeaveStage.Giving g) = give_held g
leave_held_at _ = no_page

abbrev pub leave_locked_at : LeaveStage → Bool
leave_locked_at (LeaveStage.Giving g) = give_locked g
leave_locked_at _ = false

abbrev pub leave_held : Leaving → ℕ → Bool
leave_held x = leave_held_at x.stage

abbrev pub leave_locked : Leaving → Bool
leave_locked x = leave_locked_at x.stage

-- What it knows.

-- it holds each span that it has cached at this place or behind it
abbrev pub CachesFrom : (a : ℕ) → View → List (Option CachedSpan) → (from : ℕ) → Type 0
CachesFrom a v cache from = (i : ℕ) (k : CachedSpan) → from ≤ i → i < SPAN_CLASSES → slice_index_or cache i None ≡ Some k → IsCached a v (span_class i) k

-- the span that is given back next is the one that is cached there
pub record GivesSpan (a : ℕ) (v : View) (cache : List (Option CachedSpan)) (class : ℕ) (s : CachedSpan) : Type 0 where
  pub among : class < SPAN_CLASSES
  pub here : slice_index_or cache class None ≡ Some s
  pub caches : CachesFrom a v cache class

abbrev pub GiveStageFacts : Arena → (a : ℕ) → View → Giving → GiveStage → Type 0
GiveStageFacts z a v g GiveStage.Lock = CachesFrom a v g.cache 0
GiveStageFacts z a v g (GiveStage.GiveSpan class s) = GivesSpan a v g.cache class s
GiveStageFacts z a v g GiveStage.Unlock = Unit {0}
GiveStageFacts z a v g (GiveStage.GiveBuffer b) = (g.cache ≡ none_cached) × SoundGiveStage z.layout b.stage
GiveStageFacts z a v g GiveStage.Ended = (g.cache ≡ none_cached) × (g.held ≡ None)

-- the giving back, which writes the sweep generation
pub record GiveFacts (z : Arena) (a : ℕ) (v : View) (g : Giving) : Type 0 where
  pub seat_is : g.seat ≡ a
  pub generation : g.generation ≡ v.generation
  pub room : length g.cache ≡ SPAN_CLASSES
  pub held : IsHeld z.layout g.held
  pub stage_is : GiveStageFacts z a v g g.stage

-- going on after a stop: the sweep generation, once it is loaded
abbrev pub HasLoaded : View → PhaseView → ResumeStage → Type 0
HasLoaded v known ResumeStage.LoadBegun = known.generation ≡ v.generation
HasLoaded v known (ResumeStage.Ended another_cycle) = known.generation ≡ v.generation
HasLoaded v known _ = Unit {0}

pub record ResumeFacts (a : ℕ) (v : View) (p : Polling) (r : resume.Resuming) : Type 0 where
  pub seat_is : r.seat ≡ a
  pub no_span : p.local.cache ≡ none_cached
  pub no_buffer : p.local.held ≡ None
  pub loaded : HasLoaded v r.view r.stage

abbrev pub PollStageFacts : Arena → (a : ℕ) → View → Polling → PollStage → Type 0
PollStageFacts z a v p (PollStage.Giving g stops) = GiveFacts z a v g
PollStageFacts z a v p (PollStage.Resuming r) = ResumeFacts a v p r
PollStageFacts z a v p (PollStage.Marking g m) = KnowsSpans a v p × ScansWithin z.layout m
PollStageFacts z a v p (PollStage.FindRoom r) = KnowsSpans a v p × SoundRoomFinding z.layout r
PollStageFacts z a v p _ = KnowsSpans a v p

pub record PollFacts (z : Arena) (a : ℕ) (v : View) (p : Polling) : Type 0 where
  pub stands : KnowsAtAnyTime z a v p
  pub stage_is : PollStageFacts z a v p p.stage

-- a wait: while it polls it knows what the poll does
abbrev pub WaitStageFacts : Arena → (a : ℕ) → View → Polling → WaitStage → Type 0
WaitStageFacts z a v p WaitStage.Polling = PollFacts z a v p
WaitStageFacts z a v p _ = Rests z a v p

abbrev pub WaitFacts : Arena → (a : ℕ) → View → Waiting → Type 0
WaitFacts z a v w = WaitStageFacts z a v w.poll w.wait.stage

-- a leave: its processor has handed it all that it held
abbrev pub LeaveStageFacts : Arena → (a : ℕ) → View → LeaveStage → Type 0
LeaveStageFacts z a v (LeaveStage.Giving g) = GiveFacts z a v g
LeaveStageFacts z a v _ = Unit {0}

pub record LeaveFacts (z : Arena) (a : ℕ) (v : View) (p : Polling) (x : Leaving) : Type 0 where
  pub stands : KnowsAtAnyTime z a v p
  pub seat_is : x.seat ≡ a
  pub stage_is : LeaveStageFacts z a v x.stage

-- The rights of the seat are the same, and so are the places of objects and the heap that never frees: this is left to it while the world is stopped.
pub record KeepsGhosts (a : ℕ) (v w : View) : Type 0 where
  pub locked : w.locked a ≡ v.locked a
  pub holds : (p : ℕ) → w.holds a p ≡ v.holds a p
  pub laying : w.laying a ≡ v.laying a
  pub freeing : w.freeing a ≡ v.freeing a
  pub place : w.place ≡ v.place
  pub ever : w.ever ≡ v.ever
