-- What each stage of the routines knows of the buffers: who holds which, and how many entries each has.
use Rattle.std.specs.Prelude.{◌≡◌, ℕ, ◌+◌, ◌<◌, ◌≤◌, true, Option, None}
use Rattle.gh_wbuf.specs.Vocabulary.{Claim, ENTRIES, Entry, Held, KeepsItsBuffer, Layout, Room, RoomStage, TakeStage, TryStage, Wish}
use Rattle.gh_wbuf.specs.BufferGiving as giving
use Rattle.gh_wbuf.specs.EntryTaking as taking
use Rattle.gh_wbuf.specs.RoomFinding as finding
use Rattle.gh_wbuf.specs.Trying as try
use Rattle.gh_wbuf.specs.Trying.{SoundTryStage}

-- at its swap a try holds no buffer
abbrev pub IsFreeAt : Option Held → TryStage → Type 0
IsFreeAt held (Claim word) = held ≡ None
IsFreeAt held _ = Unit {0}

-- the word that it is to swap says that nobody holds the buffer; what else it says, only the swap tells
pub record TryKnows (seat : ℕ) (t : try.Trying) : Type 0 where
  pub seat_is : t.seat ≡ seat
  pub opened : SoundTryStage t.wish t.stage
  pub free : IsFreeAt t.held t.stage

-- the search for room holds no buffer while it tries one, and a try that it runs has not ended
pub record RoomTryKnows (seat : ℕ) (t : try.Trying) : Type 0 where
  pub tries : TryKnows seat t
  pub wish_is : t.wish ≡ Room
  pub none : t.held ≡ None
  pub busy : try.is_busy t.stage ≡ true

abbrev pub RoomStageKnows : (seat : ℕ) → RoomStage → Type 0
RoomStageKnows seat (RoomStage.GiveBack h) = Unit {0}
RoomStageKnows seat (RoomStage.Try t) = RoomTryKnows seat t
-- what it has found has room for two
RoomStageKnows seat (RoomStage.Ended h) = h.count + 2 ≤ ENTRIES

pub record RoomKnows (seat : ℕ) (r : finding.RoomFinding) : Type 0 where
  pub seat_is : r.seat ≡ seat
  pub stage : RoomStageKnows seat r.stage

pub record TakeTryKnows (seat : ℕ) (t : try.Trying) : Type 0 where
  pub tries : TryKnows seat t
  pub wish_is : t.wish ≡ Entry
  pub busy : try.is_busy t.stage ≡ true

-- the buffer whose entry it takes has one
abbrev pub TakeStageKnows : (seat : ℕ) → TakeStage → Type 0
TakeStageKnows seat (TakeStage.Try t) = TakeTryKnows seat t
TakeStageKnows seat (TakeStage.Take h) = 0 < h.count
TakeStageKnows seat (TakeStage.Ended held entry) = Unit {0}

pub record TakeKnows (seat : ℕ) (t : taking.EntryTaking) : Type 0 where
  pub seat_is : t.seat ≡ seat
  pub stage : TakeStageKnows seat t.stage

abbrev pub GiveKnows : (seat : ℕ) → giving.BufferGiving → Type 0
GiveKnows seat g = Unit {0}

-- Each step of the routines is a move that their seat may make, and leads to what the next stage knows; and that lasts.
pub record BuffersAreKept : Type 0 where
  pub tries : (l : Layout) → KeepsItsBuffer (try.transitions l) (λ t. t.held) TryKnows
  pub finds : (l : Layout) → KeepsItsBuffer (finding.transitions l) (λ r. finding.held_at r.stage) RoomKnows
  pub takes : (l : Layout) → KeepsItsBuffer (taking.transitions l) (λ t. taking.held_at t.stage) TakeKnows
  pub gives : (l : Layout) → KeepsItsBuffer (giving.transitions l) (λ g. giving.held_at g.stage) GiveKnows
  -- they know it where they begin
  pub tries_begin : (seat : ℕ) (wish : Wish) (index : ℕ) (held : Option Held) → TryKnows seat (try.opening seat wish index held)
  pub finds_begin : (seat : ℕ) (held : Option Held) → RoomKnows seat (finding.opening seat held) × (finding.held_at (finding.begin seat held) ≡ held)
  pub takes_begin : (seat : ℕ) (held : Option Held) → TakeKnows seat (taking.opening seat held) × (taking.held_at (taking.begin seat held) ≡ held)
