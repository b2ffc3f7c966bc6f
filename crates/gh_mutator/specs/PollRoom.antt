-- A poll of a turn's own makes room for the store behind it: whatever words it is told, where it has ended marking is off, as the processor knows, or two entries go into the buffer that is held. A poll of a wait takes none.
use Rattle.std.specs.Prelude.{◌≡◌, ℕ, true, false, List, Some}
use Rattle.gh_mutator.specs.Vocabulary.{Ended, FindRoom, goes, has_entries, has_two, Layout, Op, Polling, PollStage, Shape, Task}
use Rattle.gh_wbuf.specs.declared.find_room.RoomStage.{RoomStage}
use Rattle.gh_wbuf.specs.declared.find_room.RoomStage.TheVariants.{GiveBack, Try, Ended as Found}
use Rattle.gh_wbuf.specs.declared.try_buffer.Wish.TheVariants.{Room}
use Rattle.gh_wbuf.specs.Trying.{is_busy as try_busy, SoundTryStage}
use Rattle.gh_mutator.specs.Listing.{begins, is_busy_at, takes}
use Rattle.gh_mutator.specs.Sound.{has_room}
use Rattle.gh_mutator.specs.Processing.{Processor}

-- the search tries for room, and what it is to take had some; what it has found has some
abbrev pub TriesForRoom : RoomStage → Type 0
TriesForRoom (GiveBack h) = Unit {0}
TriesForRoom (Try t) = (t.wish ≡ Room) × SoundTryStage t.wish t.stage × (try_busy t.stage ≡ true)
TriesForRoom (Found h) = has_two (Some h) ≡ true

-- where the poll has ended there is room
abbrev pub RoomAt : Polling → PollStage → Type 0
RoomAt p (FindRoom r) = TriesForRoom r.stage
RoomAt p Ended = has_entries p ≡ true
RoomAt p _ = Unit {0}

-- the poll is no part of a wait
pub record MakesRoom (p : Polling) : Type 0 where
  pub no_wait : p.waits ≡ false
  pub stage : RoomAt p p.stage

-- A processor that polls, or whose last operation was such a poll.
abbrev pub RoomBehind : Polling → Task → Type 0
RoomBehind p Task.Idle = has_entries p ≡ true
RoomBehind p Task.Poll = MakesRoom p
RoomBehind p _ = ⊥

abbrev pub HasRoomToStore : Processor → Type 0
HasRoomToStore m = RoomBehind m.poll m.task

-- it looks for a buffer with room
abbrev pub LooksForRoom : PollStage → Type 0
LooksForRoom (FindRoom r) = Unit {0}
LooksForRoom _ = ⊥

pub record PollsMakeRoom : Type 0 where
  -- it is so from the begin of the poll on, until another operation begins
  pub begins : (shapes : List Shape) (m : Processor) → HasRoomToStore (begins shapes m Op.Poll)
  pub goes_on : (l : Layout) (shapes : List Shape) (m : Processor) (found : ℕ) → HasRoomToStore m → HasRoomToStore (takes l shapes m found)
  -- and then any operation may begin
  pub room : (m : Processor) (o : Op) → is_busy_at m.task ≡ false → HasRoomToStore m → has_room m o ≡ true
  -- a poll of a wait takes none: no step of it leads to the search for room
  pub waits_take_none : (l : Layout) (p : Polling) (found : ℕ) → p.waits ≡ true → LooksForRoom (goes l p found).stage → LooksForRoom p.stage
