-- Looking for a buffer with room: what is asked for at each stage, where that leads, and what it has given.
use Rattle.std.specs.Prelude.{ℕ, ◌+◌, Bool, nat_lt, if◌then◌else◌, Option, Some, None, is_none}
use Rattle.gh_wbuf.specs.Vocabulary.{Ask, buffers_of, FindRoom, Held, Layout, Listing, Load, Room, RoomStage, steps_of, Touch}
use Rattle.gh_base.specs.Routines as routine
use Rattle.gh_wbuf.specs.Sound.{SoundRoomFinding}
use Rattle.gh_wbuf.specs.declared.find_room.RoomStage.TheVariants.{GiveBack, Try, Ended}
use Rattle.gh_wbuf.specs.Trying as try

abbrev pub RoomFinding : Type 0
RoomFinding = FindRoom

-- it tries this buffer next, and holds none
abbrev pub try_at : (seat index : ℕ) → RoomStage
try_at seat index = Try (try.opening seat Room index None)

abbrev pub begin : (seat : ℕ) → Option Held → RoomStage
begin seat None = try_at seat 0
begin seat (Some h) = GiveBack h

abbrev pub opening : (seat : ℕ) → Option Held → RoomFinding
opening seat held = record { seat = seat; stage = begin seat held }

abbrev pub at_stage : RoomFinding → RoomStage → RoomFinding
at_stage r stage = record r { stage = stage }

-- the buffer behind this one, and behind the last the first
abbrev pub next_index : Layout → (index : ℕ) → ℕ
next_index l index = if nat_lt (index + 1) (buffers_of l) then index + 1 else 0

-- what is held at each stage
abbrev pub held_at : RoomStage → Option Held
held_at (GiveBack h) = Some h
held_at (Try t) = t.held
held_at (Ended h) = Some h

abbrev pub asks_at : RoomFinding → RoomStage → Ask
asks_at r (GiveBack h) = try.gives_back h
asks_at r (Try t) = try.asks t
asks_at r (Ended h) = Load Touch

module _ (l : Layout) where
  -- what it is after the try of this buffer has given this
  abbrev pub after_try : RoomFinding → (index : ℕ) → Option (Option Held) → RoomFinding
  after_try r index None = r
  after_try r index (Some None) = at_stage r (try_at r.seat (next_index l index))
  after_try r index (Some (Some h)) = at_stage r (Ended h)

  abbrev pub goes_at : RoomFinding → RoomStage → ℕ → RoomFinding
  goes_at r (GiveBack h) found = at_stage r (try_at r.seat 0)
  goes_at r (Try t) found = after_try (at_stage r (Try (try.goes t found))) t.index (try.gives t found)
  goes_at r (Ended h) found = at_stage r (Ended h)

  abbrev pub goes : RoomFinding → ℕ → RoomFinding
  goes r found = goes_at r r.stage found

-- it ends with the buffer that a try took
abbrev pub given_at : RoomStage → Option Held
given_at (Ended h) = Some h
given_at _ = None

abbrev pub is_busy : RoomStage → Bool
is_busy stage = is_none (given_at stage)

abbrev pub asks : RoomFinding → Ask
asks r = asks_at r r.stage

abbrev pub given : RoomFinding → Option Held
given r = given_at r.stage

abbrev pub gives : Layout → RoomFinding → ℕ → Option Held
gives l r found = given (goes l r found)

abbrev pub listing : Layout → Listing RoomFinding Held
listing l = record { asks = asks; goes = goes l; given = given; sound = SoundRoomFinding l; writes = try.writes }

abbrev pub transitions : Layout → routine.Listing RoomFinding Held
transitions l = steps_of l (listing l)
