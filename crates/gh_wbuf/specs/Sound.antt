-- What the routines know of their own numbers, whatever they are told.
use Rattle.std.specs.Prelude.{◌≡◌, ℕ, ◌<◌, true}
use Rattle.gh_wbuf.specs.Vocabulary.{Entry, FindRoom, FitsBuffers, GiveBuffer, GiveStage, IsHeld, Layout, Room, RoomStage, seats_of, TakeEntry, TakeStage, Wish}
use Rattle.gh_wbuf.specs.Trying.{is_busy, Serves, SoundTrying, Trying}

-- the try is of the same seat, and for the same, and has not ended
pub record IsTryOf (l : Layout) (seat : ℕ) (wish : Wish) (t : Trying) : Type 0 where
  pub sound : SoundTrying l t
  pub seat_is : t.seat ≡ seat
  pub wish_is : t.wish ≡ wish
  pub busy : is_busy t.stage ≡ true

abbrev pub SoundRoomStage : Layout → (seat : ℕ) → RoomStage → Type 0
SoundRoomStage l seat (RoomStage.GiveBack h) = FitsBuffers l h
SoundRoomStage l seat (RoomStage.Try t) = IsTryOf l seat Room t
SoundRoomStage l seat (RoomStage.Ended h) = Serves l Room h

pub record SoundRoomFinding (l : Layout) (r : FindRoom) : Type 0 where
  pub seat : r.seat < seats_of l
  pub stage : SoundRoomStage l r.seat r.stage

abbrev pub SoundTakeStage : Layout → (seat : ℕ) → TakeStage → Type 0
SoundTakeStage l seat (TakeStage.Try t) = IsTryOf l seat Entry t
SoundTakeStage l seat (TakeStage.Take h) = Serves l Entry h
SoundTakeStage l seat (TakeStage.Ended held entry) = IsHeld l held

pub record SoundEntryTaking (l : Layout) (t : TakeEntry) : Type 0 where
  pub seat : t.seat < seats_of l
  pub stage : SoundTakeStage l t.seat t.stage

abbrev pub SoundGiveStage : Layout → GiveStage → Type 0
SoundGiveStage l (GiveStage.Give h) = FitsBuffers l h
SoundGiveStage l GiveStage.Ended = Unit {0}

abbrev pub SoundBufferGiving : Layout → GiveBuffer → Type 0
SoundBufferGiving l g = SoundGiveStage l g.stage
