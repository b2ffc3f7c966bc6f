-- The search for a buffer with room changes no word that a right guards, and asks for words that there are.
use Rattle.std.proofs.Common.{◌≡◌, ℕ, ◌<◌, Option, Some, refl, arith}
use Rattle.gh_mutator_heap.proofs.Vocabulary.{buffers_of, cell_of, ENTRIES, FitsBuffers, Held, InRange, IsQuiet, IsTryOf, Layout, seats_of, SoundRoomFinding, SoundRoomStage}
use Rattle.gh_wbuf.specs.declared.find_room.RoomStage.{RoomStage}
use Rattle.gh_wbuf.specs.declared.try_buffer.Wish.TheVariants.{Room}
use Rattle.gh_wbuf.specs.RoomFinding as room
use Rattle.gh_wbuf.specs.Trying as try

-- It changes no word that a right guards.

pub room_quiet : (r : room.RoomFinding) → IsQuiet (room.asks r)
room_quiet r = grind arith

-- A try.

-- a buffer of the layout into which an entry goes
pub record Given (l : Layout) (h : Held) : Type 0 where
  pub fits : FitsBuffers l h
  pub few : h.count < ENTRIES

-- The search for a buffer with room.

module _ (l : Layout) where
  fresh : (seat index : ℕ) → seat < seats_of l → index < buffers_of l → SoundRoomFinding l (record { seat = seat; stage = room.try_at seat index })
  fresh seat index few below = record { seat = few; stage = record { sound = record { seat = few; index = below; held = tt; stage = tt }; seat_is = refl; wish_is = refl; busy = refl } }

  module _ (r : room.RoomFinding) (seat : r.seat < seats_of l) where
    tried_then : (t : try.Trying) → IsTryOf l r.seat Room t → (found : ℕ) (out : Option (Option Held)) → try.gives t found ≡ out → SoundRoomFinding l (room.after_try l (room.at_stage r (RoomStage.Try (try.goes t found))) t.index out)
    tried_then t of found out e = grind arith

    room_goes_at : (q : RoomStage) (found : ℕ) → SoundRoomFinding l r → SoundRoomStage l r.seat q → SoundRoomFinding l (room.goes_at l r q found)
    room_goes_at q found now f = grind (arith, fresh, tried_then)

pub room_goes : (l : Layout) (r : room.RoomFinding) (found : ℕ) → SoundRoomFinding l r → SoundRoomFinding l (room.goes l r found)
room_goes l r found f = grind (arith, room_goes_at)

pub room_gives : (l : Layout) (r : room.RoomFinding) (found : ℕ) (h : Held) → SoundRoomFinding l r → room.gives l r found ≡ Some h → Given l h
room_gives l r found h f e = record { fits = grind arith; few = grind arith }

pub room_within : (l : Layout) (r : room.RoomFinding) → SoundRoomFinding l r → InRange l (cell_of (room.asks r))
room_within l r f = grind arith
