-- A search for room that no other actor's step disturbs: it looks at each buffer once at the most.
use Rattle.std.specs.Prelude.{◌≡◌, ℕ, ◌+◌, ◌<◌, ◌≤◌, false}
use Rattle.gh_base.specs.declared.cell.Cell.TheVariants.{Buffer}
use Rattle.gh_base.specs.declared.layout.Layout.{Layout}
use Rattle.gh_base.specs.Cells.{buffers_of, Words}
use Rattle.gh_room.specs.Room.{HasRoom}
use Rattle.gh_base.specs.Routines.{alone}
use Rattle.gh_wbuf.specs.RoomFinding.{is_busy, RoomFinding, transitions, try_at}

-- it is about to look at this buffer
abbrev pub looking : (seat index : ℕ) → RoomFinding
looking seat index = record { seat = seat; stage = try_at seat index }

-- From whichever buffer it looks on, it has taken one after a load for each buffer, and a swap.
pub record FindsAlone (l : Layout) (seat index : ℕ) (words : Words) : Type 0 where
  pub steps : ℕ
  pub few : steps ≤ buffers_of l + 1
  pub ended : is_busy (alone (transitions l) (record { routine = looking seat index; words = words }) steps).routine.stage ≡ false

-- So it is where one buffer has room and nobody holds it.
abbrev pub SearchesAloneFind : Type 0
SearchesAloneFind = (l : Layout) (seat index buffer : ℕ) (words : Words) → index < buffers_of l → buffer < buffers_of l → HasRoom (words (Buffer buffer)) → FindsAlone l seat index words
