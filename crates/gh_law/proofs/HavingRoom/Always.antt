-- At every moment: while a cycle is marked there is a buffer with room, and else all have.
use Rattle.std.proofs.Common.{inl, inr, refl, sym, subst, arith, List}
use Rattle.gh_law.proofs.Vocabulary.{AllStands, BuffersHaveRoom, Entry, HasRoom, led_then, marks_or_not, Op, RoomStands, Setup, words}
use Rattle.gh_law.proofs.HavingRoom.Marked.{marked_has_room}

empty_has_room : HasRoom 0
empty_has_room = record { free = refl; room = omega arith }

module _ (law : BuffersHaveRoom) (setup : Setup) (es : List (Entry Op)) (all : AllStands setup es) where
  pub has_room : RoomStands setup.layout (words setup es)
  has_room = let x = led_then setup es in elim (marks_or_not x.lead.stage) [
    | inl on ↦ marked_has_room law setup es x.lead all x.led_by on
    | inr off ↦ record { buffer = 0; there = omega arith; has = subst HasRoom (sym (all.phases.buffers x.lead x.led_by off 0)) empty_has_room }
  ]
