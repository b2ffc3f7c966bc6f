-- The steps of the routines on buffers are on words that there are, whatever is found.
use Rattle.std.proofs.Common.{ℕ, arith}
use Rattle.std.proofs.lemmas.Bool.Decides.{nat_tests}
use Rattle.gh_assist.proofs.Vocabulary.{Layout, RoomWithin, TakenIsReference, TakeStageWithin, TakeWithin}
use Rattle.gh_wbuf.specs.declared.take_entry.TakeStage.{TakeStage}
use Rattle.gh_wbuf.specs.EntryTaking as take
use Rattle.gh_wbuf.specs.RoomFinding as room

module _ (l : Layout) where
  pub room_goes : (r : room.RoomFinding) (found : ℕ) → RoomWithin l r → RoomWithin l (room.goes l r found)
  room_goes r found w = grind (arith, nat_tests)

  pub take_goes : (t : take.EntryTaking) (found : ℕ) → TakeWithin l t → TakeWithin l (take.goes l t found)
  take_goes t found w = grind (arith, nat_tests)

  pub taken : (t : take.EntryTaking) (found : ℕ) → TakeWithin l t → TakenIsReference l (take.gives l t found)
  taken t found w = by (take.goes l t found).stage (take_goes t found w).stage where
    by : (p : TakeStage) → TakeStageWithin l p → TakenIsReference l (take.given_at p)
    by p o = grind arith
