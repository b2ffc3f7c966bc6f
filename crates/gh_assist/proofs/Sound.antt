-- An assist stays sound, and its steps lie in the heap: by its stages. Of its routines it is known that they are routines.
use Rattle.std.proofs.Common.{ℕ, ◌^◌, ◌<◌, arith}
use Rattle.gh_assist.proofs.Vocabulary.{Assisting, AssistStage, Layout, SoundAssisting, SoundStage, TakenIsReference}
use Rattle.gh_base.specs.Machines.{IsRoutine}
use Rattle.gh_credit.specs.Drawing as draw
use Rattle.gh_scan.specs.Listing as scan
use Rattle.gh_wbuf.specs.EntryTaking as take
use Rattle.gh_assist.specs.Listing as assist

module _ (l : Layout) (draws : IsRoutine l (draw.listing l)) (takes : IsRoutine l (take.listing l)) (scans : IsRoutine l (scan.listing l)) where
  keeps_at : (x : Assisting) (p : AssistStage) (found : ℕ) → found < 2 ^ 64 → SoundAssisting l x → SoundStage l p → SoundAssisting l (assist.goes_at l x p found)
  keeps_at x (AssistStage.Taking t) found few sound s = let taken = takes.keeps t found few s.sound s.busy in let reference : TakenIsReference l (take.gives l t found) = grind arith in grind arith
  keeps_at x (AssistStage.Scanning m) found few sound s = let scanned = scans.keeps m found few s.sound s.busy in grind arith
  keeps_at x p found few sound s = grind arith

  pub is_routine : IsRoutine l (assist.listing l)
  is_routine = grind (arith, keeps_at)
