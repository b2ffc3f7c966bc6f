-- The steps of an assist are on words that there are, and so are those of the routines of marking that it runs.
use Rattle.std.proofs.Common.{ℕ, Option, Some, None, arith}
use Rattle.std.proofs.lemmas.Nat.{mod_below}
use Rattle.gh_assist.proofs.Vocabulary.{Assisting, AssistsAreWithin, AssistStage, AssistWithin, Layout, ScanWithin, StageWithin, TakenIsReference, TakeWithin, TakingAndScanningAreWithin}
use Rattle.gh_base.specs.Holding.{IsHeld}
use Rattle.gh_scan.specs.Listing as scan
use Rattle.gh_wbuf.specs.EntryTaking as take
use Rattle.gh_assist.specs.Listing as assist
use Rattle.gh_assist.proofs.Buffers.{room_goes, take_goes, taken}
use Rattle.gh_assist.proofs.Scans.{scan_goes}

pub routines_are_within : TakingAndScanningAreWithin
routines_are_within = grind (arith, mod_below, room_goes, scan_goes, take_goes, taken)

pays : (l : Layout) (x : Assisting) → IsHeld l x.held → AssistWithin l (assist.pays x)
pays l x h = grind arith

scan_holds : (l : Layout) (m : scan.Scanning) → ScanWithin l m → IsHeld l (scan.held_at m.held m.stage)
scan_holds l m s = grind arith

module _ (l : Layout) (x : Assisting) (h : IsHeld l x.held) where
  after_take : (t : take.EntryTaking) (out : Option (Option ℕ)) → TakeWithin l t → TakenIsReference l out → AssistWithin l (assist.after_take x t out)
  after_take t out s r = grind arith

  after_scan : (m : scan.Scanning) (out : Option ℕ) → ScanWithin l m → AssistWithin l (assist.after_scan x m out)
  after_scan m None s = grind arith
  after_scan m (Some words) s = pays l (assist.scanned_for x (scan.held_at m.held m.stage) words) (scan_holds l m s)

  goes_at : (p : AssistStage) (found : ℕ) → StageWithin l p → AssistWithin l (assist.goes_at l x p found)
  goes_at (AssistStage.Taking t) found s = after_take (take.goes l t found) (take.gives l t found) (take_goes l t found s) (taken l t found s)
  goes_at (AssistStage.Scanning m) found s = after_scan (scan.goes l m found) (scan.gives l m found) (scan_goes l m found s)
  goes_at p found s = grind arith

pub assists_are_within : AssistsAreWithin
assists_are_within = grind (arith, goes_at)
