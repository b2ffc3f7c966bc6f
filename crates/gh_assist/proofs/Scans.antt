-- The steps of shading and of the scan of an object are on words that there are, whatever is found.
use Rattle.std.proofs.Common.{ℕ, Option, arith}
use Rattle.gh_assist.proofs.Vocabulary.{HasRoomForEntry, Held, Layout, RoomWithin, ScanStageWithin, ScanWithin, ShadeWithin}
use Rattle.gh_scan.specs.declared.scan.ScanStage.{ScanStage}
use Rattle.gh_scan.specs.Listing as scan
use Rattle.gh_shade.specs.declared.shade.Shaded.{Shaded}
use Rattle.gh_shade.specs.Listing as shade
use Rattle.gh_wbuf.specs.RoomFinding as room
use Rattle.gh_assist.proofs.Buffers.{room_goes}

module _ (l : Layout) where
  room_gives : (r : room.RoomFinding) (found : ℕ) → RoomWithin l r → HasRoomForEntry l (room.gives l r found)
  room_gives r found w = grind arith

  shade_goes : (s : shade.Shading) (found : ℕ) → ShadeWithin l s → ShadeWithin l (shade.goes s found)
  shade_goes s found w = grind arith

  after_shade : (s : scan.Scanning) (sh : shade.Shading) (out : Option Shaded) → ScanWithin l s → ShadeWithin l sh → ScanWithin l (scan.after_shade s sh out)
  after_shade s sh out w o = grind arith

  after_room : (s : scan.Scanning) (sh : shade.Shading) (r : room.RoomFinding) (out : Option Held) → ScanWithin l s → ShadeWithin l sh → RoomWithin l r → HasRoomForEntry l out → ScanWithin l (scan.after_room s sh r out)
  after_room s sh r out w o x g = grind arith

  scan_goes_at : (s : scan.Scanning) (p : ScanStage) (found : ℕ) → ScanWithin l s → ScanStageWithin l p → ScanWithin l (scan.goes_at l s p found)
  scan_goes_at s (ScanStage.Shading sh) found w o = after_shade s (shade.goes sh found) (shade.gives sh found) w (shade_goes sh found o)
  scan_goes_at s (ScanStage.FindRoom sh r) found w o = after_room s sh (room.goes l r found) (room.gives l r found) w o.0 (room_goes l r found o.1) (room_gives r found o.1)
  scan_goes_at s p found w o = grind arith

  pub scan_goes : (s : scan.Scanning) (found : ℕ) → ScanWithin l s → ScanWithin l (scan.goes l s found)
  scan_goes s found w = grind (arith, scan_goes_at)
