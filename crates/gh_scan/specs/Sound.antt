-- What the scan of an object knows of its own numbers, whatever it is told.
use Rattle.std.specs.Prelude.{◌≡◌, ◌^◌, ◌<◌}
use Rattle.gh_scan.specs.Vocabulary.{FindRoom, Layout, Runs, Scan, ScanStage, seats_of, Shading}
use Rattle.gh_base.specs.Holding.{IsHeld}
use Rattle.gh_shade.specs.declared.shade.ShadeStage.TheVariants.{WaitForRoom}
use Rattle.gh_shade.specs.Listing as shade
use Rattle.gh_shade.specs.Sound.{IsReference, SoundShading}
use Rattle.gh_wbuf.specs.RoomFinding as room

-- the shading waits for the room that is looked for
pub record ShadingWaits (l : Layout) (sh : shade.Shading) (r : room.RoomFinding) : Type 0 where
  pub shade : SoundShading l sh
  pub waits : sh.stage ≡ WaitForRoom
  pub runs : Runs (room.listing l) r

abbrev pub SoundStage : Layout → ScanStage → Type 0
SoundStage l (Shading sh) = Runs (shade.listing l) sh
SoundStage l (FindRoom sh r) = ShadingWaits l sh r
SoundStage l _ = Unit {0}

pub record SoundScanning (l : Layout) (s : Scan) : Type 0 where
  pub seat : s.seat < seats_of l
  pub reference : IsReference l s.reference
  pub held : IsHeld l s.held
  pub slot : s.slot < 2 ^ 23
  pub at : s.at < 2 ^ 24
  pub stage : SoundStage l s.stage
