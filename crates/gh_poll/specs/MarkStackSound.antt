-- What the scan of a stack with the shading knows of its own numbers and routines, whatever it is told.
use Rattle.std.specs.Prelude.{◌≡◌, ◌<◌, true}
use Rattle.gh_poll.specs.Vocabulary.{FindRoom, IsHeld, Layout, MarkStack, MarkStackStage, Runs, Shading}
use Rattle.gh_base.specs.Cells.{seats_of}
use Rattle.gh_shade.specs.declared.shade.ShadeStage.TheVariants.{WaitForRoom}
use Rattle.gh_shade.specs.Listing as shade
use Rattle.gh_shade.specs.Sound.{SoundShading}
use Rattle.gh_stack.specs.Listing as stack
use Rattle.gh_stack.specs.Sound.{SoundStackScan}
use Rattle.gh_wbuf.specs.RoomFinding as room
use Rattle.gh_poll.specs.declared.mark_stack.MarkStackStage.TheVariants.{Store}

-- the scan waits until what it wishes for is shaded
pub record StackScanShades (l : Layout) (scan : stack.StackScan) (sh : shade.Shading) : Type 0 where
  pub runs : Runs (shade.listing l) sh
  pub scan_waits : stack.is_waiting scan.stage ≡ true

-- and the shading for the room that is looked for
pub record StackShadingWaits (l : Layout) (scan : stack.StackScan) (sh : shade.Shading) (r : room.RoomFinding) : Type 0 where
  pub shade : SoundShading l sh
  pub waits : sh.stage ≡ WaitForRoom
  pub runs : Runs (room.listing l) r
  pub scan_waits : stack.is_waiting scan.stage ≡ true

abbrev pub SoundStage : Layout → stack.StackScan → MarkStackStage → Type 0
SoundStage l scan (Shading sh) = StackScanShades l scan sh
SoundStage l scan (FindRoom sh r) = StackShadingWaits l scan sh r
SoundStage l scan Store = stack.is_busy scan.stage ≡ true
SoundStage l scan _ = Unit {0}

pub record SoundStackMarking (l : Layout) (m : MarkStack) : Type 0 where
  pub seat : m.seat < seats_of l
  pub held : IsHeld l m.held
  pub scan : SoundStackScan l m.scan
  pub stage : SoundStage l m.scan m.stage
