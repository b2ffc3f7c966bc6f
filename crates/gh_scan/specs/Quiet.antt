-- The routines of marking write no word of the handshake.
use Rattle.gh_scan.specs.Vocabulary.{Layout}
use Rattle.gh_phase.specs.Handshake.{IsQuietInHandshake}
use Rattle.gh_scan.specs.Listing as scan
use Rattle.gh_shade.specs.Listing as shade
use Rattle.gh_wbuf.specs.BufferGiving as give
use Rattle.gh_wbuf.specs.EntryTaking as take
use Rattle.gh_wbuf.specs.RoomFinding as room

-- whatever their numbers, and at each stage
pub record MarkingIsQuiet : Type 0 where
  pub gives : (g : give.BufferGiving) → IsQuietInHandshake (give.asks g)
  pub takes : (t : take.EntryTaking) → IsQuietInHandshake (take.asks t)
  pub finds_room : (r : room.RoomFinding) → IsQuietInHandshake (room.asks r)
  pub shades : (s : shade.Shading) → IsQuietInHandshake (shade.asks s)
  pub scans : (l : Layout) (s : scan.Scanning) → IsQuietInHandshake (scan.asks l s)
