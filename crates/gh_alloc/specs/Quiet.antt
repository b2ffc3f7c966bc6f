-- The routines of allocation write no word of the handshake of a stop.
use Rattle.gh_alloc.specs.Vocabulary.{Layout}
use Rattle.gh_phase.specs.Handshake.{IsQuietInHandshake}
use Rattle.gh_alloc.specs.Find as find
use Rattle.gh_alloc.specs.Place as place
use Rattle.gh_alloc.specs.Search as search

-- whatever their numbers, and at each stage
pub record AllocationIsQuiet : Type 0 where
  pub finds : (l : Layout) (f : find.Finding) → IsQuietInHandshake (find.asks l f)
  pub searches : (l : Layout) (s : search.Seeking) → IsQuietInHandshake (search.asks l s)
  pub places : (l : Layout) (p : place.Placing) → IsQuietInHandshake (place.asks l p)
