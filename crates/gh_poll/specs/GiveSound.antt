-- What the giving back knows of its own numbers, whatever it is told.
use Rattle.std.specs.Prelude.{◌≡◌, ℕ, ◌/◌, ◌^◌, ◌<◌, List, length, slice_index_or, Option, Some, None}
use Rattle.gh_poll.specs.Vocabulary.{CachedSpan, Give, GiveBuffer, GiveSpan, GiveStage, IsHeld, Layout, Runs, SPAN_CLASSES}
use Rattle.gh_wbuf.specs.BufferGiving as buffer
use Rattle.gh_poll.specs.Cached.{SoundCached}

-- each cached span lies in the arena, and is one of its class
abbrev pub FitsCache : Layout → List (Option CachedSpan) → Type 0
FitsCache l cache = (i : ℕ) → SoundCached l.pages (i / 2) (slice_index_or cache i None)

-- the span that is given back is one of the span class of this number
pub record FitsCachedSpan (l : Layout) (class : ℕ) (s : CachedSpan) : Type 0 where
  pub among : class < SPAN_CLASSES
  pub span : SoundCached l.pages (class / 2) (Some s)

abbrev pub SoundStage : Layout → GiveStage → Type 0
SoundStage l (GiveSpan class s) = FitsCachedSpan l class s
SoundStage l (GiveBuffer b) = Runs (buffer.listing l) b
SoundStage l _ = Unit {0}

pub record SoundGiving (l : Layout) (g : Give) : Type 0 where
  pub seat : g.seat < l.procs
  pub generation : g.generation < 2 ^ 34
  pub room : length g.cache ≡ SPAN_CLASSES
  pub cache : FitsCache l g.cache
  pub held : IsHeld l g.held
  pub stage : SoundStage l g.stage
