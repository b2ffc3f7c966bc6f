-- What is known of a cached span.
use Rattle.std.specs.Prelude.{ℕ, ◌+◌, ◌≤◌, Option, Some, None}
use Rattle.gh_poll.specs.Vocabulary.{CachedSpan, pages_of, slots_of}

-- the span lies in the arena, and the cursor in the span
abbrev pub SoundCached : (pages class : ℕ) → Option CachedSpan → Type 0
SoundCached pages class None = Unit {0}
SoundCached pages class (Some c) = (c.head + pages_of class ≤ pages) × (c.cursor ≤ slots_of class)
