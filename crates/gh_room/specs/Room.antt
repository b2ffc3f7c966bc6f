-- A grey work buffer with room that nobody holds: there are more buffers than seats and objects could take.
use Rattle.std.specs.Prelude.{◌≡◌, ℕ, ◌+◌, ◌*◌, ◌<◌, ◌≤◌, Option, None}
use Rattle.gh_base.specs.declared.held.Held.{Held}
use Rattle.gh_base.specs.declared.layout.Layout.{Layout}
use Rattle.gh_base.specs.declared.pack.TheConstants.{ENTRIES}
use Rattle.gh_base.specs.Cells.{buffers_of, seats_of}
use Rattle.gh_base.specs.Holding.{AreCounted, Buffers, holder_in, HoldsBuffer}
use Rattle.gh_base.specs.Packing.{buffer_of}

-- The entries below the counts of all buffers name heap words, 1 more than each, and no two the same. So they are no more than the heap has words.
pub record AreDistinct (heap_words : ℕ) (s : Buffers) : Type 0 where
  pub some : (b j : ℕ) → j < s.filled b → 0 < s.entries b j
  pub within : (b j : ℕ) → j < s.filled b → s.entries b j ≤ heap_words
  pub buffer : (b j c k : ℕ) → j < s.filled b → k < s.filled c → s.entries b j ≡ s.entries c k → b ≡ c
  pub place : (b j c k : ℕ) → j < s.filled b → k < s.filled c → s.entries b j ≡ s.entries c k → j ≡ k

-- Each of the first so many seats holds one buffer or none, and nobody else holds any.
pub record AreOfSeats (seats : ℕ) (s : Buffers) : Type 0 where
  pub each : (a : ℕ) → a < seats → (held : Option Held) × HoldsBuffer s a held
  pub others : (a : ℕ) → seats ≤ a → HoldsBuffer s a None

-- by its word nobody holds the buffer, and two entries more go into it
pub record HasRoom (word : ℕ) : Type 0 where
  pub free : holder_in word ≡ 0
  pub room : (buffer_of word).count + 2 ≤ ENTRIES

-- one of the layout's buffers is so
pub record SomeHasRoom (l : Layout) (s : Buffers) : Type 0 where
  pub buffer : ℕ
  pub there : buffer < buffers_of l
  pub has : HasRoom (s.words buffer)

abbrev pub BuffersHaveRoom : Type 0
BuffersHaveRoom = (l : Layout) (s : Buffers) → AreCounted s → AreDistinct (1024 * l.pages) s → AreOfSeats (seats_of l) s → SomeHasRoom l s
