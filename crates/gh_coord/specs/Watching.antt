-- A look at the words that say whether marking is over: what is asked for at each stage, where that leads, and what it gives.
use Rattle.std.specs.Prelude.{ℕ, ◌+◌, ◌-◌, ◌<◌, Bool, true, false, nat_le, nat_lt, ◌==◌, ◌||◌, not, if◌then◌else◌, Option, Some, None, is_none}
use Rattle.gh_coord.specs.Vocabulary.{All, Ask, Buffer, buffer_of, buffers_of, BufferWord, Cell, Footprint, Gcur, Layout, Listing, Load, NotYet, Scanned, Touch, Watched}
use Rattle.gh_coord.specs.declared.watch.Watch.{Watch}
use Rattle.gh_coord.specs.declared.watch.WatchStage.{WatchStage}
use Rattle.gh_coord.specs.declared.watch.WatchStage.TheVariants.{Look, Ended}

-- the number of the cycle, and the stage
abbrev pub Watching : Type 0
Watching = Watch

abbrev pub opening : (cycle : ℕ) → Watching
opening cycle = record { cycle = cycle; stage = Look 0 }

abbrev pub at_stage : Watching → WatchStage → Watching
at_stage w stage = record w { stage = stage }

-- The words that are watched, by number: the cursor of the globals, the goroutines' stacks, the grey work buffers.
module _ (l : Layout) where
  abbrev pub words_of : ℕ
  words_of = 1 + l.goroutines + buffers_of l

  abbrev pub cell_at : ℕ → Cell
  cell_at i = if i == 0 then Gcur else if nat_lt (i - 1) l.goroutines then Scanned (i - 1) else Buffer (i - 1 - l.goroutines)

  -- what follows behind the word of this number
  abbrev pub behind : ℕ → WatchStage
  behind i = if nat_lt (i + 1) words_of then Look (i + 1) else Ended All

-- a buffer that somebody holds, or that is empty
abbrev pub is_held_or_empty : BufferWord → Bool
is_held_or_empty b = not (b.holder == 0) || (b.count == 0)

-- the word is as wanted in this cycle: each global is scanned or is being scanned, the stack is scanned, and nothing is left to whoever takes the buffer
abbrev pub is_wanted : Layout → (cycle : ℕ) → Cell → (found : ℕ) → Bool
is_wanted l cycle Gcur found = nat_le l.globals found
is_wanted l cycle (Scanned g) found = nat_le cycle found
is_wanted l cycle (Buffer i) found = is_held_or_empty (buffer_of found)
is_wanted l cycle _ found = true

module _ (l : Layout) where
  abbrev pub asks_at : WatchStage → Ask
  asks_at (Look i) = Load (cell_at l i)
  asks_at (Ended watched) = Load Touch

  abbrev pub goes_at : Watching → WatchStage → ℕ → Watching
  goes_at w (Look i) found = at_stage w (if is_wanted l w.cycle (cell_at l i) found then behind l i else Ended NotYet)
  goes_at w (Ended watched) found = at_stage w (Ended watched)

-- what it has given, and whether it is busy
abbrev pub given_at : WatchStage → Option Watched
given_at (Ended watched) = Some watched
given_at _ = None

abbrev pub is_busy : WatchStage → Bool
is_busy stage = is_none (given_at stage)

abbrev pub given : Watching → Option Watched
given w = given_at w.stage

abbrev pub asks : Layout → Watching → Ask
asks l w = asks_at l w.stage

abbrev pub goes : Layout → Watching → ℕ → Watching
goes l w found = goes_at l w w.stage found

-- the word that is next is one that there is
abbrev pub SoundAt : Layout → WatchStage → Type 0
SoundAt l (Look i) = i < words_of l
SoundAt l (Ended watched) = Unit {0}

abbrev pub Sound : Layout → Watching → Type 0
Sound l w = SoundAt l w.stage

abbrev pub writes : Footprint
writes _ = false

abbrev pub listing : Layout → Listing Watching Watched
listing l = record { asks = asks l; goes = goes l; given = given; sound = Sound l; writes = writes }
