-- A grey work buffer with room, in every legal list of steps of all actors: there is one that nobody holds and into which two entries more go, whoever holds and fills the others. So no actor passes all buffers in a search for room while nobody else steps.
use Rattle.std.specs.Prelude.{◌≡◌, ◌≢◌, ℕ, ◌<◌, ◌≤◌, ◌⊎◌, List, ◌∷◌}
use Rattle.gh_law.specs.Vocabulary.{Ask, buffers_of, Cell, Entry, Given, IsInLimits, IsStartOf, Layout, Legal, MOST_STATEMENTS, Op, setup_for, ShapesAreGood, those, total, Words, words}
use Rattle.gh_room.specs.Room.{HasRoom}

-- Such a buffer, by its word: whoever loads that word finds room there.
pub record RoomStands (l : Layout) (words : Words) : Type 0 where
  pub buffer : ℕ
  pub there : buffer < buffers_of l
  pub has : HasRoom (words (Cell.Buffer buffer))

-- At every moment there is one, after every legal list.
abbrev pub EveryListHasRoom : Type 0
EveryListHasRoom = (given : Given) (es : List (Entry Op)) → ShapesAreGood given.shapes → IsInLimits given.layout → total given.counts given.layout.goroutines ≤ MOST_STATEMENTS →
    Legal (those (setup_for given)) es → RoomStands given.layout (words (setup_for given) es)

-- A search for room loads a buffer's word, and where it finds room there it tries to take the buffer, by a swap of that word.

-- the entry loads the buffer's word
abbrev pub LoadsBuffer : (buffer : ℕ) → Entry Op → Type 0
LoadsBuffer buffer e = e.ask ≡ Ask.Load (Cell.Buffer buffer)

-- With this entry the actor tries to take the buffer by this word, and finds another: so it takes none.
pub record LosesBuffer (buffer word : ℕ) (e : Entry Op) : Type 0 where
  pub new : ℕ
  pub tries : e.ask ≡ Ask.Swap (Cell.Buffer buffer) word new
  pub other : e.found ≢ word

-- Of the entries of a list behind this start of it.
module _ (start es : List (Entry Op)) where
  -- the entry is one of them
  pub record StandsSince (e : Entry Op) : Type 0 where
    pub before : List (Entry Op)
    pub there : IsStartOf (e ∷ before) es
    pub since : IsStartOf start before

  pub record IsEntryOf (a : ℕ) (e : Entry Op) : Type 0 where
    pub stands : StandsSince e
    pub by : e.actor ≡ a

  -- the actor has loaded the buffer's word, and found no room there
  pub record FindsNoRoom (a buffer : ℕ) : Type 0 where
    pub looks : Entry Op
    pub of : IsEntryOf a looks
    pub loads : LoadsBuffer buffer looks
    pub no_room : ¬ HasRoom looks.found

  -- or it has loaded that word, and lost the buffer as it tried to take it
  pub record FindsItGone (a buffer : ℕ) : Type 0 where
    pub looks : Entry Op
    pub of : IsEntryOf a looks
    pub loads : LoadsBuffer buffer looks
    pub tries : Entry Op
    pub of_too : IsEntryOf a tries
    pub loses : LosesBuffer buffer looks.found tries

  -- A search of the actor's has passed each buffer, and taken none: all of its entries are loads of buffers' words and swaps that lost a buffer, and it has gone on from each.
  pub record PassesAll (l : Layout) (a : ℕ) : Type 0 where
    pub takes_none : (e : Entry Op) → IsEntryOf a e → (buffer : ℕ) × (LoadsBuffer buffer e ⊎ (word : ℕ) × LosesBuffer buffer word e)
    pub each : (buffer : ℕ) → buffer < buffers_of l → FindsNoRoom a buffer ⊎ FindsItGone a buffer

  -- one of them is another actor's
  pub record AnotherSteps (a : ℕ) : Type 0 where
    pub entry : Entry Op
    pub stands : StandsSince entry
    pub other : entry.actor ≢ a

-- Whichever entries of a legal list they are: where a search has passed each buffer in them, another actor has stepped between.
abbrev pub SearchesPassBesideOthers : Type 0
SearchesPassBesideOthers = (given : Given) (start es : List (Entry Op)) (a : ℕ) → ShapesAreGood given.shapes → IsInLimits given.layout → total given.counts given.layout.goroutines ≤ MOST_STATEMENTS →
    Legal (those (setup_for given)) es → IsStartOf start es → PassesAll start es given.layout a → AnotherSteps start es a
