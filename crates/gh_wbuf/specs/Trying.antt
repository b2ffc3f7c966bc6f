-- A try to take one buffer: what is asked for at each stage, where that leads, and what it has given.
use Rattle.std.specs.Prelude.{◌≡◌, ℕ, ◌+◌, ◌<◌, Bool, true, false, nat_lt, nat_le, ◌==◌, ◌&&◌, if◌then◌else◌, Option, Some, None, is_none}
use Rattle.gh_wbuf.specs.Vocabulary.{Ask, Buffer, buffer_of, buffer_word, buffers_of, Claim, Entry, FitsBuffers, Held, IsHeld, Layout, Listing, Load, Look, Room, seats_of, steps_of, Store, Swap, Touch, TryStage, Wish}
use Rattle.gh_base.specs.Footprints.{Footprint}
use Rattle.gh_base.specs.Footprints as row
use Rattle.gh_base.specs.Routines as routine
use Rattle.gh_wbuf.specs.declared.try_buffer.TheConstants.{MOST_WITH_ROOM}
use Rattle.gh_wbuf.specs.declared.try_buffer.TryBuffer.{TryBuffer}
use Rattle.gh_wbuf.specs.declared.try_buffer.TryStage.TheVariants.{GiveBack, Ended}

-- a try: whose it is, what the buffer is to have, which buffer it is on, what is held, and its stage
abbrev pub Trying : Type 0
Trying = TryBuffer

abbrev pub opening : (seat : ℕ) → Wish → (index : ℕ) → Option Held → Trying
opening seat wish index held = record { seat = seat; wish = wish; index = index; held = held; stage = Look }

abbrev pub at_stage : Trying → TryStage → Trying
at_stage t stage = record t { stage = stage }

-- a buffer of so many entries has what is wished
abbrev pub serves : Wish → (count : ℕ) → Bool
serves Room count = nat_le count MOST_WITH_ROOM
serves Entry count = nat_lt 0 count

-- by its word nobody holds it, and it has what is wished
abbrev pub is_open : Wish → (word : ℕ) → Bool
is_open wish word = ((buffer_of word).holder == 0) && serves wish (buffer_of word).count

-- the word of a buffer of so many entries that nobody holds
abbrev pub free_word : (count : ℕ) → ℕ
free_word count = buffer_word (record { count = count; holder = 0 })

-- what is held once the buffer with this word is taken
abbrev pub taken : (index word : ℕ) → Held
taken index word = record { index = index; count = (buffer_of word).count }

-- the same word with this seat as its holder
abbrev pub taken_word : (seat word : ℕ) → ℕ
taken_word seat word = buffer_word (record { count = (buffer_of word).count; holder = seat + 1 })

-- a buffer that is held is given back
abbrev pub gives_back : Held → Ask
gives_back h = Store (Buffer h.index) (free_word h.count)

module _ (t : Trying) where
  abbrev pub back_at : Option Held → Ask
  back_at None = Load Touch
  back_at (Some h) = gives_back h

  abbrev pub asks_at : TryStage → Ask
  asks_at Look = Load (Buffer t.index)
  asks_at (GiveBack word) = back_at t.held
  asks_at (Claim word) = Swap (Buffer t.index) word (taken_word t.seat word)
  asks_at (Ended out) = Load Touch

  -- with an open buffer: one that is held is given back first
  abbrev pub claims : Option Held → (word : ℕ) → TryStage
  claims None word = Claim word
  claims (Some h) word = GiveBack word

  -- after its swap, which wrote or did not
  abbrev pub claimed : (word : ℕ) → (wrote : Bool) → Trying
  claimed word wrote = if wrote then record t { held = Some (taken t.index word); stage = Ended (Some (taken t.index word)) } else at_stage t (Ended None)

  abbrev pub goes_at : TryStage → ℕ → Trying
  goes_at Look found = at_stage t (if is_open t.wish found then claims t.held found else Ended None)
  goes_at (GiveBack word) found = record t { held = None; stage = Claim word }
  goes_at (Claim word) found = claimed word (found == word)
  goes_at (Ended out) found = at_stage t (Ended out)

-- where it has ended, the buffer that it has taken, or none: then it may still hold another
abbrev pub given_at : TryStage → Option (Option Held)
given_at (Ended out) = Some out
given_at _ = None

abbrev pub is_busy : TryStage → Bool
is_busy stage = is_none (given_at stage)

abbrev pub asks : Trying → Ask
asks t = asks_at t t.stage

abbrev pub goes : Trying → ℕ → Trying
goes t found = goes_at t t.stage found

abbrev pub given : Trying → Option (Option Held)
given t = given_at t.stage

abbrev pub gives : Trying → ℕ → Option (Option Held)
gives t found = given (goes t found)

-- What it knows of its own numbers, whatever it is told.

-- the buffer that it is to take had what is wished
abbrev pub SoundTryStage : Wish → TryStage → Type 0
SoundTryStage wish (GiveBack word) = is_open wish word ≡ true
SoundTryStage wish (Claim word) = is_open wish word ≡ true
SoundTryStage wish _ = Unit {0}

pub record SoundTrying (l : Layout) (t : Trying) : Type 0 where
  pub seat : t.seat < seats_of l
  pub index : t.index < buffers_of l
  pub held : IsHeld l t.held
  pub stage : SoundTryStage t.wish t.stage

-- a buffer of the layout that has what is wished
pub record Serves (l : Layout) (wish : Wish) (h : Held) : Type 0 where
  pub fits : FitsBuffers l h
  pub serves : serves wish h.count ≡ true

-- a try has taken such a buffer, if it has taken one
abbrev pub GivesServing : Layout → Wish → Option (Option Held) → Type 0
GivesServing l wish (Some (Some h)) = Serves l wish h
GivesServing l wish _ = Unit {0}

-- it writes words of buffers
abbrev pub writes : Footprint
writes row.Buffer = true
writes _ = false

abbrev pub listing : Layout → Listing Trying (Option Held)
listing l = record { asks = asks; goes = goes; given = given; sound = SoundTrying l; writes = writes }

-- over told words
abbrev pub transitions : Layout → routine.Listing Trying (Option Held)
transitions l = steps_of l (listing l)
