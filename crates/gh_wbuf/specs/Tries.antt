-- What a try takes, and where it takes none, whatever it is told.
use Rattle.std.specs.Prelude.{◌≡◌, ◌≢◌, ℕ, suc, ◌+◌, ◌<◌, ◌≤◌, ◌⊎◌, ◌↔◌, Option, Some, None}
use Rattle.gh_wbuf.specs.Vocabulary.{Ask, Buffer, buffer_of, buffer_word, EndsWith, ENTRIES, Entry, GoesOn, Held, Layout, Load, Room, Store, Swap, told, Wish}
use Rattle.gh_base.specs.Routines.{Listing}
use Rattle.gh_wbuf.specs.Trying.{Trying, asks, opening, transitions}

-- There is a step n, and with it the routine ends, and gives this: what it has given stands for ever.
abbrev pub EndsAt : {M Out : Type 0} → Listing M Out → M → (ℕ → ℕ) → ℕ → Out → Type 0
EndsAt r m found n out = GoesOn r m found n × EndsWith r m found n out

-- a buffer of so many entries has room for two, or an entry
abbrev pub Has : Wish → (count : ℕ) → Type 0
Has Room count = count + 2 ≤ ENTRIES
Has Entry count = 0 < count

-- by its word nobody holds the buffer, and it has what is wished
pub record IsOpen (wish : Wish) (word : ℕ) : Type 0 where
  pub free : (buffer_of word).holder ≡ 0
  pub has : Has wish (buffer_of word).count

-- This buffer was taken by a swap that found this word, and wrote: its count is that of the word, and the word now says that the seat holds it.
pub record Took (seat : ℕ) (swap : Ask) (found : ℕ) (h : Held) : Type 0 where
  pub count : h.count ≡ (buffer_of found).count
  pub wrote : swap ≡ Swap (Buffer h.index) found (buffer_word (record { count = h.count; holder = seat + 1 }))

-- the step of its Swap, if it makes one: the second, or the third where a buffer is given back before
abbrev pub swap_step : Option Held → ℕ
swap_step None = 1
swap_step (Some h) = 2

module _ (l : Layout) (t : Trying) (found : ℕ → ℕ) where
  -- the word that its Load found says that it may be taken
  abbrev pub IsFree : Type 0
  IsFree = IsOpen t.wish (found 0)

  -- its Swap found what its Load found
  abbrev pub SwapWrites : Type 0
  SwapWrites = found (swap_step t.held) ≡ found 0

  pub record TriesBuffer : Type 0 where
    -- it begins with the Load of the buffer's word
    pub loads : asks t ≡ Load (Buffer t.index)
    -- where that may be taken, a held buffer is given back: its word is its count, with no holder
    pub gives_back : (h : Held) → t.held ≡ Some h → IsFree → asks (told (transitions l) t found 1) ≡ Store (Buffer h.index) (buffer_word (record { count = h.count; holder = 0 }))
    -- and the Swap of that very word for the same count, with this seat as the holder, is its last step
    pub swaps : IsFree → asks (told (transitions l) t found (swap_step t.held)) ≡ Swap (Buffer t.index) (found 0) (buffer_word (record { count = (buffer_of (found 0)).count; holder = t.seat + 1 }))
    -- it answers none exactly where somebody held the buffer or it lacked what is wished, or its Swap found another word than its Load
    pub none : ((n : ℕ) × EndsAt (transitions l) t found n None) ↔ ((¬ IsFree) ⊎ (found (swap_step t.held) ≢ found 0))
    -- it answers with a buffer exactly where neither was so, and with this one
    pub some : (h : Held) → ((n : ℕ) × EndsAt (transitions l) t found n (Some h)) ↔ (IsFree × SwapWrites × (h ≡ record { index = t.index; count = (buffer_of (found 0)).count }))
    -- it does end, and then holds what it took; where its Swap was lost, none; and what it held where it made none
    pub ends : (n : ℕ) × (out : Option Held) × EndsAt (transitions l) t found n out
    pub holds_some : (n : ℕ) (h : Held) → EndsAt (transitions l) t found n (Some h) → (told (transitions l) t found (suc n)).held ≡ Some h
    pub holds_none : (n : ℕ) → EndsAt (transitions l) t found n None → IsFree → (told (transitions l) t found (suc n)).held ≡ None
    pub holds_still : (n : ℕ) → EndsAt (transitions l) t found n None → (¬ IsFree) → (told (transitions l) t found (suc n)).held ≡ t.held

abbrev pub BuffersAreTried : Type 0
BuffersAreTried = (l : Layout) (seat : ℕ) (wish : Wish) (index : ℕ) (held : Option Held) (found : ℕ → ℕ) → TriesBuffer l (opening seat wish index held) found
