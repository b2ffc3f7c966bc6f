-- The grey work buffer that a machine holds, and who holds which.
use Rattle.std.specs.Prelude.{◌≡◌, ◌≢◌, ℕ, ◌+◌, ◌-◌, ◌<◌, ◌≤◌, ◌==◌, ◌&&◌, if◌then◌else◌, ◌↔◌, Option, Some, None}
use Rattle.gh_base.specs.Vocabulary.{Ask, Buffer, Cell, Entry, Load, Mark, Or, Store, Swap}
use Rattle.gh_base.specs.declared.held.Held.{Held}
use Rattle.gh_base.specs.declared.layout.Layout.{Layout}
use Rattle.gh_base.specs.declared.pack.TheConstants.{ENTRIES}
use Rattle.gh_base.specs.Cells.{buffers_of, Words}
use Rattle.gh_base.specs.Packing.{buffer_of, buffer_word}
use Rattle.gh_base.specs.Routines.{Listing}
use Rattle.gh_base.specs.Rows.{Row, with_word}
use Rattle.gh_base.specs.Steps.{cell_of, effect}

-- there is such a buffer, and so many entries go into it
pub record FitsBuffers (l : Layout) (h : Held) : Type 0 where
  pub index : h.index < buffers_of l
  pub count : h.count ≤ ENTRIES

-- so of the one that is held, if one is
abbrev pub IsHeld : Layout → Option Held → Type 0
IsHeld l None = Unit {0}
IsHeld l (Some h) = FitsBuffers l h

-- Who holds which buffer, and how many entries each has.

-- The words of the buffers and their entries, and how many entries each has. That stands in the word of a buffer which nobody holds; of any other its holder alone knows it.
pub record Buffers : Type 0 where
  pub words : Row
  pub entries : ℕ → Row
  pub filled : Row

-- the words have these
pub record AreBuffersOf (words : Words) (s : Buffers) : Type 0 where
  pub word_is : (b : ℕ) → words (Buffer b) ≡ s.words b
  pub entry_is : (b j : ℕ) → words (Entry b j) ≡ s.entries b j

abbrev pub holder_in : (word : ℕ) → ℕ
holder_in word = (buffer_of word).holder

-- what holds of all buffers at every moment
pub record AreCounted (s : Buffers) : Type 0 where
  pub few : (b : ℕ) → s.filled b ≤ ENTRIES
  pub free : (b : ℕ) → holder_in (s.words b) ≡ 0 → s.words b ≡ s.filled b

abbrev pub IsIt : Option Held → (b : ℕ) → Type 0
IsIt None b = ⊥
IsIt (Some h) b = h.index ≡ b

abbrev pub KnowsCount : Row → Option Held → Type 0
KnowsCount filled None = Unit {0}
KnowsCount filled (Some h) = filled h.index ≡ h.count

-- what holds of a seat's machine that holds this: the words say that the seat holds this buffer and no other, and it knows its count
pub record HoldsBuffer (s : Buffers) (seat : ℕ) (held : Option Held) : Type 0 where
  pub only : (b : ℕ) → (holder_in (s.words b) ≡ seat + 1) ↔ IsIt held b
  pub count : KnowsCount s.filled held

-- what a seat does to the buffers with a step: nothing; it takes one, gives one back, takes an entry out, or puts one in
pub data Move : Type 0 where
  Stays : Move
  TakesBuffer : (b : ℕ) → Move
  GivesBuffer : (b : ℕ) → Move
  TakesEntry : (b : ℕ) → Move
  PutsEntry : (b : ℕ) → (entry : ℕ) → Move

-- when it may
abbrev pub May : (seat : ℕ) → Buffers → Move → Type 0
May seat s Stays = Unit {0}
May seat s (TakesBuffer b) = holder_in (s.words b) ≡ 0
May seat s (GivesBuffer b) = holder_in (s.words b) ≡ seat + 1
May seat s (TakesEntry b) = (holder_in (s.words b) ≡ seat + 1) × (0 < s.filled b)
May seat s (PutsEntry b entry) = (holder_in (s.words b) ≡ seat + 1) × (s.filled b < ENTRIES)

-- the entries of one buffer with one of them written
abbrev pub with_entry : (ℕ → Row) → (b j entry : ℕ) → ℕ → Row
with_entry entries b j entry x y = if (b == x) && (j == y) then entry else entries x y

abbrev pub moved : (seat : ℕ) → Buffers → Move → Buffers
moved seat s Stays = s
moved seat s (TakesBuffer b) = record s { words = with_word s.words b (buffer_word (record { count = s.filled b; holder = seat + 1 })) }
moved seat s (GivesBuffer b) = record s { words = with_word s.words b (s.filled b) }
moved seat s (TakesEntry b) = record s { filled = with_word s.filled b (s.filled b - 1) }
moved seat s (PutsEntry b entry) = record s { entries = with_entry s.entries b (s.filled b) entry; filled = with_word s.filled b (s.filled b + 1) }

-- The step of the seat is a move that it may make, and this is held then.
pub record Moves (seat : ℕ) (s : Buffers) (words : Words) (ask : Ask) (held : Option Held) : Type 0 where
  pub move : Move
  pub may : May seat s move
  pub leaves : AreBuffersOf (effect words ask) (moved seat s move)
  pub holds : HoldsBuffer (moved seat s move) seat held

-- What each kind of step is, where these are the buffers and this is held.
pub record StepsAreMoves (seat : ℕ) (s : Buffers) (words : Words) : Type 0 where
  pub loads : (c : Cell) (held : Option Held) → HoldsBuffer s seat held → Moves seat s words (Load c) held
  pub gives_back : (h : Held) → HoldsBuffer s seat (Some h) → Moves seat s words (Store (Buffer h.index) (buffer_word (record { count = h.count; holder = 0 }))) None
  pub takes_buffer : (b word : ℕ) → HoldsBuffer s seat None → holder_in word ≡ 0 → words (Buffer b) ≡ word →
      Moves seat s words (Swap (Buffer b) word (buffer_word (record { count = (buffer_of word).count; holder = seat + 1 }))) (Some (record { index = b; count = (buffer_of word).count }))
  pub swaps_nothing : (b word new : ℕ) (held : Option Held) → HoldsBuffer s seat held → words (Buffer b) ≢ word → Moves seat s words (Swap (Buffer b) word new) held
  pub takes_entry : (h : Held) → HoldsBuffer s seat (Some h) → 0 < h.count → Moves seat s words (Load (Entry h.index (h.count - 1))) (Some (record { index = h.index; count = h.count - 1 }))
  pub puts_entry : (h : Held) (entry : ℕ) → HoldsBuffer s seat (Some h) → h.count < ENTRIES → Moves seat s words (Store (Entry h.index h.count) entry) (Some (record { index = h.index; count = h.count + 1 }))
  pub marks : (i bits : ℕ) (held : Option Held) → HoldsBuffer s seat held → Moves seat s words (Or (Mark i) bits) held

-- A move that a seat may make keeps what holds of all buffers, and what any other seat holds.
pub record MovesKeep (seat : ℕ) (s : Buffers) (move : Move) : Type 0 where
  pub counted : AreCounted (moved seat s move)
  pub others : (other : ℕ) (held : Option Held) → other ≢ seat → HoldsBuffer s other held → HoldsBuffer (moved seat s move) other held

pub record BuffersAreHeld : Type 0 where
  pub steps : (seat : ℕ) (s : Buffers) (words : Words) → AreCounted s → AreBuffersOf words s → StepsAreMoves seat s words
  pub keep : (seat : ℕ) (s : Buffers) (move : Move) → AreCounted s → May seat s move → MovesKeep seat s move

-- What a seat's routine knows of the buffers: that it holds what it holds, and what its stage says beside.
module _ {M Out : Type 0} (r : Listing M Out) (held_of : M → Option Held) (Knows : (seat : ℕ) → M → Type 0) where
  pub record Facts (s : Buffers) (seat : ℕ) (m : M) : Type 0 where
    pub knows : Knows seat m
    pub holds : HoldsBuffer s seat (held_of m)

  -- its step is a move that the seat may make, and leads to what the next stage says
  pub record OwnStep (s : Buffers) (seat : ℕ) (words : Words) (m : M) : Type 0 where
    pub moves : Moves seat s words (r.asks m) (held_of (r.goes m (words (cell_of (r.asks m)))))
    pub knows : Knows seat (r.goes m (words (cell_of (r.asks m))))

  pub record KeepsItsBuffer : Type 0 where
    pub own_step : (s : Buffers) (seat : ℕ) (words : Words) (m : M) → AreCounted s → AreBuffersOf words s → Facts s seat m → OwnStep s seat words m
    -- and it lasts, whatever moves other seats make
    pub lasts : (s : Buffers) (seat other : ℕ) (move : Move) (m : M) → AreCounted s → May other s move → seat ≢ other → Facts s seat m → Facts (moved other s move) seat m
