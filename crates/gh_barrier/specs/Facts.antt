-- What is known at each stage of the writing of a pointer while marking is on. Others may store to the same cell at any moment: so it is never known that what was loaded stands there still, but that it does or that a value behind another's barrier has come in its place, which is marked.
use Rattle.std.specs.Prelude.{◌≡◌, ℕ, ◌+◌, ◌≤◌, ◌⊎◌, true, Option, Some, None}
use Rattle.gh_barrier.specs.Vocabulary.{Cell, Ended, Field, Global, HasPlace, Held, Layout, LoadOld, PointerCell, ShadeNew, ShadeOld, Store, WriteStage}
use Rattle.gh_marks.specs.Colours.{Cycle, IsClean, IsPointer, seen_word, Shared}
use Rattle.gh_marks.specs.Moves.{BehindBarrier, Move, PutField, PutGlobal, Steps, moved}
use Rattle.gh_marks.specs.Routines.{KeepsItsFacts}
use Rattle.gh_marks.specs.Seats.{Hands, InHand}
use Rattle.gh_barrier.specs.Listing.{asks, cell_at, gives, goes, listing, opening, pointer_word, Writing}
use Rattle.gh_barrier.specs.Sound.{HasTwo}
use Rattle.gh_shade.specs.Facts.{in_hand}
use Rattle.gh_shade.specs.Facts as shade_facts
use Rattle.gh_shade.specs.Listing.{is_busy, object_of}

-- heap word x is a pointer field of an object of the cycle
pub record IsPointerField (s : Shared) (x : ℕ) : Type 0 where
  pub o : ℕ
  pub k : ℕ
  pub at_is : x ≡ o + k
  pub known : s.since o ≡ true
  pub pointer : IsPointer s.extents o k

abbrev pub IsCell : Shared → PointerCell → Type 0
IsCell s (Field x) = IsPointerField s x
IsCell s (Global i) = Unit {0}

-- the move that is a store to the cell
abbrev pub put_of : PointerCell → (value : ℕ) → Move
put_of (Field x) value = PutField x value
put_of (Global i) value = PutGlobal i value

-- nil, or what names an object of the cycle
abbrev pub IsKnownPointer : Shared → (pointer : Option ℕ) → Type 0
IsKnownPointer s None = Unit {0}
IsKnownPointer s (Some reference) = (1 ≤ reference) × (s.since (s.extents.base (object_of reference)) ≡ true)

-- what marking sees of the cell
abbrev pub seen_at : Shared → Cell → ℕ
seen_at s c = seen_word s.extents.base (s.words c)

-- what was loaded stands there still, or the value that came in its place is clean
abbrev pub OldValueStands : Shared → Cell → (reference : ℕ) → Type 0
OldValueStands s c reference = (seen_at s c ≡ seen_word s.extents.base reference) ⊎ IsClean s.colour (seen_at s c)

-- a shading that it runs has not ended
abbrev pub StageFacts : Cycle → (a : ℕ) → Shared → InHand → Writing → WriteStage → Type 0
StageFacts z a s rest w LoadOld = HasTwo w.held × Hands a s (in_hand rest w.held None)
StageFacts z a s rest w (ShadeOld sh) = HasTwo sh.held × OldValueStands s (cell_at w.at) sh.reference × shade_facts.Facts z a s rest sh × (is_busy sh.stage ≡ true)
-- the old value is shaded: from here on the cell holds nothing white, whoever stores to it
StageFacts z a s rest w (ShadeNew sh) = HasPlace sh.held × IsClean s.colour (seen_at s (cell_at w.at)) × (w.pointer ≡ Some sh.reference) × shade_facts.Facts z a s rest sh × (is_busy sh.stage ≡ true)
StageFacts z a s rest w Store = IsClean s.colour (seen_at s (cell_at w.at)) × IsClean s.colour (seen_word s.extents.base (pointer_word w.pointer)) × Hands a s (in_hand rest w.held None)
StageFacts z a s rest w Ended = Hands a s (in_hand rest w.held None)

-- it writes to a pointer cell, and what it writes is nil or an object of the cycle
pub record Facts (z : Cycle) (a : ℕ) (s : Shared) (rest : InHand) (w : Writing) : Type 0 where
  pub is_cell : IsCell s w.at
  pub known : IsKnownPointer s w.pointer
  pub stage_is : StageFacts z a s rest w w.stage

module _ (z : Cycle) (a : ℕ) (s : Shared) (rest : InHand) where
  -- the facts hold where it begins
  abbrev pub Begins : Type 0
  Begins = (at : PointerCell) (pointer : Option ℕ) (held : Option Held) → IsCell s at → IsKnownPointer s pointer → HasTwo held → Hands a s (in_hand rest held None) → Facts z a s rest (opening at pointer held)

  -- where it stores, the value that it overwrites then and the one that it writes are marked, if they are not nil
  abbrev pub Stores : Type 0
  Stores = (w : Writing) → w.stage ≡ Store → Facts z a s rest w → BehindBarrier s (seen_at s (cell_at w.at)) (seen_word s.extents.base (pointer_word w.pointer))

  -- and that step is this move, and nothing besides
  abbrev pub StoresBy : Type 0
  StoresBy = (w : Writing) → w.stage ≡ Store → Facts z a s rest w → Steps z a s (asks w) (λ t. t ≡ moved z a s (put_of w.at (pointer_word w.pointer)))

  -- where it has ended, the seat has nothing more in hand by it than its buffer
  abbrev pub Ends : Type 0
  Ends = (w : Writing) (found : ℕ) → gives z.arena.layout w found ≡ Some tt → Facts z a s rest (goes z.arena.layout w found) → Hands a s (in_hand rest (goes z.arena.layout w found).held None)

pub record WritesByMoves : Type 0 where
  pub keeps : KeepsItsFacts listing Facts
  pub begins : (z : Cycle) (a : ℕ) (s : Shared) (rest : InHand) → Begins z a s rest
  pub stores : (z : Cycle) (a : ℕ) (s : Shared) (rest : InHand) → Stores z a s rest
  pub stores_by : (z : Cycle) (a : ℕ) (s : Shared) (rest : InHand) → StoresBy z a s rest
  pub ends : (z : Cycle) (a : ℕ) (s : Shared) (rest : InHand) → Ends z a s rest
  -- it writes the same pointer to the same cell all the time
  pub same_cell : (l : Layout) (w : Writing) (found : ℕ) → (goes l w found).at ≡ w.at
  pub same_pointer : (l : Layout) (w : Writing) (found : ℕ) → (goes l w found).pointer ≡ w.pointer
