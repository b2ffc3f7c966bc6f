-- What is known at each stage of shading while marking is on, and what each step of its own is then. Between its mark and its entry the object is pending in the hands of the seat. Whoever shades finds what it knows left.
use Rattle.std.specs.Prelude.{◌≡◌, ℕ, ◌<◌, ◌≤◌, true, Option, Some, None}
use Rattle.gh_shade.specs.Vocabulary.{Done, Ended, Enter, ENTRIES, Held, LoadPage, SetMark, ShadeStage, WaitForRoom, WantsRoom}
use Rattle.gh_base.specs.Rows.{mark_words}
use Rattle.gh_marks.specs.Colours.{Cycle, HasMark, IsMarked, Shared}
use Rattle.gh_marks.specs.Moves.{Keeps}
use Rattle.gh_marks.specs.Routines.{KeepsItsFacts}
use Rattle.gh_marks.specs.Seats.{Hands, InHand}
use Rattle.gh_shade.specs.Listing.{gives, goes, listing, object_of, opening, Shading, told_room}
use Rattle.gh_shade.specs.Sound.{HasPlace}

-- the object once it is marked, until it is entered
abbrev pub pending_at : (o : ℕ) → ShadeStage → Option ℕ
pending_at o LoadPage = None
pending_at o (SetMark noscan) = None
pending_at o WaitForRoom = Some o
pending_at o Enter = Some o
pending_at o Ended = None

-- its mark bit is set, and so it is not white; and it is an object of the cycle that begins there
pub record HasBoth (s : Shared) (o : ℕ) : Type 0 where
  pub bit : HasMark (mark_words s.words) o
  pub colour : IsMarked s.colour o
  pub known : s.since o ≡ true
  pub base : s.extents.base o ≡ o

-- Until its page word is found the heap word is known to lie in an object of the cycle, and then to begin it. Until it is marked the object is known as one of the cycle, and then as marked, whoever marked it.
abbrev pub StageFacts : Shared → (o : ℕ) → Option Held → ShadeStage → Type 0
StageFacts s o held LoadPage = s.since (s.extents.base o) ≡ true
StageFacts s o held (SetMark noscan) = (s.since o ≡ true) × (s.extents.noscan o ≡ noscan) × (s.extents.base o ≡ o)
StageFacts s o held WaitForRoom = HasBoth s o
StageFacts s o held Enter = HasBoth s o × HasPlace held
StageFacts s o held Ended = HasBoth s o

-- what the seat has in hand
abbrev pub in_hand : InHand → Option Held → (pending : Option ℕ) → InHand
in_hand rest held pending = record rest { held = held; pending = pending }

pub record Facts (z : Cycle) (a : ℕ) (s : Shared) (rest : InHand) (m : Shading) : Type 0 where
  pub some : 1 ≤ m.reference
  pub stage_is : StageFacts s (object_of m.reference) m.held m.stage
  pub hands : Hands a s (in_hand rest m.held (pending_at (object_of m.reference) m.stage))

-- shaded: the object is marked, and in nobody's hands by this
pub record ObjectIsShaded (a : ℕ) (s : Shared) (rest : InHand) (m : Shading) : Type 0 where
  pub marked : HasBoth s (object_of m.reference)
  pub hands : Hands a s (in_hand rest m.held None)

-- it wants room: the object is marked, and pending
pub record WaitsForRoom (a : ℕ) (s : Shared) (rest : InHand) (m : Shading) : Type 0 where
  pub some : 1 ≤ m.reference
  pub marked : HasBoth s (object_of m.reference)
  pub hands : Hands a s (in_hand rest m.held (Some (object_of m.reference)))

module _ (z : Cycle) (a : ℕ) (s : Shared) (rest : InHand) where
  -- the facts hold where it begins, with what names an object of the cycle
  abbrev pub Begins : Type 0
  Begins = (reference : ℕ) (held : Option Held) → 1 ≤ reference → s.since (s.extents.base (object_of reference)) ≡ true → Hands a s (in_hand rest held None) → Facts z a s rest (opening reference held)

  -- and where it is told a buffer with a place
  abbrev pub IsTold : Type 0
  IsTold = (m : Shading) (h : Held) → 1 ≤ m.reference → HasBoth s (object_of m.reference) → h.count < ENTRIES → Hands a s (in_hand rest (Some h) (Some (object_of m.reference))) → Facts z a s rest (told_room m h)

  -- what they come to where it ends with a step
  abbrev pub Ends : Type 0
  Ends = (m : Shading) (found : ℕ) → gives m found ≡ Some Done → Facts z a s rest (goes m found) → ObjectIsShaded a s rest (goes m found)

  abbrev pub Wants : Type 0
  Wants = (m : Shading) (found : ℕ) → gives m found ≡ Some WantsRoom → Facts z a s rest (goes m found) → WaitsForRoom a s rest (goes m found)

pub record ShadesByMoves : Type 0 where
  pub keeps : KeepsItsFacts listing Facts
  pub begins : (z : Cycle) (a : ℕ) (s : Shared) (rest : InHand) → Begins z a s rest
  pub told : (z : Cycle) (a : ℕ) (s : Shared) (rest : InHand) → IsTold z a s rest
  pub ends : (z : Cycle) (a : ℕ) (s : Shared) (rest : InHand) → Ends z a s rest
  pub wants : (z : Cycle) (a : ℕ) (s : Shared) (rest : InHand) → Wants z a s rest
  -- what is shaded stays so
  pub shaded : (z : Cycle) (a : ℕ) (s t : Shared) (o : ℕ) → Keeps z a s t → HasBoth s o → HasBoth t o
  -- at each stage its reference names an object of the cycle
  pub known : (z : Cycle) (a : ℕ) (s : Shared) (rest : InHand) (m : Shading) → Facts z a s rest m → s.since (s.extents.base (object_of m.reference)) ≡ true
  -- it shades the same object all the time, and what it gives says at which stage it is then
  pub same : (m : Shading) (found : ℕ) → (goes m found).reference ≡ m.reference
  pub ended : (m : Shading) (found : ℕ) → gives m found ≡ Some Done → (goes m found).stage ≡ Ended
  pub waiting : (m : Shading) (found : ℕ) → gives m found ≡ Some WantsRoom → (goes m found).stage ≡ WaitForRoom
