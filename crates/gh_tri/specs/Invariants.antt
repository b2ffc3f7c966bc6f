-- The tricolour invariant in its five parts, what keeps it, and what it gives once marking is done.
use Rattle.std.specs.Prelude.{◌≡◌, ◌≢◌, ℕ, ◌<◌, ◌≤◌, true, false, ◌⊎◌, List, [], ◌∷◌, Option, Some, None}
use Rattle.gh_tri.specs.declared.Colour.TheVariants.{White, Grey, Black}
use Rattle.gh_tri.specs.declared.Move.{Move}
use Rattle.gh_tri.specs.Tricolour.{Tricolour, moved, May, IsMarked, NilOrMarked, NilOrMade, IsBlackStack}

-- field f of object o holds object w
pub record Edge (p : Tricolour) (o f w : ℕ) : Type 0 where
  pub within : f < p.fields
  pub holds : p.value o f ≡ Some w

-- w is white, and a path of fields leads to it from a grey object or from a field of object 0 that is not scanned, all
-- objects on the path after its start being white.
pub data Protected (p : Tricolour) : ℕ → Type 0 where
  from_grey : (o f w : ℕ) → p.colour o ≡ Grey → Edge p o f w → p.colour w ≡ White → Protected p w
  from_global : (f w : ℕ) → p.scanned 0 f ≡ false → Edge p 0 f w → p.colour w ≡ White → Protected p w
  from_white : (o f w : ℕ) → Protected p o → Edge p o f w → p.colour w ≡ White → Protected p w

-- A scanned field holds nil or a marked object: a field of a marked object, a global, and a field of a white object too.
abbrev pub ScannedFields : Tricolour → Type 0
ScannedFields p = (o f : ℕ) → p.scanned o f ≡ true → NilOrMarked p (p.value o f)

-- some register of the stack is not scanned: with another that is, the stack is in mid-scan
abbrev pub HasScanLeft : Tricolour → ℕ → Type 0
HasScanLeft p s = (r : ℕ) × (r < 16) × (p.seen s r ≡ false)

pub record BlackStacks (p : Tricolour) : Type 0 where
  -- what a black stack holds is marked or protected
  pub black : (s r o : ℕ) → IsBlackStack p s → r < 16 → p.register s r ≡ Some o → IsMarked p o ⊎ Protected p o
  -- what a scanned register of a stack in mid-scan holds is nil or marked
  pub middle : (s r : ℕ) → HasScanLeft p s → p.seen s r ≡ true → NilOrMarked p (p.register s r)

pub record BarrierOrder (p : Tricolour) : Type 0 where
  -- from the read before a store on, until the store, the field holds what was read, nil or a marked object
  pub holds : (s o f : ℕ) (v : Option ℕ) → p.read s o f ≡ Some v → (p.value o f ≡ v) ⊎ NilOrMarked p (p.value o f)
  -- so once what was read is shaded, it holds nil or a marked object
  pub shaded : (s o f : ℕ) (v : Option ℕ) → p.read s o f ≡ Some v → NilOrMarked p v → NilOrMarked p (p.value o f)

-- Each object has one colour, since `colour` is a function. That a grey object stands in one work buffer is no matter of the
-- picture, which has none.
pub record MarkedObjects (p : Tricolour) : Type 0 where
  -- object 0 is marked from the start on
  pub globals : IsMarked p 0
  -- a black object has all its fields scanned
  pub black : (o f : ℕ) → p.colour o ≡ Black → f < p.fields → p.scanned o f ≡ true

-- What is not made counts as white and holds nothing, and is named in no field, no register and no read.
pub record UnmadeObjects (p : Tricolour) : Type 0 where
  pub white : (o : ℕ) → p.objects ≤ o → p.colour o ≡ White
  pub empty : (o f : ℕ) → p.objects ≤ o → p.value o f ≡ None
  pub fields : (o f : ℕ) → NilOrMade p (p.value o f)
  pub registers : (s r : ℕ) → NilOrMade p (p.register s r)
  pub reads : (s o f : ℕ) (v : Option ℕ) → p.read s o f ≡ Some v → NilOrMade p v

pub record Invariants (p : Tricolour) : Type 0 where
  pub scanned_fields : ScannedFields p
  pub black_stacks : BlackStacks p
  pub barrier_order : BarrierOrder p
  pub marked_objects : MarkedObjects p
  pub unmade_objects : UnmadeObjects p

-- As at a cycle's begin: object 0 is grey, all others are white, all stacks are grey, no store is under way, and what is
-- not made is nowhere named.
pub record IsOpeningPicture (p : Tricolour) : Type 0 where
  pub some : 0 < p.objects
  pub grey : p.colour 0 ≡ Grey
  pub white : (o : ℕ) → 0 < o → p.colour o ≡ White
  pub scanned : (o f : ℕ) → p.scanned o f ≡ true → p.value o f ≡ None
  pub seen : (s r : ℕ) → p.seen s r ≡ false
  pub read : (s o f : ℕ) → p.read s o f ≡ None
  pub empty : (o f : ℕ) → p.objects ≤ o → p.value o f ≡ None
  pub fields : (o f : ℕ) → NilOrMade p (p.value o f)
  pub registers : (s r : ℕ) → NilOrMade p (p.register s r)

-- the picture after these moves, the first one first
abbrev pub after : Tricolour → List Move → Tricolour
after p [] = p
after p (m ∷ moves) = after (moved p m) moves

-- each of these moves may be made when its turn comes
abbrev pub EachMay : Tricolour → List Move → Type 0
EachMay p [] = Unit {0}
EachMay p (m ∷ moves) = May p m × EachMay (moved p m) moves

-- No object is grey, each field of object 0 is scanned, and each stack is black.
pub record IsMarkingDone (p : Tricolour) : Type 0 where
  pub greys : (o : ℕ) → o < p.objects → p.colour o ≢ Grey
  pub globals : (f : ℕ) → f < p.fields → p.scanned 0 f ≡ true
  pub stacks : (s : ℕ) → s < p.stacks → IsBlackStack p s

-- A path of fields leads to the object from object 0 or from a register.
pub data IsReachedInPicture (p : Tricolour) : ℕ → Type 0 where
  globals : IsReachedInPicture p 0
  held : (s r o : ℕ) → s < p.stacks → r < 16 → p.register s r ≡ Some o → IsReachedInPicture p o
  field : (o f w : ℕ) → IsReachedInPicture p o → Edge p o f w → IsReachedInPicture p w

-- Each move keeps the invariants, whichever picture has them.
abbrev pub KeepsTheInvariants : Type 0
KeepsTheInvariants = (p : Tricolour) (m : Move) → Invariants p → May p m → Invariants (moved p m)

-- An opening picture has the invariants.
abbrev pub Opens : Type 0
Opens = (p : Tricolour) → IsOpeningPicture p → Invariants p

-- Where the invariants hold and marking is done, no white object is reached.
abbrev pub MarkedWhatIsReached : Type 0
MarkedWhatIsReached = (p : Tricolour) → Invariants p → IsMarkingDone p → (o : ℕ) → p.colour o ≡ White → ¬ IsReachedInPicture p o

-- Whatever the moves: while each may be made when its turn comes, the invariants hold.
abbrev pub EveryMoveKeepsTheInvariants : Type 0
EveryMoveKeepsTheInvariants = (p : Tricolour) (moves : List Move) → IsOpeningPicture p → EachMay p moves → Invariants (after p moves)

-- And once marking is done, no white object is reached.
abbrev pub NoWhiteObjectIsReached : Type 0
NoWhiteObjectIsReached =
    (p : Tricolour) (moves : List Move) → IsOpeningPicture p → EachMay p moves → IsMarkingDone (after p moves)
    → (o : ℕ) → (after p moves).colour o ≡ White → ¬ IsReachedInPicture (after p moves) o
