-- Making an object in its slot: what is asked for at each stage, where that leads, what it has given, and what it writes.
use Rattle.std.specs.Prelude.{ℕ, ◌+◌, ◌*◌, ◌/◌, ◌%◌, ◌^◌, Bool, true, false, nat_le, nat_lt, not, if◌then◌else◌, Option, Some, None, is_none}
use Rattle.gh_alloc.specs.Vocabulary.{Add, Alloc, Ask, Birth, birth_word, Bits, Cell, Clear, Count, Footprint, Layout, Listing, Load, LoadTrigger, Mark, Name, Or, PlaceStage, Shape, SpanHead, Store}
use Rattle.gh_base.specs.Footprints as row
use Rattle.gh_bitmap.specs.SetPointers as bits
use Rattle.gh_central.specs.GiveBack as give
use Rattle.gh_alloc.specs.declared.place.PlaceStage.TheVariants.{Give, Ended}
use Rattle.gh_alloc.specs.PlaceSound.{Sound}
pub use Rattle.gh_alloc.specs.PlaceSound.{Placing}

abbrev pub at_stage : Placing → PlaceStage → Placing
at_stage p stage = record p { stage = stage }

abbrev pub opening : Shape → (at slot : ℕ) → Name → Option SpanHead → (marking : Bool) → Placing
opening shape at slot name span marking = record { shape = shape; at = at; slot = slot; name = name; span = span; marking = marking; stage = Clear 0 }

-- the object is marked before it is made, where marking is on
abbrev pub filled : (marking : Bool) → PlaceStage
filled marking = if marking then Mark else Alloc

module _ (l : Layout) (p : Placing) where
  abbrev pub asks_at : PlaceStage → Ask
  asks_at (Clear k) = Store (Cell.Field (p.at + k)) 0
  asks_at Birth = Store (Cell.Birth p.at) (birth_word p.name)
  asks_at (Bits s) = bits.asks l s
  asks_at Mark = Or (Cell.Mark (p.at / 64)) (2 ^ (p.at % 64))
  asks_at Alloc = Or (Cell.Alloc (p.at / 64)) (2 ^ (p.at % 64))
  asks_at (Give g) = give.asks g
  asks_at Count = Add Cell.Heap (8 * p.slot)
  asks_at (LoadTrigger bytes) = Load Cell.Trigger
  asks_at (Ended wants) = Load Cell.Touch

module _ (p : Placing) where
  -- once the object is made, a large one's span is given back
  abbrev pub made : Option SpanHead → PlaceStage
  made None = Count
  made (Some head) = Give (give.opening (p.at / 1024) head)

  -- once the slot's bytes are counted, and the heap had this many before: while marking is off the trigger is looked at
  abbrev pub counted : (found : ℕ) → PlaceStage
  counted found = if p.marking then Ended false else LoadTrigger ((found + 8 * p.slot) % 2 ^ 64)

  abbrev pub goes_at : PlaceStage → ℕ → PlaceStage
  goes_at (Clear k) found = if nat_lt (k + 1) p.slot then Clear (k + 1) else Birth
  goes_at Birth found = Bits (bits.opening p.shape p.at p.slot)
  goes_at (Bits s) found = if is_none (bits.given (bits.goes s found)) then Bits (bits.goes s found) else filled p.marking
  goes_at Mark found = Alloc
  goes_at Alloc found = made p.span
  goes_at (Give g) found = Count
  goes_at Count found = counted found
  goes_at (LoadTrigger bytes) found = Ended (nat_le found bytes)
  goes_at (Ended wants) found = Ended false

-- whether a cycle is to be asked for, once it has ended
abbrev pub given_at : PlaceStage → Option Bool
given_at (Ended wants) = Some wants
given_at _ = None

abbrev pub is_busy : PlaceStage → Bool
is_busy p = is_none (given_at p)

-- the object is made by the step at this stage
abbrev pub makes_its_object_at : PlaceStage → Bool
makes_its_object_at Alloc = true
makes_its_object_at _ = false

-- the step that it asks for, what it is after the step found this, what it has given, and what it has given after that step
abbrev pub asks : Layout → Placing → Ask
asks l p = asks_at l p p.stage

abbrev pub goes : Placing → ℕ → Placing
goes p found = at_stage p (goes_at p p.stage found)

abbrev pub given : Placing → Option Bool
given p = given_at p.stage

abbrev pub gives : Placing → ℕ → Option Bool
gives p found = given (goes p found)

abbrev pub writes : Footprint
writes row.Field = true
writes row.Birth = true
writes row.Bitmap = true
writes row.Mark = true
writes row.Alloc = true
writes row.Page = true
writes row.Heap = true
writes _ = false

abbrev pub listing : Layout → Listing Placing Bool
listing l = record { asks = asks l; goes = goes; given = given; sound = Sound l; writes = writes }

-- its next step makes the object
abbrev pub makes_its_object : Placing → Bool
makes_its_object p = makes_its_object_at p.stage

-- its next step neither gives a span back, nor is its last
abbrev pub goes_further_at : (marking : Bool) → PlaceStage → Bool
goes_further_at marking (Give g) = false
goes_further_at marking Count = not marking
goes_further_at marking (LoadTrigger bytes) = false
goes_further_at marking (Ended wants) = false
goes_further_at marking _ = true

abbrev pub goes_further : Placing → Bool
goes_further p = goes_further_at p.marking p.stage
