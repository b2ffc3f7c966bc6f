-- The scan of a stack with the shading: what is asked for at each stage, where that leads, and what it has given there.
use Rattle.std.specs.Prelude.{ℕ, Bool, true, false, List, Option, Some, None, is_none}
use Rattle.gh_poll.specs.Vocabulary.{Ask, Cell, FindRoom, Footprint, Held, Layout, Listing, Load, MarkStack, MarkStackStage, Shaded, Shading, StackStage, Value}
use Rattle.gh_base.specs.Footprints as row
use Rattle.gh_scan.specs.Listing.{reference_in}
use Rattle.gh_shade.specs.Listing as shade
use Rattle.gh_stack.specs.Listing as stack
use Rattle.gh_wbuf.specs.RoomFinding as room
use Rattle.gh_poll.specs.declared.mark_stack.MarkStackStage.TheVariants.{Store, Ended}
use Rattle.gh_poll.specs.MarkStackSound.{SoundStackMarking}

-- the scan of a stack, with what is held between two shadings
abbrev pub StackMarking : Type 0
StackMarking = MarkStack

abbrev pub at_stage : StackMarking → MarkStackStage → StackMarking
at_stage m stage = record m { stage = stage }

-- the scan has a wish, or its step is next
abbrev pub goes_on : StackStage → Bool
goes_on StackStage.Ended = false
goes_on _ = true

-- by what the scan wishes to be shaded
abbrev pub by_wish : Layout → Option Held → Option ℕ → MarkStackStage
by_wish l held None = Store
by_wish l held (Some reference) = Shading (shade.opening (reference_in l reference) held)

abbrev pub stage_of : Layout → Option Held → stack.StackScan → MarkStackStage
stage_of l held scan = by_wish l held (stack.wish_of scan.stage)

abbrev pub opening : Layout → (seat goroutine cycle : ℕ) → List Value → Option Held → StackMarking
opening l seat goroutine cycle registers held =
    record { seat = seat; held = held; scan = stack.opening goroutine cycle registers; stage = stage_of l held (stack.opening goroutine cycle registers) }

-- a reference is shaded
abbrev pub with_shaded : Layout → StackMarking → Option Held → StackMarking
with_shaded l m held = record m { held = held; scan = stack.told_shaded m.scan; stage = stage_of l held (stack.told_shaded m.scan) }

abbrev pub after_shade : Layout → StackMarking → shade.Shading → Option Shaded → StackMarking
after_shade l m sh None = at_stage m (Shading sh)
after_shade l m sh (Some Shaded.Done) = with_shaded l m sh.held
after_shade l m sh (Some Shaded.WantsRoom) = at_stage m (FindRoom sh (room.opening m.seat sh.held))

abbrev pub after_room : StackMarking → shade.Shading → room.RoomFinding → Option Held → StackMarking
after_room m sh r None = at_stage m (FindRoom sh r)
after_room m sh r (Some h) = at_stage m (Shading (shade.told_room sh h))

module _ (m : StackMarking) where
  abbrev pub asks_at : MarkStackStage → Ask
  asks_at (Shading sh) = shade.asks sh
  asks_at (FindRoom sh r) = room.asks r
  asks_at Store = stack.asks m.scan
  asks_at Ended = Load Cell.Touch

abbrev pub goes_at : Layout → StackMarking → MarkStackStage → ℕ → StackMarking
goes_at l m (Shading sh) found = after_shade l m (shade.goes sh found) (shade.gives sh found)
goes_at l m (FindRoom sh r) found = after_room m sh (room.goes l r found) (room.gives l r found)
goes_at l m Store found = at_stage m Ended
goes_at l m Ended found = at_stage m Ended

-- what it has given at this stage; it is busy where that is nothing
abbrev pub given : MarkStackStage → Option (Unit {0})
given Ended = Some tt
given _ = None

abbrev pub is_busy : MarkStackStage → Bool
is_busy stage = is_none (given stage)

-- the step that it asks for, what it is after the step found this, and what it ends with if that step is its last
abbrev pub asks : StackMarking → Ask
asks m = asks_at m m.stage

abbrev pub goes : Layout → StackMarking → ℕ → StackMarking
goes l m found = goes_at l m m.stage found

abbrev pub gives : Layout → StackMarking → ℕ → Option (Unit {0})
gives l m found = given (goes l m found).stage

-- the word of the stack, and what shading and the search for room write
abbrev pub writes : Footprint
writes row.Scanned = true
writes row.Buffer = true
writes r = shade.writes r

abbrev pub listing : Layout → Listing StackMarking (Unit {0})
listing l = record { asks = asks; goes = goes l; given = λ m. given m.stage; sound = SoundStackMarking l; writes = writes }
