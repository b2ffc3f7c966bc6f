-- A processor leaves: what is asked for at each stage, where that leads, and what it has given there.
use Rattle.std.specs.Prelude.{ℕ, Bool, true, false, if◌then◌else◌, List, Option, Some, None, is_none}
use Rattle.gh_poll.specs.Vocabulary.{Ask, CachedSpan, Cell, Footprint, Giving, GONE, Held, Layout, Leave, LeaveStage, Left, Listing, Load, steps_of, Store}
use Rattle.gh_base.specs.Footprints as row
use Rattle.gh_base.specs.Routines as routine
use Rattle.gh_poll.specs.declared.leave.Leave as declared
use Rattle.gh_poll.specs.Give as give
use Rattle.gh_poll.specs.LeaveSound.{SoundLeaving}

abbrev pub Leaving : Type 0
Leaving = declared.Leave

abbrev pub at_stage : Leaving → LeaveStage → Leaving
at_stage w stage = record w { stage = stage }

-- it goes on giving back; where nothing is left it says that it is gone
abbrev pub stage_of : give.Giving → LeaveStage
stage_of g = if give.is_busy g.stage then Giving g else Leave

abbrev pub opening : (seat generation : ℕ) → List (Option CachedSpan) → Option Held → Leaving
opening seat generation cache held = record { seat = seat; stage = stage_of (give.opening seat generation cache held) }

module _ (w : Leaving) where
  abbrev pub asks_at : LeaveStage → Ask
  asks_at (Giving g) = give.asks g
  asks_at Leave = Store (Cell.Ack w.seat) GONE
  asks_at Left = Load Cell.Touch

  abbrev pub goes_at : LeaveStage → ℕ → Leaving
  goes_at (Giving g) found = at_stage w (stage_of (give.goes g found))
  goes_at Leave found = at_stage w Left
  goes_at Left found = at_stage w Left

-- what it has given at this stage; it is busy where that is nothing
abbrev pub given : LeaveStage → Option (Unit {0})
given Left = Some tt
given _ = None

abbrev pub is_busy : LeaveStage → Bool
is_busy stage = is_none (given stage)

-- behind its next step it has left: nothing is left to be given back
abbrev pub says_gone : LeaveStage → Bool
says_gone (Giving g) = false
says_gone _ = true

-- the step that it asks for, what it is after the step found this, and what it ends with if that step is its last
abbrev pub asks : Leaving → Ask
asks w = asks_at w w.stage

abbrev pub goes : Leaving → ℕ → Leaving
goes w found = goes_at w w.stage found

abbrev pub gives : Leaving → ℕ → Option (Unit {0})
gives w found = given (goes w found).stage

-- its acknowledgement, and what the giving back writes
abbrev pub writes : Footprint
writes row.Ack = true
writes r = give.writes r

abbrev pub listing : Layout → Listing Leaving (Unit {0})
listing l = record { asks = asks; goes = goes; given = λ w. given w.stage; sound = SoundLeaving l; writes = writes }

abbrev pub transitions : Layout → routine.Listing Leaving (Unit {0})
transitions l = steps_of l (listing l)
