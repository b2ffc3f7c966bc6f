-- A load: where it begins, what it asks for at each stage, and what its step does.
use Rattle.std.specs.Prelude.{ℕ, ◌+◌, ◌-◌, if◌then◌else◌, Option, Some, None}
use Rattle.gh_mutator.specs.Vocabulary.{Answer, Ask, Cell, Fault, Layout, Load, LoadStage, Op, Step, Value}
use Rattle.gh_bitmap.specs.ReadPointer as reading
use Rattle.gh_mutator.specs.declared.load.LoadStage.TheVariants.{Page, Bits, Field, Birth, NilBase}
use Rattle.gh_mutator.specs.Fields.{birth_cell, ends_with_name, field_cell, has_field, is_pointer_by, page_cell, takes, value_of}
use Rattle.gh_mutator.specs.Step.{ends, goes_on}

abbrev pub op_of : Load → Op
op_of x = Op.Load x.g x.d x.b x.k

abbrev pub at_stage : Load → LoadStage → Load
at_stage x stage = record x { stage = stage }

-- through a register that holds this; one that holds no reference is a fault
abbrev pub begins : (g d b k : ℕ) → Value → Load
begins g d b k (Value.Ref r) = record { g = g; d = d; b = b; k = k; at = r - 1; stage = Page }
begins g d b k _ = record { g = g; d = d; b = b; k = k; at = 0; stage = NilBase }

-- once a reference was found, to the object at this heap word
abbrev pub naming : Load → (at : ℕ) → Load
naming x at = at_stage x (Birth at)

module _ (l : Layout) (x : Load) where
  abbrev pub asks_at : LoadStage → Ask
  asks_at NilBase = Ask.Load Cell.Touch
  asks_at Page = Ask.Load (page_cell l x.at)
  asks_at Bits = reading.asks l (reading.opening (x.at + x.k))
  asks_at (Field pointer) = Ask.Load (field_cell l (x.at + x.k))
  asks_at (Birth at) = Ask.Load (birth_cell l at)

  abbrev pub step_at : LoadStage → (found : ℕ) → Step Load
  step_at NilBase found = ends (Answer.Fault Fault.NilBase)
  step_at Page found = if has_field x.k found then goes_on (at_stage x Bits) else ends (Answer.Fault Fault.Field)
  step_at Bits found = goes_on (at_stage x (Field (is_pointer_by l (x.at + x.k) found)))
  step_at (Field pointer) found = takes (naming x) (value_of l.pages pointer found)
  step_at (Birth at) found = ends_with_name l found

-- the step that it asks for, and what that step does where it found this
abbrev pub asks : Layout → Load → Ask
asks l x = asks_at l x x.stage

abbrev pub step : Layout → Load → (found : ℕ) → Step Load
step l x found = step_at l x x.stage found

-- the operation, until it has acted
abbrev pub unacted : Load → LoadStage → Option Op
unacted x (Birth at) = None
unacted x _ = Some (op_of x)
