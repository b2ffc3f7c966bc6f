-- A store: where it begins, what it asks for at each stage, and what its step does. A pointer is written behind the write barrier while marking is on.
use Rattle.std.specs.Prelude.{ℕ, ◌+◌, ◌-◌, ◌*◌, ◌%◌, Bool, ◌&&◌, if◌then◌else◌, Option, Some, None}
use Rattle.gh_mutator.specs.Vocabulary.{Answer, Ask, Cell, Fault, Held, held_then, is_mark, Layout, Local, Op, PointerCell, PointerWrite, Step, Store, StoreStage, Value, written}
use Rattle.gh_barrier.specs.Listing as write
use Rattle.gh_bitmap.specs.ReadPointer as reading
use Rattle.gh_mutator.specs.declared.store.StoreStage.TheVariants.{Page, Bits, Field, Writing, NilBase}
use Rattle.gh_mutator.specs.Fields.{field_cell, has_field, is_pointer_by, kinds_differ, page_cell, word_of_value}
use Rattle.gh_mutator.specs.Step.{ends, goes_on}

abbrev pub op_of : Store → Op
op_of x = Op.Store x.g x.b x.k x.v

abbrev pub at_stage : Store → StoreStage → Store
at_stage x stage = record x { stage = stage }

-- through a register that holds this; one that holds no reference is a fault
abbrev pub begins : (g b k v : ℕ) → Value → Store
begins g b k v (Value.Ref r) = record { g = g; b = b; k = k; v = v; at = r - 1; stage = Page }
begins g b k v _ = record { g = g; b = b; k = k; v = v; at = 0; stage = NilBase }

-- the field as a cell that holds a pointer
abbrev pub pointer_cell_at : Layout → (x : ℕ) → PointerCell
pointer_cell_at l x = PointerCell.Field (x % (1024 * l.pages))

-- what it asks for, where register v holds this
module _ (l : Layout) (held : Value) (x : Store) where
  abbrev pub asks_at : StoreStage → Ask
  asks_at NilBase = Ask.Load Cell.Touch
  asks_at Page = Ask.Load (page_cell l x.at)
  asks_at Bits = reading.asks l (reading.opening (x.at + x.k))
  asks_at Field = Ask.Store (field_cell l (x.at + x.k)) (word_of_value held)
  asks_at (Writing w) = write.asks w

-- after a step of the write, by whether that ended: the store acts by its last step
abbrev pub after_write : Store → PointerWrite → Option (Unit {0}) → Step Store
after_write x w None = goes_on (at_stage x (Writing w))
after_write x w (Some y) = ends Answer.Done

-- what its step does, where the processor knows this alone
module _ (l : Layout) (own : Local) (held : Value) (x : Store) where
  -- behind the bitmap word, by whether the field is a pointer
  abbrev pub stores : (pointer : Bool) → StoreStage
  stores pointer = if pointer && is_mark own.view.phase then Writing (written own (pointer_cell_at l (x.at + x.k)) held) else Field

  abbrev pub by_kind : (pointer : Bool) → Step Store
  by_kind pointer = if kinds_differ pointer held then ends (Answer.Fault Fault.Kind) else goes_on (at_stage x (stores pointer))

  abbrev pub step_at : StoreStage → (found : ℕ) → Step Store
  step_at NilBase found = ends (Answer.Fault Fault.NilBase)
  step_at Page found = if has_field x.k found then goes_on (at_stage x Bits) else ends (Answer.Fault Fault.Field)
  step_at Bits found = by_kind (is_pointer_by l (x.at + x.k) found)
  step_at Field found = ends Answer.Done
  step_at (Writing w) found = after_write x (write.goes l w found) (write.gives l w found)

-- the buffer that is held behind its step, where this one was
abbrev pub held_behind : Layout → Option Held → StoreStage → (found : ℕ) → Option Held
held_behind l held (Writing w) found = held_then l w found
held_behind l held _ found = held

-- the step that it asks for, and what that step does where it found this
abbrev pub asks : Layout → (held : Value) → Store → Ask
asks l held x = asks_at l held x x.stage

abbrev pub step : Layout → Local → (held : Value) → Store → (found : ℕ) → Step Store
step l own held x found = step_at l own held x x.stage found
