-- The load and the store of a global: where each begins, what it asks for at each stage, and what its step does.
use Rattle.std.specs.Prelude.{ℕ, true, if◌then◌else◌, Option, Some, None}
use Rattle.gh_mutator.specs.Vocabulary.{Answer, Ask, Cell, Fault, Global, GlobalStage, Held, held_then, is_mark, Layout, Local, Op, PointerCell, PointerWrite, Step, Value, written}
use Rattle.gh_barrier.specs.Listing as write
use Rattle.gh_mutator.specs.declared.global.GlobalStage.TheVariants.{Load, Birth, Store, Writing, Number}
use Rattle.gh_mutator.specs.Fields.{birth_cell, ends_with_name, takes, value_of, word_of_value}
use Rattle.gh_mutator.specs.Step.{ends, goes_on}

abbrev pub op_in : Global → GlobalStage → Op
op_in x Load = Op.GetGlobal x.g x.r x.k
op_in x (Birth at) = Op.GetGlobal x.g x.r x.k
op_in x Store = Op.SetGlobal x.g x.k x.r
op_in x (Writing w) = Op.SetGlobal x.g x.k x.r
op_in x Number = Op.SetGlobal x.g x.k x.r

abbrev pub op_of : Global → Op
op_of x = op_in x x.stage

abbrev pub at_stage : Global → GlobalStage → Global
at_stage x stage = record x { stage = stage }

-- register d takes global k
abbrev pub begins_load : (g d k : ℕ) → Global
begins_load g d k = record { g = g; r = d; k = k; stage = Load }

-- a pointer is written behind the write barrier while marking is on, as this processor knows
abbrev pub stores : Local → (k : ℕ) → Value → GlobalStage
stores own k held = if is_mark own.view.phase then Writing (written own (PointerCell.Global k) held) else Store

-- global k takes what register v holds, which is this; a number is a fault
abbrev pub begins_store : Local → (g k v : ℕ) → Value → Global
begins_store own g k v (Value.Int n) = record { g = g; r = v; k = k; stage = Number }
begins_store own g k v held = record { g = g; r = v; k = k; stage = stores own k held }

-- once a reference was found, to the object at this heap word
abbrev pub naming : Global → (at : ℕ) → Global
naming x at = at_stage x (Birth at)

-- after a step of the write, by whether that ended: the store acts by its last step
abbrev pub after_write : Global → PointerWrite → Option (Unit {0}) → Step Global
after_write x w None = goes_on (at_stage x (Writing w))
after_write x w (Some y) = ends Answer.Done

-- register r holds this
module _ (l : Layout) (held : Value) (x : Global) where
  abbrev pub asks_at : GlobalStage → Ask
  asks_at Load = Ask.Load (Cell.Global x.k)
  asks_at (Birth at) = Ask.Load (birth_cell l at)
  asks_at Store = Ask.Store (Cell.Global x.k) (word_of_value held)
  asks_at (Writing w) = write.asks w
  asks_at Number = Ask.Load Cell.Touch

  abbrev pub step_at : GlobalStage → (found : ℕ) → Step Global
  step_at Load found = takes (naming x) (value_of l.pages true found)
  step_at (Birth at) found = ends_with_name l found
  step_at Store found = ends Answer.Done
  step_at (Writing w) found = after_write x (write.goes l w found) (write.gives l w found)
  step_at Number found = ends (Answer.Fault Fault.Kind)

-- the buffer that is held behind its step, where this one was
abbrev pub held_behind : Layout → Option Held → GlobalStage → (found : ℕ) → Option Held
held_behind l held (Writing w) found = held_then l w found
held_behind l held _ found = held

-- the step that it asks for, and what that step does where it found this
abbrev pub asks : Layout → (held : Value) → Global → Ask
asks l held x = asks_at l held x x.stage

abbrev pub step : Layout → (held : Value) → Global → (found : ℕ) → Step Global
step l held x found = step_at l held x x.stage found

-- the operation, until it has acted
abbrev pub unacted : Global → GlobalStage → Option Op
unacted x (Birth at) = None
unacted x stage = Some (op_in x stage)
