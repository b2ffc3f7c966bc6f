-- The processor as a machine, which keeps the shapes of the types beside its state, and counts the statements that it has answered.
use Rattle.std.specs.Prelude.{ℕ, ◌+◌, ◌-◌, ◌^◌, min, Bool, true, false, not, ◌&&◌, List, Option, Some, None}
use Rattle.gh_mutator.specs.Vocabulary.{Answer, Ask, is_number_value, Layout, Listing, marking_at, Op, passes_by, Shape}
use Rattle.gh_mutator.specs.Processing.{Processor}
use Rattle.gh_mutator.specs.Listing.{acts as acts_by, Act, asks as asks_of, begins as begins_by, gives as gives_by, is_busy_at, takes}
use Rattle.gh_mutator.specs.Processor.{opening_processor, register_of}
use Rattle.gh_mutator.specs.Serving.{has_left_at, statement_answer}

pub record Mutating : Type 0 where
  pub shapes : List Shape
  pub processor : Processor
  pub marks : ℕ

abbrev pub opening : (seat : ℕ) → List Shape → Mutating
opening seat shapes = record { shapes = shapes; processor = opening_processor seat; marks = 0 }

abbrev pub is_busy : Mutating → Bool
is_busy m = is_busy_at m.processor.task

-- once an operation is begun
abbrev pub begins : Mutating → Op → Mutating
begins m o = record m { processor = begins_by m.shapes m.processor o }

-- how many statements are answered once this one is, if it is; the number stands at its type's end
abbrev pub marks_after : (marks : ℕ) → Option Answer → ℕ
marks_after marks None = marks
marks_after marks (Some a) = min (marks + 1) (2 ^ 64 - 1)

-- the step that it asks for, what it is after the step found this, and what the operation is answered if it ends with that step
abbrev pub asks : Layout → Mutating → Ask
asks l m = asks_of l m.processor

abbrev pub goes : Layout → Mutating → (found : ℕ) → Mutating
goes l m found = record m { processor = takes l m.shapes m.processor found; marks = marks_after m.marks (statement_answer l m.processor found) }

abbrev pub gives : Layout → Mutating → (found : ℕ) → Option Answer
gives l m found = gives_by l m.processor found

-- An operation is answered by its last step, and the answer is kept nowhere: so this is a listing of steps, and not of what was given.
abbrev pub listing : Layout → Listing Mutating Answer
listing l = record { layout = λ m. l; busy = is_busy; asks = asks l; goes = goes l; gives = gives l }

-- the operation that acts by that step, if one does
abbrev pub acts : Layout → Mutating → (found : ℕ) → Option Act
acts l m found = acts_by l m.processor found

-- Where nothing is begun: it has not left, and a poll that it begins is ended at once by this phase word.
abbrev pub passes : Mutating → (found : ℕ) → Bool
passes m found = not (has_left_at m.processor.task) && passes_by m.processor.poll found

-- the statement touches registers alone, and no word
abbrev pub is_of_registers : Op → Bool
is_of_registers (Op.Int g d n) = true
is_of_registers (Op.Move g d s) = true
is_of_registers (Op.Nil g d) = true
is_of_registers _ = false

-- Where nothing is begun: it has not left, and the operation is such a statement.
abbrev pub sets : Mutating → Op → Bool
sets m o = not (has_left_at m.processor.task) && is_of_registers o

-- Where nothing is begun: it has not left, and the operation is the load of a global, or the store of a pointer into one while marking is off, as it knows.
abbrev pub is_direct_at : Processor → Op → Bool
is_direct_at m (Op.GetGlobal g d k) = not (has_left_at m.task)
is_direct_at m (Op.SetGlobal g k v) = not (has_left_at m.task) && not (marking_at m.poll) && not (is_number_value (register_of m g v))
is_direct_at m _ = false

abbrev pub is_direct : Mutating → Op → Bool
is_direct m o = is_direct_at m.processor o
