-- A step that is made at once, and a load whose steps are made without a task: what it begins with, and the word that tells whether its field is a pointer.
use Rattle.std.specs.Prelude.{◌≡◌, ℕ, ◌-◌, ◌*◌, ◌/◌, ◌%◌, Bool, false, Option, Some, None}
use Rattle.gh_mutator.specs.Vocabulary.{Answer, Cell, Layout, Value}
use Rattle.gh_mutator.specs.Mutating.{acts, goes, Mutating}
use Rattle.gh_mutator.specs.Serving.{is_last, is_point, statement_answer}

-- by the step that found this the processor goes on to here; the step is not its last, and is the point of a statement or not; by it a statement is answered so, if one is
pub record MadeAtOnce (l : Layout) (m : Mutating) (found : ℕ) (to : Mutating) (pointed : Bool) (answer : Option Answer) : Type 0 where
  pub goes_so : to ≡ goes l m found
  pub last : is_last m.processor.task ≡ false
  pub point : is_point (acts l m found) ≡ pointed
  pub answers : statement_answer l m.processor found ≡ answer

-- the first heap word of the object that the value refers to, if it is a reference
abbrev pub object_in : Value → Option ℕ
object_in (Value.Ref r) = Some (r - 1)
object_in _ = None

-- the word of the bitmap that has the bit of heap word x
abbrev pub bits_cell : Layout → (x : ℕ) → Cell
bits_cell l x = Cell.Bitmap (x / 64 % (16 * l.pages))
