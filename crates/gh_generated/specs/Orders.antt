-- The orders of a script's operations, and the heap that they leave.
use Rattle.std.specs.Prelude.{◌≡◌, ℕ, ◌<◌, ◌≤◌, ◌==◌, Bool, false, List, [], ◌∷◌, ◌++◌, length, map, All}
use Rattle.std.specs.List.{filter}
use Rattle.gh_base.specs.declared.operation.Op.{Op}
use Rattle.gh_base.specs.declared.operation.Op.TheVariants.{New, Load, Store, GetGlobal, SetGlobal, Int, Move, Nil, Gc, Poll, End, Leave}
use Rattle.gh_base.specs.declared.shape.Shape.{Shape}
use Rattle.gh_model.specs.Answers.{answers_from, ever_after_all}
use Rattle.gh_model.specs.Ever.{Ever, opening_ever}
use Rattle.gh_script.specs.Generated.{generated_program}
use Rattle.gh_script.specs.Program.{Program, statement_as_op, statements_of}

-- the operation is of goroutine g
abbrev pub is_by_goroutine : ℕ → Op → Bool
is_by_goroutine g (New h d t) = h == g
is_by_goroutine g (Load h d b k) = h == g
is_by_goroutine g (Store h b k v) = h == g
is_by_goroutine g (GetGlobal h d k) = h == g
is_by_goroutine g (SetGlobal h k v) = h == g
is_by_goroutine g (Int h d n) = h == g
is_by_goroutine g (Move h d s) = h == g
is_by_goroutine g (Nil h d) = h == g
is_by_goroutine g (Gc h) = h == g
is_by_goroutine g Poll = false
is_by_goroutine g (End h) = h == g
is_by_goroutine g Leave = false

-- what goroutine g does: its statements, and its end
abbrev pub operations_of : Program → ℕ → List Op
operations_of p g = map (statement_as_op g) (statements_of p g) ++ End g ∷ []

-- An order of all operations of a script: those of each goroutine stand in the order of its statements, whatever stands between them. Beside
-- them only polls and leaves of processors stand there.
pub record IsOrderOf (p : Program) (ops : List Op) : Type 0 where
  pub each : (g : ℕ) → g < length p.goroutines → filter (is_by_goroutine g) ops ≡ operations_of p g
  pub no_other : (g : ℕ) → length p.goroutines ≤ g → filter (is_by_goroutine g) ops ≡ []

-- the heap that never frees behind these operations, where there is room for each object
abbrev pub ever_left_by : List Shape → List Op → Ever
ever_left_by shapes ops = ever_after_all shapes opening_ever ops (answers_from shapes opening_ever ops)

-- an operation goes to no global but that of its goroutine's number
abbrev pub KeepsToItsOwn : Op → Type 0
KeepsToItsOwn (GetGlobal g d k) = k ≡ g
KeepsToItsOwn (SetGlobal g k v) = k ≡ g
KeepsToItsOwn op = Unit {0}

-- each goroutine's statements do so
abbrev pub AllKeepToTheirOwn : Program → Type 0
AllKeepToTheirOwn p = (g : ℕ) → g < length p.goroutines → All KeepsToItsOwn (operations_of p g)

-- ---- laws

-- two orders of the operations of goroutines that are apart leave one heap
abbrev pub GoroutinesApartLeaveOneHeap : Type 0
GoroutinesApartLeaveOneHeap = (p : Program) (one other : List Op) → AllKeepToTheirOwn p → IsOrderOf p one → IsOrderOf p other → ever_left_by p.shapes one ≡ ever_left_by p.shapes other

abbrev pub GeneratedScriptsLeaveOneHeap : Type 0
GeneratedScriptsLeaveOneHeap = (seed size : ℕ) (one other : List Op) → IsOrderOf (generated_program seed size) one → IsOrderOf (generated_program seed size) other
    → ever_left_by (generated_program seed size).shapes one ≡ ever_left_by (generated_program seed size).shapes other
