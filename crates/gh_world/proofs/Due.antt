-- What is due in a world's turns may begin: it is in range, there is a name for what it makes, and its goroutine goes on.
use Rattle.std.proofs.Common.{◌≡◌, ℕ, ◌+◌, ◌<◌, ◌≤◌, Bool, true, false, ltb, ◌&&◌, List, [], length, refl, subst, Option, Some, None, arith, slice_get}
use Rattle.std.proofs.lemmas.Bool.{lt-ltb}
use Rattle.gh_world.proofs.Vocabulary.{All-get_or, AreStatements, bit, count_of, ended_in, ends, Entry, get_or_from_slice_get, goroutine_is_over, goroutine_of, goroutine_there, has_left_at, has_names, in_range, is_busy_at, is_leave, is_leaving, is_statement, IsPast, IsStatement, its_goroutine, Layout, LaysOut, leave_is_begun, leaves, MadeAtMost, MayBeOver, most_objects, nat_tests, Next, no_goroutine, Op, op_due, Processor, Program, Shape, SoundOp, Stands, statement_as_op, statements_among, statements_of, Stmt, Task, to_come, total_of, WellFormed, work_at, work_of}
use Rattle.gh_world.proofs.Turning.{has_statement}

-- an operation that is in range of the layout
pub record Runs (shapes : List Shape) (l : Layout) (o : Op) : Type 0 where
  pub sound : SoundOp shapes l o
  pub ranged : in_range l.goroutines l.globals (length shapes) o ≡ true

pub both_true : (a b : Bool) → a ≡ true → b ≡ true → (a && b) ≡ true
both_true a b e f = grind arith

statement_runs : (p : Program) (l : Layout) (g : ℕ) (s : Stmt) → IsStatement p.settings.globals (length p.shapes) s → g < 32 → g < l.goroutines → l.globals ≡ p.settings.globals → Runs p.shapes l (statement_as_op g s)
statement_runs p l g s h few gs k = grind (arith, nat_tests)

-- the statements of a goroutine are those of a script
are_statements : (p : Program) (g : ℕ) → g < length p.goroutines → WellFormed p → AreStatements p.settings.globals (length p.shapes) (goroutine_there p g)
are_statements p g lt r = All-get_or (AreStatements p.settings.globals (length p.shapes)) p.goroutines g no_goroutine lt r.statements

-- and they are few
pub few_statements : (p : Program) → WellFormed p → total_of p ≤ 200000
few_statements p r = r.few_statements

module _ (p : Program) (l : Layout) (r : WellFormed p) (lay : LaysOut p l) where
  work_runs : (g n : ℕ) (s : Option Stmt) → g < length p.goroutines → slice_get (statements_of p g) n ≡ s → Runs p.shapes l (work_at g s)
  work_runs g n None lt e = let there : g < l.goroutines = omega (arith, lay.goroutines_are) in record { sound = there; ranged = lt-ltb _ _ there }
  work_runs g n (Some s) lt e =
      let few : g < 32 = omega (arith, r.few_goroutines) in
      let there : g < l.goroutines = omega (arith, lay.goroutines_are) in
      let within : n < length (statements_of p g) = has_statement p (statements_of p g) n s e in
      statement_runs p l g s (subst (IsStatement p.settings.globals (length p.shapes)) (get_or_from_slice_get (statements_of p g) n s s e) (All-get_or (IsStatement p.settings.globals (length p.shapes)) (statements_of p g) n s within (are_statements p g lt r))) few there lay.globals_are

  -- what is due is in range
  pub due_runs : (a : ℕ) (t : Next) (o : Op) → Stands p a t → op_due p t ≡ Some o → Runs p.shapes l o
  due_runs a t o h e = grind (arith, work_runs)

-- a statement that is due is one of a goroutine that there is
pub due_goroutine : (p : Program) (a : ℕ) (t : Next) (o : Op) → WellFormed p → Stands p a t → op_due p t ≡ Some o → is_statement o ≡ true → its_goroutine o < 32
due_goroutine p a t o r h e sure = grind arith

-- there is a name for an object that is made by this operation
pub has_name_at : (m : Processor) (n : ℕ) (o : Op) → MadeAtMost n m → (is_statement o ≡ true → n < most_objects) → has_names m o ≡ true
has_name_at m n o made lt = grind arith

pub false_unless : (b : Bool) → (b ≡ true → ⊥) → b ≡ false
false_unless b h = grind arith

not_past_here : (p : Program) (n g : ℕ) → n ≤ count_of p g → IsPast p n g g → ⊥
not_past_here p n g h past = let never : ltb g g ≡ false = grind (arith, nat_tests) in let q : count_of p g < n + bit false = subst (λ (b : Bool). count_of p g < n + bit b) never past in omega (arith, q, h)

pub work_goroutine : (g : ℕ) (s : Option Stmt) → goroutine_of (work_at g s) ≡ Some g
work_goroutine g s = grind arith

-- its goroutine has not ended
pub not_ended : (p : Program) (a : ℕ) (t : Next) (o : Op) (es : List (Entry Op)) → Stands p a t → op_due p t ≡ Some o → ((g : ℕ) → ended_in es g ≡ true → MayBeOver p t g) → goroutine_is_over es (goroutine_of o) ≡ false
not_ended p a t o es h e over = grind (arith, false_unless, not_past_here, work_goroutine)

pub not_over : (p : Program) (t : Next) (o : Op) → op_due p t ≡ Some o → leave_is_begun t ≡ true → ⊥
not_over p t o e h = grind arith

pub due_statement : (p : Program) (a : ℕ) (t : Next) (o : Op) → op_due p t ≡ Some o → is_statement o ≡ true → 1 ≤ statements_among (to_come p a t)
due_statement p a t o e sure = grind arith

pub ends_is : (o : Op) (g : ℕ) → ends (Some o) g ≡ true → o ≡ Op.End g
ends_is o g e = grind arith

pub leaves_is : (o : Op) → leaves (Some o) ≡ is_leave o
leaves_is o = grind arith

pub idle_not_leaving : (t : Task) → is_busy_at t ≡ false → has_left_at t ≡ false → is_leaving t ≡ false
idle_not_leaving t h k = grind arith

pub has_due : (p : Program) (t : Next) → leave_is_begun t ≡ false → (o : Op) × (op_due p t ≡ Some o)
has_due p (Next.Poll n g) h = (Op.Poll, refl)
has_due p (Next.Run n g) h = (work_of p n g, refl)
has_due p Next.Leave h = (Op.Leave, refl)
has_due p Next.Over h = absurd cc

-- where nothing is due, nothing is to come
pub none_due : (p : Program) (a : ℕ) (t : Next) → op_due p t ≡ None → to_come p a t ≡ []
none_due p a t e = grind arith

pub none_to_come : (p : Program) (a : ℕ) (t : Next) → leave_is_begun t ≡ true → to_come p a t ≡ []
none_to_come p a t e = grind arith
