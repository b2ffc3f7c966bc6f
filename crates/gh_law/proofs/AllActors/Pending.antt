-- An answer is pending only once its operation has acted.
use Rattle.std.proofs.Common.{◌≡◌, ℕ, Option, Some, None, arith}
use Rattle.gh_law.proofs.Vocabulary.{Answer, Arena, FactsAt, Op, op_at, Processor, Task, View}

module _ (z : Arena) (a : ℕ) (v : View) (m : Processor) (pending : Option Answer) where
  pub none_unacted : (t : Task) (o : Op) → op_at t ≡ Some o → FactsAt z a v m pending t → pending ≡ None
  none_unacted t o is facts = grind arith
