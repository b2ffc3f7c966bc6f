-- The search says that there is no room only where it has found neither a span nor fresh pages.
use Rattle.std.proofs.Common.{◌≡◌, ℕ, IsTrue, Some, arith}
use Rattle.gh_alloc.proofs.Vocabulary.{Finding, FindStage, given, Layout, NoRoom, refuses_at}
use Rattle.gh_alloc.specs.Find.{goes_at}

pub giver_refuses : (l : Layout) (f : Finding) (p : FindStage) (w : ℕ) → given (goes_at l f p w) ≡ Some NoRoom → IsTrue (refuses_at p)
giver_refuses l f p w e = grind arith
