-- The search where a collector runs gives what the search gives that it runs, and nothing while it frees empty spans.
use Rattle.std.proofs.Common.{◌≡◌, ℕ, IsTrue, Bool, cond, Option, Some, None, sym, ◌∙◌, arith}
use Rattle.gh_alloc.proofs.Vocabulary.{after_first, after_free, Finding, First, Free, frees_at, given_at, goes_at, Layout, NoRoom, Reclaiming, SearchStage, Second}
use Rattle.gh_central.specs.Reclaim as reclaim
use Rattle.gh_alloc.specs.Find as find
use Rattle.gh_alloc.specs.Search.{given, refuses_at}
use Rattle.gh_alloc.proofs.Finding.Refusing.{giver_refuses}

pub first_gives : (g : Finding) → given_at g (after_first g) ≡ find.given g
first_gives g = grind arith

pub second_gives : (g : Finding) (b : Bool) → given_at g (cond b First Second) ≡ find.given g
second_gives g b = grind arith

free_gives : (f : Finding) (r : Reclaiming) (out : Option (Unit {0})) → given (after_free f r out) ≡ None
free_gives f r out = grind arith

pub search_refuses : (l : Layout) (f : Finding) (p : SearchStage) (w : ℕ) → given (goes_at l f p w) ≡ Some NoRoom → IsTrue (refuses_at f p)
search_refuses l f First w e = giver_refuses l f f.stage w (sym (first_gives (find.goes l f w)) ∙ e)
search_refuses l f (Free r) w e = let none : given (after_free f (reclaim.goes l r w) (reclaim.given (reclaim.goes l r w))) ≡ None = free_gives f (reclaim.goes l r w) (reclaim.given (reclaim.goes l r w)) in absurd (cc)
search_refuses l f Second w e = giver_refuses l f f.stage w (sym (second_gives (find.goes l f w) (frees_at f.stage)) ∙ e)
