-- The search where a collector runs has the lock at the stages that say so.
use Rattle.std.proofs.Common.{◌≡◌, ℕ, zero, suc, Bool, true, false, cond, Option, refl, sym, ap, ◌∙◌, arith}
use Rattle.gh_alloc.proofs.Vocabulary.{after_free, asks_at, Finding, FindStage, First, Free, frees_at, goes_at, holds, Layout, listing, lock_after, Reclaiming, reclaiming, SearchStage, Second, Seeking, steps_of, told}
use Rattle.gh_central.specs.Reclaim as reclaim
use Rattle.gh_central.specs.declared.reclaim.ReclaimStage.{ReclaimStage}
use Rattle.gh_alloc.specs.Find as find
use Rattle.gh_alloc.specs.Search.{asks}
use Rattle.gh_alloc.proofs.Finding.Locking.{has_lock}
use Rattle.gh_alloc.proofs.Finding.Locking as finding

abbrev pub has_lock_at : FindStage → SearchStage → Bool
has_lock_at p (Free r) = true
has_lock_at p _ = has_lock p

pub reclaim_asks : (l : Layout) (p : ReclaimStage) (held : Bool) (w : ℕ) → lock_after held (reclaim.asks_at l p) w ≡ held
reclaim_asks l p held w = grind arith

first_with : (g : Finding) (b : Bool) → find.finds_none g ≡ b → has_lock g.stage ≡ has_lock_at g.stage (cond b (Free (reclaiming g)) First)
first_with g b e = grind arith

second_with : (g : Finding) (b : Bool) → has_lock g.stage ≡ has_lock_at g.stage (cond b First Second)
second_with g b = grind arith

free_with : (f : Finding) (r : Reclaiming) (out : Option (Unit {0})) → true ≡ has_lock_at (after_free f r out).find.stage (after_free f r out).stage
free_with f r out = grind arith

step : (l : Layout) (f : Finding) (p : SearchStage) (w : ℕ) → lock_after (has_lock_at f.stage p) (asks_at l f p) w ≡ has_lock_at (goes_at l f p w).find.stage (goes_at l f p w).stage
step l f First w = finding.step l f f.stage w ∙ first_with (find.goes l f w) (find.finds_none (find.goes l f w)) refl
step l f (Free r) w = reclaim_asks l r.stage true w ∙ free_with f (reclaim.goes l r w) (reclaim.given (reclaim.goes l r w))
step l f Second w = finding.step l f f.stage w ∙ second_with (find.goes l f w) (frees_at f.stage)

module _ (l : Layout) (s : Seeking) (found : ℕ → ℕ) (start : has_lock_at s.find.stage s.stage ≡ false) where
  pub held_is : (n : ℕ) → holds (steps_of l (listing l)) s found n ≡ has_lock_at (told (steps_of l (listing l)) s found n).find.stage (told (steps_of l (listing l)) s found n).stage
  held_is zero = sym start
  held_is (suc n) = ap (λ (b : Bool). lock_after b (asks l (told (steps_of l (listing l)) s found n)) (found n)) (held_is n) ∙ step l (told (steps_of l (listing l)) s found n).find (told (steps_of l (listing l)) s found n).stage (found n)
