-- The search looks for unswept spans in each round but the one behind the freeing of empty spans.
use Rattle.std.proofs.Common.{◌≡◌, ℕ, zero, suc, Bool, true, false, cond, Option, arith}
use Rattle.gh_alloc.proofs.Vocabulary.{after_free, Finding, First, Free, frees_at, goes_at, Layout, listing, Reclaiming, reclaiming, SearchStage, Second, Seeking, steps_of, told}
use Rattle.gh_alloc.specs.Find as find

abbrev pub looks_for_unswept : SearchStage → Bool
looks_for_unswept Second = false
looks_for_unswept _ = true

first_looks : (g : Finding) (b : Bool) → looks_for_unswept (cond b (Free (reclaiming g)) First) ≡ true
first_looks g b = grind arith

first_step : (l : Layout) (f : Finding) (w : ℕ) → f.sweeps ≡ true → (b : Bool) → frees_at f.stage ≡ b → (find.goes l f w).sweeps ≡ true
first_step l f w e b is = grind arith

free_step : (f : Finding) (r : Reclaiming) (out : Option (Unit {0})) → f.sweeps ≡ true → (after_free f r out).find.sweeps ≡ looks_for_unswept (after_free f r out).stage
free_step f r out e = grind arith

second_step : (l : Layout) (f : Finding) (w : ℕ) → f.sweeps ≡ false → (b : Bool) → frees_at f.stage ≡ b → (find.goes l f w).sweeps ≡ looks_for_unswept (cond b First Second)
second_step l f w e b is = grind arith

step : (l : Layout) (f : Finding) (p : SearchStage) (w : ℕ) → f.sweeps ≡ looks_for_unswept p → (goes_at l f p w).find.sweeps ≡ looks_for_unswept (goes_at l f p w).stage
step l f p w e = grind (arith, first_looks, first_step, free_step, second_step)

module _ (l : Layout) (s : Seeking) (found : ℕ → ℕ) (start : s.find.sweeps ≡ looks_for_unswept s.stage) where
  sweeps_is : (n : ℕ) → (told (steps_of l (listing l)) s found n).find.sweeps ≡ looks_for_unswept (told (steps_of l (listing l)) s found n).stage
  sweeps_is zero = start
  sweeps_is (suc n) = step l (told (steps_of l (listing l)) s found n).find (told (steps_of l (listing l)) s found n).stage (found n) (sweeps_is n)

  pub sweeps_at : (n : ℕ) (q : SearchStage) → (told (steps_of l (listing l)) s found n).stage ≡ q → (told (steps_of l (listing l)) s found n).find.sweeps ≡ looks_for_unswept q
  sweeps_at n q e = grind (arith, sweeps_is)
