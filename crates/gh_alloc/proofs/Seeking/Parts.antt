-- A routine that a search runs, from its first step on.
use Rattle.std.proofs.Common.{◌≡◌, ℕ, suc, ◌+◌, ◌<◌, ◌≤◌, true, inl, inr, Some, sym, ap, subst, ◌∙◌, arith}
use Rattle.gh_alloc.proofs.Vocabulary.{Ask, cases_order, Listing, Runs, told}
use Rattle.gh_alloc.specs.Refusing.{since}

module _ (asks : ℕ → Ask) (found : ℕ → ℕ) {M Out : Type 0} (r : Listing M Out) (m : M) where
  abbrev At : (first n : ℕ) → M
  At first n = told r m (since found first) n

  -- before step n it has taken the steps from the first one on, is this, and asks for a step
  pub record Running (first n : ℕ) (x : M) : Type 0 where
    pub steps : ℕ
    pub here : first + steps ≡ n
    pub is : x ≡ At first steps
    pub busy : r.busy x ≡ true
    pub asked : (k : ℕ) → k < steps → asks (first + k) ≡ r.asks (At first k)

  pub begins : (n : ℕ) (x : M) → x ≡ m → r.busy x ≡ true → Running n n x
  begins n x e busy = record { steps = 0; here = omega arith; is = e; busy = busy; asked = λ k low. absurd (omega arith) }

  module _ (first n : ℕ) (x : M) (run : Running first n x) (a : asks n ≡ r.asks x) where
    now_asked : asks (first + run.steps) ≡ r.asks (At first run.steps)
    now_asked = ap asks run.here ∙ a ∙ ap r.asks run.is

    asked_to : (k : ℕ) → k ≤ run.steps → asks (first + k) ≡ r.asks (At first k)
    asked_to k le = elim (cases_order k run.steps) [
      | inl is ↦ subst (λ (j : ℕ). asks (first + j) ≡ r.asks (At first j)) (sym is) now_asked
      | inr (inl low) ↦ run.asked k low
      | inr (inr high) ↦ absurd (omega arith)
    ]

    pub goes_on : r.busy (r.goes x (found n)) ≡ true → Running first (suc n) (r.goes x (found n))
    goes_on busy = record {
      steps = suc run.steps;
      here = let h = run.here in omega arith;
      is = ap (λ (y : M). r.goes y (found n)) run.is ∙ ap (λ (j : ℕ). r.goes (At first run.steps) (found j)) (sym run.here);
      busy = busy;
      asked = λ k low. asked_to k (omega arith);
    }

    pub ends_with : (out : Out) → r.gives x (found n) ≡ Some out → Runs asks found r m first n out
    ends_with out g = grind (arith, asked_to)
