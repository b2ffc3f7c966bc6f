-- What is known of each statement's step, read off it.
use Rattle.std.proofs.Common.{◌≡◌, ℕ, ◌+◌, ◌≤◌, Bool, true, Option, Some, None, arith}
use Rattle.gh_mutator.proofs.Vocabulary.{answered, Cause, Ends, GoesOn, IsNear, Step, Then, Value}
use Rattle.gh_base.specs.declared.value.Answer.TheVariants.{Fault}

-- the register takes a value that is near
abbrev pub SetsNear : (pages : ℕ) → Option Value → Type 0
SetsNear pages None = Unit {0}
SetsNear pages (Some v) = IsNear pages v

module _ {S : Type 0} where
  -- where the statement goes on, it is one of these
  abbrev pub GoesTo : (S → Type 0) → Then S → Type 0
  GoesTo P (GoesOn s) = P s
  GoesTo P (Ends a) = Unit {0}

  pub goes_both : (P Q : S → Type 0) (t : Then S) → GoesTo P t → GoesTo Q t → GoesTo (λ (s : S). P s × Q s) t
  goes_both P Q t p q = grind arith

  -- the numbers of the statement stay in their ranges, and so do those of the register
  pub record StepSound (P : S → Type 0) (pages : ℕ) (step : Step S) : Type 0 where
    pub next : GoesTo P step.then
    pub sets : SetsNear pages step.sets

  -- this many steps are left at most, and a step makes them fewer
  abbrev pub Nears : (left : S → ℕ) → S → Then S → Type 0
  Nears left s then = (1 ≤ left s) × GoesTo (λ t. left t + 1 ≤ left s) then

  -- a fault is answered only from here, and only here leads to here; the register takes nothing then
  pub record FaultsFrom (may : S → Bool) (s : S) (step : Step S) : Type 0 where
    pub here : (cause : Cause) → answered step.then ≡ Some (Fault cause) → may s ≡ true
    pub keeps : (cause : Cause) → answered step.then ≡ Some (Fault cause) → step.sets ≡ None
    pub before : GoesTo (λ t. may t ≡ true → (may s ≡ true) × (step.sets ≡ None)) step.then
