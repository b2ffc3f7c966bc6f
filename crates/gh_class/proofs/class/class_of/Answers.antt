use Rattle.std.proofs.Common.{refl, arith}
use Rattle.gh_class.proofs.Table.{place_is_class, no_place, IsClassOf-number, IsClassOf-small}
use Rattle.gh_class.proofs.class.class_of.Goals as goal

pub returns-clause-class : goal.returns-clause-class
returns-clause-class c =
    place_is_class _ _ c.first_holding.result c.first_holding.ensures.place c.in_ok-number.was

pub returns-clause-number : goal.returns-clause-number
returns-clause-number c =
    IsClassOf-number _ _ (place_is_class _ _ c.first_holding.result c.first_holding.ensures.place c.in_ok-number.was)

pub returns-clause-none : goal.returns-clause-none
returns-clause-none c =
    let small = IsClassOf-small _ _ (place_is_class _ _ c.first_holding.result c.first_holding.ensures.place c.in_ok-number.was) in
    (λ e. cc, λ h. absurd (omega (arith, small)))

pub returns-in_err-number-clause-none : goal.returns-in_err-number-clause-none
returns-in_err-number-clause-none c =
    rw c.from_residual.ensures (λ _. no_place _ _ c.first_holding.ensures.place c.in_err-number.was, λ _. refl)
