use Rattle.gh_soak.proofs.Turns.{beyond_all, one_of_all}
use Rattle.gh_soak.proofs.laws.one_after_another_is_an_order.Goals as goal

pub returns : goal.returns
returns c = λ p. record { each = λ g lt. one_of_all p g lt; no_other = λ g le. beyond_all p g le }
