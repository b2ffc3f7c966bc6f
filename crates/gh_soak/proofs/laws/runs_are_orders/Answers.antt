use Rattle.gh_soak.proofs.Acting.{is_order}
use Rattle.gh_soak.proofs.laws.runs_are_orders.Goals as goal

pub returns : goal.returns
returns c = λ p l es o out x. is_order p l es o out x
