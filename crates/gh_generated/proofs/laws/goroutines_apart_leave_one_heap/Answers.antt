use Rattle.gh_generated.proofs.Ordered.{apart_orders}
use Rattle.gh_generated.proofs.laws.goroutines_apart_leave_one_heap.Goals as goal

pub returns : goal.returns
returns c = λ p one other apart a b. apart_orders p one other apart a b
