use Rattle.gh_soak.proofs.Acting.{leaves}
use Rattle.gh_soak.proofs.laws.runs_leave_their_heap.Goals as goal

pub returns : goal.returns
returns c = λ p l es o x never. leaves p l es o x never
