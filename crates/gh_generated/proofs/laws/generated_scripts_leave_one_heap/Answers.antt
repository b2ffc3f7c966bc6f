use Rattle.gh_generated.proofs.Vocabulary.{generated_program}
use Rattle.gh_generated.proofs.Ordered.{operations_kept}
use Rattle.gh_generated.proofs.laws.generated_scripts_leave_one_heap.Goals as goal

pub returns : goal.returns
unfolding generated_program
returns c = λ seed size one other a b. c.goroutines_apart_leave_one_heap.ensures (generated_program seed size) one other (λ g lt. operations_kept (generated_program seed size) g (c.generated_goroutines_keep_apart.ensures seed size g lt)) a b
