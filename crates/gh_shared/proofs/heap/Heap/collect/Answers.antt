use Rattle.gh_shared.proofs.Answering.{gc_served}
use Rattle.gh_shared.proofs.heap.Heap.collect.Goals as goal

pub returns-clause-answer : goal.returns-clause-answer
returns-clause-answer g c = gc_served c.args.self.now c.args.g c.args.h.now _ _ c.operate_on.ensures.0 c.requires.going.processor c.operate_on.ensures.1
