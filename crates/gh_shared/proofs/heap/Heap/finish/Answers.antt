use Rattle.std.proofs.Common.{arith, refl}
use Rattle.gh_shared.proofs.Vocabulary.{Op}
use Rattle.gh_shared.proofs.Ready.{ends_so}
use Rattle.gh_shared.proofs.Answering.{one_step_served}
use Rattle.gh_shared.proofs.heap.Heap.finish.Goals as goal

pub operate-requires-clause-ends : goal.operate-requires-clause-ends
operate-requires-clause-ends c = ends_so c.args.h.now.hand.machine (Op.End c.args.g) 1 c.operations_end.ensures c.requires.going.processor refl (λ b. omega arith)

pub returns-clause-room : goal.returns-clause-room
returns-clause-room c = (one_step_served c.args.self.now (Op.End c.args.g) c.args.h.now _ _ c.operate.ensures.founds (λ shapes m. (tt, refl)) c.requires.going.processor c.operate.ensures.did).0

pub returns-clause-answer : goal.returns-clause-answer
returns-clause-answer c = (one_step_served c.args.self.now (Op.End c.args.g) c.args.h.now _ _ c.operate.ensures.founds (λ shapes m. (tt, refl)) c.requires.going.processor c.operate.ensures.did).1
