use Rattle.std.proofs.Common.{arith, refl}
use Rattle.gh_shared.proofs.Vocabulary.{Op}
use Rattle.gh_shared.proofs.Ready.{ends_so}
use Rattle.gh_shared.proofs.Answering.{global_load_served}
use Rattle.gh_shared.proofs.heap.Heap.get_global.Goals as goal

pub operate-requires-clause-ends : goal.operate-requires-clause-ends
operate-requires-clause-ends c = ends_so c.args.h.now.hand.machine (Op.GetGlobal c.args.g c.args.d c.args.k) 2 c.operations_end.ensures c.requires.going.processor refl (λ b. omega arith)

pub returns-clause-room : goal.returns-clause-room
returns-clause-room c = (global_load_served c.args.self.now c.args.g c.args.d c.args.k c.args.h.now _ _ c.operate.ensures.founds c.requires.going.processor c.operate.ensures.did).0

pub returns-clause-answer : goal.returns-clause-answer
returns-clause-answer c = (global_load_served c.args.self.now c.args.g c.args.d c.args.k c.args.h.now _ _ c.operate.ensures.founds c.requires.going.processor c.operate.ensures.did).1
