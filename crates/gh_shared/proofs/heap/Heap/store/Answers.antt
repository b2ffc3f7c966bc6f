use Rattle.std.proofs.Common.{arith, refl}
use Rattle.gh_shared.proofs.Vocabulary.{Op}
use Rattle.gh_shared.proofs.Faults.{fault_leaves_all}
use Rattle.gh_shared.proofs.Ready.{either_few, ends_so}
use Rattle.gh_shared.proofs.Answering.{store_served}
use Rattle.gh_shared.proofs.heap.Heap.store.Goals as goal

pub operate-requires-clause-ends : goal.operate-requires-clause-ends
operate-requires-clause-ends c = ends_so c.args.h.now.hand.machine (Op.Store c.args.g c.args.b c.args.k c.args.v) 10 c.operations_end.ensures c.requires.going.processor refl (either_few 10 3 10 (omega arith) (omega arith))

pub returns-clause-fault : goal.returns-clause-fault
returns-clause-fault c =
    let h = c.args.h.now in
    let did = c.operate.ensures in
    fault_leaves_all c.args.self.now (Op.Store c.args.g c.args.b c.args.k c.args.v) h _ _ did.founds c.faults_change_nothing.ensures h.kept.rests c.requires.going.going did.did c.requires.going.processor

pub returns-clause-room : goal.returns-clause-room
returns-clause-room c = (store_served c.args.self.now c.args.g c.args.b c.args.k c.args.v c.args.h.now _ _ c.operate.ensures.founds c.requires.going.processor c.operate.ensures.did).0

pub returns-clause-answer : goal.returns-clause-answer
returns-clause-answer c = (store_served c.args.self.now c.args.g c.args.b c.args.k c.args.v c.args.h.now _ _ c.operate.ensures.founds c.requires.going.processor c.operate.ensures.did).1
