use Rattle.gh_shared.proofs.Ready.{has_room_then}
use Rattle.gh_shared.proofs.heap.Heap.poll.Goals as goal

pub returns-clause-room : goal.returns-clause-room
returns-clause-room g c =
    let h = c.args.h.now in
    let new = c.operate_on.new.h in
    let did = c.operate_on.ensures in
    has_room_then h.hand.seat.me.0.plan.layout h.hand.machine.actor new.hand.machine.actor did.0 c.polls_make_room.ensures c.requires.processor did.1.ran.machine (λ m e. (new.kept.rests m e).idle)
