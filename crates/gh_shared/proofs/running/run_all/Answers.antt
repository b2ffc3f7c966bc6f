use Rattle.std.proofs.Common.{ap, arith, length}
use Rattle.gh_shared.proofs.Runners.{as_many, ran_are_of}
use Rattle.gh_shared.specs.Handles.{IsHandleOf}
use Rattle.gh_shared.proofs.running.run_all.Goals as goal

pub gathered-requires-clause-of : goal.gathered-requires-clause-of
gathered-requires-clause-of g c = ran_are_of c.args.heap.now c.in_ok-runners.runners.items c.in-Ok.done.items c.in_ok-runners.ensures.of c.in-Ok.ensures.ran

pub gathered-requires-clause-room : goal.gathered-requires-clause-room
gathered-requires-clause-room g c =
    let same = as_many (λ j. IsHandleOf j.heap.now j.handle) (λ j. j.heap.now) c.in_ok-runners.runners.items c.in-Ok.done.items c.in-Ok.ensures.ran in
    let none = ap length c.in_ok-room.ensures.items in
    let exact = c.in_ok-room.ensures.exact in
    let few = c.in_ok-runners.ensures.many in
    let seats = c.actors-many.ensures in
    omega (arith, same, none, exact, few, seats)
