use Rattle.std.proofs.Common.{arith}
use Rattle.gh_world.proofs.Turning.{count-le, later_after, later_none}
use Rattle.gh_world.proofs.turns.next_turn.Goals as goal

pub returns-in-Some-first_turn-clause-come : goal.returns-in-Some-first_turn-clause-come
returns-in-Some-first_turn-clause-come c =
    let here = c.in-Some-first_turn.ensures.stands in
    later_after c.args.script.now c.args.seat c.args.round c.args.g c.in-Some-first_turn.g (omega (arith, here.1.going, count-le c.args.script.now c.in-Some-first_turn.g here.1.there)) c.in_default.ensures.turns c.in-Some-first_turn.ensures.turns

pub returns-in-None-clause-come : goal.returns-in-None-clause-come
returns-in-None-clause-come c = later_none c.args.script.now c.args.seat c.args.round c.args.g c.in_default.ensures.turns c.in-None.ensures.turns
