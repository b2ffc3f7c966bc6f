use Rattle.gh_world.proofs.OfScripts.{have_room}
use Rattle.gh_world.proofs.laws.cycles_have_room.Goals as goal

pub returns : goal.returns
returns c p l es formed lays legal = have_room p l formed lays c.cycles_are_few.ensures c.processors_begin_few.ensures es legal
