use Rattle.gh_room.proofs.Enough.{some_has_room}
use Rattle.gh_room.proofs.laws.some_buffer_has_room.Goals as goal

pub returns : goal.returns
returns c = some_has_room
