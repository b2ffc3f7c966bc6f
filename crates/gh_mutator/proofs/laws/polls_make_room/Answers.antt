use Rattle.gh_mutator.proofs.PollRoom.{polls_make_room}
use Rattle.gh_mutator.proofs.laws.polls_make_room.Goals as goal

pub returns : goal.returns
returns c = polls_make_room
