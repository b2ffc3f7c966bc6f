use Rattle.gh_wbuf.specs.RoomFinding.{transitions}
use Rattle.gh_room.proofs.Rounds.{searches_alone}
use Rattle.gh_room.proofs.laws.searches_alone_find.Goals as goal

pub returns : goal.returns
returns c = searches_alone (λ l. c.steps_are_folded.ensures (transitions l))
