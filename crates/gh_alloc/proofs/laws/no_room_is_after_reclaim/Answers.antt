use Rattle.gh_alloc.proofs.Seeking.Rounds.{no_room_is_true}
use Rattle.gh_alloc.proofs.laws.no_room_is_after_reclaim.Goals as goal

pub returns : goal.returns
returns c = no_room_is_true
