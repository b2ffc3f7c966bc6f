use Rattle.std.proofs.Common.{◌≡◌}
use Rattle.gh_replay.proofs.Vocabulary.{seen_of, with_actor_ended}
use Rattle.gh_replay.proofs.Others.{first_within}
use Rattle.gh_replay.proofs.place.first_other.Given as goal

abbrev pub invariant-loop-other : goal.invariant-loop-other
invariant-loop-other l = first_within (with_actor_ended l.actor (seen_of l.world)).ended l.other l.high ≡ first_within (with_actor_ended l.actor (seen_of l.world)).ended l.fn.low l.high
