use Rattle.std.proofs.Common.{sym, ◌∙◌}
use Rattle.gh_replay.proofs.Vocabulary.{actors_of, seen_of, with_actor_ended}
use Rattle.gh_replay.proofs.Others.{in_first, in_second}
use Rattle.gh_replay.proofs.place.in_turn_else.Goals as goal

pub returns-in-Some : goal.returns-in-Some
returns-in-Some c = in_first (with_actor_ended c.args.actor (seen_of c.args.world.now)).ended (actors_of c.args.world.now) c.actors.result c.args.next c.actors.ensures.are c.in-Some.other (sym c.first_other.ensures ∙ c.in-Some.is)

pub returns-in-None : goal.returns-in-None
returns-in-None c = in_second (with_actor_ended c.args.actor (seen_of c.args.world.now)).ended (actors_of c.args.world.now) c.actors.result c.args.next c.actors.ensures.are c.first_other-in-None.result (sym c.first_other.ensures ∙ c.in-None.is) c.first_other-in-None.ensures
