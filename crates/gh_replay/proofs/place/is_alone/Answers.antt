use Rattle.std.proofs.Common.{sym, ◌∙◌}
use Rattle.gh_replay.proofs.Vocabulary.{seen_of, with_actor_ended}
use Rattle.gh_replay.proofs.Others.{all_out, some_in}
use Rattle.gh_replay.proofs.place.is_alone.Goals as goal

pub returns-in-Some : goal.returns-in-Some
returns-in-Some c = sym (some_in (with_actor_ended c.args.actor (seen_of c.args.world.now)) c.actors.result _ c.actors.ensures.are (sym c.first_other.ensures ∙ c.in-Some.is))

pub returns-in-None : goal.returns-in-None
returns-in-None c = sym (all_out (with_actor_ended c.args.actor (seen_of c.args.world.now)) c.actors.result c.actors.ensures.are (sym c.first_other.ensures ∙ c.in-None.is))
