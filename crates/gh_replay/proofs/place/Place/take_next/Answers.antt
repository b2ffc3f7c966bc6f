use Rattle.std.proofs.Common.{sym, ◌∙◌, arith}
use Rattle.gh_replay.proofs.Vocabulary.{seen_of, with_actor_ended}
use Rattle.gh_replay.proofs.Choosing.{behind_there}
use Rattle.gh_replay.proofs.place.Place.take_next.Goals as goal

pub behind-self-requires : goal.behind-self-requires
behind-self-requires c =
    let there = behind_there (with_actor_ended _ (seen_of c.args.world.now)) c.args.self.now.next c.in-Some.other c.args.self.now.drawn c.requires.next (sym c.who_else.ensures.who ∙ c.in-Some.is) in
    let low = there.0 in
    let known = c.requires.kept.actors in
    omega (arith, low, known)

pub behind-self-requires-in-Some-who_behind : goal.behind-self-requires-in-Some-who_behind
behind-self-requires-in-Some-who_behind c =
    let there = behind_there (seen_of c.args.world.now) c.args.self.now.next c.in-Some-who_behind.actor c.args.self.now.drawn c.requires.next (sym c.who_behind.ensures.who ∙ c.in-Some-who_behind.is) in
    let low = there.0 in
    let known = c.requires.kept.actors in
    omega (arith, low, known)
