use Rattle.std.proofs.Common.{ℕ, ◌%◌, List, length, ap, ◌∙◌, slice_get}
use Rattle.gh_replay.proofs.Vocabulary.{seen_of}
use Rattle.gh_replay.proofs.Others.{but, chosen_but}
use Rattle.gh_replay.proofs.place.who_else.Goals as goal

pub returns-in-Some-clause-who : goal.returns-in-Some-clause-who
returns-in-Some-clause-who c = chosen_but (seen_of c.args.world.now) c.args.actor c.args.next c.next_word.result c.in-Some.generator c.args.kept.now.items c.args.drawn.now c.chosen_else.result c.in-Some.is (ap (λ p. p.0) c.next_word.ensures) c.requires.kept
    (c.chosen_else.ensures ∙ ap (λ (xs : List ℕ). slice_get (but c.args.actor xs) (c.next_word.result % length (but c.args.actor xs))) c.deref.ensures.value)
