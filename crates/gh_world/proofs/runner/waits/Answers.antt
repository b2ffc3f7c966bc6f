use Rattle.std.proofs.Common.{ap, ◌∙◌, slice_index}
use Rattle.gh_world.proofs.AtOnce.{loads_only}
use Rattle.gh_world.proofs.runner.waits.Goals as goal

pub word-word-requires : goal.word-word-requires
word-word-requires c = c.in-Some.ensures.within c.args.layout.now

pub returns-in-Some-clause-made : goal.returns-in-Some-clause-made
returns-in-Some-clause-made c waits =
    loads_only c.args.layout.now c.args.words.now c.args.mutator.now _ c.in-Some.cell _ (c.in-Some.ensures.asks c.args.layout.now) (c.in-Some.ensures.within c.args.layout.now)
    (c.word_at.ensures ∙ ap (slice_index c.args.words.now) c.word-word.ensures.at) (c.waits.ensures.made waits)
