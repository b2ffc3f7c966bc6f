use Rattle.std.proofs.Common.{sym, subst, rules}
use Rattle.gh_mutator.proofs.Vocabulary.{SoundWanted, Wanted}
use Rattle.gh_mutator.proofs.ClassFacts.{ClassLaws, wanted_sound}
use Rattle.gh_mutator.proofs.processor.Processor.begin_new.Goals as goal

pub seeking-search-requires : goal.seeking-search-requires
seeking-search-requires c =
    let laws : ClassLaws = search rules in
    record { polls = c.requires.polls; wanted = subst (λ (w : Wanted). SoundWanted c.args.shapes.now w) (sym c.of-wanted.ensures) (wanted_sound laws c.args.shapes.now c.args.g c.args.d c.args.t c.requires.fit c.requires.there c.requires.register) }
