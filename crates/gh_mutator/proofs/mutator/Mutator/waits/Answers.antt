use Rattle.std.proofs.Common.{sym, subst}
use Rattle.gh_mutator.proofs.Vocabulary.{Mutating, SoundMutating}
use Rattle.gh_mutator.proofs.mutator.Mutator.waits.Goals as goal

pub returns-clause-sound : goal.returns-clause-sound
returns-clause-sound c =
    let was = subst (λ (m : Mutating). SoundMutating c.args.layout.now m.shapes m.processor) (sym c.self.view_is) c.requires.sound in
    record { polls = c.waits.ensures.polls; sound = c.waits.ensures.sound c.self.inside.shapes.now was.sound }
