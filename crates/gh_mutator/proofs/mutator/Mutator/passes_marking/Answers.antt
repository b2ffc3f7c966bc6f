use Rattle.std.proofs.Common.{ap, sym, subst, ◌∙◌}
use Rattle.gh_mutator.proofs.Vocabulary.{goes, Mutating, Op, Processor, SoundMutating}
use Rattle.gh_mutator.specs.Mutating.{begins}
use Rattle.gh_mutator.proofs.mutator.Mutator.passes_marking.Goals as goal

pub returns-clause-passed : goal.returns-clause-passed
returns-clause-passed c = λ is.
    ap (λ (p : Processor). record { shapes = c.self.inside.shapes.now; processor = p; marks = c.self.inside.marks }) (c.passes_marking.ensures.passed is c.self.inside.shapes.now)
    ∙ ap (λ (m : Mutating). goes c.args.layout.now (begins m Op.Poll) c.args.found) c.self.view_is

pub returns-clause-sound : goal.returns-clause-sound
returns-clause-sound c =
    let was = subst (λ (m : Mutating). SoundMutating c.args.layout.now m.shapes m.processor) (sym c.self.view_is) c.requires.sound in
    record { polls = c.passes_marking.ensures.polls; sound = c.passes_marking.ensures.sound c.self.inside.shapes.now was.sound }
