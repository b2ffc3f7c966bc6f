use Rattle.std.proofs.Common.{ap, sym, subst, ◌∙◌}
use Rattle.gh_mutator.proofs.Vocabulary.{goes, Mutating, Op, Processor, SoundMutating}
use Rattle.gh_mutator.specs.Mutating.{begins}
use Rattle.gh_mutator.proofs.mutator.Mutator.passes.Goals as goal

pub returns-clause-passed : goal.returns-clause-passed
returns-clause-passed c = λ is l.
    ap (λ (p : Processor). record { shapes = c.self.inside.shapes.now; processor = p; marks = c.self.inside.marks }) (c.passes.ensures.passed is l c.self.inside.shapes.now)
    ∙ ap (λ (m : Mutating). goes l (begins m Op.Poll) c.args.found) c.self.view_is

pub returns-clause-sound : goal.returns-clause-sound
returns-clause-sound c = λ l s.
    let was = subst (λ (m : Mutating). SoundMutating l m.shapes m.processor) (sym c.self.view_is) s in
    record { polls = c.passes.ensures.polls l was.polls; sound = c.passes.ensures.sound l c.self.inside.shapes.now was.sound }
