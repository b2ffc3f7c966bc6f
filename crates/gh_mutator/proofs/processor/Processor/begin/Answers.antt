use Rattle.std.proofs.Common.{rules, sym, subst}
use Rattle.gh_mutator.proofs.Vocabulary.{Processor, Sound}
use Rattle.gh_mutator.proofs.ClassFacts.{ClassLaws}
use Rattle.gh_mutator.proofs.Soundness.{begins_global, begins_new}
use Rattle.gh_mutator.proofs.processor.Processor.begin.Goals as goal

pub returns-in-New-clause-sound : goal.returns-in-New-clause-sound
returns-in-New-clause-sound c =
    let laws : ClassLaws = search rules in
    subst (λ (m : Processor). Sound c.args.layout.now c.args.shapes.now m) (sym c.begin_new.ensures) (begins_new c.args.layout.now c.args.shapes.now laws c.args.self.now c.in-New.g c.in-New.d c.in-New.t c.requires.fit (search rules) (search rules) (search rules) c.requires.polls c.requires.sound)

pub returns-in-SetGlobal-clause-sound : goal.returns-in-SetGlobal-clause-sound
returns-in-SetGlobal-clause-sound c =
    subst (λ (m : Processor). Sound c.args.layout.now c.args.shapes.now m) (sym c.begin_set_global.ensures) (begins_global c.args.layout.now c.args.shapes.now c.args.self.now c.in-SetGlobal.g c.in-SetGlobal.k c.in-SetGlobal.v (search rules) (search rules) c.requires.polls c.requires.sound)
