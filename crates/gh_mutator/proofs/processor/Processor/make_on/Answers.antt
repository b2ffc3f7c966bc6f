use Rattle.std.proofs.Common.{ap, sym, subst, ◌∙◌}
use Rattle.gh_mutator.proofs.Vocabulary.{is_made_further, Processor, Sound, task_kept}
use Rattle.gh_mutator.proofs.Tasks.{makes_kept}
use Rattle.gh_mutator.proofs.processor.Processor.make_on.Goals as goal

pub returns-else-acts-clause-sound : goal.returns-else-acts-clause-sound
returns-else-acts-clause-sound g c =
    let m : Processor = record { poll = c.self.inside.poll; made = c.self.inside.made; task = task_kept c.self.inside.at c.self.inside.large } in
    let s : Sound c.args.layout.now c.args._shapes.now m = subst (λ (p : Processor). Sound c.args.layout.now c.args._shapes.now p) (sym c.self.view_is) c.requires.sound in
    let further = ap (λ (p : Processor). is_made_further p.task) c.self.view_is ∙ c.requires.further in
    makes_kept c.args.layout.now c.args._shapes.now m c.self.inside.at c.in-New.new c.in-Place.place further (ap (task_kept c.self.inside.at) c.in-New.is) c.in-Place.is c.make_on.new.self _ c.make_on.ensures.goes c.make_on.ensures.sound s
