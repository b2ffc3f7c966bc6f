use Rattle.std.proofs.Common.{ap, ◌∙◌}
use Rattle.gh_mutator.proofs.Vocabulary.{answered, applied, Global, held_behind, keeping, register_of, stage_of, Step, Task}
use Rattle.gh_mutator.proofs.Tasks.{answered_global, direct_goes}
use Rattle.gh_mutator.proofs.processor.Processor.take_direct.Goals as goal

pub returns-clause-goes : goal.returns-clause-goes
returns-clause-goes c = λ shapes.
    let m = c.args.self.now in
    let x = c.args.x in
    c.apply.ensures.goes ∙ direct_goes c.args.layout.now m x.g x.r c.args.found x.stage c.step-step.result ∙ ap (λ (s : Step Global). applied Task.Global (keeping m (held_behind c.args.layout.now m.poll.local.held (stage_of x.stage) c.args.found)) x.g x.r s) (c.step-step.ensures (register_of m x.g x.r))

pub returns-clause-gives : goal.returns-clause-gives
returns-clause-gives c =
    let m = c.args.self.now in
    let x = c.args.x in
    c.apply.ensures.gives ∙ answered_global c.step-step.result.then ∙ ap (λ (s : Step Global). answered s.then) (c.step-step.ensures (register_of m x.g x.r))
