use Rattle.std.proofs.Common.{ap, sym, ◌∙◌}
use Rattle.gh_mutator.proofs.Vocabulary.{acts_at, is_point, Processor, register_of, Task}
use Rattle.gh_mutator.proofs.Tasks.{direct_is, point_direct}
use Rattle.gh_mutator.proofs.processor.Processor.is_point.Goals as goal

pub returns-in-Direct : goal.returns-in-Direct
returns-in-Direct c =
    let m = c.args.self.now in
    let x = c.in-Direct.x in
    c.acts-in-Direct.ensures c.args.layout.now (register_of m x.g x.r) c.args.found ∙ sym (point_direct c.args.layout.now m x c.args.found)
    ∙ ap (λ (t : Task). is_point (acts_at c.args.layout.now m t c.args.found)) (sym (direct_is m c.self.inside.at c.self.inside.large x (ap (λ (p : Processor). p.task) c.self.view_is) c.in-Direct.is))
