use Rattle.std.proofs.Common.{ap, sym, subst}
use Rattle.gh_mutator.proofs.Vocabulary.{Processor, Sound, task_kept, TaskAt}
use Rattle.gh_mutator.proofs.Soundness.{waited}
use Rattle.gh_mutator.proofs.processor.Processor.waits.Goals as goal

pub returns-in-Gc-clause-sound : goal.returns-in-Gc-clause-sound
returns-in-Gc-clause-sound c = λ shapes s.
    let m : Processor = record { poll = c.self.inside.poll; made = c.self.inside.made; task = task_kept c.self.inside.at c.self.inside.large } in
    let was = subst (Sound c.args.layout.now shapes) (sym c.self.view_is) s in
    let wait = c.goes_on.ensures in
    waited c.args.layout.now shapes m c.in-Gc.field-0 c.in-Gc.wait c.goes_on.new.self c.goes_on.new.poll c.args.found c.goes_on.result was (ap (λ (a : TaskAt). task_kept a c.self.inside.large) c.in-Gc.is) wait.wait wait.poll wait.gives wait.stays
