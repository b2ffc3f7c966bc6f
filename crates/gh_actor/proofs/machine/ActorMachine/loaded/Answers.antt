use Rattle.std.proofs.Common.{◌≡◌, ◌∙◌, ap, sym}
use Rattle.gh_actor.proofs.Vocabulary.{Acting, Layout, Mutating, rested, Runs}
use Rattle.gh_mutator.specs.Processor.{set_register}
use Rattle.gh_actor.proofs.machine.ActorMachine.loaded.Goals as goal
use Rattle.gh_actor.proofs.machine.ActorMachine.loaded.Goals.{in-Runs, in_default}

pub returns-clause-is : goal.returns-clause-is
returns-clause-is c m answer is = elim c.match-self.branch [
  | in-Runs w ↦
      let both : Runs w.in-Runs.processor ≡ Runs m = sym w.in-Runs.is ∙ (ap (λ (x : Acting). x.actor) c.self.view_is ∙ is) in
      let same : w.in-Runs.processor ≡ m = cc in
      ap {B = Acting} (λ x. record { layout = x.layout; actor = x.actor }) w.self-inside-is
      ∙ ap {B = Acting} (λ (n : Mutating). record { layout = c.self.inside.layout; actor = Runs n }) (w.loaded.ensures.is answer ∙ ap (λ (n : Mutating). rested n (set_register n.processor c.args.g c.args.d c.args.found) answer) same)
      ∙ ap {B = Acting} (λ (l : Layout). record { layout = l; actor = Runs (rested m (set_register m.processor c.args.g c.args.d c.args.found) answer) }) (ap (λ (x : Acting). x.layout) c.self.view_is)
  | in_default w ↦ absurd (w.in_default.not-Runs m (ap (λ (x : Acting). x.actor) c.self.view_is ∙ is))
]
