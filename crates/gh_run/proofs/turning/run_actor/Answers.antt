use Rattle.std.proofs.Common.{◌≡◌, ◌∙◌, false, sym, true}
use Rattle.gh_run.proofs.Starting.{processor_else}
use Rattle.gh_run.proofs.turning.run_actor.Goals as goal

pub take_turns-requires-clause-processor : goal.take_turns-requires-clause-processor
take_turns-requires-clause-processor g c =
    processor_else _ (λ is. let yes = c.is_worker.ensures.1 is in absurd (let never : true ≡ false = sym yes ∙ c.if-is_worker.false in cc))
    (λ is. let yes = c.is_coordinator.ensures.1 is in absurd (let never : true ≡ false = sym yes ∙ c.if-is_coordinator.false in cc))
