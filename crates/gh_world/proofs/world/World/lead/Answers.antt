use Rattle.std.proofs.Common.{◌≡◌, true, ap, sym, subst, ◌∙◌}
use Rattle.gh_world.proofs.Vocabulary.{gives_nothing, request, SoundCoordinating, SoundOthers, State}
use Rattle.gh_coord.specs.Listing as coord
use Rattle.gh_world.proofs.Fitting.{fits_again, others_led}
use Rattle.gh_world.proofs.world.World.lead.Goals as goal

pub step_of_coordinator-out-requires-clause-busy : goal.step_of_coordinator-out-requires-clause-busy
step_of_coordinator-out-requires-clause-busy c = gives_nothing c.self.inside.coord.stage (ap (λ (w : State). coord.is_busy w.coord.stage) c.self.view_is ∙ c.requires)

pub invariant_of-self : goal.invariant_of-self
invariant_of-self c =
    let busy : coord.is_busy c.self.inside.coord.stage ≡ true = ap (λ (w : State). coord.is_busy w.coord.stage) c.self.view_is ∙ c.requires in
    record {
      base = fits_again _ _ _ _ (request c.self.inside.layout (coord.asks c.self.inside.layout c.self.inside.coord)) c.step_of_coordinator-out.ensures.words c.self.invariant.base;
      running = c.self.invariant.running;
      others = subst (λ (x : coord.Coordinating). SoundOthers c.self.inside.script.now c.self.inside.layout c.self.inside.workers.items x) (sym c.step_of_coordinator-out.ensures.machine) (others_led c.it_goes_on_until_done.ensures _ _ _ _ _ busy (subst (SoundCoordinating c.self.inside.layout) c.step_of_coordinator-out.ensures.machine c.step_of_coordinator-out.ensures.sound) c.self.invariant.others);
    }
