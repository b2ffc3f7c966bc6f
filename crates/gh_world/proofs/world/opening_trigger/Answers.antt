use Rattle.std.proofs.Common.{ℕ, ap, ◌∙◌}
use Rattle.gh_world.proofs.Vocabulary.{Settings}
use Rattle.gh_coord.specs.Pacing.{first_trigger}
use Rattle.gh_world.proofs.world.opening_trigger.Goals as goal

pub returns : goal.returns
returns c =
    let p = c.args.script.now in
    let l = c.args.layout.now in
    c.first_trigger.ensures ∙ ap (λ (s : Settings). first_trigger l.globals l.goroutines s.gogc s.minheap) c.settings-settings.ensures
    ∙ ap (λ (n : ℕ). first_trigger n l.goroutines p.settings.gogc p.settings.minheap) c.requires.globals_are ∙ ap (λ (n : ℕ). first_trigger p.settings.globals n p.settings.gogc p.settings.minheap) c.requires.goroutines_are
