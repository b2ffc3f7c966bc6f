use Rattle.std.proofs.Common.{ap, sym, ◌∙◌, subst, Some}
use Rattle.gh_mutator.proofs.Vocabulary.{has_left_at, Idle, is_busy, Mutating, Processor, register_fits, Sound, SoundMutating, Task, with_register_value}
use Rattle.gh_mutator.proofs.Changes.{taken}
use Rattle.gh_mutator.proofs.Idle.{idle_is}
use Rattle.gh_mutator.proofs.mutator.Mutator.loaded.Goals as goal

pub returns-clause-sound : goal.returns-clause-sound
returns-clause-sound c =
    let l = c.args.layout.now in
    let m = c.self.inside.processor in
    let v = c.args.found in
    let was = subst (λ (x : Mutating). SoundMutating l x.shapes x.processor) (sym c.self.view_is) c.requires.sound in
    let idle = idle_is m.task (ap is_busy c.self.view_is ∙ c.requires.idle) (ap (λ (x : Mutating). has_left_at x.processor.task) c.self.view_is ∙ c.requires.there) in
    let sound = taken l c.self.inside.shapes.now m c.args.g c.args.d (Some v) Idle was.sound c.requires.near tt in
    let still = subst (λ (t : Task). Sound l c.self.inside.shapes.now (record { poll = with_register_value m.poll c.args.g c.args.d v; made = m.made; task = t })) (sym idle) sound in
    subst (λ (p : Processor). SoundMutating l c.self.inside.shapes.now p) (sym c.set_register.ensures) (record { polls = register_fits l m.poll c.args.g c.args.d v was.polls; sound = still })
