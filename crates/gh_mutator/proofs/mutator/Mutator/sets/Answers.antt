use Rattle.std.proofs.Common.{◌≡◌, ℕ, refl, ap, sym, subst, ◌∙◌}
use Rattle.gh_mutator.proofs.Vocabulary.{Idle, is_busy, Mutating, Processor, register_fits, set_register, Sound, SoundMutating, SoundPolling, Value}
use Rattle.gh_mutator.specs.Register.{begins}
use Rattle.gh_mutator.specs.declared.register.Source.TheVariants.{Int, Move, Nil}
use Rattle.gh_mutator.proofs.Idle.{idle_is}
use Rattle.gh_mutator.proofs.Soundness.{set_sound}
use Rattle.gh_mutator.proofs.mutator.Mutator.sets.Goals as goal
use Rattle.gh_mutator.proofs.mutator.Mutator.sets.Goals.{in-Int, in-Move, in-Nil}

-- The last return: what is known of the processor, by the statement.
pub returns-clause-sound : goal.returns-clause-sound
returns-clause-sound c =
    let l = c.args.layout.now in
    let m = c.self.inside.processor in
    let was = subst (λ (x : Mutating). SoundMutating l x.shapes x.processor) (sym c.self.view_is) c.requires.sound in
    let idle : m.task ≡ Idle = idle_is m.task (ap is_busy c.self.view_is ∙ c.requires.idle) (sym c.has_left.ensures ∙ c.if-has_left.false) in
    let now = λ (v : ℕ × ℕ × Value). set_register m v.0 v.1 v.2 in
    let so = λ (p : Processor). Sound l c.self.inside.shapes.now p in
    record {
      polls = subst (λ (p : Processor). SoundPolling l p.poll) (sym c.set_register.ensures) (register_fits l m.poll _ _ _ was.polls);
      sound = elim c.match-op.branch [
        | in-Int w ↦ subst so (sym (c.set_register.ensures ∙ ap now w.g-is)) (set_sound l _ m _ (begins w.in-Int.g w.in-Int.d (Int w.in-Int.n)) was.sound idle refl)
        | in-Move w ↦ subst so (sym (c.set_register.ensures ∙ ap now w.g-is ∙ ap (set_register m w.in-Move.g w.in-Move.d) w.register.ensures)) (set_sound l _ m _ (begins w.in-Move.g w.in-Move.d (Move w.in-Move.s)) was.sound idle refl)
        | in-Nil w ↦ subst so (sym (c.set_register.ensures ∙ ap now w.g-is)) (set_sound l _ m _ (begins w.in-Nil.g w.in-Nil.d Nil) was.sound idle refl)
      ];
    }
