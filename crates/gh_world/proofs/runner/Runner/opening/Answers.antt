use Rattle.std.proofs.Common.{List, ap, subst, sym}
use Rattle.gh_world.proofs.Vocabulary.{Mutating, Shape, SoundMutating}
use Rattle.gh_world.proofs.runner.Runner.opening.Goals as goal

pub returns-clause-sound : goal.returns-clause-sound
returns-clause-sound c l lt = subst (λ (shapes : List Shape). SoundMutating l shapes c.new.result.processor) (sym (ap (λ (m : Mutating). m.shapes) c.new.ensures.is)) (c.new.ensures.sound l lt)
