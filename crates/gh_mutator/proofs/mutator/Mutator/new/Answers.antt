use Rattle.gh_mutator.proofs.Soundness.{opening_sound}
use Rattle.gh_mutator.proofs.mutator.Mutator.new.Goals as goal

pub returns-clause-sound : goal.returns-clause-sound
returns-clause-sound c = λ l there. record { polls = c.opening.ensures.polls l there; sound = rw (c.opening.ensures.is) (opening_sound l c.args.shapes.now c.args.seat) }
