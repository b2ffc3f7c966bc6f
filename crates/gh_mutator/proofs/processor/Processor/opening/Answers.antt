use Rattle.std.proofs.Common.{sym, subst}
use Rattle.gh_mutator.proofs.Vocabulary.{SoundPolling}
use Rattle.gh_mutator.proofs.processor.Processor.opening.Goals as goal

pub returns-clause-polls : goal.returns-clause-polls
returns-clause-polls c = λ l there. subst (SoundPolling l) (sym c.resting.ensures) (record { seat = there; local = c.first-local.ensures.fits l; stage = tt })
