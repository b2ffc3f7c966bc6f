use Rattle.std.proofs.Common.{ap}
use Rattle.gh_ever.proofs.Vocabulary.{ever_of, Lists}
use Rattle.gh_ever.proofs.kept.Kept.pass.Goals as goal

pub returns-clause-after : goal.returns-clause-after
unfolding ever_of
returns-clause-after c = ap (λ (l : Lists). ever_of l) c.self.view_is
