use Rattle.std.proofs.Common.{arith}
use Rattle.gh_ever.proofs.Vocabulary.{Register}
use Rattle.gh_ever.proofs.Reading.{read_known}
use Rattle.gh_ever.proofs.kept.Kept.register.Goals as goal

pub returns-clause-known : goal.returns-clause-known
returns-clause-known c = read_known c.self.inside c.args.self.now (Register c.args.g c.args.d) _ c.self.view_is c.self.invariant (grind arith)
