use Rattle.std.proofs.Common.{arith}
use Rattle.gh_ever.proofs.Vocabulary.{Field}
use Rattle.gh_ever.proofs.Reading.{found_known}
use Rattle.gh_ever.proofs.kept.Kept.field.Goals as goal

pub returns-in-Some-clause-known : goal.returns-in-Some-clause-known
returns-in-Some-clause-known c = found_known c.self.inside c.args.self.now (Field c.args.n c.args.k) _ c.self.view_is c.self.invariant (grind arith)
