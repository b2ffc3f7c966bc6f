use Rattle.std.proofs.Common.{arith}
use Rattle.gh_ever.proofs.Vocabulary.{Global}
use Rattle.gh_ever.proofs.Reading.{read_known}
use Rattle.gh_ever.proofs.kept.Kept.global.Goals as goal

pub returns-clause-known : goal.returns-clause-known
returns-clause-known c = read_known c.self.inside c.args.self.now (Global c.args.k) _ c.self.view_is c.self.invariant (grind arith)
