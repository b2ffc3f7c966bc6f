use Rattle.std.proofs.Common.{refl, arith}
use Rattle.gh_pages.proofs.Vocabulary.{opening}
use Rattle.gh_pages.proofs.Carving.Looking.{finds}
use Rattle.gh_pages.proofs.laws.first_fit.Goals as goal

pub returns : goal.returns
returns c l seat generation span found some = let limits = l.limits.pages_fit.0 in finds l (opening seat generation span) found (omega arith) some refl
