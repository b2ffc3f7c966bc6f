use Rattle.std.proofs.Common.{◌∙◌, ap}
use Rattle.gh_ever.proofs.Vocabulary.{ever_of, Lists}
use Rattle.gh_ever.proofs.Empty.{opens}
use Rattle.gh_ever.proofs.ever.Ever.open.Goals as goal

pub returns-clause-opening : goal.returns-clause-opening
returns-clause-opening c = ap (λ (l : Lists). ever_of l) c.in_ok-kept.ensures ∙ opens c.args.shapes c.args.left.items
