use Rattle.std.proofs.Common.{Err, ap, ◌∙◌}
use Rattle.gh_top.proofs.finding.verified.Goals as goal

pub returns-in-Err-Dump-clause-found : goal.returns-in-Err-Dump-clause-found
returns-in-Err-Dump-clause-found c = c.verify.ensures.refused c.in-Err-Dump.fault (c.in-Err-Dump.is ∙ ap (λ x. Err x) c.in-Err-Dump.field-0-is)
