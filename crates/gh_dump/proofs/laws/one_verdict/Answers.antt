use Rattle.gh_dump.proofs.Ended.{accepted_short, cut}
use Rattle.gh_dump.proofs.Verdicts.{not_both, one_count, one_fault, some_verdict}
use Rattle.gh_dump.proofs.laws.one_verdict.Goals as goal

pub returns : goal.returns
returns c = record { some = some_verdict; not_both = not_both; one_count = one_count; one_fault = one_fault; short = accepted_short; cut = cut }
