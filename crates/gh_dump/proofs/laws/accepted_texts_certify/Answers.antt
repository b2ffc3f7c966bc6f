use Rattle.gh_dump.proofs.Verdicts.{accepted_certifies}
use Rattle.gh_dump.proofs.laws.accepted_texts_certify.Goals as goal

pub returns : goal.returns
returns c = accepted_certifies
