use Rattle.gh_dump.specs.Items.{items_of}
use Rattle.gh_dump.proofs.reading.verdict.Given as goal

abbrev pub ghost-first_cause : goal.ghost-first_cause
ghost-first_cause a = items_of a.text.now
