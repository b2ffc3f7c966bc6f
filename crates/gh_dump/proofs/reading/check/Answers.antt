use Rattle.gh_dump.proofs.Ended.{too_long}
use Rattle.gh_dump.proofs.reading.check.Goals as goal

pub returns-then-text-gt-MOST_DUMP_BYTES : goal.returns-then-text-gt-MOST_DUMP_BYTES
returns-then-text-gt-MOST_DUMP_BYTES c = too_long c.args.text.now c.if-text-gt-MOST_DUMP_BYTES.true
