use Rattle.std.specs.Prelude.{vec_len}
use Rattle.gh_gate.proofs.start.+each.Given as goal

abbrev pub decreases-each : goal.decreases-each
decreases-each g l = vec_len l.jobs.now
