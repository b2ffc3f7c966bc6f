-- The routines of marking write no word of the handshake: by their stages.
use Rattle.std.proofs.Common.{arith}
use Rattle.gh_scan.specs.Quiet.{MarkingIsQuiet}

pub is_quiet : MarkingIsQuiet
is_quiet = grind arith
