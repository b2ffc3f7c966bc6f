-- The routines of allocation write no word of the handshake of a stop: by their stages.
use Rattle.std.proofs.Common.{arith}
use Rattle.gh_alloc.specs.Quiet.{AllocationIsQuiet}

pub is_quiet : AllocationIsQuiet
is_quiet = grind arith
