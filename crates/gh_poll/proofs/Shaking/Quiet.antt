-- What a poll and a leave run beside their own steps writes no word of the handshake: by its stages.
use Rattle.std.proofs.Common.{arith}
use Rattle.gh_poll.proofs.Vocabulary.{MarkingIsQuiet, WhatPollsRunIsQuiet}

pub is_quiet : MarkingIsQuiet → WhatPollsRunIsQuiet
is_quiet q = record { gives_back = grind arith; marks_a_stack = grind arith }
