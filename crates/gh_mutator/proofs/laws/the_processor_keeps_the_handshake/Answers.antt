use Rattle.gh_mutator.proofs.Shaking.Processor.{processor_in_handshake}
use Rattle.gh_mutator.proofs.laws.the_processor_keeps_the_handshake.Goals as goal

pub returns : goal.returns
returns c = processor_in_handshake c.the_processor_is_quiet.ensures c.marking_is_quiet.ensures c.polls_keep_the_handshake.ensures c.waits_keep_the_handshake.ensures c.leaves_keep_the_handshake.ensures
