use Rattle.gh_lists.proofs.CycleNumbers.Stacks.{are_numbered, stack_goes}
use Rattle.gh_lists.proofs.numbers.every_list_numbers_stacks.Goals as goal

pub returns-clause-lists : goal.returns-clause-lists
returns-clause-lists c setup es legal few =
    are_numbered setup c.the_processor_keeps_the_handshake.ensures c.a_processor_writes_its_own.ensures (c.every_list_keeps_the_handshake.ensures setup)
    c.a_worker_writes_its_own.ensures (c.every_list_counts_cycles.ensures setup) es legal few

pub returns-clause-steps : goal.returns-clause-steps
returns-clause-steps c setup e es legal few g =
    stack_goes setup c.the_processor_keeps_the_handshake.ensures c.a_processor_writes_its_own.ensures (c.every_list_keeps_the_handshake.ensures setup)
    c.a_worker_writes_its_own.ensures (c.every_list_counts_cycles.ensures setup) e es legal few g
