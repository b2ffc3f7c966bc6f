use Rattle.gh_lists.proofs.Changes.{change, rise}
use Rattle.gh_lists.proofs.CycleNumbers.Lists.{holds}
use Rattle.gh_lists.proofs.numbers.every_step_changes_numbers.Goals as goal

pub returns-clause-changes : goal.returns-clause-changes
returns-clause-changes c setup e es legal few =
    change setup c.a_processor_writes_its_own.ensures c.a_worker_writes_its_own.ensures (c.every_list_keeps_the_handshake.ensures setup) e es legal few

pub returns-clause-rises : goal.returns-clause-rises
returns-clause-rises c setup e es legal few =
    rise setup c.a_processor_writes_its_own.ensures c.a_worker_writes_its_own.ensures (c.every_list_keeps_the_handshake.ensures setup) e es legal few

pub returns-clause-numbers : goal.returns-clause-numbers
returns-clause-numbers c setup es lead legal few led =
    (holds setup c.a_processor_writes_its_own.ensures c.a_worker_writes_its_own.ensures (c.every_list_keeps_the_handshake.ensures setup) es legal few lead led).at
