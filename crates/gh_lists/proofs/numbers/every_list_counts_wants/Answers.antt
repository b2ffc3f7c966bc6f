use Rattle.gh_lists.proofs.CycleNumbers.Requests.{wants}
use Rattle.gh_lists.proofs.numbers.every_list_counts_wants.Goals as goal

pub returns : goal.returns
returns c setup es lead legal led =
    wants setup c.a_processor_writes_its_own.ensures c.a_worker_writes_its_own.ensures (c.every_list_keeps_the_handshake.ensures setup) es lead legal led
