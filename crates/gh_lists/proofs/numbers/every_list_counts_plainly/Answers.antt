use Rattle.gh_lists.proofs.CycleNumbers.Plainly.{plainly}
use Rattle.gh_lists.proofs.numbers.every_list_counts_plainly.Goals as goal

pub returns : goal.returns
returns c setup es lead legal few led =
    plainly setup c.a_processor_writes_its_own.ensures c.a_worker_writes_its_own.ensures (c.every_list_keeps_the_handshake.ensures setup) es lead legal few (c.every_list_counts_cycles.ensures setup es lead legal few led)
