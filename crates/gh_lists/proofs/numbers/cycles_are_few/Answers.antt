use Rattle.gh_lists.proofs.CycleNumbers.Few.{few}
use Rattle.gh_lists.proofs.numbers.cycles_are_few.Goals as goal

pub returns : goal.returns
returns c setup seat_of counts begins es legal =
    few setup c.a_processor_writes_its_own.ensures c.a_worker_writes_its_own.ensures (c.every_list_keeps_the_handshake.ensures setup) seat_of counts begins (c.every_list_counts_wants.ensures setup) es legal
