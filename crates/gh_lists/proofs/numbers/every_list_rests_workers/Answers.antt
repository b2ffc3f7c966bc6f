use Rattle.gh_lists.proofs.CycleNumbers.Resting.{rest}
use Rattle.gh_lists.proofs.numbers.every_list_rests_workers.Goals as goal

pub returns : goal.returns
returns c setup es legal =
    rest setup c.a_processor_writes_its_own.ensures c.calm_workers_mark_nothing.ensures (c.every_list_keeps_the_handshake.ensures setup) es legal
