use Rattle.gh_mutator_writes.proofs.Writing.Laws.{writes_its_own}
use Rattle.gh_mutator_writes.proofs.laws.a_processor_writes_its_own.Goals as goal

pub returns : goal.returns
returns c = writes_its_own c.cells_are_told.ensures c.objects_ask_at_the_trigger.ensures c.assists_are_quiet.ensures c.assists_pay.ensures c.the_processor_keeps_the_handshake.ensures
