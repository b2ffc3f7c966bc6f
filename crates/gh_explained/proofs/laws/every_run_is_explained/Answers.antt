use Rattle.gh_explained.proofs.Explained.Top.{all_explained}
use Rattle.gh_explained.proofs.laws.every_run_is_explained.Goals as goal

pub returns : goal.returns
returns c =
    all_explained (record {
      every = c.every_run_stands.ensures.lists;
      each = c.each_operation_acts_once.ensures;
      points = c.only_points_change.ensures;
      writes = c.a_processor_writes_its_own.ensures;
      works = c.a_worker_writes_its_own.ensures;
      keeps = c.every_list_keeps_the_handshake.ensures;
      changes = c.every_step_changes_numbers.ensures.changes;
      rises = c.every_step_changes_numbers.ensures.rises;
      numbers = c.every_step_changes_numbers.ensures.numbers;
      few = c.cycles_are_few.ensures;
      room = c.cycles_have_room.ensures;
      balances = c.every_list_balances.ensures;
      begins_few = c.processors_begin_few.ensures;
      bits = c.set_bits_are_counted.ensures;
      slots = c.slots_are_read.ensures;
      classes = record { least_slot = c.size_class_laws.ensures.least_slot; fit = c.size_class_laws.ensures.fit; whole_words = c.size_class_laws.ensures.whole_words };
    })
