use Rattle.gh_explained.proofs.Vocabulary.{few_in_all, given_for, shapes_good}
use Rattle.gh_explained.proofs.Explained.Top.{all_settled}
use Rattle.gh_explained.proofs.laws.every_list_of_a_script_balances.Goals as goal

pub returns-clause-balances : goal.returns-clause-balances
returns-clause-balances c p l es formed lays legal = c.every_list_balances.ensures (given_for p l) es (shapes_good p formed) l.limits (few_in_all p l formed lays) legal

pub returns-clause-room : goal.returns-clause-room
returns-clause-room c p l es formed lays legal = c.every_list_has_room.ensures.room (given_for p l) es (shapes_good p formed) l.limits (few_in_all p l formed lays) legal

pub returns-clause-settled : goal.returns-clause-settled
returns-clause-settled c =
    all_settled (record {
      every = c.every_run_stands.ensures.lists;
      each = c.each_operation_acts_once.ensures;
      points = c.only_points_change.ensures;
      writes = c.a_processor_writes_its_own.ensures;
      works = c.a_worker_writes_its_own.ensures;
      keeps = c.every_list_keeps_the_handshake.ensures;
      changes = c.every_step_changes_numbers.ensures.changes;
      rises = c.every_step_changes_numbers.ensures.rises;
      numbers = c.every_step_changes_numbers.ensures.numbers;
      few = c.cycles_are_few.ensures;
      room = c.cycles_have_room.ensures;
      balances = c.every_list_balances.ensures;
      begins_few = c.processors_begin_few.ensures;
      bits = c.set_bits_are_counted.ensures;
      slots = c.slots_are_read.ensures;
      classes = record { least_slot = c.size_class_laws.ensures.least_slot; fit = c.size_class_laws.ensures.fit; whole_words = c.size_class_laws.ensures.whole_words };
    })
