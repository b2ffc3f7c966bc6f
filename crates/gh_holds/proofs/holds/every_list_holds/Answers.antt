use Rattle.std.proofs.Common.{arith}
use Rattle.gh_holds.proofs.Vocabulary.{DrawnKnown, Known, Wanted}
use Rattle.gh_holds.proofs.AllActors.Lists.{held}
use Rattle.gh_holds.specs.OfLists.{LawsOfLists, lists_known}
use Rattle.gh_holds.proofs.holds.every_list_holds.Goals as goal

module _ (c : goal.After-every_global_is_counted) where
  picture : DrawnKnown
  picture = record {
    opens = c.an_opening_has_the_invariants.ensures;
    keeps = c.each_step_keeps_the_invariants.ensures;
    begins = c.cycles_begin_drawn.ensures;
    steps = c.marking_is_drawn.ensures.steps;
    says = c.the_picture_says.ensures.says;
    ends = c.the_picture_says.ensures.ends;
  }

  known : Known
  known = grind arith

  wanted : Wanted
  wanted = record {
    read = c.packed_words_are_read_back.ensures;
    whole = c.size_class_laws.ensures.whole_words;
    slots = c.slots_are_read.ensures;
    pages = record { passes = c.the_pass_keeps_its_facts.ensures; sweeps = c.the_unswept_pass_keeps_its_facts.ensures; reclaims = c.the_reclaiming_keeps_its_facts.ensures; carves = c.the_carve_keeps_its_facts.ensures };
    steps = c.steps_go_by_moves.ensures;
    small = c.the_cursor_is_small.ensures;
  }

  laws : LawsOfLists
  laws = record {
    keeps = c.every_list_keeps_the_handshake.ensures;
    steps = c.every_step_keeps_the_handshake.ensures;
    counts = c.every_list_counts_cycles.ensures;
    changes = c.every_step_changes_numbers.ensures.changes;
    rises = c.every_step_changes_numbers.ensures.rises;
    stacks = c.every_list_numbers_stacks.ensures.steps;
    numbers = c.every_list_numbers_stacks.ensures.lists;
    rests = c.every_list_rests_workers.ensures;
    plainly = c.every_list_counts_plainly.ensures;
    wants = c.every_list_counts_wants.ensures;
    few = c.every_list_opens_few.ensures;
  }

pub returns-clause-known : goal.returns-clause-known
returns-clause-known c = known c

pub returns-clause-lists : goal.returns-clause-lists
returns-clause-lists c = laws c

pub returns-clause-holds : goal.returns-clause-holds
returns-clause-holds c given es good limits fit legal =
    held given (wanted c) (lists_known (laws c) given good limits (known c) fit) c.every_cycle_is_marked.ensures c.every_global_is_counted.ensures es legal
