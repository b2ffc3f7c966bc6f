use Rattle.std.proofs.Common.{take}
use Rattle.gh_dump.proofs.cause.cause.Given as goal

abbrev pub ghost-is_word_fault : goal.ghost-is_word_fault
ghost-is_word_fault g a = take a.before.now.lines g.items

abbrev pub ghost-is_twice_fault : goal.ghost-is_twice_fault
ghost-is_twice_fault g a = g.items

abbrev pub ghost-is_unknown_fault : goal.ghost-is_unknown_fault
ghost-is_unknown_fault g a = g.items

abbrev pub ghost-is_parent_fault : goal.ghost-is_parent_fault
ghost-is_parent_fault g a = g.items

abbrev pub ghost-is_total_fault : goal.ghost-is_total_fault
ghost-is_total_fault g a = g.items
