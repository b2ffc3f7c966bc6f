use Rattle.gh_dump.proofs.cause.is_word_fault.Given as goal

abbrev pub ghost-is_misplaced : goal.ghost-is_misplaced
ghost-is_misplaced g a = g.items
