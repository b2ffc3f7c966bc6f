use Rattle.gh_dump.proofs.cause.is_twice_fault.Given as goal

abbrev pub ghost-is_listed_before : goal.ghost-is_listed_before
ghost-is_listed_before g a = g.items
