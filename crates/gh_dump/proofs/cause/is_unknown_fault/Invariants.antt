use Rattle.gh_dump.proofs.cause.is_unknown_fault.Given as goal

abbrev pub ghost-is_listed : goal.ghost-is_listed
ghost-is_listed g a = g.items
