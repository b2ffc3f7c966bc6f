use Rattle.gh_dump.proofs.cause.is_parent_fault.Given as goal

abbrev pub ghost-is_above : goal.ghost-is_above
ghost-is_above g a = g.items

abbrev pub ghost-is_held : goal.ghost-is_held
ghost-is_held g a = g.items
