use Rattle.gh_table.proofs.table.perform.Given as goal

-- the entry that the step adds
abbrev pub ghosts-make_step : goal.ghosts-make_step
ghosts-make_step g a = record { actor = a.actor; begun = a.begun.now; ask = g.M.Machine.asks a.machine.now }
