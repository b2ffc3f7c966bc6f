use Rattle.gh_state.proofs.Cycles.{ends, heaps_open, opens, tells}
use Rattle.gh_state.proofs.laws.cycles_open_and_end.Goals as goal

pub returns-clause-opens : goal.returns-clause-opens
returns-clause-opens c = opens

pub returns-clause-told : goal.returns-clause-told
returns-clause-told c = tells

pub returns-clause-ends : goal.returns-clause-ends
returns-clause-ends c = ends (record { rows = c.rows_are_written.ensures; ends = c.cycles_end_well.ensures })

pub returns-clause-heaps : goal.returns-clause-heaps
returns-clause-heaps c = heaps_open (record { rows = c.rows_are_written.ensures; ends = c.cycles_end_well.ensures })
