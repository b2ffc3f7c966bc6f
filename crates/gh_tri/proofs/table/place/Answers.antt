use Rattle.std.proofs.Common.{◌∙◌, arith, None}
use Rattle.gh_tri.proofs.Opens.{row-in, placed-more}
use Rattle.gh_tri.proofs.table.place.Goals as goal

pub set-requires-clause-row_in : goal.set-requires-clause-row_in
set-requires-clause-row_in c =
    let below = (row-in _ _ _ c.loop-e.e-index (0, 0, 0) c.loop-e-test.true c.requires).0 in
    omega (arith, c.loop-e.invariant.rows)

pub set-requires-clause-column_in : goal.set-requires-clause-column_in
set-requires-clause-column_in c =
    let below = (row-in _ _ _ c.loop-e.e-index (0, 0, 0) c.loop-e-test.true c.requires).1 in
    omega (arith, c.loop-e.invariant.columns)

pub loop-e-preserved : goal.loop-e-preserved
loop-e-preserved c = record {
  rows = c.set.ensures.rows ∙ c.loop-e.invariant.rows;
  columns = c.set.ensures.columns ∙ c.loop-e.invariant.columns;
  cells = placed-more _ _ c.args.entries.now c.loop-e.e-index c.loop-e-test.true (c.set.ensures.cells None) ∙ c.loop-e.invariant.cells;
}
