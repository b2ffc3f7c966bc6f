use Rattle.std.proofs.Common.{◌≡◌, None, drop}
use Rattle.gh_tri.proofs.Vocabulary.{cells, put_in_table}
use Rattle.gh_tri.proofs.table.place.Given as goal

-- what is placed so far, and then the others, is all that is placed
abbrev pub invariant-loop-e : goal.invariant-loop-e
invariant-loop-e l = record {
  rows : l.table.rows ≡ l.fn.table.rows;
  columns : l.table.columns ≡ l.fn.table.columns;
  cells : put_in_table (cells None l.table.columns l.table.items.items) (drop l.e-index l.entries) ≡ put_in_table (cells None l.fn.table.columns l.fn.table.items.items) l.entries;
}
