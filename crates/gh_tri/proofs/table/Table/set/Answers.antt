use Rattle.std.proofs.Common.{arith}
use Rattle.gh_tri.proofs.Vocabulary.{mul-add-lt}
use Rattle.gh_tri.proofs.Cells.{cells-set}
use Rattle.gh_tri.proofs.table.Table.set.Goals as goal

pub returns-clause-cells : goal.returns-clause-cells
returns-clause-cells g c = λ d. cells-set d _ _ _ _ _ c.requires.column_in (omega (arith, c.args.self.now.full, mul-add-lt c.args.row c.args.self.now.columns c.args.column c.args.self.now.rows c.requires.row_in c.requires.column_in))
