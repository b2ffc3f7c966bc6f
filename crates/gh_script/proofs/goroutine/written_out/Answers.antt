use Rattle.std.proofs.Common.{rules}
use Rattle.gh_script.proofs.Written.{written_none, written_some}
use Rattle.gh_script.proofs.goroutine.written_out.Goals as goal

pub returns-then-saturating_add-gt-MOST_STATEMENTS : goal.returns-then-saturating_add-gt-MOST_STATEMENTS
returns-then-saturating_add-gt-MOST_STATEMENTS c =
    written_none c.args.innermost c.args.statements.items c.min-start.result c.saturating_mul.result c.saturating_add.result (search rules) (search rules) c.saturating_add.ensures c.if-saturating_add-gt-MOST_STATEMENTS.true

pub returns : goal.returns
returns c =
    written_some c.args.innermost c.args.statements.items c.min-start.result c.saturating_mul.result c.saturating_add.result c.repeat_from.new.statements.items
    (search rules) (search rules) c.saturating_add.ensures c.if-saturating_add-gt-MOST_STATEMENTS.false c.in_ok-repeat_from.ensures
