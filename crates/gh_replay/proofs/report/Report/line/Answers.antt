use Rattle.std.proofs.Common.{◌≡◌, ◌+◌, ◌-◌, ◌<◌, ◌≤◌, length, refl, ap, ◌∙◌, arith, slice_get}
use Rattle.gh_replay.proofs.Vocabulary.{answer_lines, is_checked, outcome_lines, slice_get_read}
use Rattle.gh_replay.proofs.Checked.{behind, of_outcome}
use Rattle.gh_replay.proofs.Rows.{all-answer, all-credit, all-cycle, all-live, all-long, rows-long, row-lined, line-at}
use Rattle.gh_replay.proofs.report.Report.line.Goals as goal

pub tell-told-requires-clause-goroutine : goal.tell-told-requires-clause-goroutine
tell-told-requires-clause-goroutine c =
    let below : c.args.i < length (answer_lines c.args.script.now c.args.self.now.outcome.answers) =
    let long = rows-long c.args.script.now c.args.self.now _ c.self.inside.rows.items c.args.i c.requires.script c.self.invariant.0 c.self.view_is in omega (arith, long, c.if-i-len.true, c.len.ensures, c.self.inside.rows.ok.0) in
    (row-lined c.args.script.now c.args.self.now _ c.self.inside.rows.items c.args.i c.requires.script c.self.invariant.0 c.self.view_is c.index.result.now below c.index.ensures).0

pub tell-told-requires-clause-maker : goal.tell-told-requires-clause-maker
tell-told-requires-clause-maker c =
    let below : c.args.i < length (answer_lines c.args.script.now c.args.self.now.outcome.answers) =
    let long = rows-long c.args.script.now c.args.self.now _ c.self.inside.rows.items c.args.i c.requires.script c.self.invariant.0 c.self.view_is in omega (arith, long, c.if-i-len.true, c.len.ensures, c.self.inside.rows.ok.0) in
    (row-lined c.args.script.now c.args.self.now _ c.self.inside.rows.items c.args.i c.requires.script c.self.invariant.0 c.self.view_is c.index.result.now below c.index.ensures).1

pub returns-then-i-len : goal.returns-then-i-len
returns-then-i-len c =
    let below : c.args.i < length (answer_lines c.args.script.now c.args.self.now.outcome.answers) =
    let long = rows-long c.args.script.now c.args.self.now _ c.self.inside.rows.items c.args.i c.requires.script c.self.invariant.0 c.self.view_is in omega (arith, long, c.if-i-len.true, c.len.ensures, c.self.inside.rows.ok.0) in
    let lined = row-lined c.args.script.now c.args.self.now _ c.self.inside.rows.items c.args.i c.requires.script c.self.invariant.0 c.self.view_is c.index.result.now below c.index.ensures in
    of_outcome c.args.script.now c.args.self.now.outcome (is_checked c.args.self.now) c.args.i c.tell-told.new.line (all-answer c.args.script.now c.args.self.now _ c.self.inside.rows.items c.self.inside.cycles.items c.self.inside.totals c.args.i c.requires.script c.self.invariant.0 c.self.view_is refl (refl, refl, refl) (refl, refl) c.tell-told.new.line below
    (line-at c.args.script.now c.args.self.now _ c.self.inside.rows.items c.args.i c.requires.script c.self.invariant.0 c.self.view_is c.index.result.now c.tell-told.new.line below c.index.ensures (c.tell-told.ensures.line lined.2)))

pub returns-then-behind-len : goal.returns-then-behind-len
returns-then-behind-len c =
    let high : length c.self.inside.rows.items ≤ c.args.i = omega (arith, c.if-i-len.false, c.len.ensures, c.self.inside.rows.ok.0) in
    let low : c.args.i - c.len-2.result < length c.self.inside.cycles.items = omega (arith, c.if-behind-len.true, c.len-3.ensures, c.self.inside.cycles.ok.0) in
    let there = slice_get_read c.self.inside.cycles.items (length c.self.inside.cycles.items) (c.args.i - c.len-2.result) c.index-then-behind-len.result.now refl low c.index-then-behind-len.ensures in
    let at : c.args.i - length c.self.inside.rows.items ≡ c.args.i - c.len-2.result = omega (arith, c.len-2.ensures, c.self.inside.rows.ok.0) in
    of_outcome c.args.script.now c.args.self.now.outcome (is_checked c.args.self.now) c.args.i c.cycle.new.self (all-cycle c.args.script.now c.args.self.now _ c.self.inside.rows.items c.self.inside.cycles.items c.self.inside.totals c.args.i c.requires.script c.self.invariant.0 c.self.view_is refl (refl, refl, refl) (refl, refl)
    c.index-then-behind-len.result.now c.cycle.new.self high (ap (slice_get c.self.inside.cycles.items) at ∙ there) c.cycle.ensures)

pub returns-then-behind-len-2 : goal.returns-then-behind-len-2
returns-then-behind-len-2 c =
    let high : length c.self.inside.rows.items ≤ c.args.i = omega (arith, c.if-i-len.false, c.len.ensures, c.self.inside.rows.ok.0) in
    let at : c.args.i - length c.self.inside.rows.items ≡ length c.self.inside.cycles.items = omega (arith, c.if-behind-len-2.true, c.len-2.ensures, c.len-else-behind-len.ensures, c.self.inside.rows.ok.0, c.self.inside.cycles.ok.0) in
    of_outcome c.args.script.now c.args.self.now.outcome (is_checked c.args.self.now) c.args.i c.credit.new.self (all-credit c.args.script.now c.args.self.now _ c.self.inside.rows.items c.self.inside.cycles.items c.self.inside.totals c.args.i c.requires.script c.self.invariant.0 c.self.view_is refl (refl, refl, refl) (refl, refl)
    c.credit.new.self high at c.credit.ensures)

pub returns-then-behind-len-3 : goal.returns-then-behind-len-3
returns-then-behind-len-3 c =
    let high : length c.self.inside.rows.items ≤ c.args.i = omega (arith, c.if-i-len.false, c.len.ensures, c.self.inside.rows.ok.0) in
    let at : c.args.i - length c.self.inside.rows.items ≡ length c.self.inside.cycles.items + 1 = omega (arith, c.if-behind-len-3.true, c.len-2.ensures, c.len-else-behind-len-2.ensures, c.self.inside.rows.ok.0, c.self.inside.cycles.ok.0) in
    of_outcome c.args.script.now c.args.self.now.outcome (is_checked c.args.self.now) c.args.i c.live.new.self (all-live c.args.script.now c.args.self.now _ c.self.inside.rows.items c.self.inside.cycles.items c.self.inside.totals c.args.i c.requires.script c.self.invariant.0 c.self.view_is refl (refl, refl, refl) (refl, refl)
    c.live.new.self high at c.live.ensures)

pub returns-else-behind-len-3 : goal.returns-else-behind-len-3
returns-else-behind-len-3 c =
    let long = all-long c.args.script.now c.args.self.now _ c.self.inside.rows.items c.self.inside.cycles.items c.self.inside.totals 0 c.requires.script c.self.invariant.0 c.self.view_is refl (refl, refl, refl) (refl, refl) in
    let past : c.len-else-behind-len.result + 1 < c.args.i - c.len-2.result = omega (arith, c.if-behind-len.false, c.len-3.ensures, c.len-else-behind-len.ensures, c.if-behind-len-2.false, c.len-else-behind-len-2.ensures, c.if-behind-len-3.false) in
    let high : length (outcome_lines c.args.script.now c.args.self.now.outcome) ≤ c.args.i = omega (arith, long, past, c.len-2.ensures, c.len-else-behind-len.ensures, c.self.inside.rows.ok.0, c.self.inside.cycles.ok.0) in
    behind c.args.script.now c.args.self.now.outcome (is_checked c.args.self.now) c.args.i c.agrees.new.self high c.requires.below c.agrees.ensures
