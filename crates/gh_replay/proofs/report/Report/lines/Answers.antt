use Rattle.std.proofs.Common.{◌≡◌, true, false, refl, sym, ap, ◌∙◌, arith}
use Rattle.gh_replay.proofs.Vocabulary.{bit, is_checked}
use Rattle.gh_replay.proofs.Checked.{lines_long}
use Rattle.gh_replay.proofs.Rows.{all-long}
use Rattle.gh_replay.proofs.report.Report.lines.Goals as goal

pub returns-then-is_some : goal.returns-then-is_some
returns-then-is_some c = λ p is.
    let checked : is_checked c.args.self.now ≡ true = ap is_checked (sym c.self.view_is) ∙ sym c.is_some.ensures ∙ c.if-is_some.true in
    let one = ap bit checked in
    let long = all-long p c.args.self.now _ c.self.inside.rows.items c.self.inside.cycles.items c.self.inside.totals 0 is c.self.invariant.0 c.self.view_is refl (refl, refl, refl) (refl, refl) in
    let all = lines_long p c.args.self.now.outcome (is_checked c.args.self.now) in
    omega (arith, c.len.ensures, c.len-2.ensures, long, all, one, c.self.inside.rows.ok.0, c.self.inside.cycles.ok.0)

pub returns-else-is_some : goal.returns-else-is_some
returns-else-is_some c = λ p is.
    let unchecked : is_checked c.args.self.now ≡ false = ap is_checked (sym c.self.view_is) ∙ sym c.is_some.ensures ∙ c.if-is_some.false in
    let none = ap bit unchecked in
    let long = all-long p c.args.self.now _ c.self.inside.rows.items c.self.inside.cycles.items c.self.inside.totals 0 is c.self.invariant.0 c.self.view_is refl (refl, refl, refl) (refl, refl) in
    let all = lines_long p c.args.self.now.outcome (is_checked c.args.self.now) in
    omega (arith, c.len.ensures, c.len-2.ensures, long, all, none, c.self.inside.rows.ok.0, c.self.inside.cycles.ok.0)
