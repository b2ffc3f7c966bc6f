use Rattle.std.proofs.Common.{◌≡◌, Some, slice_get, ap, sym, ◌∙◌, arith}
use Rattle.gh_top.proofs.Vocabulary.{is_checked, replay_lines}
use Rattle.gh_top.proofs.Lines.{told-more, told-part, on-err}
use Rattle.gh_top.proofs.saying.say_report.Goals as goal

pub returns-in_err-write_all-clause-part : goal.returns-in_err-write_all-clause-part
returns-in_err-write_all-clause-part g c =
    let ls = replay_lines c.args.script.now c.args.report.now.outcome (is_checked c.args.report.now) in
    let line : slice_get ls c.loop-i.i ≡ Some c.bytes.result.now = c.line.ensures ∙ ap (λ l. Some l) (sym c.bytes.ensures) in
    on-err c.from_residual.result (told-part c.parts_are_of_both.ensures.first c.parts_are_of_both.ensures.second ls c.loop-i.i c.bytes.result.now _ _ _ line c.loop-i.invariant.taken c.in_err-write_all.ensures.part)

pub loop-i-preserved : goal.loop-i-preserved
loop-i-preserved g c =
    let ls = replay_lines c.args.script.now c.args.report.now.outcome (is_checked c.args.report.now) in
    let line : slice_get ls c.loop-i.i ≡ Some c.bytes.result.now = c.line.ensures ∙ ap (λ l. Some l) (sym c.bytes.ensures) in
    record {
      within = omega (arith, c.loop-i-test.true, c.lines-i-end.ensures c.args.script.now c.requires);
      taken = told-more ls c.loop-i.i c.bytes.result.now _ _ _ line c.loop-i.invariant.taken c.in_ok-write_all.ensures.ok;
      no_fault = c.in_ok-write_all.ensures.no_fault ∙ c.loop-i.invariant.no_fault;
    }
