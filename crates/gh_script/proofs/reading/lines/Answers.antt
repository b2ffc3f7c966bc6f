use Rattle.std.proofs.Common.{◌≡◌, ◌<◌, length, sym, ◌∙◌, arith}
use Rattle.std.proofs.lemmas.Bool.{eqb-true}
use Rattle.gh_script.proofs.Vocabulary.{eqb-false}
use Rattle.gh_script.proofs.Lines.{Reading-start, Reading-more, Reading-stops, Reading-end}
use Rattle.gh_script.proofs.reading.lines.Goals as goal

pub lines-init : goal.lines-init
lines-init c = Reading-start c.args.draft.now c.args.text.now c.requires.sound

pub lines-preserved : goal.lines-preserved
lines-preserved c =
    let filled : length c.lines.rest.now ≡ 0 → ⊥ = eqb-false _ _ (sym c.is_empty.ensures ∙ c.lines-test.true) in
    let some : 0 < length c.lines.rest.now = omega arith in
    rw c.behind-rest.ensures (Reading-more c.args.draft.now c.line.new.draft c.lines.draft c.args.text.now c.lines.rest.now _ c.lines.number c.feed_index-end.result
    c.lines.invariant some c.feed_index-end.ensures.at c.feed_index-end.ensures.within c.stripped.ensures c.in_default.ensures)

pub returns-in-Err-clause-all : goal.returns-in-Err-clause-all
returns-in-Err-clause-all c =
    let filled : length c.lines.rest.now ≡ 0 → ⊥ = eqb-false _ _ (sym c.is_empty.ensures ∙ c.lines-test.true) in
    let some : 0 < length c.lines.rest.now = omega arith in
    Reading-stops c.in-Err.e c.args.draft.now c.line.new.draft c.lines.draft c.args.text.now c.lines.rest.now _ c.lines.number c.feed_index-end.result _
    c.lines.invariant some c.feed_index-end.ensures.at c.feed_index-end.ensures.within c.stripped.ensures c.in-Err.ensures

pub returns-clause-all : goal.returns-clause-all
returns-clause-all c = Reading-end _ _ _ c.lines.rest.now _ c.lines.invariant (eqb-true _ _ (sym c.is_empty.ensures ∙ c.lines-test.false))
