use Rattle.std.proofs.Common.{◌≡◌, ◌<◌, length, sym, ap, ◌∙◌, subst, arith}
use Rattle.std.proofs.lemmas.Bool.{eqb-false, eqb-true}
use Rattle.gh_dump.specs.Items.{item_of}
use Rattle.gh_dump.specs.declared.before.Before.{Before}
use Rattle.gh_dump.proofs.Rest.{Next, next_line, Passing, passing_end, passing_more, passing_start, passing_stops}
use Rattle.gh_dump.proofs.reading.first_cause.Goals as goal

pub lines-init : goal.lines-init
lines-init g c = subst (λ (b : Before). Passing g.items (length c.args.text.now) b c.args.text.now) (sym c.nothing-before.ensures) (passing_start g.items c.args.text.now c.requires.0)

pub returns-in-Some-clause-fault : goal.returns-in-Some-clause-fault
returns-in-Some-clause-fault g c =
    let size = length c.args.text.now in
    let rest = c.lines.rest.now in
    let filled : length rest ≡ 0 → ⊥ = eqb-false _ _ (sym c.is_empty.ensures ∙ c.lines-test.true) in
    let some : 0 < length rest = omega arith in
    let next : Next g.items size c.lines.before.lines _ c.item-line.result =
    next_line g.items size rest c.lines.before.lines c.feed_index-end.result c.item-line.result c.lines.invariant.left some c.feed_index-end.ensures.at c.feed_index-end.ensures.within (c.item-line.ensures ∙ ap item_of c.stripped.ensures) in
    passing_stops g.items size c.lines.before rest _ c.item-line.result c.cause.result c.in-Some.why c.lines.invariant next c.cause.ensures c.in-Some.is

pub lines-preserved : goal.lines-preserved
lines-preserved g c =
    let size = length c.args.text.now in
    let rest = c.lines.rest.now in
    let filled : length rest ≡ 0 → ⊥ = eqb-false _ _ (sym c.is_empty.ensures ∙ c.lines-test.true) in
    let some : 0 < length rest = omega arith in
    let next : Next g.items size c.lines.before.lines _ c.item-line.result =
    next_line g.items size rest c.lines.before.lines c.feed_index-end.result c.item-line.result c.lines.invariant.left some c.feed_index-end.ensures.at c.feed_index-end.ensures.within (c.item-line.ensures ∙ ap item_of c.stripped.ensures) in
    rw (c.behind-rest.ensures, c.add.ensures)
    (passing_more g.items size c.lines.before rest _ c.item-line.result c.cause.result c.lines.invariant next c.cause.ensures c.in-None.is)

pub returns-clause-right : goal.returns-clause-right
returns-clause-right g c = passing_end g.items (length c.args.text.now) c.lines.before c.lines.rest.now c.lines.invariant (eqb-true _ _ (sym c.is_empty.ensures ∙ c.lines-test.false))
