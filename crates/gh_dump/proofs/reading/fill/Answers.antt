use Rattle.std.proofs.Common.{◌≡◌, ◌<◌, length, sym, ap, ◌∙◌, arith}
use Rattle.std.proofs.lemmas.Bool.{eqb-false, eqb-true}
use Rattle.gh_dump.specs.Items.{item_of, items_of}
use Rattle.gh_dump.proofs.Rest.{filling_end, filling_more, Next, next_line}
use Rattle.gh_dump.proofs.reading.fill.Goals as goal

pub lines-preserved : goal.lines-preserved
lines-preserved c =
    let text = c.args.text.now in
    let rest = c.lines.rest.now in
    let filled : length rest ≡ 0 → ⊥ = eqb-false _ _ (sym c.is_empty.ensures ∙ c.lines-test.true) in
    let some : 0 < length rest = omega arith in
    let next : Next (items_of text) (length text) c.lines.index.lines _ c.item-line.result =
    next_line (items_of text) (length text) rest c.lines.index.lines c.feed_index-end.result c.item-line.result c.lines.invariant.left some c.feed_index-end.ensures.at c.feed_index-end.ensures.within (c.item-line.ensures ∙ ap item_of c.stripped.ensures) in
    rw c.behind-rest.ensures
    (filling_more (items_of text) (length text) c.lines.index c.add.new.self rest _ c.item-line.result c.lines.invariant next c.in_ok-add.ensures.lists c.in_ok-add.ensures.small c.in_ok-add.ensures.lines)

pub returns : goal.returns
returns c = filling_end (items_of c.args.text.now) (length c.args.text.now) c.lines.index c.lines.rest.now c.lines.invariant (eqb-true _ _ (sym c.is_empty.ensures ∙ c.lines-test.false))
