use Rattle.std.proofs.Common.{◌≡◌, ◌+◌, ◌*◌, drop, true, false, ltb, length, refl, sym, ◌∙◌, arith}
use Rattle.gh_replay.proofs.Vocabulary.{nat_tests}
use Rattle.gh_replay.proofs.Numbers.{digits_end, digits_more, digits_stop, in_range, large_has_none, letters_have_none, too_small, unfit, unfit_has_none, value_end, value_grows, value_more}
use Rattle.gh_replay.proofs.list.ranged.Goals as goal
use Rattle.gh_replay.proofs.list.ranged.Goals.{then-is_empty-via-then-is_empty, then-is_empty-via-else-is_empty+then-word-gt20}

pub returns-then-is_empty-clause-number : goal.returns-then-is_empty-clause-number
returns-then-is_empty-clause-number c = unfit_has_none c.args.least c.args.most c.args.word.now (elim c.then-is_empty.branch [
  | then-is_empty-via-then-is_empty w ↦ rw (sym c.is_empty.ensures ∙ w.if-is_empty.true) refl
  | then-is_empty-via-else-is_empty+then-word-gt20 w ↦ let long : ltb 20 (length c.args.word.now) ≡ true = grind (arith, nat_tests) in rw (sym c.is_empty.ensures ∙ w.if-is_empty.false, long) refl
])

pub returns-then-not-is_digit-clause-number : goal.returns-then-not-is_digit-clause-number
returns-then-not-is_digit-clause-number c = letters_have_none c.args.least c.args.most c.args.word.now (digits_stop c.args.word.now c.loop-b.b-index c.loop-b-test.true (sym c.is_digit.ensures ∙ c.if-not-is_digit.true) c.loop-b.invariant.digits)

pub returns-then-value-most-clause-number : goal.returns-then-value-most-clause-number
returns-then-value-most-clause-number c =
    let value = value_more c.loop-b.value c.from.result c.args.word.now c.loop-b.b-index c.loop-b-test.true c.from.ensures c.loop-b.invariant.value in
    large_has_none c.args.least c.args.most c.args.word.now (omega (arith, c.if-value-most.true, value, value_grows (10 * c.loop-b.value + c.from.result) (drop (c.loop-b.b-index + 1) c.args.word.now)))

pub loop-b-preserved : goal.loop-b-preserved
loop-b-preserved c = record {
  few = c.if-value-most.false;
  digits = digits_more c.args.word.now c.loop-b.b-index c.loop-b-test.true (sym c.is_digit.ensures ∙ c.if-not-is_digit.false) c.loop-b.invariant.digits;
  value = value_more c.loop-b.value c.from.result c.args.word.now c.loop-b.b-index c.loop-b-test.true c.from.ensures c.loop-b.invariant.value;
}

pub returns-then-value-least-clause-number : goal.returns-then-value-least-clause-number
returns-then-value-least-clause-number c =
    let short : ltb 20 (length c.args.word.now) ≡ false = grind (arith, nat_tests) in
    let fit : unfit c.args.word.now ≡ false = rw (sym c.is_empty.ensures ∙ c.if-is_empty.false, short) refl in
    in_range c.args.least c.args.most c.loop-b.value c.args.word.now fit (digits_end c.args.word.now c.loop-b.b-index c.loop-b-test.false c.loop-b.invariant.digits) (value_end c.loop-b.value c.args.word.now c.loop-b.b-index c.loop-b-test.false c.loop-b.invariant.value) c.loop-b.invariant.few c.requires c.if-value-least.true

pub returns-else-value-least-clause-number : goal.returns-else-value-least-clause-number
returns-else-value-least-clause-number c =
    let short : ltb 20 (length c.args.word.now) ≡ false = grind (arith, nat_tests) in
    let fit : unfit c.args.word.now ≡ false = rw (sym c.is_empty.ensures ∙ c.if-is_empty.false, short) refl in
    too_small c.args.least c.args.most c.loop-b.value c.args.word.now fit (digits_end c.args.word.now c.loop-b.b-index c.loop-b-test.false c.loop-b.invariant.digits) (value_end c.loop-b.value c.args.word.now c.loop-b.b-index c.loop-b-test.false c.loop-b.invariant.value) c.loop-b.invariant.few c.requires (omega arith)
