use Rattle.std.proofs.Common.{◌≡◌, ℕ, ◌+◌, ◌++◌, length, ap, sym, ◌∙◌, arith}
use Rattle.gh_replay.proofs.Vocabulary.{answers_by, rows_from, rows_of}
use Rattle.gh_replay.proofs.Rows.{count-few, count-more, rows-few, rows-more}
use Rattle.gh_replay.proofs.report.Report.new.Goals as goal

pub add_rows-requires-clause-room : goal.add_rows-requires-clause-room
add_rows-requires-clause-room c =
    let xs = c.args.answers.items in
    omega (arith, ap length c.loop-g.invariant.rows, rows-few c.loop-g.g xs, count-more c.loop-g.g xs, count-few (c.loop-g.g + 1) xs, c.loop-g.invariant.room, ap (λ ys. length (answers_by c.loop-g.g ys)) c.deref.ensures.value)

pub loop-g-preserved : goal.loop-g-preserved
loop-g-preserved c = record {
  rows = c.add_rows.ensures.rows ∙ ap (λ ys. c.loop-g.rows.items ++ rows_from c.loop-g.g 1 (answers_by c.loop-g.g ys)) c.deref.ensures.value
      ∙ ap (λ rs. rs ++ rows_from c.loop-g.g 1 (answers_by c.loop-g.g c.args.answers.items)) c.loop-g.invariant.rows ∙ sym (rows-more c.loop-g.g c.args.answers.items);
  room = omega (arith, c.add_rows.ensures.capacity, c.loop-g.invariant.room);
}

pub invariant_of-result : goal.invariant_of-result
invariant_of-result c =
    let all : c.loop-g.g ≡ c.args.goroutines = omega (arith, c.loop-g-test.false, c.loop-g.auto.g-end) in
    let xs = c.args.answers.items in (
      c.loop-g.invariant.rows ∙ ap (λ (g : ℕ). rows_of g xs) all,
      omega (arith, ap length c.loop-g.invariant.rows, rows-few c.loop-g.g xs, count-few c.loop-g.g xs, c.requires.few),
    )
