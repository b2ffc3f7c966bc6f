use Rattle.std.proofs.Common.{◌+◌, ◌++◌, length, take, ap, sym, ◌∙◌, arith}
use Rattle.std.proofs.lemmas.List.{length-append}
use Rattle.gh_replay.proofs.Vocabulary.{answers_by, rows_from, vec_capacity}
use Rattle.gh_replay.proofs.Rows.{by-counted, by-first, by-other, from-few, from-lined-more, from-silent-more}
use Rattle.gh_replay.proofs.report.add_rows.Goals as goal
use Rattle.gh_replay.proofs.report.add_rows.Goals.{then-h-g+then-has_line, then-h-g+else-has_line, else-h-g}

pub push_reserved-requires : goal.push_reserved-requires
push_reserved-requires c =
    let xs = c.args.answers.now in
    let i = c.loop-h.h-index in
    let v = c.loop-h.invariant in
    omega (
      arith,
      c.requires.room,
      ap length v.rows,
      length-append c.args.rows.now.items (rows_from c.args.g 1 (answers_by c.args.g (take i xs))),
      from-few c.args.g 1 (answers_by c.args.g (take i xs)),
      by-counted c.args.g i xs _ c.loop-h-test.true c.if-h-g.true,
      by-first c.args.g (i + 1) xs,
      v.capacity,
      c.loop-h.rows.ok.0,
    )

pub loop-h-preserved : goal.loop-h-preserved
loop-h-preserved c =
    let xs = c.args.answers.now in
    let i = c.loop-h.h-index in
    let v = c.loop-h.invariant in
    elim c.if-h-g.branch [
      | then-h-g+then-has_line w ↦ record {
        counted = w.n-is ∙ ap (λ n. n + 1) v.counted ∙ sym (by-counted c.args.g i xs _ c.loop-h-test.true w.if-h-g.true);
        few = omega (arith, w.n-is, v.few);
        rows = ap (λ r. r.items) w.rows-is ∙ w.push_reserved.ensures.items ∙ from-lined-more c.args.g i c.loop-h.n xs _ c.args.rows.now.items c.loop-h.rows.items c.loop-h-test.true w.if-h-g.true v.counted (sym w.has_line.ensures ∙ w.if-has_line.true) v.rows;
        capacity = ap (λ r. vec_capacity r) w.rows-is ∙ w.push_reserved.ensures.capacity ∙ v.capacity;
      }
      | then-h-g+else-has_line w ↦ record {
        counted = w.n-is ∙ ap (λ n. n + 1) v.counted ∙ sym (by-counted c.args.g i xs _ c.loop-h-test.true w.if-h-g.true);
        few = omega (arith, w.n-is, v.few);
        rows = ap (λ r. r.items) w.rows-is ∙ from-silent-more c.args.g i c.loop-h.n xs _ c.args.rows.now.items c.loop-h.rows.items c.loop-h-test.true w.if-h-g.true v.counted (sym w.has_line.ensures ∙ w.if-has_line.false) v.rows;
        capacity = ap (λ r. vec_capacity r) w.rows-is ∙ v.capacity;
      }
      | else-h-g w ↦
          let same = sym (by-other c.args.g i xs _ c.loop-h-test.true w.if-h-g.false) in
          record {
            counted = w.n-is ∙ v.counted ∙ ap length same;
            few = omega (arith, w.n-is, v.few);
            rows = ap (λ r. r.items) w.rows-is ∙ v.rows ∙ ap (λ ys. c.args.rows.now.items ++ rows_from c.args.g 1 ys) same;
            capacity = ap (λ r. vec_capacity r) w.rows-is ∙ v.capacity;
          }
    ]
