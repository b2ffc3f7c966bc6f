use Rattle.std.proofs.Common.{◌+◌, ◌++◌, length, take, ap, sym, ◌∙◌, arith}
use Rattle.std.proofs.lemmas.List.{length-append}
use Rattle.gh_run.proofs.Vocabulary.{answers_by, of_goroutine, vec_capacity}
use Rattle.gh_run.proofs.Goroutines.{by_counted, by_first, by_other, of_length, of_more}
use Rattle.gh_run.proofs.telling.add_answers.Goals as goal
use Rattle.gh_run.proofs.telling.add_answers.Goals.{then-h-g, else-h-g}

pub push_reserved-requires : goal.push_reserved-requires
push_reserved-requires c =
    let xs = c.args.from.now in
    let i = c.loop-h.h-index in
    let v = c.loop-h.invariant in
    omega (
      arith,
      c.requires,
      ap length v.added,
      length-append c.args.answers.now.items (of_goroutine c.args.g (answers_by c.args.g (take i xs))),
      of_length c.args.g (answers_by c.args.g (take i xs)),
      by_counted c.args.g i xs _ c.loop-h-test.true c.if-h-g.true,
      by_first c.args.g (i + 1) xs,
      v.capacity,
    )

pub loop-h-preserved : goal.loop-h-preserved
loop-h-preserved c =
    let xs = c.args.from.now in
    let i = c.loop-h.h-index in
    let v = c.loop-h.invariant in
    elim c.if-h-g.branch [
      | then-h-g w ↦ record {
        added = ap (λ r. r.items) w.answers-is ∙ w.push_reserved.ensures.items ∙ of_more c.args.g i xs _ c.args.answers.now.items c.loop-h.answers.items c.loop-h-test.true w.if-h-g.true v.added;
        capacity = ap (λ r. vec_capacity r) w.answers-is ∙ w.push_reserved.ensures.capacity ∙ v.capacity;
      }
      | else-h-g w ↦
          let same = sym (by_other c.args.g i xs _ c.loop-h-test.true w.if-h-g.false) in
          record {
            added = ap (λ r. r.items) w.answers-is ∙ v.added ∙ ap (λ ys. c.args.answers.now.items ++ of_goroutine c.args.g ys) same;
            capacity = ap (λ r. vec_capacity r) w.answers-is ∙ v.capacity;
          }
    ]
