use Rattle.std.proofs.Common.{◌≡◌, ◌<◌, vec_len, length, true, false, sym, ◌∙◌, ap, arith, Bool, Vec, Global}
use Rattle.gh_ever.proofs.Vocabulary.{same_name, with_mark}
use Rattle.gh_ever.proofs.Marking.{with_mark_here, with_mark_further}
use Rattle.gh_ever.proofs.reach.mark.Goals as goal

pub returns-then-same_name-clause-marked : goal.returns-then-same_name-clause-marked
returns-then-same_name-clause-marked c =
    let found : same_name c.args.n c.index.result.now.name ≡ true = sym c.same_name.ensures ∙ c.if-same_name.true in
    let in_objects : c.loop-i.i < length c.args.objects.now.items = omega (arith, c.args.objects.now.ok.0, c.len-i-end.ensures) in
    let in_marks : c.loop-i.i < length c.loop-i.marks.items = omega (arith, c.loop-i.marks.ok.0, c.len-i-end.ensures, ap (λ (v : Vec Bool Global). vec_len v) c.loop-i.invariant.0) in
    with_mark_here c.args.objects.now.items c.loop-i.marks.items c.loop-i.i c.index.result.now c.args.n in_objects in_marks c.index.ensures found c.loop-i.invariant.1
    ∙ ap (λ (v : Vec Bool Global). with_mark c.args.objects.now.items v.items c.args.n) c.loop-i.invariant.0

pub loop-i-preserved : goal.loop-i-preserved
loop-i-preserved c =
    let apart : same_name c.args.n c.index.result.now.name ≡ false = sym c.same_name.ensures ∙ c.if-same_name.false in
    let in_objects : c.loop-i.i < length c.args.objects.now.items = omega (arith, c.args.objects.now.ok.0, c.len-i-end.ensures) in
    let in_marks : c.loop-i.i < length c.loop-i.marks.items = omega (arith, c.loop-i.marks.ok.0, c.len-i-end.ensures, ap (λ (v : Vec Bool Global). vec_len v) c.loop-i.invariant.0) in
    (c.loop-i.invariant.0, with_mark_further c.args.objects.now.items c.loop-i.marks.items c.loop-i.i c.index.result.now c.args.n in_objects in_marks c.index.ensures apart c.loop-i.invariant.1)
