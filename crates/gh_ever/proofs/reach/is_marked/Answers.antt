use Rattle.std.proofs.Common.{◌≡◌, ◌<◌, false, length, sym, ◌∙◌, refl, arith}
use Rattle.gh_ever.proofs.Vocabulary.{same_name}
use Rattle.gh_ever.proofs.Marking.{marked_at}
use Rattle.gh_ever.proofs.reach.is_marked.Goals as goal

pub loop-i-preserved : goal.loop-i-preserved
loop-i-preserved c =
    let apart : same_name c.args.n c.index.result.now.name ≡ false = sym c.same_name.ensures ∙ c.if-same_name.false in
    let in_objects : c.loop-i.i < length c.args.objects.now.items = omega (arith, c.args.objects.now.ok.0, c.len-i-end.ensures) in
    let in_marks : c.loop-i.i < length c.args.marks.now.items = omega (arith, c.args.marks.now.ok.0, c.len-i-end.ensures) in
    sym (marked_at c.args.objects.now.items c.args.marks.now.items c.loop-i.i c.index.result.now c.args.n in_objects in_marks c.index.ensures ∙ rw apart refl) ∙ c.loop-i.invariant
