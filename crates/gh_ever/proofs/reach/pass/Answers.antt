use Rattle.std.proofs.Common.{◌≡◌, ◌<◌, List, Bool, sym, ◌∙◌, subst, ap}
use Rattle.std.proofs.lemmas.Bool.{true≢false}
use Rattle.gh_ever.proofs.Vocabulary.{Lists, lists_of, unmarked}
use Rattle.gh_ever.proofs.Passing.{cell_read, fewer_yet, one_followed}
use Rattle.gh_ever.proofs.reach.pass.Goals as goal
use Rattle.gh_ever.proofs.reach.pass.Goals.{then-follow, else-follow}

pub follow-requires-clause-held : goal.follow-requires-clause-held
follow-requires-clause-held c = cell_read c.args.kept.now (lists_of c.kept.inside) c.deref-cell-items.result.now c.loop-cell.cell-index _ c.kept.view_is c.kept.invariant.sound c.deref-cell-items.ensures.value c.loop-cell-test.true

pub loop-cell-preserved : goal.loop-cell-preserved
loop-cell-preserved c =
    let same : c.deref-cell-items.result.now ≡ c.args.kept.now.cells = c.deref-cell-items.ensures.value ∙ ap (λ (x : Lists). x.cells) c.kept.view_is in
    elim c.if-follow.branch [
      | then-follow w ↦ record {
        len = c.follow.ensures.len ∙ c.loop-cell.invariant.len;
        sound = λ s. c.follow.ensures.sound (c.loop-cell.invariant.sound s);
        fewer = λ e. fewer_yet c.loop-cell.changed c.args.marks.now.items c.loop-cell.marks.items c.follow.new.marks.items c.loop-cell.invariant.fewer c.loop-cell.invariant.same (c.follow.ensures.fewer w.if-follow.true);
        same = λ e. absurd (true≢false (sym w.changed-is ∙ e));
        followed = λ e. absurd (true≢false (sym w.changed-is ∙ e));
      }
      | else-follow w ↦ record {
        len = c.follow.ensures.len ∙ c.loop-cell.invariant.len;
        sound = λ s. c.follow.ensures.sound (c.loop-cell.invariant.sound s);
        fewer = λ e. subst (λ (ms : List Bool). unmarked ms < unmarked c.args.marks.now.items) (sym (c.follow.ensures.same w.if-follow.false)) (c.loop-cell.invariant.fewer (sym w.changed-is ∙ e));
        same = λ e. c.follow.ensures.same w.if-follow.false ∙ c.loop-cell.invariant.same (sym w.changed-is ∙ e);
        followed = λ e. one_followed c.args.kept.now c.loop-cell.marks.items c.follow.new.marks.items c.deref-cell-items.result.now c.loop-cell.cell-index _ same c.loop-cell-test.true
            (c.follow.ensures.same w.if-follow.false) (c.loop-cell.invariant.followed (sym w.changed-is ∙ e)) (c.follow.ensures.followed w.if-follow.false);
      }
    ]
