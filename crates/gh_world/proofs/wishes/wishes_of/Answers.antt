use Rattle.std.proofs.Common.{◌≡◌, ◌+◌, ◌<◌, true, false, length, sym, ◌∙◌, ap, arith, slice_get}
use Rattle.gh_world.proofs.Vocabulary.{slice_get-get_or, statements_of}
use Rattle.gh_script.specs.declared.statement.Stmt.TheVariants.{Gc}
use Rattle.gh_world.proofs.Wishing.{more_wishes, statement_there}
use Rattle.gh_world.proofs.wishes.wishes_of.Goals as goal
use Rattle.gh_world.proofs.wishes.wishes_of.Goals.{in-Some+then-may_ask, in-Some+else-may_ask, in-None}

pub loop-n-preserved : goal.loop-n-preserved
loop-n-preserved c =
    let xs = statements_of c.args.script.now c.args.g in
    let there : c.statement.result ≡ slice_get xs c.loop-n.n = c.statement.ensures ∙ statement_there c.args.script.now c.args.g c.loop-n.n in
    let low : c.loop-n.n < length xs = omega (arith, c.loop-n-test.true, c.count-n-end.ensures) in
    elim c.match-statement.branch [
      | in-Some+then-may_ask w ↦ record {
        within = omega (arith, low);
        so_far = w.wishes-is ∙ ap (λ n. n + 1) c.loop-n.invariant.so_far ∙ sym (more_wishes xs c.loop-n.n w.in-Some.statement true (sym there ∙ w.in-Some.is) (sym w.may_ask.ensures ∙ w.if-may_ask.true));
        few = let is = w.wishes-is in omega (arith, is, c.loop-n.invariant.few);
      }
      | in-Some+else-may_ask w ↦ record {
        within = omega (arith, low);
        so_far = let more = more_wishes xs c.loop-n.n w.in-Some.statement false (sym there ∙ w.in-Some.is) (sym w.may_ask.ensures ∙ w.if-may_ask.false) in omega (arith, w.wishes-is, c.loop-n.invariant.so_far, more);
        few = let is = w.wishes-is in omega (arith, is, c.loop-n.invariant.few);
      }
      | in-None w ↦ absurd (let some = slice_get-get_or xs c.loop-n.n Gc low in let is = sym w.in-None.is ∙ there ∙ some in cc)
    ]
