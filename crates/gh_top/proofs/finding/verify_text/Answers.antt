use Rattle.std.proofs.Common.{◌≡◌, ◌+◌, IfSome, arith, subst, sym, take}
use Rattle.gh_top.proofs.Vocabulary.{MatchesLine, MOST_DUMP_BYTES, Verify}
use Rattle.gh_top.proofs.Texts.{dump-same, end-told, verified-short}
use Rattle.gh_top.proofs.finding.verify_text.Goals as goal

pub returns-in-Ok : goal.returns-in-Ok
returns-in-Ok g c =
    let no_fault : g.S.Source.faults c.read_up_to.new.src ≡ g.S.Source.faults c.args.src.now = c.in-Ok.ensures.no_fault (λ e. absurd cc) in
    record {
      told = λ text left.
          let bytes : c.in-Ok.text.items ≡ take (MOST_DUMP_BYTES + 1) text = subst (λ o. IfSome o (λ before. c.in-Ok.text.items ≡ take (MOST_DUMP_BYTES + 1) before)) left c.in-Ok.ensures.bytes in
          dump-same c.one_verdict.ensures.cut text c.verified.result
          (subst (λ t. MatchesLine Verify t c.verified.result) bytes (subst (λ t. MatchesLine Verify t c.verified.result) c.deref.ensures.value c.verified.ensures.found));
      explained = (c.deref.result.now, c.verified.ensures.found);
      read = λ text left all.
          end-told _ _ text c.in-Ok.text.items left c.in-Ok.ensures.rest
          (c.in-Ok.ensures.end (omega (arith, c.deref.ensures.len, verified-short c.one_verdict.ensures.short c.deref.result.now c.verified.result c.verified.ensures.found all)));
      fault = λ e. absurd (c.verified.ensures.read e);
      fault_exactly = λ rose. absurd (omega (arith, rose, no_fault));
      never_falls = c.in-Ok.ensures.never_falls;
      tellable = c.verified.ensures.tellable;
    }
