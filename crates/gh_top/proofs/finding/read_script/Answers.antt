use Rattle.std.proofs.Common.{◌≡◌, ◌+◌, ◌∙◌, IfSome, ap, arith, subst, take}
use Rattle.gh_top.proofs.Vocabulary.{MOST_BYTES, reading_of}
use Rattle.gh_top.proofs.Texts.{end-told, script-same, spelled-short}
use Rattle.gh_top.proofs.finding.read_script.Goals as goal

pub returns-in-Ok : goal.returns-in-Ok
returns-in-Ok g c =
    let no_fault : g.S.Source.faults c.read_up_to.new.src ≡ g.S.Source.faults c.args.src.now = c.in-Ok.ensures.no_fault (λ e. absurd cc) in
    record {
      told = λ text left.
          let cut = c.deref.ensures.value ∙ subst (λ o. IfSome o (λ before. c.in-Ok.text.items ≡ take (MOST_BYTES + 1) before)) left c.in-Ok.ensures.bytes in
          script-same c.deref.result.now text c.parsed.result (ap reading_of cut ∙ c.one_reading.ensures.cut text) c.parsed.ensures.script;
      explained = (c.deref.result.now, c.parsed.ensures.script);
      read = λ ok text left.
          end-told _ _ text c.in-Ok.text.items left c.in-Ok.ensures.rest
          (c.in-Ok.ensures.end (omega (arith, c.deref.ensures.len, spelled-short (λ t p s. ((c.script_form.ensures t p).0 s).size) c.deref.result.now c.parsed.result c.parsed.ensures.script ok)));
      fault = λ e. absurd (c.parsed.ensures.read e);
      fault_exactly = λ rose. absurd (omega (arith, rose, no_fault));
      never_falls = c.in-Ok.ensures.never_falls;
    }
