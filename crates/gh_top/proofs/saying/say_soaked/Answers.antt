use Rattle.std.proofs.Common.{◌≡◌, subst, ◌∙◌}
use Rattle.gh_top.proofs.Vocabulary.{live_line, statements_line, TookPart}
use Rattle.gh_top.proofs.Lines.{both-part, both-told, err-map, ok-map, on-err}
use Rattle.gh_top.proofs.saying.say_soaked.Goals as goal

pub returns-in_err-write_all-clause-part : goal.returns-in_err-write_all-clause-part
returns-in_err-write_all-clause-part g c =
    let line : c.bytes.result.now ≡ statements_line c.args.statements = c.bytes.ensures ∙ c.statements.ensures in
    on-err c.from_residual.result (c.parts_are_of_both.ensures.first _ _ (statements_line c.args.statements) (live_line c.args.objects c.args.bytes)
    (subst (TookPart (g.K.Sink.taken c.args.out.now) (g.K.Sink.taken c.write_all.new.sink)) line c.in_err-write_all.ensures.part))

pub returns-clause-ok : goal.returns-clause-ok
returns-clause-ok g c =
    ok-map c.write_all-2.result
    (both-told (statements_line c.args.statements) (live_line c.args.objects c.args.bytes) c.bytes.result.now c.bytes-2.result.now _ _ _ (c.bytes.ensures ∙ c.statements.ensures) (c.bytes-2.ensures ∙ c.live.ensures) c.in_ok-write_all.ensures.ok)
    c.write_all-2.ensures.ok

pub returns-clause-part : goal.returns-clause-part
returns-clause-part g c =
    err-map c.write_all-2.result
    (both-part c.parts_are_of_both.ensures.second (statements_line c.args.statements) (live_line c.args.objects c.args.bytes) c.bytes.result.now c.bytes-2.result.now _ _ _ (c.bytes.ensures ∙ c.statements.ensures)
    (c.bytes-2.ensures ∙ c.live.ensures) c.in_ok-write_all.ensures.ok) c.write_all-2.ensures.part
