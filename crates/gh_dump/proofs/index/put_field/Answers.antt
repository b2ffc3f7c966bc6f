use Rattle.std.proofs.Common.{sym, ◌∙◌}
use Rattle.gh_dump.proofs.Noted.{field_noted}
use Rattle.gh_dump.proofs.index.put_field.Goals as goal

pub returns : goal.returns
returns c = field_noted c.args.fields.now c.insert.new.self c.args.p c.args.i c.args.object (sym c.contains_key.ensures ∙ c.if-contains_key.false) c.in_ok-insert.ensures.updates.0
