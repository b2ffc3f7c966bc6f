use Rattle.std.proofs.Common.{ap, sym, ◌∙◌, rules, nat_lt}
use Rattle.gh_mutator.proofs.Vocabulary.{slot_in}
use Rattle.gh_mutator.proofs.ClassFacts.{ClassLaws}
use Rattle.gh_mutator.proofs.Fields.{field_there}
use Rattle.gh_mutator.proofs.field.has_field.Goals as goal

pub returns-clause-few : goal.returns-clause-few
returns-clause-few c h =
    let laws : ClassLaws = search rules in
    field_there laws c.args.k c.args.found (ap (nat_lt c.args.k) (sym (c.slot_words.ensures ∙ ap slot_in c.unpack.ensures.says)) ∙ h)
