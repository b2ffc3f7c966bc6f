use Rattle.std.proofs.Common.{◌*◌, ◌/◌, refl, ap, sym, ◌∙◌}
use Rattle.gh_class.specs.Classes.{slot_of}
use Rattle.gh_class.proofs.Table.{IsClassOf-small, slot_words_small, slot_words_large}
use Rattle.gh_class.proofs.class.slot_words.Goals as goal

pub returns-in-Some-clause-value : goal.returns-in-Some-clause-value
returns-in-Some-clause-value c =
    ap (λ n. n / 8) (c.slot_bytes.ensures.value ∙ ap slot_of c.in-Some.ensures.number) ∙ sym (slot_words_small _ (IsClassOf-small _ _ c.in-Some.ensures.class))

pub returns-in-None-clause-value : goal.returns-in-None-clause-value
returns-in-None-clause-value c =
    ap (λ n. 1024 * n) c.large_pages.ensures.value ∙ sym (slot_words_large _ (c.in-None.ensures.none.0 refl))
