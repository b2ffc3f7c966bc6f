use Rattle.gh_plenty.proofs.Generated.{has_plenty}
use Rattle.gh_plenty.proofs.laws.generated_scripts_are_never_full.Goals as goal

pub returns : goal.returns
returns c = λ seed size l es o few laid run.
    c.scripts_with_plenty_are_never_full.ensures _ l es o (c.one_reading.ensures.formed _ _ (c.generated_scripts_spell.ensures seed size few)) (has_plenty seed size few (c.generated_scripts_have_their_size.ensures seed size)) laid run
