use Rattle.std.proofs.Common.{◌∷◌, ◌++◌, [], Option, None, sym, subst}
use Rattle.gh_dump.specs.Index.{Indexes}
use Rattle.gh_dump.specs.Vocabulary.{Item}
use Rattle.gh_dump.proofs.Indexed.{no_line_other, on_ok, other_moves}
use Rattle.gh_dump.proofs.index.Index.add.Goals as goal

pub returns-in-Some-clause-lists : goal.returns-in-Some-clause-lists
returns-in-Some-clause-lists c =
    on_ok c.add_item.result c.add_item.ensures.lists (λ a items h. subst (λ (l : Option Item). Indexes c.add_item.new.self (items ++ l ∷ [])) (sym c.in-Some.is) (a items h))

pub returns-in-None-clause-lists : goal.returns-in-None-clause-lists
returns-in-None-clause-lists c =
    on_ok c.skip.result c.skip.ensures
    (λ a items h. subst (λ (l : Option Item). Indexes c.skip.new.self (items ++ l ∷ [])) (sym c.in-None.is) (other_moves c.args.self.now c.skip.new.self items None no_line_other a h))
