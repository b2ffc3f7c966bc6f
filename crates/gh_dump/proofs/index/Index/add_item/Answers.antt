use Rattle.std.proofs.Common.{◌∷◌, ◌++◌, [], Some, sym, subst}
use Rattle.gh_dump.specs.Index.{Indexes}
use Rattle.gh_dump.specs.Vocabulary.{Item}
use Rattle.gh_dump.proofs.Indexed.{by_global_line, by_parent_line, field_line_more, global_line_more, object_more, on_ok, other_moves, total_line_other}
use Rattle.gh_dump.proofs.index.Index.add_item.Goals as goal

pub returns-in-Global-clause-lists : goal.returns-in-Global-clause-lists
returns-in-Global-clause-lists c =
    let w = c.in-Global in
    let f = c.add_global in
    on_ok f.result f.ensures (λ a items h. subst (λ (i : Item). Indexes f.new.self (items ++ Some i ∷ [])) (sym w.is) (global_line_more c.args.self.now f.new.self w.k w.x items a h))

pub returns-in-ObjectByGlobal-clause-lists : goal.returns-in-ObjectByGlobal-clause-lists
returns-in-ObjectByGlobal-clause-lists c =
    let w = c.in-ObjectByGlobal in
    let f = c.add_object in
    on_ok f.result f.ensures
    (λ a items h. subst (λ (i : Item). Indexes f.new.self (items ++ Some i ∷ [])) (sym w.is) (object_more c.args.self.now f.new.self w.object w.bytes w.rank items _ (by_global_line w.object w.bytes w.rank _) a h))

pub returns-in-ObjectByParent-clause-lists : goal.returns-in-ObjectByParent-clause-lists
returns-in-ObjectByParent-clause-lists c =
    let w = c.in-ObjectByParent in
    let f = c.add_object-in-ObjectByParent in
    on_ok f.result f.ensures
    (λ a items h. subst (λ (i : Item). Indexes f.new.self (items ++ Some i ∷ [])) (sym w.is) (object_more c.args.self.now f.new.self w.object w.bytes w.rank items _ (by_parent_line w.object w.bytes w.rank _ _) a h))

pub returns-in-Field-clause-lists : goal.returns-in-Field-clause-lists
returns-in-Field-clause-lists c =
    let w = c.in-Field in
    let f = c.add_field in
    on_ok f.result f.ensures (λ a items h. subst (λ (i : Item). Indexes f.new.self (items ++ Some i ∷ [])) (sym w.is) (field_line_more c.args.self.now f.new.self w.i w.x items a h))

pub returns-in-Total-clause-lists : goal.returns-in-Total-clause-lists
returns-in-Total-clause-lists c =
    let w = c.in-Total in
    let f = c.skip in
    on_ok f.result f.ensures (λ a items h. subst (λ (i : Item). Indexes f.new.self (items ++ Some i ∷ [])) (sym w.is) (other_moves c.args.self.now f.new.self items _ (total_line_other _ _) a h))
