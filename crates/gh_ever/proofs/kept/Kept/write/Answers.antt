use Rattle.std.proofs.Common.{ap, ◌∙◌, sym, subst}
use Rattle.gh_ever.proofs.Vocabulary.{ever_of, IsDue, IsInKnown, IsKnown, Lists, lists_of, with_value}
use Rattle.gh_ever.proofs.Closing.{write_after, write_sound}
use Rattle.gh_ever.proofs.kept.Kept.write.Goals as goal

pub returns-clause-after : goal.returns-clause-after
returns-clause-after c = write_after (lists_of c.self.inside) c.put.new.cells.items _ c.args.place c.args.value c.put.ensures.items
    ∙ ap (λ (l : Lists). with_value (ever_of l) c.args.place c.args.value) c.self.view_is

pub invariant_of-self : goal.invariant_of-self
invariant_of-self c =
    let due : IsDue (lists_of c.self.inside) c.args.g = subst (λ (l : Lists). IsDue l c.args.g) (sym c.self.view_is) c.requires.due in
    let inside : IsInKnown c.self.inside.objects.items c.args.place = subst (λ (l : Lists). IsInKnown l.objects c.args.place) (sym c.self.view_is) c.requires.inside in
    let known : IsKnown c.self.inside.objects.items c.args.value = subst (λ (l : Lists). IsKnown l.objects c.args.value) (sym c.self.view_is) c.requires.known in
    write_sound c.self.inside c.put.new.cells c.put.new.places c.args.g c.index_mut.result.now c.args.place c.args.value c.self.invariant due.0 due.1 c.index_mut.ensures.value
    c.put.ensures.items c.put.ensures.room c.put.ensures.len c.put.ensures.finds c.put.ensures.spare inside known
