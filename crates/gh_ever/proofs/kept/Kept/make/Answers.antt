use Rattle.std.proofs.Common.{◌≡◌, ◌<◌, length, ap, arith, ◌∙◌, sym, subst}
use Rattle.gh_ever.proofs.Vocabulary.{ever_of, IsDue, Lists, lists_of, next_name, Ref, spare, with_object, with_register}
use Rattle.gh_ever.proofs.Closing.{make_after, make_sound}
use Rattle.gh_ever.proofs.Putting.{where_ok}
use Rattle.gh_ever.proofs.Writing.{sum-spent}
use Rattle.gh_ever.proofs.kept.Kept.make.Goals as goal

pub returns-clause-after : goal.returns-clause-after
returns-clause-after c =
    let due : IsDue (lists_of c.self.inside) c.args.g = subst (λ (l : Lists). IsDue l c.args.g) (sym c.self.view_is) c.requires.due in
    let named : c.next_name-name.result ≡ next_name (ever_of (lists_of c.self.inside)) c.args.g = c.next_name-name.ensures ∙ ap (λ (l : Lists). next_name (ever_of l) c.args.g) (sym c.self.view_is) in
    make_after (lists_of c.self.inside) c.put.new.cells.items _ c.push_reserved.new.self.items c.index_mut.result.now c.args.g c.args.d c.args.t c.next_name-name.result
    c.self.invariant.sound due.0 named c.index_mut.ensures.value c.push_reserved.ensures.items c.put.ensures.items
    ∙ ap (λ (l : Lists). with_register (with_object l.shapes (ever_of l) c.args.g c.args.t) c.args.g c.args.d (Ref c.next_name-name.result)) c.self.view_is

pub invariant_of-self : goal.invariant_of-self
invariant_of-self c =
    let due : IsDue (lists_of c.self.inside) c.args.g = subst (λ (l : Lists). IsDue l c.args.g) (sym c.self.view_is) c.requires.due in
    let kind : c.args.t < length c.self.inside.shapes = subst (λ (l : Lists). c.args.t < length l.shapes) (sym c.self.view_is) c.requires.typed in
    let named : c.next_name-name.result ≡ next_name (ever_of (lists_of c.self.inside)) c.args.g = c.next_name-name.ensures ∙ ap (λ (l : Lists). next_name (ever_of l) c.args.g) (sym c.self.view_is) in
    let some : 0 < spare c.self.inside.kinds = omega (arith, sum-spent c.self.inside.left.items c.args.g due.0 due.1, c.self.invariant.more_kinds) in
    make_sound c.self.inside c.put.new.cells c.put.new.places c.push_reserved.new.self c.insert.new.self c.index_mut.result.now c.args.g c.index_mut-2.result.now c.args.d c.args.t c.next_name-name.result
    c.self.invariant due.0 due.1 kind named c.index_mut.ensures.value c.index_mut-2.ensures.value
    c.push_reserved.ensures.items c.push_reserved.ensures.capacity c.push_reserved.ensures.len c.put.ensures.items c.put.ensures.room c.put.ensures.len
    c.put.ensures.finds c.put.ensures.spare (where_ok c.insert.result c.insert.ensures.updates (c.insert.ensures.succeeds some)).0 c.insert.ensures.spare
