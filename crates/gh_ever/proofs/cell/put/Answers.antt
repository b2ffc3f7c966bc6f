use Rattle.std.proofs.Common.{◌≡◌, Some, None, sym, ◌∙◌, arith}
use Rattle.gh_ever.proofs.Vocabulary.{index_of}
use Rattle.gh_ever.proofs.Putting.{finds_here, finds_past, index_within, put_here, put_past, where_ok}
use Rattle.gh_ever.proofs.cell.put.Goals as goal

pub index_mut-requires : goal.index_mut-requires
index_mut-requires c =
    let at : index_of c.args.cells.now.items c.args.place ≡ Some c.in-Some.i = sym (c.requires.finds c.args.place) ∙ sym c.get.ensures.value ∙ sym c.copied.ensures ∙ c.in-Some.is in
    omega (arith, index_within c.args.cells.now.items c.args.place c.in-Some.i at, c.args.cells.now.ok.0)

pub returns-in-Some-clause-items : goal.returns-in-Some-clause-items
returns-in-Some-clause-items c =
    let at : index_of c.args.cells.now.items c.args.place ≡ Some c.in-Some.i = sym (c.requires.finds c.args.place) ∙ sym c.get.ensures.value ∙ sym c.copied.ensures ∙ c.in-Some.is in
    put_here c.args.cells.now.items c.args.place c.args.value c.in-Some.i c.index_mut.result.now at c.index_mut.ensures.value

pub returns-in-Some-clause-finds : goal.returns-in-Some-clause-finds
returns-in-Some-clause-finds c =
    let at : index_of c.args.cells.now.items c.args.place ≡ Some c.in-Some.i = sym (c.requires.finds c.args.place) ∙ sym c.get.ensures.value ∙ sym c.copied.ensures ∙ c.in-Some.is in
    finds_here c.args.places.now c.args.cells.now.items _ c.args.place c.args.value c.in-Some.i c.requires.finds at
    (put_here c.args.cells.now.items c.args.place c.args.value c.in-Some.i c.index_mut.result.now at c.index_mut.ensures.value)

pub returns-in-None-clause-items : goal.returns-in-None-clause-items
returns-in-None-clause-items c =
    let none : index_of c.args.cells.now.items c.args.place ≡ None = sym (c.requires.finds c.args.place) ∙ sym c.get.ensures.value ∙ sym c.copied.ensures ∙ c.in-None.is in
    c.push_reserved.ensures.items ∙ put_past c.args.cells.now.items c.args.place c.args.value none

pub returns-in-None-clause-finds : goal.returns-in-None-clause-finds
returns-in-None-clause-finds c =
    let none : index_of c.args.cells.now.items c.args.place ≡ None = sym (c.requires.finds c.args.place) ∙ sym c.get.ensures.value ∙ sym c.copied.ensures ∙ c.in-None.is in
    finds_past c.args.places.now c.insert.new.self c.args.cells.now.items _ c.args.place c.args.value c.len.result c.requires.finds none
    (c.push_reserved.ensures.items ∙ put_past c.args.cells.now.items c.args.place c.args.value none) (c.len.ensures ∙ c.args.cells.now.ok.0)
    (where_ok c.insert.result c.insert.ensures.updates (c.insert.ensures.succeeds c.requires.spare)).0
