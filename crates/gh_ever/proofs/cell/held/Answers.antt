use Rattle.std.proofs.Common.{◌≡◌, Option, Some, sym, ◌∙◌, ap, arith, ℕ, Bor}
use Rattle.gh_ever.proofs.Vocabulary.{Cell, index_of, option_copied}
use Rattle.gh_ever.proofs.Putting.{held_here, held_none, index_within}
use Rattle.gh_ever.proofs.cell.held.Goals as goal

pub index-requires : goal.index-requires
index-requires c =
    let at : index_of c.args.cells.now.items c.args.place ≡ Some c.in-Some.i.now = sym (c.requires c.args.place) ∙ sym c.get.ensures.value ∙ ap (λ (o : Option (Bor ℕ)). option_copied o) c.in-Some.is in
    let within = index_within c.args.cells.now.items c.args.place c.in-Some.i.now at in
    omega (arith, within, c.args.cells.now.ok.0)

pub returns-in-Some : goal.returns-in-Some
returns-in-Some c =
    let at : index_of c.args.cells.now.items c.args.place ≡ Some c.in-Some.i.now = sym (c.requires c.args.place) ∙ sym c.get.ensures.value ∙ ap (λ (o : Option (Bor ℕ)). option_copied o) c.in-Some.is in
    ap (λ (x : Cell). Some x.value) c.index.ensures ∙ held_here c.args.cells.now.items c.args.place c.in-Some.i.now c.index.result.now at

pub returns-in-None : goal.returns-in-None
returns-in-None c = held_none c.args.cells.now.items c.args.place (sym (c.requires c.args.place) ∙ sym c.get.ensures.value ∙ ap (λ (o : Option (Bor ℕ)). option_copied o) c.in-None.is)
