use Rattle.std.proofs.Common.{◌+◌, true, false, None, ap, ◌∙◌, sym, subst, arith}
use Rattle.gh_tri.proofs.Vocabulary.{by_three, cells, IsOpeningPicture, picture_of}
use Rattle.gh_tri.proofs.Keeping.{opening-holds}
use Rattle.gh_tri.proofs.Opens.{more-cells, cells-of, placed-first, first-made, first-empty, cells-replicate, cells-unscanned, three-same, opening-is, opens}
use Rattle.gh_tri.proofs.moves.Picture.new.Goals as goal

pub place-requires : goal.place-requires
place-requires c = cells-of _ _ _ _ c.args.edges.now c.in_ok-values.ensures.rows c.in_ok-values.ensures.columns (more-cells c.args.objects (c.args.objects + c.args.room) c.args.fields c.args.edges.now (omega arith) c.requires.edge_fields)

pub invariant_of-result-clause-empty : goal.invariant_of-result-clause-empty
invariant_of-result-clause-empty c = first-empty _ c.args.edges.now c.args.objects c.args.fields (placed-first _ _ _ _ c.args.edges.now c.place.ensures.cells c.in_ok-values.ensures.items) c.requires.edge_fields

pub invariant_of-result-clause-values_made : goal.invariant_of-result-clause-values_made
invariant_of-result-clause-values_made c = first-made _ c.args.edges.now c.args.objects (placed-first _ _ _ _ c.args.edges.now c.place.ensures.cells c.in_ok-values.ensures.items) c.requires.edge_objects

pub invariant_of-result-clause-registers_made : goal.invariant_of-result-clause-registers_made
invariant_of-result-clause-registers_made c = first-made _ c.args.held.now c.args.objects (placed-first _ _ _ _ c.args.held.now c.place-2.ensures.cells c.in_ok-registers.ensures.items) c.requires.held_objects

pub returns-clause-opened : goal.returns-clause-opened
unfolding picture_of
returns-clause-opened c =
    opens c.args.objects c.args.room c.args.fields c.args.stacks c.args.edges.now c.args.held.now _ _ _ _ _ _
    c.in_ok-colours.ensures.colours
    (placed-first _ _ _ _ c.args.edges.now c.place.ensures.cells c.in_ok-values.ensures.items)
    (ap (λ n. cells true n c.in_ok-scanned.scanned.items.items) c.in_ok-scanned.ensures.columns ∙ cells-unscanned c.args.objects c.args.fields _ c.in_ok-scanned.ensures.items)
    (placed-first _ _ _ _ c.args.held.now c.place-2.ensures.cells c.in_ok-registers.ensures.items)
    (cells-replicate false _ _ _ c.in_ok-seen.ensures.items)
    (ap (by_three None (c.args.objects + c.args.room)) (cells-replicate None _ _ _ c.in_ok-reads.ensures.items) ∙ three-same None (c.args.objects + c.args.room))

pub returns-clause-opening : goal.returns-clause-opening
returns-clause-opening c =
    subst IsOpeningPicture (sym (returns-clause-opened c))
    (opening-is c.args.objects c.args.room c.args.fields c.args.stacks c.args.edges.now c.args.held.now c.requires.some c.requires.edge_fields c.requires.edge_objects c.requires.held_registers c.requires.held_objects)

pub returns-clause-invariants : goal.returns-clause-invariants
returns-clause-invariants c = opening-holds _ (returns-clause-opening c)
