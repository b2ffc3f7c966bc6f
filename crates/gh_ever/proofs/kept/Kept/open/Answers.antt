use Rattle.std.proofs.Common.{length, refl, arith, ◌∙◌}
use Rattle.gh_ever.proofs.Empty.{opening_sound}
use Rattle.gh_ever.proofs.kept.Kept.open.Goals as goal

pub invariant_of-result : goal.invariant_of-result
invariant_of-result c = opening_sound _ (length c.args.left.items)
    c.requires.sized
    c.total_of-statements.ensures.fits refl (grind arith) (grind arith) c.in_ok-with_capacity.ensures.items c.in_ok-with_capacity-3.ensures.items
    c.in_ok-with_capacity.ensures.len c.in_ok-with_capacity-3.ensures.len
    (c.in_ok-with_capacity.ensures.exact ∙ c.total_of-statements.ensures.total) (c.in_ok-with_capacity-3.ensures.exact ∙ c.total_of-statements.ensures.total)
    c.in_ok-with_capacity-2.ensures.empty c.in_ok-with_capacity-4.ensures.empty
    (omega (arith, c.in_ok-with_capacity-2.ensures.spare, c.total_of-statements.ensures.total)) (omega (arith, c.in_ok-with_capacity-4.ensures.spare, c.total_of-statements.ensures.total))
