use Rattle.std.proofs.Common.{◌≡◌, ◌++◌, drop, map}
use Rattle.gh_script.specs.Made.{shape_spelled}
unfoldable use Rattle.gh_script.specs.Made.{types_cause}
use Rattle.gh_script.proofs.made.shapes.Given as goal

-- no type so far is refused, and with the shapes still to be made these are all
abbrev pub invariant-loop-i : goal.invariant-loop-i
invariant-loop-i l = record {
  cause : types_cause l.i (map (λ t. t.now) (drop l.i l.types)) ≡ types_cause 0 (map (λ t. t.now) l.types);
  shapes : l.rows.items ++ map shape_spelled (map (λ t. t.now) (drop l.i l.types)) ≡ map shape_spelled (map (λ t. t.now) l.types);
}
