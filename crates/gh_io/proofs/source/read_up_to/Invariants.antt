use Rattle.std.proofs.Common.{◌≡◌, ◌-◌, ◌≤◌, vec_len}
use Rattle.std.specs.Io.KnownBytes.{Consumes}
use Rattle.gh_io.proofs.source.read_up_to.Given as goal

abbrev pub invariant-loop-src : goal.invariant-loop-src
invariant-loop-src g l = record {
  within : vec_len l.bytes ≤ l.limit;
  consumed : Consumes (g.S.Source.left l.initial.src) (g.S.Source.left l.src) l.bytes.items;
  no_fault : g.S.Source.faults l.src ≡ g.S.Source.faults l.initial.src;
}

abbrev pub decreases-loop-src : goal.decreases-loop-src
decreases-loop-src g l = l.limit - vec_len l.bytes
