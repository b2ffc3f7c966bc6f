use Rattle.std.proofs.Common.{rules}
use Rattle.gh_io.proofs.Told.{Appends-rest}
use Rattle.gh_io.proofs.sink.write_all.Goals as goal

pub loop-at-preserved : goal.loop-at-preserved
loop-at-preserved g c = record {
  within = search rules;
  taken = Appends-rest _ _ _ _ _ _ (search rules) c.loop-at.invariant.taken c.in_ok-at.ensures.next;
  no_fault = search rules;
  empty = search rules;
}
