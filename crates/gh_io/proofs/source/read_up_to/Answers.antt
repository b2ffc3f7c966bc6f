use Rattle.std.proofs.Common.{rules}
use Rattle.gh_io.proofs.Told.{Consumes-grown}
use Rattle.gh_io.proofs.source.read_up_to.Goals as goal

pub loop-src-preserved : goal.loop-src-preserved
loop-src-preserved g c = record {
  within = search rules;
  consumed = Consumes-grown _ _ _ _ _ c.loop-src.invariant.consumed c.in_ok-read_chunk.ensures.appends c.in_ok-read_chunk.ensures.next;
  no_fault = search rules;
}
