use Rattle.std.proofs.Common.{◌≡◌, ◌+◌, length}
use Rattle.gh_run.proofs.Vocabulary.{EachFrom, into_iter_items, into_iter_len, IsFresh, IsJobOf, plan_of, seats_of}
use Rattle.gh_run.proofs.making.jobs.Given as goal

abbrev pub invariant-loop-handle : goal.invariant-loop-handle
invariant-loop-handle g l = record {
  many : length l.jobs.items + length (into_iter_items l.handle-iterator) ≡ seats_of (plan_of l.heap).layout;
  left : into_iter_len l.handle-iterator ≡ length (into_iter_items l.handle-iterator);
  fresh : EachFrom (IsFresh l.heap) (length l.jobs.items) (into_iter_items l.handle-iterator);
  each : EachFrom (IsJobOf l.script l.heap) 0 l.jobs.items;
}
