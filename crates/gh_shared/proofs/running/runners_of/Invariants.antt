use Rattle.std.proofs.Common.{◌≡◌, ◌+◌, All, length}
use Rattle.std.specs.Vec.Iter.{into_iter_items}
use Rattle.gh_shared.proofs.Vocabulary.{plan_of, seats_of}
use Rattle.gh_shared.specs.Handles.{IsHandleOf}
use Rattle.gh_shared.specs.Runners.{AreOf}
use Rattle.gh_shared.proofs.running.runners_of.Given as goal

abbrev pub invariant-loop-handle : goal.invariant-loop-handle
invariant-loop-handle g l = record {
  rest : All (IsHandleOf l.heap) (into_iter_items l.handle-iterator);
  done : AreOf l.heap l.runners.items;
  many : length l.runners.items + length (into_iter_items l.handle-iterator) ≡ seats_of (plan_of l.heap).layout;
}
