use Rattle.std.proofs.Common.{◌≤◌, ◌+◌, All, length}
use Rattle.std.specs.Prelude.{IfSome}
use Rattle.std.specs.Vec.{vec_capacity}
use Rattle.std.specs.Vec.Iter.{into_iter_items}
use Rattle.gh_shared.specs.Handles.{IsHandleOf}
use Rattle.gh_shared.proofs.running.gathered.Given as goal

abbrev pub invariant-loop-runner : goal.invariant-loop-runner
invariant-loop-runner g l = record {
  rest : All (λ j. IsHandleOf l.heap j.handle) (into_iter_items l.runner-iterator);
  last : IfSome l.last (IsHandleOf l.heap);
  room : length l.plays.items + length (into_iter_items l.runner-iterator) ≤ vec_capacity l.plays;
}
