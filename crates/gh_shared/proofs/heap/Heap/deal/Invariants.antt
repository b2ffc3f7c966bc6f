use Rattle.std.proofs.Common.{◌≡◌, ◌≤◌, ◌-◌, ℕ, [], length, Some, slice_get}
use Rattle.std.specs.Vec.{vec_capacity}
use Rattle.gh_shared.proofs.Vocabulary.{Handle, IsFresh, rest_carried, seats_of}
use Rattle.gh_shared.proofs.heap.Heap.deal.Given as goal

abbrev pub invariant-loop-actor : goal.invariant-loop-actor
invariant-loop-actor l = record {
  many : l.many ≡ seats_of l.plan.layout;
  within : l.actor ≤ l.many;
  room : l.many ≤ vec_capacity l.handles;
  so_far : length l.handles.items ≡ l.actor;
  table : l.rest.table_id ≡ l.self.table.shared.table_id;
  rest : l.rest.me ≡ (rest_carried l.plan l.actor (l.many - l.actor), []);
  each : (a : ℕ) (h : Handle) → slice_get l.handles.items a ≡ Some h → IsFresh l.self a h;
}
