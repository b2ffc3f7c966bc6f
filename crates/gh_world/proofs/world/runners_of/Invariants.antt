use Rattle.std.proofs.Common.{◌≡◌, ◌≤◌, ℕ, length, Some, slice_get}
use Rattle.gh_world.proofs.Vocabulary.{IsOpening, Runner, SoundMutating, vec_capacity}
use Rattle.gh_world.proofs.world.runners_of.Given as goal

abbrev pub invariant-loop-seat : goal.invariant-loop-seat
invariant-loop-seat l = record {
  many : l.seat-end ≡ l.layout.procs;
  within : l.seat ≤ l.seat-end;
  room : l.seat-end ≤ vec_capacity l.runners;
  so_far : length l.runners.items ≡ l.seat;
  each : (a : ℕ) (x : Runner) → slice_get l.runners.items a ≡ Some x → IsOpening l.script a x;
  sound : (a : ℕ) (x : Runner) → slice_get l.runners.items a ≡ Some x → SoundMutating l.layout x.mutator.shapes x.mutator.processor;
}
