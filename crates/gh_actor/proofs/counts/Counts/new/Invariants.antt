use Rattle.std.proofs.Common.{◌≡◌, ◌≤◌, ℕ, Bool, false, length, take, Some, slice_get, sum_by}
use Rattle.std.specs.Vec.{vec_capacity}
use Rattle.gh_actor.proofs.Vocabulary.{wishes_in, wishes_of}
use Rattle.gh_actor.proofs.counts.Counts.new.Given as goal

abbrev pub invariant-loop-g : goal.invariant-loop-g
invariant-loop-g l = record {
  many : l.many ≡ length l.script.goroutines;
  within : l.g ≤ l.many;
  room_left : l.many ≤ vec_capacity l.left;
  room_over : l.many ≤ vec_capacity l.over;
  many_left : length l.left.items ≡ l.g;
  many_over : length l.over.items ≡ l.g;
  left : (g n : ℕ) → slice_get l.left.items g ≡ Some n → n ≡ wishes_of l.script g;
  over : (g : ℕ) (b : Bool) → slice_get l.over.items g ≡ Some b → b ≡ false;
  sum : sum_by (λ (n : ℕ). n) l.left.items ≡ sum_by wishes_in (take l.g l.script.goroutines);
}
