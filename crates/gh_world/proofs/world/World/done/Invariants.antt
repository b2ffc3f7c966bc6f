use Rattle.std.proofs.Common.{◌≡◌, ◌<◌, ◌≤◌, true, ℕ}
use Rattle.gh_world.proofs.Vocabulary.{is_done}
use Rattle.gh_world.proofs.world.World.done.Given as goal

abbrev pub invariant-loop-actor : goal.invariant-loop-actor
invariant-loop-actor l = record {
  within : l.actor ≤ l.actor-end;
  so_far : (a : ℕ) → a < l.actor → is_done l.self a ≡ true;
}
