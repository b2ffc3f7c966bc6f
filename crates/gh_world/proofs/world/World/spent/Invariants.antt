use Rattle.std.proofs.Common.{◌≡◌, ◌%◌, ◌^◌}
use Rattle.gh_world.proofs.Vocabulary.{actor_of, spent_among}
use Rattle.gh_world.proofs.world.World.spent.Given as goal

abbrev pub invariant-loop-runner : goal.invariant-loop-runner
invariant-loop-runner l = l.spent ≡ spent_among (actor_of l.self) l.runner-index % 2 ^ 64
