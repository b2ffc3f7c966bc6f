use Rattle.std.proofs.Common.{◌≡◌}
use Rattle.gh_run.proofs.Vocabulary.{IsBetweenTurns, number_of, vec_capacity}
use Rattle.gh_run.proofs.turning.take_turns.Given as goal

abbrev pub invariant-loop : goal.invariant-loop
invariant-loop g l = IsBetweenTurns l.script l.heap l.h l.progress l.answers.items (vec_capacity l.answers) × (number_of l.h ≡ number_of l.initial.h)
