use Rattle.std.proofs.Common.{◌≡◌, ◌≤◌, length}
use Rattle.gh_world.proofs.Turning.{turns_from}
use Rattle.gh_world.proofs.turns.first_turn.Given as goal

abbrev pub invariant-loop-h : goal.invariant-loop-h
invariant-loop-h l = record {
  behind : l.fn.g ≤ l.h;
  within : l.h ≤ length l.script.goroutines;
  same : turns_from l.script l.seat l.round l.fn.g ≡ turns_from l.script l.seat l.round l.h;
}
