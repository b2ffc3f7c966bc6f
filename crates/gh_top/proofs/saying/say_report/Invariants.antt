use Rattle.std.proofs.Common.{◌≡◌, ◌≤◌, length, take}
use Rattle.gh_top.proofs.Vocabulary.{Appends, concat, is_checked, replay_lines}
use Rattle.gh_top.proofs.saying.say_report.Given as goal

abbrev pub invariant-loop-i : goal.invariant-loop-i
invariant-loop-i g l = record {
  within : l.i ≤ length (replay_lines l.script l.report.outcome (is_checked l.report));
  taken : Appends (g.K.Sink.taken l.initial.out) (g.K.Sink.taken l.out) (concat (take l.i (replay_lines l.script l.report.outcome (is_checked l.report))));
  no_fault : g.K.Sink.faults l.out ≡ g.K.Sink.faults l.initial.out;
}
