use Rattle.std.proofs.Common.{◌≡◌, ◌≤◌, drop}
use Rattle.gh_replay.proofs.Vocabulary.{is_digit, list_all, value_from}
use Rattle.gh_replay.proofs.list.ranged.Given as goal

abbrev pub invariant-loop-b : goal.invariant-loop-b
invariant-loop-b l = record {
  few : l.value ≤ l.most;
  digits : list_all is_digit (drop l.b-index l.word) ≡ list_all is_digit l.word;
  value : value_from l.value (drop l.b-index l.word) ≡ value_from 0 l.word;
}
