use Rattle.std.proofs.Common.{◌≡◌, ◌^◌, drop}
use Rattle.gh_script.proofs.Numbers.{reads_from}
use Rattle.gh_script.proofs.word.digits_value.Given as goal

abbrev pub invariant-loop-b : goal.invariant-loop-b
invariant-loop-b l = reads_from (2 ^ 64) l.value (drop l.b-index l.digits) ≡ reads_from (2 ^ 64) 0 l.digits
