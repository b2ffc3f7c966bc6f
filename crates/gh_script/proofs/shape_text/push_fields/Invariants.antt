use Rattle.std.proofs.Common.{◌≡◌, ◌++◌, replicate}
use Rattle.gh_script.proofs.shape_text.push_fields.Given as goal

abbrev pub invariant-loop-k : goal.invariant-loop-k
invariant-loop-k l = l.fields.items ≡ l.initial.fields.items ++ replicate l._k l.pointer
