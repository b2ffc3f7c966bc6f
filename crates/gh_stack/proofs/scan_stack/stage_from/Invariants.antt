use Rattle.std.proofs.Common.{◌≡◌}
use Rattle.gh_stack.proofs.Vocabulary.{shade_stage_from}
use Rattle.gh_stack.proofs.scan_stack.stage_from.Given as goal

abbrev pub invariant-loop-register : goal.invariant-loop-register
invariant-loop-register l = shade_stage_from l.registers l.from ≡ shade_stage_from l.registers l.register
