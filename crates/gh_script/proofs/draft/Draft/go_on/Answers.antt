use Rattle.std.proofs.Common.{arith}
use Rattle.gh_script.proofs.Vocabulary.{said}
use Rattle.gh_script.proofs.Allowed.{setting_fits, times_fit, type_fits, name_fits}
use Rattle.gh_script.proofs.draft.Draft.go_on.Goals as goal

pub small_number-requires : goal.small_number-requires
small_number-requires c = setting_fits c.args.self.now c.args.key (said c.args.line.now) c.in-Setting.x c.requires.allowed c.in-Setting.is

pub add_type-requires : goal.add_type-requires
add_type-requires c = type_fits c.args.self.now c.args.key (said c.args.line.now) c.requires.allowed c.in-Type.is

pub begin-requires : goal.begin-requires
begin-requires c = name_fits c.args.self.now c.args.key (said c.args.line.now) c.requires.allowed c.in-Go.is

pub small_number-requires-in-Repeat : goal.small_number-requires-in-Repeat
small_number-requires-in-Repeat c = omega (arith, times_fit c.args.self.now c.args.key (said c.args.line.now) c.requires.allowed c.in-Repeat.is)
