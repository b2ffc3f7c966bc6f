use Rattle.std.proofs.Common.{◌<◌, sym, arith}
use Rattle.gh_script.proofs.Asking.{small, stays_within}
use Rattle.gh_script.proofs.made.asking_at.Goals as goal

pub overflow_cast-g : goal.overflow_cast-g
overflow_cast-g c = let few : c.args.g < 32 = small c.args.types c.args.g c.args.before c.args.wishes (sym c.in_default.ensures) in omega arith

pub returns-clause-few : goal.returns-clause-few
returns-clause-few c = stays_within c.args.types c.args.g c.args.before c.args.wishes (sym c.in_default.ensures)
