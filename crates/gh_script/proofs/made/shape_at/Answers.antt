use Rattle.std.proofs.Common.{sym}
use Rattle.gh_script.proofs.Asking.{may_have_shape}
use Rattle.gh_script.proofs.made.shape_at.Goals as goal

pub shape-requires : goal.shape-requires
shape-requires c = may_have_shape c.args.i c.as_bytes-word.result.now (sym c.in_default.ensures)
