use Rattle.std.proofs.Common.{◌≡◌, drop, slice_get}
use Rattle.gh_replay.proofs.Others.{but}
use Rattle.gh_replay.proofs.place.other_at.Given as goal

abbrev pub invariant-loop-a : goal.invariant-loop-a
invariant-loop-a l = slice_get (but l.actor (drop l.a-index l.kept)) l.before ≡ slice_get (but l.actor l.kept) l.fn.k
