use Rattle.std.proofs.Common.{◌≡◌, ℕ, List, None, Some}
use Rattle.gh_table.proofs.Vocabulary.{BeganAsEach, begun_next, Ran, WentOn}
use Rattle.gh_table.proofs.hand.Hand.operate_on.Given as goal

abbrev pub invariant-loop : goal.invariant-loop
invariant-loop g l =
    (l.self.actor ≡ l.fn.self.actor)
    × (l.self.seat.table_id ≡ l.fn.self.seat.table_id)
    × ((es : List _) → BeganAsEach l.self.seat.me.0.seen es → BeganAsEach l.fn.self.seat.me.0.seen es)
    × ((founds : List ℕ)
    × Ran g.M.Machine.asks g.M.Machine.goes l.fn.self.actor (Some l.fn.op) (g.M.Operates.begins l.fn.self.machine l.fn.op) l.fn.self.seat.me l.self.machine l.self.seat.me founds
    × WentOn g.M.Machine.busy g.M.Machine.goes (g.M.Operates.begins l.fn.self.machine l.fn.op) founds
    × (begun_next (Some l.fn.op) founds ≡ None))
