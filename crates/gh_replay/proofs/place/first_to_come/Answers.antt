use Rattle.std.proofs.Common.{sym, ◌∙◌, arith}
use Rattle.gh_replay.proofs.Vocabulary.{seen_of}
use Rattle.gh_replay.proofs.Going.{come_here, come_past, come_to_end}
use Rattle.gh_replay.proofs.place.first_to_come.Goals as goal

pub loop-i-preserved : goal.loop-i-preserved
loop-i-preserved c = come_past (seen_of c.args.world.now) c.args.list.now c.loop-i.i _ c.loop-i-test.true (sym c.is_over.ensures ∙ c.if-not-is_over.false) ∙ c.loop-i.invariant

pub returns-then-not-is_over-clause-items : goal.returns-then-not-is_over-clause-items
returns-then-not-is_over-clause-items c = sym (come_here (seen_of c.args.world.now) c.args.list.now c.loop-i.i _ c.loop-i-test.true (sym c.is_over.ensures ∙ c.if-not-is_over.true)) ∙ c.loop-i.invariant

pub returns-clause-items : goal.returns-clause-items
returns-clause-items c = come_to_end (seen_of c.args.world.now) c.args.list.now c.loop-i.i (omega arith) ∙ c.loop-i.invariant
