use Rattle.std.proofs.Common.{◌+◌, drop, get_or, Some, None, refl, sym, ◌∙◌, arith}
use Rattle.gh_replay.proofs.Vocabulary.{until_of}
use Rattle.gh_replay.proofs.Pieces.{no_until, signed, unsigned}
use Rattle.gh_replay.proofs.list.turn.Goals as goal

pub returns-then-i-piece : goal.returns-then-i-piece
returns-then-i-piece c = unsigned c.args.piece.now c.sign_index-i.result c.sign_index-i.ensures.at (omega arith)

pub returns-in-None : goal.returns-in-None
returns-in-None c = signed c.args.piece.now (drop (c.sign_index-i.result + 1) c.args.piece.now) c.sign_index-i.result None (until_of (Some (get_or c.args.piece.now c.sign_index-i.result 0)) (drop (c.sign_index-i.result + 1) c.args.piece.now)) c.sign_index-i.ensures.at (omega (arith, c.if-i-piece.false, c.sign_index-i.ensures.within)) (sym c.in-None.is ∙ c.ranged.ensures.number) refl refl

pub returns-in-Some-until : goal.returns-in-Some-until
returns-in-Some-until c = signed c.args.piece.now c.behind.result.now c.sign_index-i.result (Some c.in-Some.actor) (Some c.in-Some-until.until) c.sign_index-i.ensures.at (omega (arith, c.if-i-piece.false, c.sign_index-i.ensures.within)) (sym c.in-Some.is ∙ c.ranged.ensures.number) c.behind.ensures (sym c.in-Some-until.is ∙ c.until.ensures)

pub returns-in-None-until : goal.returns-in-None-until
returns-in-None-until c = sym (no_until (Some c.in-Some.actor)) ∙ signed c.args.piece.now c.behind.result.now c.sign_index-i.result (Some c.in-Some.actor) None c.sign_index-i.ensures.at (omega (arith, c.if-i-piece.false, c.sign_index-i.ensures.within)) (sym c.in-Some.is ∙ c.ranged.ensures.number) c.behind.ensures (sym c.in-None-until.is ∙ c.until.ensures)
