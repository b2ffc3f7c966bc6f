use Rattle.std.proofs.Common.{◌≡◌, ◌+◌, ◌++◌, ◌∷◌, [], ◌<◌, Some, length-append, sym, ap, ◌∙◌, length, arith}
use Rattle.gh_replay.proofs.Vocabulary.{is_comma, slice_split}
use Rattle.gh_replay.proofs.Pieces.{ends, fewer, goes_on, stops, too_many}
use Rattle.gh_replay.proofs.list.parse_list.Goals as goal

pub returns-in-None : goal.returns-in-None
returns-in-None c = stops c.args.text.now c.pieces.rest.now c.pieces.turns.items c.comma_index-end.result c.pieces.invariant.all c.comma_index-end.ensures.at (sym c.turn.ensures ∙ c.in-None.is)

pub returns-then-end-rest : goal.returns-then-end-rest
returns-then-end-rest c = ap Some c.in_ok-push-in-Some.ensures.items ∙ ends c.args.text.now c.pieces.rest.now c.pieces.turns.items c.comma_index-end.result c.pieces.invariant.all c.comma_index-end.ensures.at c.in-Some.turn (sym c.turn.ensures ∙ c.in-Some.is) (omega (arith, c.if-end-rest.true)) (omega (arith, c.pieces-test.true, c.len.ensures, c.pieces.turns.ok.0)) c.pieces.invariant.count

pub pieces-preserved : goal.pieces-preserved
pieces-preserved c =
    let grown : c.push.new.self.items ≡ c.pieces.turns.items ++ c.in-Some.turn ∷ [] = c.in_ok-push-in-Some.ensures.items in
    let more : length c.push.new.self.items ≡ length c.pieces.turns.items + 1 = ap length grown ∙ length-append c.pieces.turns.items (c.in-Some.turn ∷ []) in
    let before : c.comma_index-end.result < length c.pieces.rest.now = omega (arith, c.if-end-rest.false, c.comma_index-end.ensures.within) in
    record {
      few = omega (arith, more, c.pieces-test.true, c.len.ensures, c.pieces.turns.ok.0);
      count = rw (more, c.behind-rest.ensures) (fewer c.pieces.rest.now c.comma_index-end.result (length c.pieces.turns.items) (length (slice_split is_comma c.args.text.now)) c.comma_index-end.ensures.at before c.pieces.invariant.count);
      all = rw (grown, c.behind-rest.ensures) (goes_on c.args.text.now c.pieces.rest.now c.pieces.turns.items c.comma_index-end.result c.pieces.invariant.all c.comma_index-end.ensures.at c.in-Some.turn (sym c.turn.ensures ∙ c.in-Some.is) before);
    }

pub returns : goal.returns
returns c = too_many c.args.text.now c.pieces.rest.now (length c.pieces.turns.items) (omega (arith, c.pieces-test.false, c.len.ensures, c.pieces.turns.ok.0)) c.pieces.invariant.count
