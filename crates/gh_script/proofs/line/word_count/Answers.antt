use Rattle.std.proofs.Common.{◌≡◌, length, sym, ◌∙◌, arith}
use Rattle.std.proofs.lemmas.Bool.{eqb-true}
use Rattle.gh_script.proofs.Pieces.{goes, length-goes_none, length-words_of-none}
use Rattle.gh_script.proofs.line.word_count.Goals as goal

pub returns-then-is_empty : goal.returns-then-is_empty
returns-then-is_empty c =
    let g = goes _ _ _ c.next_word.ensures.cut c.next_word.ensures.none in
    let empty : length c.next_word.result.0.now ≡ 0 = eqb-true _ _ (sym c.is_empty-in-words.ensures ∙ c.if-is_empty.true) in
    omega (arith, length-goes_none _ _ _ g empty)

pub returns : goal.returns
returns c =
    let empty : length c.words.rest.now ≡ 0 = eqb-true _ _ (sym c.is_empty.ensures ∙ c.words-test.false) in
    omega (arith, length-words_of-none c.words.rest.now empty)
