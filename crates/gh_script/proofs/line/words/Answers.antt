use Rattle.gh_script.proofs.Pieces.{goes, sentence_of-goes}
use Rattle.gh_script.proofs.line.words.Goals as goal

pub returns : goal.returns
returns c =
    sentence_of-goes _ _ _ _ _ _ _ _ _ _
    (goes _ _ _ c.next_word.ensures.cut c.next_word.ensures.none)
    (goes _ _ _ c.next_word-2.ensures.cut c.next_word-2.ensures.none)
    (goes _ _ _ c.next_word-3.ensures.cut c.next_word-3.ensures.none)
    (goes _ _ _ c.next_word-4.ensures.cut c.next_word-4.ensures.none)
    c.word_count.ensures
