use Rattle.std.proofs.Common.{drop, take, length, ◌-◌}
use Rattle.gh_script.proofs.Vocabulary.{take_rest}
use Rattle.gh_script.proofs.Pieces.{words_of-next, empty_word}
use Rattle.gh_script.proofs.line.next_word.Goals as goal

pub returns-clause-cut : goal.returns-clause-cut
returns-clause-cut c =
    let line = c.args.line.now in
    let start = c.blank_count.result in
    words_of-next line (take (length line - start) (drop start line)) start c.blank_index.result c.split_at.result.0.now c.split_at.result.1.now
    c.blank_count.ensures.at (take_rest line start) c.blank_index.ensures.at c.blank_index.ensures.within c.split_at.ensures.front c.split_at.ensures.back

pub returns-clause-none : goal.returns-clause-none
returns-clause-none c =
    let line = c.args.line.now in
    let start = c.blank_count.result in
    empty_word line (take (length line - start) (drop start line)) start c.blank_index.result c.split_at.result.0.now c.split_at.result.1.now
    c.blank_count.ensures.at (take_rest line start) c.blank_index.ensures.at c.blank_index.ensures.within c.split_at.ensures.front c.split_at.ensures.back
