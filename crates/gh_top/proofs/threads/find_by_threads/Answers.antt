use Rattle.std.proofs.Common.{◌≡◌, ◌≤◌, Some, inr, arith, rules}
use Rattle.gh_top.proofs.Vocabulary.{command_line, MatchesLine, Soak, texts}
use Rattle.gh_top.proofs.Reading.{for_all_words, soak-not-run, unread}
use Rattle.gh_top.proofs.threads.find_by_threads.Goals as goal

pub overflow_cast-size : goal.overflow_cast-size
overflow_cast-size g c =
    let taken : command_line (texts c.args.words.now) ≡ Some (Soak c.in-Ok-Some-Soak.seed c.in-Ok-Some-Soak.size) = search rules in
    let range = c.numbers_are_in_range.ensures.size (texts c.args.words.now) c.in-Ok-Some-Soak.seed c.in-Ok-Some-Soak.size (inr taken) in
    omega (arith, range.1)

pub soak-requires-after_bounds : goal.soak-requires-after_bounds
soak-requires-after_bounds g c =
    let taken : command_line (texts c.args.words.now) ≡ Some (Soak c.in-Ok-Some-Soak.seed c.in-Ok-Some-Soak.size) = search rules in
    let range : (4 ≤ c.in-Ok-Some-Soak.size) × (c.in-Ok-Some-Soak.size ≤ 200000) = c.numbers_are_in_range.ensures.size (texts c.args.words.now) c.in-Ok-Some-Soak.seed c.in-Ok-Some-Soak.size (inr taken) in
    search rules

pub returns-in-Ok-Some-Soak-clause-found : goal.returns-in-Ok-Some-Soak-clause-found
returns-in-Ok-Some-Soak-clause-found g c =
    let taken : command_line (texts c.args.words.now) ≡ Some (Soak c.in-Ok-Some-Soak.seed c.in-Ok-Some-Soak.size) = search rules in
    for_all_words (texts c.args.words.now) (Soak c.in-Ok-Some-Soak.seed c.in-Ok-Some-Soak.size) _ _ _ _ c.soak.result taken
    (unread (MatchesLine (Soak c.in-Ok-Some-Soak.seed c.in-Ok-Some-Soak.size)) _ _ c.soak.result c.soak.ensures.found c.soak.ensures.read (soak-not-run c.in-Ok-Some-Soak.seed c.in-Ok-Some-Soak.size c.soak.result c.soak.ensures.found) c.soak.ensures.tellable)
