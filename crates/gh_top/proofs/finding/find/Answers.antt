use Rattle.std.proofs.Common.{◌≡◌, Some, inl, arith, rules}
use Rattle.gh_top.proofs.Vocabulary.{command_line, Gen, MatchesLine, texts}
use Rattle.gh_top.proofs.Reading.{for_all_words, gen-not-run, unread}
use Rattle.gh_top.proofs.finding.find.Goals as goal

pub overflow_cast-size : goal.overflow_cast-size
overflow_cast-size g c =
    let taken : command_line (texts c.args.words.now) ≡ Some (Gen c.in-Ok-Some-Gen.seed c.in-Ok-Some-Gen.size) = search rules in
    let range = c.numbers_are_in_range.ensures.size (texts c.args.words.now) c.in-Ok-Some-Gen.seed c.in-Ok-Some-Gen.size (inl taken) in
    omega (arith, range.1)

pub generated-requires : goal.generated-requires
generated-requires g c =
    let taken : command_line (texts c.args.words.now) ≡ Some (Gen c.in-Ok-Some-Gen.seed c.in-Ok-Some-Gen.size) = search rules in
    c.numbers_are_in_range.ensures.size (texts c.args.words.now) c.in-Ok-Some-Gen.seed c.in-Ok-Some-Gen.size (inl taken)

pub returns-in-Ok-Some-Gen-clause-found : goal.returns-in-Ok-Some-Gen-clause-found
returns-in-Ok-Some-Gen-clause-found g c =
    let taken : command_line (texts c.args.words.now) ≡ Some (Gen c.in-Ok-Some-Gen.seed c.in-Ok-Some-Gen.size) = search rules in
    for_all_words (texts c.args.words.now) (Gen c.in-Ok-Some-Gen.seed c.in-Ok-Some-Gen.size) _ _ _ _ c.generated.result taken
    (unread (MatchesLine (Gen c.in-Ok-Some-Gen.seed c.in-Ok-Some-Gen.size)) _ _ c.generated.result c.generated.ensures.found c.generated.ensures.read (gen-not-run c.in-Ok-Some-Gen.seed c.in-Ok-Some-Gen.size c.generated.result c.generated.ensures.found) c.generated.ensures.tellable)
