use Rattle.std.proofs.Common.{get_or, rules}
use Rattle.gh_replay.proofs.Vocabulary.{Done, slice_get-get_or}
use Rattle.gh_replay.proofs.Taking.{one_taken}
use Rattle.gh_replay.proofs.check.Told.take.Goals as goal

pub returns-clause-rest : goal.returns-clause-rest
returns-clause-rest c =
    one_taken c.args.self.now.places c.args.self.now.answers.now c.args.g c.in_ok-i.i (get_or c.args.self.now.answers.now c.in_ok-i.i (0, Done)) (search rules) (c.in_ok-i.ensures.some _ (slice_get-get_or c.args.self.now.answers.now c.in_ok-i.i (0, Done) c.in_ok-i.ensures.within))
