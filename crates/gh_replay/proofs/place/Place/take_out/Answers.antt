use Rattle.std.proofs.Common.{rules}
use Rattle.std.proofs.lemmas.Fn.{filter_same}
use Rattle.gh_replay.proofs.place.Place.take_out.Goals as goal

pub returns-clause-kept : goal.returns-clause-kept
returns-clause-kept c = filter_same _ _ _ (λ a b f h. search rules) _ _ c.retain.ensures.filtered
