use Rattle.std.proofs.Common.{ℕ, Err, ap, subst, ◌∙◌}
use Rattle.gh_top.proofs.Vocabulary.{IsUnfinished}
use Rattle.gh_top.proofs.finding.replay_script.Goals as goal

pub returns-in-Err-OutOfTurns-clause-found : goal.returns-in-Err-OutOfTurns-clause-found
returns-in-Err-OutOfTurns-clause-found c = λ text spelled.
    let left = c.replay.ensures.out_of_turns c.in-Err-OutOfTurns.turns (c.in-Err-OutOfTurns.is ∙ ap (λ x. Err x) c.in-Err-OutOfTurns.field-0-is) in
    (left.0, c.args.script, spelled, subst (λ (n : ℕ). IsUnfinished c.args.script c.args.schedule n) left.0 left.1)
