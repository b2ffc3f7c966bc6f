use Rattle.std.proofs.Common.{ℕ, ◌%◌, ap, ◌∙◌, arith}
use Rattle.gh_central.proofs.Starts.{left_in_word}
use Rattle.gh_central.proofs.slots.remainder.Goals as goal

pub returns-then-left-size : goal.returns-then-left-size
returns-then-left-size c =
    let words = c.from-words.ensures in
    let size = c.from-size.ensures in
    left_in_word c.from-words.result c.from-size.result _ (omega arith) (omega arith) (omega arith) c.if-left-size.true ∙ ap (λ (n : ℕ). n % c.from-size.result) words ∙ ap (λ (n : ℕ). c.args.before % n) size
