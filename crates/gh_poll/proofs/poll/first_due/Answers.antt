use Rattle.std.proofs.Common.{◌≡◌, ℕ, ◌+◌, ◌≤◌, List, [], ◌∷◌, drop, None, refl, sym, ◌∙◌, rules, arith}
use Rattle.gh_poll.proofs.Vocabulary.{first_due, Layout}
use Rattle.gh_poll.proofs.poll.first_due.Goals as goal

-- past the goroutines no stack is to be scanned
none_past : (l : Layout) (seat cycle g : ℕ) (xs : List ℕ) → l.goroutines ≤ g → first_due l seat cycle g xs ≡ None
none_past l seat cycle g [] past = refl
none_past l seat cycle g (last ∷ others) past =
    let more = none_past l seat cycle (g + 1) others (omega arith) in grind arith

pub returns-clause-is : goal.returns-clause-is
returns-clause-is c =
    let past : c.args.layout.now.goroutines ≤ c.loop-g.g = search rules in
    sym (c.loop-g.invariant ∙ none_past c.args.layout.now c.args.seat c.args.cycle c.loop-g.g (drop c.loop-g.g c.args.scanned.now) past)
