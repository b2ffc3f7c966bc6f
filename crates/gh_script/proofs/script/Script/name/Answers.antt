use Rattle.std.proofs.Common.{ℕ, List, ◌<◌, ◌≤◌, length, subst, sym}
use Rattle.gh_script.proofs.Vocabulary.{All-get_or, IsNamed, Program}
use Rattle.gh_script.proofs.Names.{name_short}
use Rattle.gh_script.proofs.script.Script.name.Goals as goal

pub returns-clause-short : goal.returns-clause-short
returns-clause-short c =
    let there = subst (λ (p : Program). c.args.g < length p.goroutines) (sym c.self.view_is) c.requires in
    let named : IsNamed c.index.result.now = subst IsNamed (sym c.index.ensures) (All-get_or IsNamed c.self.inside.goroutines.items c.args.g c.index.result.now there c.self.invariant.names) in
    subst (λ (xs : List ℕ). length xs ≤ 16) (sym c.name.ensures) (name_short c.index.result.now.name named)
