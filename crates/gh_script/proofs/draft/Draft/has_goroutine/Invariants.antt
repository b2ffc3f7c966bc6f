use Rattle.std.proofs.Common.{◌≡◌, false, take}
use Rattle.gh_script.proofs.Vocabulary.{bytes_eq, list_any}
use Rattle.gh_script.proofs.draft.Draft.has_goroutine.Given as goal

abbrev pub invariant-loop-g : goal.invariant-loop-g
invariant-loop-g l = list_any (λ g. bytes_eq g.name l.word) (take l.g-index l.self.closed) ≡ false
