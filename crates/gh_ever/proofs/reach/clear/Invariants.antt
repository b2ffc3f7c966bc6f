use Rattle.std.proofs.Common.{◌≡◌, false, vec_len}
use Rattle.gh_ever.proofs.Vocabulary.{AllWithin}
use Rattle.gh_ever.proofs.reach.clear.Given as goal

abbrev pub invariant-loop-i : goal.invariant-loop-i
invariant-loop-i l = (vec_len l.marks ≡ vec_len l.initial.marks) × AllWithin (λ mark. mark ≡ false) l.marks.items 0 l.i
