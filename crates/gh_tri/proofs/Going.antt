-- What leads from one picture to another keeps the invariants, whatever moves and changes it is made of.
use Rattle.gh_tri.proofs.Vocabulary.{ChangesKeepTheInvariants, Invariants, KeepsTheInvariants, Tricolour}
use Rattle.gh_tri.specs.Steps.{Goes, stays, moves, changes, EachStepKeepsTheInvariants}

module _ (by_move : KeepsTheInvariants) (by_change : ChangesKeepTheInvariants) where
  keeps-going : (p q : Tricolour) → Invariants p → Goes p q → Invariants q
  keeps-going p q i stays = i
  keeps-going p q i (moves t m went may) = by_move t m (keeps-going p t i went) may
  keeps-going p q i (changes t c went may) = by_change t c (keeps-going p t i went) may

  pub keeps-steps : EachStepKeepsTheInvariants
  keeps-steps p q went i = keeps-going p q i went
