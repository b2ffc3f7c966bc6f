-- Steps from one picture to another: moves that may be made, and changes of registers that are none.
use Rattle.gh_tri.specs.declared.Move.{Move}
use Rattle.gh_tri.specs.Tricolour.{Tricolour, moved, May}
use Rattle.gh_tri.specs.Changes.{Change, changed_picture, MayChange}
use Rattle.gh_tri.specs.Invariants.{Invariants}

-- these lead from picture p to the other
pub data Goes (p : Tricolour) : Tricolour → Type 0 where
  stays : Goes p p
  moves : (q : Tricolour) (m : Move) → Goes p q → May q m → Goes p (moved q m)
  changes : (q : Tricolour) (c : Change) → Goes p q → MayChange q c → Goes p (changed_picture q c)

-- Whatever they are, they keep the invariants.
abbrev pub EachStepKeepsTheInvariants : Type 0
EachStepKeepsTheInvariants = (p q : Tricolour) → Goes p q → Invariants p → Invariants q
