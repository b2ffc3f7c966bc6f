-- With each move of marking an object keeps its colour or goes on to a later one, and a global keeps how far it is or goes on. So what is scanned stays scanned.
use Rattle.std.proofs.Common.{◌≡◌, ◌⊎◌, inl, inr, ℕ, ◌<◌, ◌≤◌, refl, ap, arith}
use Rattle.gh_marked.specs.Vocabulary.{Black, Buffered, Claimed, ClaimGlobal, Colour, Cycle, EachStepGoesByMoves, eqb_tells, goes, Good, May, Move, moved, nat_tests, Pending, Placing, Progress, Read, ReadGlobal, ScanGlobal, Scanned, seen_global, Shared, stays, Taken, Untouched, update, Went, White}

abbrev pub level : Colour → ℕ
level White = 0
level (Placing a) = 1
level (Pending a) = 1
level (Buffered b j) = 2
level (Taken a) = 3
level Black = 4

abbrev pub far : Progress → ℕ
far Untouched = 0
far (Claimed a) = 1
far (Read a value) = 2
far Scanned = 3

-- the second is the first, or comes later
abbrev pub IsNoEarlier : {A : Type 0} → (A → ℕ) → (x y : A) → Type 0
IsNoEarlier rank x y = (y ≡ x) ⊎ (rank x < rank y)

goes_then : {A : Type 0} (rank : A → ℕ) (x y w : A) → IsNoEarlier rank x y → IsNoEarlier rank y w → IsNoEarlier rank x w
goes_then rank x y w h h2 = grind arith

module _ (z : Cycle) (a : ℕ) (s : Shared) (good : Good z s) where
  colours : (m : Move) → May z a s m → (p : ℕ) → IsNoEarlier level (s.colour p) ((moved z a s m).colour p)
  colours m may p = grind (arith, nat_tests)

  globals : (m : Move) → May z a s m → (i : ℕ) → IsNoEarlier far (s.progress i) ((moved z a s m).progress i)
  globals m may j = grind arith

-- none is touched beyond those that there are
abbrev pub NoneBeyond : Cycle → Shared → Type 0
NoneBeyond z s = (i : ℕ) → z.arena.layout.globals ≤ i → s.progress i ≡ Untouched

module _ (z : Cycle) (a : ℕ) (s : Shared) (none : NoneBeyond z s) where
  there : (i : ℕ) → 1 ≤ far (s.progress i) → i < z.arena.layout.globals
  there i some = grind arith

  one_there : (i : ℕ) (then : Progress) → i < z.arena.layout.globals → (j : ℕ) → z.arena.layout.globals ≤ j → update s.progress i then j ≡ Untouched
  one_there i then lt j le = elim (eqb_tells i j) [ inl y ↦ absurd (let same = y.1 in omega (arith, same, lt, le)) | inr n ↦ rw (n.0) (none j le) ]

  beyond : (m : Move) → May z a s m → NoneBeyond z (moved z a s m)
  beyond (ClaimGlobal i) may j le = one_there i (Claimed a) may.1 j le
  beyond (ReadGlobal i) may j le = let is = ap far may in one_there i (Read a (seen_global s i)) (there i (omega (arith, is))) j le
  beyond (ScanGlobal i value) may j le = let is = ap far may.0 in one_there i Scanned (there i (omega (arith, is))) j le
  beyond _ may j le = none j le

pub global_there : (z : Cycle) (s : Shared) → NoneBeyond z s → (i : ℕ) → 1 ≤ far (s.progress i) → i < z.arena.layout.globals
global_there z s none i some = grind arith

-- The moves of a step.
module _ (steps : EachStepGoesByMoves) (z : Cycle) (a : ℕ) (s : Shared) (good : Good z s) where
  pub colour_goes : (t : Shared) → Went z a s t → (o : ℕ) → IsNoEarlier level (s.colour o) (t.colour o)
  colour_goes t stays o = inl refl
  colour_goes t (goes v m went may) o = goes_then level (s.colour o) (v.colour o) ((moved z a v m).colour o) (colour_goes v went o) (colours z a v (steps z a s v good went).good m may o)

  pub global_goes : (t : Shared) → Went z a s t → (i : ℕ) → IsNoEarlier far (s.progress i) (t.progress i)
  global_goes t stays i = inl refl
  global_goes t (goes v m went may) i = goes_then far (s.progress i) (v.progress i) ((moved z a v m).progress i) (global_goes v went i) (globals z a v (steps z a s v good went).good m may i)

pub beyond_goes : (z : Cycle) (a : ℕ) (s t : Shared) → Went z a s t → NoneBeyond z s → NoneBeyond z t
beyond_goes z a s t stays none = none
beyond_goes z a s t (goes v m went may) none = beyond z a v (beyond_goes z a s v went none) m may
