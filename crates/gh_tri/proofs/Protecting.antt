-- What is marked or protected stays so, under any change that keeps to a few rules.
use Rattle.std.proofs.Common.{◌≡◌, ◌≢◌, ℕ, ◌<◌, true, false, inl, inr, ◌⊎◌, arith}
use Rattle.gh_tri.proofs.Vocabulary.{Edge, from_global, from_grey, from_white, Grey, Invariants, IsMarked, Protected, Tricolour, White}
use Rattle.gh_tri.proofs.Tells.{colour-tells, marked-tells}

abbrev pub IsSafe : Tricolour → ℕ → Type 0
IsSafe p o = IsMarked p o ⊎ Protected p o

pub protected-white : (p : Tricolour) (o : ℕ) → Protected p o → p.colour o ≡ White
protected-white p o h = grind arith

-- Marks only grow; an edge stays, or what it leads to was marked; a grey object stays grey, a field of object 0 unscanned,
-- and a white object white or grey, or else what they lead to is marked.
pub record Guards (p q : Tricolour) : Type 0 where
  pub marks : (o : ℕ) → IsMarked p o → IsMarked q o
  pub edges : (o f w : ℕ) → Edge p o f w → Edge q o f w ⊎ IsMarked q w
  pub greys : (o f w : ℕ) → p.colour o ≡ Grey → Edge p o f w → (q.colour o ≡ Grey) ⊎ IsMarked q w
  pub globals : (f w : ℕ) → p.scanned 0 f ≡ false → Edge p 0 f w → (q.scanned 0 f ≡ false) ⊎ IsMarked q w
  pub whites : (o f w : ℕ) → p.colour o ≡ White → Edge p o f w → ((q.colour o ≡ White) ⊎ (q.colour o ≡ Grey)) ⊎ IsMarked q w

pub protected-kept : (p q : Tricolour) → Guards p q → (o : ℕ) → Protected p o → IsSafe q o
protected-kept p q g o (from_grey a f w h e white) = elim (colour-tells (q.colour w)) [
  | inr m ↦ inl m
  | inl still ↦ elim (g.edges a f w e) [
    | inr m ↦ inl m
    | inl stays ↦ elim (g.greys a f w h e) [ inr m ↦ inl m | inl grey ↦ inr (from_grey a f w grey stays still) ]
  ]
]
protected-kept p q g o (from_global f w h e white) = elim (colour-tells (q.colour w)) [
  | inr m ↦ inl m
  | inl still ↦ elim (g.edges 0 f w e) [
    | inr m ↦ inl m
    | inl stays ↦ elim (g.globals f w h e) [ inr m ↦ inl m | inl left ↦ inr (from_global f w left stays still) ]
  ]
]
protected-kept p q g o (from_white a f w d e white) = elim (colour-tells (q.colour w)) [
  | inr m ↦ inl m
  | inl still ↦ elim (g.edges a f w e) [
    | inr m ↦ inl m
    | inl stays ↦ elim (g.whites a f w (protected-white p a d) e) [
      | inr m ↦ inl m
      | inl kept ↦ elim kept [
        | inr grey ↦ inr (from_grey a f w grey stays still)
        | inl source ↦ elim (protected-kept p q g a d) [ inl m ↦ absurd (m source) | inr d' ↦ inr (from_white a f w d' stays still) ]
      ]
    ]
  ]
]

pub safe-kept : (p q : Tricolour) → Guards p q → (o : ℕ) → IsSafe p o → IsSafe q o
safe-kept p q g o h = grind (arith, protected-kept)

-- a field of what is marked or protected holds what is marked or protected
pub safe-field : (p : Tricolour) → Invariants p → (o f w : ℕ) → IsSafe p o → Edge p o f w → IsSafe p w
safe-field p i o f w safe e = elim (colour-tells (p.colour w)) [
  | inr m ↦ inl m
  | inl white ↦ elim safe [
    | inr d ↦ inr (from_white o f w d e white)
    | inl m ↦ elim (marked-tells (p.colour o) m) [
      | inl grey ↦ inr (from_grey o f w grey e white)
      | inr black ↦ inl (i.scanned_fields o f (i.marked_objects.black o f black e.within) w e.holds)
    ]
  ]
]

-- where no object is grey and each field of object 0 is scanned, nothing is protected
pub none-protected : (p : Tricolour) → ((o : ℕ) → p.colour o ≢ Grey) → ((f : ℕ) → f < p.fields → p.scanned 0 f ≡ true) → (o : ℕ) → Protected p o → ⊥
none-protected p quiet done o (from_grey a f w h e white) = quiet a h
none-protected p quiet done o (from_global f w h e white) = let t : p.scanned 0 f ≡ true = done f e.within in cc
none-protected p quiet done o (from_white a f w d e white) = none-protected p quiet done a d
