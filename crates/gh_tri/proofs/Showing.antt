-- What the struct's tables keep over a write: each value names an object that is made.
use Rattle.std.proofs.Common.{◌≡◌, ℕ, ◌+◌, ◌<◌, ◌≤◌, sym, ◌∙◌, ap, inl, inr, Option, Some, None, arith, subst, List, length, get_or-set_other, get_or-set_same, Bool, true}
use Rattle.gh_tri.proofs.Vocabulary.{Allocate, Black, Change, changed_picture, Colour, fun_ext, Invariants, May, MayChange, Move, moved, put1, put2, put3, put_row, ScanField, ScanRegister, set, shaded, Store, Tricolour, White}
use Rattle.gh_tri.proofs.Tells.{put2-tells, put-tells}
use Rattle.gh_tri.proofs.Keeping.{keeps-moved, keeps-changed}
use Rattle.gh_tri.specs.Colours.{colours_of}

pub put2-made : (f g : ℕ → ℕ → Option ℕ) (i j : ℕ) (v : Option ℕ) (n : ℕ) → g ≡ put2 f i j v → ((a b w : ℕ) → f a b ≡ Some w → w < n) → ((w : ℕ) → v ≡ Some w → w < n) → (a b w : ℕ) → g a b ≡ Some w → w < n
put2-made f g i j v n e fs vs a b w h = elim (put2-tells f i j v a b) [
  | inl y ↦ vs w (sym y.2 ∙ (sym (ap (λ (k : ℕ → ℕ → Option ℕ). k a b) e) ∙ h))
  | inr keeps ↦ fs a b w (sym keeps ∙ (sym (ap (λ (k : ℕ → ℕ → Option ℕ). k a b) e) ∙ h))
]

-- what a picture after a move keeps
pub keeps-shown : (p q : Tricolour) (m : Move) → q ≡ moved p m → May p m → Invariants p → Invariants q
keeps-shown p q m e may i = subst Invariants (sym e) (keeps-moved p m i may)

-- and after a change of registers
pub keeps-changed-shown : (p q : Tricolour) (c : Change) → q ≡ changed_picture p c → MayChange p c → Invariants p → Invariants q
keeps-changed-shown p q c e may i = subst Invariants (sym e) (keeps-changed p c i may)

-- a colour that is written
pub colours-set : (xs : List Colour) (o : ℕ) (c : Colour) → o < length xs → colours_of (set xs o c) ≡ put1 (colours_of xs) o c
colours-set xs o c lt = fun_ext (λ a. at xs o c lt a) where
  at : (xs : List Colour) (o : ℕ) (c : Colour) → o < length xs → (a : ℕ) → colours_of (set xs o c) a ≡ put1 (colours_of xs) o c a
  at xs o c lt a = elim (put-tells (colours_of xs) o c a) [
    | inl y ↦ ap (colours_of (set xs o c)) (sym y.0) ∙ (get_or-set_same xs o c White lt ∙ sym y.1)
    | inr n ↦ get_or-set_other xs o a c White (λ e. n.0 (sym e)) ∙ sym n.1
  ]

-- the moves that change more than one function
pub stored : (p : Tricolour) (s o f : ℕ) (new : Option ℕ) (value : ℕ → ℕ → Option ℕ) (read : ℕ → ℕ → ℕ → Option (Option ℕ)) → value ≡ put2 p.value o f new → read ≡ put3 p.read s o f None → record p { value = value; read = read } ≡ moved p (Store s o f new)
stored p s o f new value read a b = λ i. record p { value = a i; read = b i }

pub field_scanned : (p : Tricolour) (o f : ℕ) (colour : ℕ → Colour) (scanned : ℕ → ℕ → Bool) → colour ≡ shaded p.colour (p.value o f) → scanned ≡ put2 p.scanned o f true → record p { colour = colour; scanned = scanned } ≡ moved p (ScanField o f)
field_scanned p o f colour scanned a b = λ i. record p { colour = a i; scanned = b i }

pub register_scanned : (p : Tricolour) (s r : ℕ) (colour : ℕ → Colour) (seen : ℕ → ℕ → Bool) → colour ≡ shaded p.colour (p.register s r) → seen ≡ put2 p.seen s r true → record p { colour = colour; seen = seen } ≡ moved p (ScanRegister s r)
register_scanned p s r colour seen a b = λ i. record p { colour = a i; seen = b i }

pub allocated : (p : Tricolour) (s r : ℕ) (colour : ℕ → Colour) (register : ℕ → ℕ → Option ℕ) → colour ≡ put1 p.colour p.objects Black → p.value ≡ put_row p.value p.objects None → p.scanned ≡ put_row p.scanned p.objects true → register ≡ put2 p.register s r (Some p.objects) → record p { objects = p.objects + 1; colour = colour; register = register } ≡ moved p (Allocate s r)
allocated p s r colour register a b d e = λ i. record p { objects = p.objects + 1; colour = a i; value = b i; scanned = d i; register = e i }

-- after a field that is made is written, what is not made is still empty
pub put2-empty : (f g : ℕ → ℕ → Option ℕ) (i j : ℕ) (v : Option ℕ) (n : ℕ) → g ≡ put2 f i j v → i < n → ((a b : ℕ) → n ≤ a → f a b ≡ None) → (a b : ℕ) → n ≤ a → g a b ≡ None
put2-empty f g i j v n e lt fs a b le = elim (put2-tells f i j v a b) [
  | inl y ↦ absurd (omega arith)
  | inr keeps ↦ ap (λ (k : ℕ → ℕ → Option ℕ). k a b) e ∙ (keeps ∙ fs a b le)
]

-- one object more, which the new register holds
pub put2-more : (f g : ℕ → ℕ → Option ℕ) (i j n : ℕ) → g ≡ put2 f i j (Some n) → ((a b w : ℕ) → f a b ≡ Some w → w < n) → (a b w : ℕ) → g a b ≡ Some w → w < n + 1
put2-more f g i j n e fs a b w h = elim (put2-tells f i j (Some n) a b) [
  | inl y ↦ (let same : Some n ≡ Some w = sym y.2 ∙ (sym (ap (λ (k : ℕ → ℕ → Option ℕ). k a b) e) ∙ h) in let one : n ≡ w = cc in omega arith)
  | inr keeps ↦ (let below : w < n = fs a b w (sym keeps ∙ (sym (ap (λ (k : ℕ → ℕ → Option ℕ). k a b) e) ∙ h)) in omega arith)
]
