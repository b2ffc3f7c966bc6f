-- What holds of each try: it ends once, and is of one buffer, seat and wish.
use Rattle.std.proofs.Common.{◌≡◌, ◌≢◌, ℕ, zero, suc, ◌<◌, ◌≤◌, Bool, true, false, eqb, ltb, Option, Some, None, refl, sym, ap, subst, ◌∙◌, arith}
use Rattle.std.proofs.lemmas.Bool.{eqb-true, eq-eqb, ltb-true, ltb-false}
use Rattle.gh_wbuf.proofs.Vocabulary.{EndsAt, gives, goes, goes_at, GoesOn, Held, is_busy, Layout, told, Trying, TryStage}
use Rattle.gh_wbuf.specs.Trying.{transitions}

-- it was busy before, if it is
pub still_busy : (t : Trying) (found : ℕ) → is_busy (goes t found).stage ≡ true → is_busy t.stage ≡ true
still_busy t found h = grind arith

-- it gives nothing, if it is busy then
pub gives_nothing : (t : Trying) (found : ℕ) → is_busy (goes t found).stage ≡ true → gives t found ≡ None
gives_nothing t found h = grind arith

module _ (l : Layout) (t : Trying) (found : ℕ → ℕ) where
  pub busy_before : (n m : ℕ) → m ≤ n → GoesOn (transitions l) t found n → GoesOn (transitions l) t found m
  busy_before zero m le busy = let e : zero ≡ m = omega arith in subst (λ (k : ℕ). GoesOn (transitions l) t found k) e busy
  busy_before (suc n) m le busy = by (busy_before n m) (eqb m (suc n)) refl where
    by : (m ≤ n → GoesOn (transitions l) t found n → GoesOn (transitions l) t found m) → (b : Bool) → eqb m (suc n) ≡ b → GoesOn (transitions l) t found m
    by earlier true e = let is : m ≡ suc n = eqb-true _ _ e in subst (λ (k : ℕ). GoesOn (transitions l) t found k) (sym is) busy
    by earlier false e =
        let ne : m ≢ suc n = λ z. absurd (cc (e, eq-eqb _ _ z)) in
        earlier (omega arith) (still_busy (told (transitions l) t found n) (found n) busy)

  pub nothing_before : (n m : ℕ) → m < n → GoesOn (transitions l) t found n → gives (told (transitions l) t found m) (found m) ≡ None
  nothing_before n m lt busy = gives_nothing (told (transitions l) t found m) (found m) (busy_before n (suc m) lt busy)

  not_before : (n m : ℕ) (out other : Option Held) → EndsAt (transitions l) t found n out → EndsAt (transitions l) t found m other → ¬ (m < n)
  not_before n m out other e f lt =
      let none : gives (told (transitions l) t found m) (found m) ≡ None = nothing_before n m lt e.0 in
      let some : gives (told (transitions l) t found m) (found m) ≡ Some other = f.1 in
      absurd (cc)

  -- it ends with one step
  pub ends_once : (n m : ℕ) (out other : Option Held) → EndsAt (transitions l) t found n out → EndsAt (transitions l) t found m other → n ≡ m
  ends_once n m out other e f =
      by (ltb m n) (ltb n m) refl refl where
        by : (a b : Bool) → ltb m n ≡ a → ltb n m ≡ b → n ≡ m
        by true b u v = absurd (not_before n m out other e f (ltb-true _ _ u))
        by false true u v = absurd (not_before m n other out f e (ltb-true _ _ v))
        by false false u v = let ge : n ≤ m = ltb-false _ _ u in let le : m ≤ n = ltb-false _ _ v in omega arith

  -- and with one answer
  pub answers_once : (n m : ℕ) (out other : Option Held) → EndsAt (transitions l) t found n out → EndsAt (transitions l) t found m other → out ≡ other
  answers_once n m out other e f =
      let same : n ≡ m = ends_once n m out other e f in
      some_is out other (sym e.1 ∙ ap (λ (k : ℕ). gives (told (transitions l) t found k) (found k)) same ∙ f.1) where
        some_is : (a b : Option Held) → Some a ≡ Some b → a ≡ b
        some_is a b e = cc

-- of the same buffer, seat and wish
pub record IsSame (s t : Trying) : Type 0 where
  pub index : s.index ≡ t.index
  pub seat : s.seat ≡ t.seat
  pub wish : s.wish ≡ t.wish

same_at : (t : Trying) (stage : TryStage) (found : ℕ) → IsSame (goes_at t stage found) t
same_at t stage found = grind arith

pub same_step : (t : Trying) (found : ℕ) → IsSame (goes t found) t
same_step t found = grind arith

pub same : (l : Layout) (t : Trying) (found : ℕ → ℕ) (n : ℕ) → IsSame (told (transitions l) t found n) t
same l t found zero = record { index = refl; seat = refl; wish = refl }
same l t found (suc n) =
    let s : Trying = told (transitions l) t found n in
    let step : IsSame (goes s (found n)) s = same_at s s.stage (found n) in
    let before : IsSame s t = same l t found n in
    record { index = step.index ∙ before.index; seat = step.seat ∙ before.seat; wish = step.wish ∙ before.wish }
