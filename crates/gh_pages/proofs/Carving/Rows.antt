-- Rows of free pages, and which is the first that fits.
use Rattle.std.proofs.Common.{◌≡◌, ◌≢◌, ℕ, ◌+◌, ◌-◌, ◌<◌, ◌≤◌, inl, inr, Bool, true, false, sym, subst, arith}
use Rattle.std.proofs.lemmas.Bool.{cases_lt, cases_order}
use Rattle.gh_pages.proofs.Vocabulary.{Fits, is_free, IsFirstFit, page_of}

module _ (pages count : ℕ) (found : ℕ → ℕ) where
  abbrev pub free_at : ℕ → Bool
  free_at p = is_free (page_of (found p))

  -- the pages before n were looked at: just so many free ones stand right before it, and no row before it fits
  pub record LookedAt (n run : ℕ) : Type 0 where
    pub here : n < pages
    pub few : run < count
    pub within : run ≤ n
    pub free : (p : ℕ) → n ≤ p + run → p < n → free_at p ≡ true
    pub whole : (d : ℕ) → d ≤ n → ((p : ℕ) → d ≤ p → p < n → free_at p ≡ true) → n ≤ d + run
    pub none : (first : ℕ) → Fits pages count found first → n < first + count

  pub looked_at_none : 0 < pages → 0 < count → LookedAt 0 0
  looked_at_none some few = record {
    here = some;
    few = few;
    within = omega arith;
    free = λ p low high. absurd (omega arith);
    whole = λ d low all. omega arith;
    none = λ first f. omega arith;
  }

  -- page n is free, and with it enough stand in a row
  pub first_is : (n run : ℕ) → LookedAt n run → free_at n ≡ true → run + 1 ≡ count → IsFirstFit pages count found (n + 1 - count)
  first_is n run l free enough = record {
    fits = record { within = let w = l.within in let h = l.here in omega arith; free = row };
    least = λ other f. let h = l.none other f in omega arith;
  } where
    row : (p : ℕ) → n + 1 - count ≤ p → p < n + 1 - count + count → free_at p ≡ true
    row p low high = elim (cases_order p n) [
      | inl e ↦ subst (λ (x : ℕ). free_at x ≡ true) (sym e) free
      | inr (inl below) ↦ l.free p (let w = l.within in omega arith) below
      | inr (inr above) ↦ absurd (let w = l.within in omega arith)
    ]

  -- no row that ends with page n fits
  pub none_more : (n run : ℕ) → LookedAt n run → 0 < count → (free_at n ≡ true → run + 1 ≢ count) → (first : ℕ) → Fits pages count found first → n + 1 < first + count
  none_more n run l some short first f = elim (cases_order (n + 1) (first + count)) [
    | inl e ↦ absurd (short (f.free n (omega arith) (omega arith)) (enough e))
    | inr (inl below) ↦ below
    | inr (inr above) ↦ absurd (let h = l.none first f in omega arith)
  ] where
    enough : n + 1 ≡ first + count → run + 1 ≡ count
    enough e =
        let w : n ≤ first + run = l.whole first (omega arith) (λ p low high. f.free p low (omega arith)) in
        let few = l.few in
        omega arith

  pub look_on_free : (n run : ℕ) → LookedAt n run → 0 < count → free_at n ≡ true → run + 1 ≢ count → n + 1 < pages → LookedAt (n + 1) (run + 1)
  look_on_free n run l some free short more = record {
    here = more;
    few = let few = l.few in omega arith;
    within = let w = l.within in omega arith;
    free = λ p low high. elim (cases_order p n) [
      | inl e ↦ subst (λ (x : ℕ). free_at x ≡ true) (sym e) free
      | inr (inl below) ↦ l.free p (omega arith) below
      | inr (inr above) ↦ absurd (omega arith)
    ];
    whole = λ d low all. elim (cases_lt n d) [
      | inl above ↦ omega arith
      | inr below ↦ let w : n ≤ d + run = l.whole d below (λ p l h. all p l (omega arith)) in omega arith
    ];
    none = none_more n run l some (λ f. short);
  }

  pub look_on_taken : (n run : ℕ) → LookedAt n run → 0 < count → free_at n ≡ false → n + 1 < pages → LookedAt (n + 1) 0
  look_on_taken n run l some taken more = record {
    here = more;
    few = some;
    within = omega arith;
    free = λ p low high. absurd (omega arith);
    whole = λ d low all. elim (cases_lt n d) [
      | inl above ↦ omega arith
      | inr below ↦ let f : free_at n ≡ true = all n below (omega arith) in absurd (cc)
    ];
    none = none_more n run l some (λ (f : free_at n ≡ true). absurd (cc));
  }
