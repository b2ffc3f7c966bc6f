-- The statements of one processor's goroutines, goroutine after goroutine.
use Rattle.std.proofs.Common.{◌≡◌, ℕ, zero, suc, ◌+◌, ◌<◌, ◌≤◌, Bool, true, false, cond, List, [], ◌∷◌, ◌++◌, length, take, ap, ◌∙◌, arith, sum_by}
use Rattle.gh_run.proofs.Vocabulary.{count_of, is_of_seat, no_goroutine, Program, range_with_len, statements_in, sum_by-append, sum_by_more}

range_suc : (n a : ℕ) → range_with_len a (suc n) ≡ range_with_len a n ++ (a + n) ∷ []
range_suc zero a = let e : a ≡ a + 0 = omega arith in ap (λ (x : ℕ). x ∷ []) e
range_suc (suc n) a = let e : a + 1 + n ≡ a + suc n = omega arith in ap (λ (xs : List ℕ). a ∷ xs) (range_suc n (a + 1) ∙ ap (λ (x : ℕ). range_with_len (a + 1) n ++ x ∷ []) e)

module _ (p : Program) (a : ℕ) where
  abbrev pub its : ℕ → ℕ
  its g = cond (is_of_seat p a g) (count_of p g) 0

  pub its_more : (g : ℕ) → sum_by its (range_with_len 0 (g + 1)) ≡ sum_by its (range_with_len 0 g) + its g
  its_more g =
      let next : g + 1 ≡ suc g = omega arith in
      let here : 0 + g ≡ g = omega arith in
      let both = ap (λ (n : ℕ). sum_by its (range_with_len 0 n)) next ∙ ap (sum_by its) (range_suc g 0) ∙ sum_by-append its (range_with_len 0 g) ((0 + g) ∷ []) in
      let last = ap its here in
      omega (arith, both, last)

  its_few : (g : ℕ) → its g ≤ count_of p g
  its_few g = go (is_of_seat p a g) where
    go : (b : Bool) → cond b (count_of p g) 0 ≤ count_of p g
    go true = omega arith
    go false = omega arith

  -- no more than all have
  pub few_more : (g n : ℕ) → g < length p.goroutines → n ≤ sum_by statements_in (take g p.goroutines) → n + its g ≤ sum_by statements_in (take (g + 1) p.goroutines)
  few_more g n lt few =
      let more = sum_by_more statements_in p.goroutines g no_goroutine lt in
      let less = its_few g in
      omega (arith, more, less, few)
