-- How many cycles a script may ask for, statement by statement, goroutine by goroutine and in all.
use Rattle.std.proofs.Common.{◌≡◌, ℕ, zero, suc, ◌+◌, ◌-◌, ◌≤◌, Bool, true, false, cond, eqb, get_or, List, [], ◌∷◌, ◌++◌, length, take, Some, refl, ap, ◌∙◌, arith, slice_get, sum_by}
use Rattle.std.proofs.lemmas.List.{length-append}
use Rattle.gh_world.proofs.Vocabulary.{filter, filter-append, get_or_from_slice_get, Goroutine, may_ask, nat_tests, no_goroutine, Program, slice_get_within, statement_at, statements_in, statements_of, Stmt, sum_by-cons, take_more, total, wishes_among, wishes_in}

one_wish : (s : Stmt) (b : Bool) → may_ask s ≡ b → wishes_among (s ∷ []) ≡ cond b 1 0
one_wish s b e = grind arith

pub more_wishes : (xs : List Stmt) (n : ℕ) (s : Stmt) (b : Bool) → slice_get xs n ≡ Some s → may_ask s ≡ b → wishes_among (take (n + 1) xs) ≡ wishes_among (take n xs) + cond b 1 0
more_wishes xs n s b is e =
    let one : take (n + 1) xs ≡ take n xs ++ s ∷ [] = take_more xs n s (slice_get_within xs n s is) ∙ ap (λ (x : Stmt). take n xs ++ x ∷ []) (get_or_from_slice_get xs n s s is) in
    ap wishes_among one ∙ ap length (filter-append may_ask (take n xs) (s ∷ [])) ∙ length-append (filter may_ask (take n xs)) (filter may_ask (s ∷ [])) ∙ ap (λ (k : ℕ). wishes_among (take n xs) + k) (one_wish s b e)

pub filter_few : (xs : List Stmt) → wishes_among xs ≤ length xs
filter_few [] = omega arith
filter_few (s ∷ xs) = go (may_ask s) (filter_few xs) where
  go : (b : Bool) → wishes_among xs ≤ length xs → length (cond b (s ∷ filter may_ask xs) (filter may_ask xs)) ≤ length (s ∷ xs)
  go true le = omega (arith, le)
  go false le = omega (arith, le)

pub few_wishes : (gs : List Goroutine) → sum_by wishes_in gs ≤ sum_by statements_in gs
few_wishes [] = omega arith
few_wishes (g ∷ gs) =
    let a = sum_by-cons wishes_in g gs in
    let b = sum_by-cons statements_in g gs in
    omega (arith, a, b, few_wishes gs, filter_few g.statements)

total_first : (f : ℕ → ℕ) (n : ℕ) → total f (suc n) ≡ f 0 + total (λ i. f (suc i)) n
total_first f zero = omega arith
total_first f (suc n) = let e = total_first f n in omega (arith, e)

pub total_wishes : (gs : List Goroutine) → total (λ g. wishes_among (get_or gs g no_goroutine).statements) (length gs) ≡ sum_by wishes_in gs
total_wishes [] = refl
total_wishes (x ∷ gs) =
    let first = total_first (λ g. wishes_among (get_or (x ∷ gs) g no_goroutine).statements) (length gs) in
    let rest = total_wishes gs in
    let more = sum_by-cons wishes_in x gs in
    omega (arith, first, rest, more)

-- the n-th statement, counted from 1
pub statement_there : (p : Program) (g n : ℕ) → statement_at p g (n + 1) ≡ slice_get (statements_of p g) n
statement_there p g n =
    let some : eqb (n + 1) 0 ≡ false = grind (arith, nat_tests) in
    let same : n + 1 - 1 ≡ n = omega arith in
    rw (some, same) refl
