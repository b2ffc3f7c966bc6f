-- The answers of one goroutine among those of all.
use Rattle.std.proofs.Common.{◌≡◌, ℕ, ◌+◌, ◌%◌, ◌<◌, ◌≤◌, get_or, take, drop, take-append-drop, Bool, true, false, cond, eqb, eq-eqb, ◌&&◌, List, [], ◌∷◌, ◌++◌, length, length-append, reverse, refl, sym, ap, subst, ◌∙◌, append_assoc, arith}
use Rattle.std.proofs.lemmas.List.{append-nil, length-map, length-reverse, map-append}
use Rattle.gh_run.proofs.Vocabulary.{Answer, answers_by, filter, has_point, is_statement, is_statement_of, its_goroutine, nat_tests, of_goroutine, Op, Program, statement_as_op, statements_of, take_more, told, told_in_order, turns_of}
use Rattle.gh_world.proofs.EachOnce.{turns_mine}
use Rattle.gh_world.proofs.Explained.Seats.{filter-reverse}

pub by_append : (g : ℕ) (xs ys : List (ℕ × Answer)) → answers_by g (xs ++ ys) ≡ answers_by g xs ++ answers_by g ys
by_append g [] ys = refl
by_append g (x ∷ xs) ys = ap (λ (zs : List Answer). cond (eqb x.0 g) (x.1 ∷ []) [] ++ zs) (by_append g xs ys) ∙ sym (append_assoc (cond (eqb x.0 g) (x.1 ∷ []) []) (answers_by g xs) (answers_by g ys))

one_told : (g : ℕ) (o : Op) (x : Answer) → length (answers_by g (told o x)) ≡ cond (is_statement_of g o) 1 0
one_told g o x = go (is_statement o) (eqb (its_goroutine o) g) refl where
  go : (b c : Bool) → eqb (its_goroutine o) g ≡ c → length (answers_by g (cond b ((its_goroutine o, x) ∷ []) [])) ≡ cond (b && c) 1 0
  go false c e = refl
  go true true e = ap (λ (d : Bool). length (cond d (x ∷ []) [] ++ [])) e
  go true false e = ap (λ (d : Bool). length (cond d (x ∷ []) [] ++ [])) e

-- it has no more answers than there are statements of its among the operations
few_told : (g : ℕ) (os : List Op) (xs : List Answer) → length (answers_by g (told_in_order os xs)) ≤ length (filter (is_statement_of g) os)
few_told g [] xs = omega arith
few_told g (o ∷ os) [] = omega arith
few_told g (o ∷ os) (x ∷ xs) =
    let rest = few_told g os xs in
    let both = ap length (by_append g (told_in_order os xs) (told o x)) ∙ length-append (answers_by g (told_in_order os xs)) (answers_by g (told o x)) in
    let one = one_told g o x in
    go (is_statement_of g o) refl rest both one
  where
    go : (b : Bool) → is_statement_of g o ≡ b → length (answers_by g (told_in_order os xs)) ≤ length (filter (is_statement_of g) os) → length (answers_by g (told_in_order os xs ++ told o x)) ≡ length (answers_by g (told_in_order os xs)) + length (answers_by g (told o x)) → length (answers_by g (told o x)) ≡ cond (is_statement_of g o) 1 0 → length (answers_by g (told_in_order os xs ++ told o x)) ≤ length (cond b (o ∷ filter (is_statement_of g) os) (filter (is_statement_of g) os))
    go true e rest both one = let is : cond {A = ℕ} (is_statement_of g o) 1 0 ≡ 1 = ap (λ (c : Bool). cond {A = ℕ} c 1 0) e in omega (arith, rest, both, one, is)
    go false e rest both one = let is : cond {A = ℕ} (is_statement_of g o) 1 0 ≡ 0 = ap (λ (c : Bool). cond {A = ℕ} c 1 0) e in omega (arith, rest, both, one, is)

few_kept : {X : Type 0} (f h : X → Bool) (xs : List X) → length (filter f (filter h xs)) ≤ length (filter f xs)
few_kept f h [] = omega arith
few_kept {X = X} f h (x ∷ xs) = go (h x) (f x) refl (few_kept f h xs) where
  go : (b c : Bool) → f x ≡ c → length (filter f (filter h xs)) ≤ length (filter f xs) → length (filter f (cond b (x ∷ filter h xs) (filter h xs))) ≤ length (cond c (x ∷ filter f xs) (filter f xs))
  go true true e rest = let is = ap (λ (d : Bool). length (cond d (x ∷ filter f (filter h xs)) (filter f (filter h xs)))) e in omega (arith, rest, is)
  go true false e rest = let is = ap (λ (d : Bool). length (cond d (x ∷ filter f (filter h xs)) (filter f (filter h xs)))) e in omega (arith, rest, is)
  go false true e rest = omega (arith, rest)
  go false false e rest = rest

-- once its processor has begun all its turns it has no more answers than statements
pub few_answers : (p : Program) (g : ℕ) (begun : List Op) (xs : List Answer) → reverse begun ≡ turns_of p (g % p.settings.procs) → length (answers_by g (told_in_order (filter has_point begun) xs)) ≤ length (statements_of p g)
few_answers p g begun xs turns =
    let told_few = few_told g (filter has_point begun) xs in
    let less = few_kept (is_statement_of g) has_point begun in
    let same = sym (length-reverse (filter (is_statement_of g) begun)) ∙ ap length (sym (filter-reverse (is_statement_of g) begun)) ∙ ap (λ (os : List Op). length (filter (is_statement_of g) os)) turns ∙ ap length (turns_mine p g (g % p.settings.procs) (eq-eqb _ _ refl)) ∙ length-map (statements_of p g) (statement_as_op g) in
    omega (arith, told_few, less, same)

-- ---- the first answers

by_more : (g i : ℕ) (xs : List (ℕ × Answer)) (d : ℕ × Answer) → i < length xs → answers_by g (take (i + 1) xs) ≡ answers_by g (take i xs) ++ (cond (eqb (get_or xs i d).0 g) ((get_or xs i d).1 ∷ []) [] ++ [])
by_more g i xs d lt = ap (answers_by g) (take_more xs i d lt) ∙ by_append g (take i xs) (get_or xs i d ∷ [])

pub by_other : (g i : ℕ) (xs : List (ℕ × Answer)) (d : ℕ × Answer) → i < length xs → ((get_or xs i d).0 ≡ g → ⊥) → answers_by g (take (i + 1) xs) ≡ answers_by g (take i xs)
by_other g i xs d lt other =
    let apart : eqb (get_or xs i d).0 g ≡ false = grind (arith, nat_tests) in
    by_more g i xs d lt ∙ ap (λ (b : Bool). answers_by g (take i xs) ++ (cond b ((get_or xs i d).1 ∷ []) [] ++ [])) apart ∙ append-nil (answers_by g (take i xs))

pub by_mine : (g i : ℕ) (xs : List (ℕ × Answer)) (d : ℕ × Answer) → i < length xs → (get_or xs i d).0 ≡ g → answers_by g (take (i + 1) xs) ≡ answers_by g (take i xs) ++ (get_or xs i d).1 ∷ []
by_mine g i xs d lt mine = by_more g i xs d lt ∙ ap (λ (b : Bool). answers_by g (take i xs) ++ (cond b ((get_or xs i d).1 ∷ []) [] ++ [])) (eq-eqb (get_or xs i d).0 g mine)

pub by_counted : (g i : ℕ) (xs : List (ℕ × Answer)) (d : ℕ × Answer) → i < length xs → (get_or xs i d).0 ≡ g → length (answers_by g (take (i + 1) xs)) ≡ length (answers_by g (take i xs)) + 1
by_counted g i xs d lt mine = ap length (by_mine g i xs d lt mine) ∙ length-append (answers_by g (take i xs)) ((get_or xs i d).1 ∷ [])

pub by_first : (g i : ℕ) (xs : List (ℕ × Answer)) → length (answers_by g (take i xs)) ≤ length (answers_by g xs)
by_first g i xs =
    let whole : answers_by g xs ≡ answers_by g (take i xs) ++ answers_by g (drop i xs) = ap (answers_by g) (sym (take-append-drop i xs)) ∙ by_append g (take i xs) (drop i xs) in
    omega (arith, ap length whole, length-append (answers_by g (take i xs)) (answers_by g (drop i xs)))

-- ---- answers of one goroutine, each with it

pub of_length : (g : ℕ) (xs : List Answer) → length (of_goroutine g xs) ≡ length xs
of_length g xs = length-map xs (λ (x : Answer). (g, x))

pub of_more : (g i : ℕ) (xs : List (ℕ × Answer)) (d : ℕ × Answer) (old new : List (ℕ × Answer)) → i < length xs → (get_or xs i d).0 ≡ g → new ≡ old ++ of_goroutine g (answers_by g (take i xs)) → new ++ (g, (get_or xs i d).1) ∷ [] ≡ old ++ of_goroutine g (answers_by g (take (i + 1) xs))
of_more g i xs d old new lt mine is =
    ap (λ (ys : List (ℕ × Answer)). ys ++ (g, (get_or xs i d).1) ∷ []) is
    ∙ append_assoc old (of_goroutine g (answers_by g (take i xs))) ((g, (get_or xs i d).1) ∷ [])
    ∙ ap (λ (ys : List (ℕ × Answer)). old ++ ys) (sym (map-append (λ (x : Answer). (g, x)) (answers_by g (take i xs)) ((get_or xs i d).1 ∷ [])) ∙ ap (of_goroutine g) (sym (by_mine g i xs d lt mine)))

of_own : (g : ℕ) (xs : List Answer) → answers_by g (of_goroutine g xs) ≡ xs
of_own g [] = refl
of_own g (x ∷ xs) = ap (λ (b : Bool). cond b (x ∷ []) [] ++ answers_by g (of_goroutine g xs)) (eq-eqb g g refl) ∙ ap (λ (ys : List Answer). x ∷ ys) (of_own g xs)

of_another : (g h : ℕ) → eqb g h ≡ false → (xs : List Answer) → answers_by h (of_goroutine g xs) ≡ []
of_another g h apart [] = refl
of_another g h apart (x ∷ xs) = ap (λ (b : Bool). cond b (x ∷ []) [] ++ answers_by h (of_goroutine g xs)) apart ∙ of_another g h apart xs

-- of goroutines below g those answers, and of others none
pub record AreTold (answers : List (ℕ × Answer)) (its : ℕ → List Answer → Type 0) (g : ℕ) : Type 0 where
  pub low : (h : ℕ) (xs : List Answer) → h < g → its h xs → answers_by h answers ≡ xs
  pub high : (h : ℕ) → g ≤ h → answers_by h answers ≡ []

pub none_told : (its : ℕ → List Answer → Type 0) → AreTold [] its 0
none_told its = record { low = λ h xs lt i. absurd (omega (arith, lt)); high = λ h le. refl }

pub one_told_more : (answers : List (ℕ × Answer)) (its : ℕ → List Answer → Type 0) (g : ℕ) (ys : List Answer) → ((xs : List Answer) → its g xs → ys ≡ xs) → AreTold answers its g → AreTold (answers ++ of_goroutine g ys) its (g + 1)
one_told_more answers its g ys is told = record {
  low = λ h xs lt i. go h (eqb g h) refl xs lt i;
  high = λ h le.
      let apart : eqb g h ≡ false = grind (arith, nat_tests) in
      by_append h answers (of_goroutine g ys) ∙ ap (λ (zs : List Answer). answers_by h answers ++ zs) (of_another g h apart ys) ∙ append-nil (answers_by h answers) ∙ told.high h (omega (arith, le));
} where
  go : (h : ℕ) (b : Bool) → eqb g h ≡ b → (xs : List Answer) → h < g + 1 → its h xs → answers_by h (answers ++ of_goroutine g ys) ≡ xs
  go h true e xs lt i =
      let same : g ≡ h = grind (arith, nat_tests) in
      by_append h answers (of_goroutine g ys) ∙ ap (λ (zs : List Answer). zs ++ answers_by h (of_goroutine g ys)) (told.high h (omega (arith, same))) ∙ subst (λ (k : ℕ). answers_by k (of_goroutine g ys) ≡ xs) same (of_own g ys ∙ is xs (subst (λ (k : ℕ). its k xs) (sym same) i))
  go h false e xs lt i =
      by_append h answers (of_goroutine g ys) ∙ ap (λ (zs : List Answer). answers_by h answers ++ zs) (of_another g h e ys) ∙ append-nil (answers_by h answers) ∙ told.low h xs (grind (arith, nat_tests)) i

-- ---- the answers behind a place
