-- Each goroutine's statements stand among the turns of its processor each once and in their order, and its answers are theirs.
use Rattle.std.proofs.Common.{◌≡◌, ℕ, zero, suc, ◌+◌, ◌<◌, ◌≤◌, Bool, true, false, cond, eqb, leb, ◌&&◌, List, [], ◌∷◌, ◌++◌, map, length, drop, Option, Some, None, refl, sym, ap, subst, ◌∙◌, arith, inl, inr, slice_get}
use Rattle.std.proofs.lemmas.Bool.{leb-false, eq-eqb}
use Rattle.std.proofs.lemmas.List.{append-nil, drop_more}
use Rattle.gh_world.proofs.Vocabulary.{acted_by, Answer, Answered, answers_to, cases_lt, count_of, drop_all, filter, filter-append, flat_map, get_or_past, Goroutine, is_of_seat, is_statement, is_statement_of, its_goroutine, nat_tests, no_goroutine, Op, option_to_list, Program, range_with_len, round_of, slice_get-get_or, slice_get_past, statement_as_op, statements_of, Stmt, total_of, turn_of, turns_of, work_at}
use Rattle.gh_lines.specs.Text.{answers_by}
use Rattle.gh_world.proofs.Turning.{statement_is, goroutine_is, has_statement, count-le}

-- its statement there, and those from there on
pieces : (f : Stmt → Op) (xs : List Stmt) (r : ℕ) → map f (option_to_list (slice_get xs r)) ++ map f (drop (r + 1) xs) ≡ map f (drop r xs)
pieces f xs r = elim (cases_lt r (length xs)) [
  | inl lt ↦ ap (λ (s : Option Stmt). map f (option_to_list s) ++ map f (drop (r + 1) xs)) (slice_get-get_or xs r Stmt.Gc lt) ∙ sym (ap (map f) (drop_more xs r Stmt.Gc lt))
  | inr le ↦ ap (λ (s : Option Stmt). map f (option_to_list s) ++ map f (drop (r + 1) xs)) (slice_get_past xs r le) ∙ ap (map f) (drop_all (r + 1) xs (omega arith) ∙ sym (drop_all r xs le))
]

module _ (p : Program) (g : ℕ) where
  abbrev mine : List Op → List Op
  mine os = filter (is_statement_of g) os

  abbrev piece : Option Stmt → List Op
  piece s = map (statement_as_op g) (option_to_list s)

  mine_is : (s : Stmt) → is_statement_of g (statement_as_op g s) ≡ true
  mine_is s = ap (λ (b : Bool). b && eqb (its_goroutine (statement_as_op g s)) g) (statement_is g s) ∙ ap (λ (h : ℕ). eqb h g) (goroutine_is g s) ∙ eq-eqb g g refl

  -- a goroutine that there is not has no statement
  pub none_beyond : length p.goroutines ≤ g → statements_of p g ≡ []
  none_beyond le = ap (λ (x : Goroutine). x.statements) (get_or_past p.goroutines g no_goroutine le)

  few_statements : count_of p g ≤ total_of p
  few_statements = elim (cases_lt g (length p.goroutines)) [
    | inl lt ↦ count-le p g lt
    | inr le ↦ let none = ap (λ (xs : List Stmt). length xs) (none_beyond le) in omega (arith, none)
  ]

  -- Among the turns of one processor.
  module _ (a : ℕ) where
    turn_other : (r h : ℕ) → (h ≡ g → ⊥) → mine (turn_of p a r h) ≡ []
    turn_other r h ne = grind arith

    -- turns in which it has no statement
    none_of : (r n h : ℕ) → ((k : ℕ) → h ≤ k → k < h + n → mine (turn_of p a r k) ≡ []) → mine (flat_map (turn_of p a r) (range_with_len h n)) ≡ []
    none_of r zero h none = refl
    none_of r (suc n) h none =
        filter-append (is_statement_of g) (turn_of p a r h) (flat_map (turn_of p a r) (range_with_len (h + 1) n))
        ∙ ap (λ (os : List Op). os ++ mine (flat_map (turn_of p a r) (range_with_len (h + 1) n))) (none h (omega arith) (omega arith))
        ∙ none_of r n (h + 1) (λ k low high. none k (omega arith) (omega arith))

    -- where it is of that processor
    module _ (its : is_of_seat p a g ≡ true) where
      turn_mine : (r : ℕ) → mine (turn_of p a r g) ≡ piece (slice_get (statements_of p g) r)
      turn_mine r = ap (λ (b : Bool). mine (cond (b && leb r (count_of p g)) (Op.Poll ∷ work_at g (slice_get (statements_of p g) r) ∷ []) [])) its ∙ go (leb r (count_of p g)) (slice_get (statements_of p g) r) refl refl where
        go : (b : Bool) (s : Option Stmt) → leb r (count_of p g) ≡ b → slice_get (statements_of p g) r ≡ s → mine (cond b (Op.Poll ∷ work_at g s ∷ []) []) ≡ piece s
        go false None e t = refl
        go false (Some s) e t = absurd (let past = leb-false r (count_of p g) e in let lt = has_statement p (statements_of p g) r s t in omega arith)
        go true None e t = refl
        go true (Some s) e t = ap (λ (b : Bool). cond b (statement_as_op g s ∷ []) []) (mine_is s)

      here : (r n h : ℕ) → h ≤ g → g < h + n → mine (flat_map (turn_of p a r) (range_with_len h n)) ≡ piece (slice_get (statements_of p g) r)
      here r zero h low high = absurd (omega arith)
      here r (suc n) h low high = elim (cases_lt h g) [
        | inl lt ↦ filter-append (is_statement_of g) (turn_of p a r h) (flat_map (turn_of p a r) (range_with_len (h + 1) n))
            ∙ ap (λ (os : List Op). os ++ mine (flat_map (turn_of p a r) (range_with_len (h + 1) n))) (turn_other r h (λ same. omega arith))
            ∙ here r n (h + 1) (omega arith) (omega arith)
        | inr le ↦ let same : g ≡ h = omega arith in subst (λ (k : ℕ). mine (flat_map (turn_of p a r) (range_with_len k (suc n))) ≡ piece (slice_get (statements_of p g) r)) same
            (filter-append (is_statement_of g) (turn_of p a r g) (flat_map (turn_of p a r) (range_with_len (g + 1) n))
            ∙ ap (λ (os : List Op). os ++ mine (flat_map (turn_of p a r) (range_with_len (g + 1) n))) (turn_mine r)
            ∙ ap (λ (os : List Op). piece (slice_get (statements_of p g) r) ++ os) (none_of r n (g + 1) (λ k low high. turn_other r k (λ same. omega arith)))
            ∙ append-nil (piece (slice_get (statements_of p g) r)))
      ]

      round_mine : (r : ℕ) → mine (round_of p a r) ≡ piece (slice_get (statements_of p g) r)
      round_mine r = grind (arith, here, none_beyond, none_of, turn_other)

      rounds_mine : (n r : ℕ) → count_of p g ≤ r + n → mine (flat_map (round_of p a) (range_with_len r n)) ≡ map (statement_as_op g) (drop r (statements_of p g))
      rounds_mine zero r few = ap (map (statement_as_op g)) (sym (drop_all r (statements_of p g) (omega arith)))
      rounds_mine (suc n) r few =
          filter-append (is_statement_of g) (round_of p a r) (flat_map (round_of p a) (range_with_len (r + 1) n))
          ∙ ap (λ (os : List Op). os ++ mine (flat_map (round_of p a) (range_with_len (r + 1) n))) (round_mine r)
          ∙ ap (λ (os : List Op). piece (slice_get (statements_of p g) r) ++ os) (rounds_mine n (r + 1) (omega arith))
          ∙ pieces (statement_as_op g) (statements_of p g) r

      -- its statements among the turns are those of the script
      pub turns_mine : mine (turns_of p a) ≡ map (statement_as_op g) (statements_of p g)
      unfolding turns_of
      turns_mine =
          filter-append (is_statement_of g) (flat_map (round_of p a) (range_with_len 0 (total_of p + 1))) (Op.Leave ∷ [])
          ∙ append-nil (mine (flat_map (round_of p a) (range_with_len 0 (total_of p + 1))))
          ∙ rounds_mine (total_of p + 1) 0 (omega (arith, few_statements))

    -- where it is of another
    module _ (others : is_of_seat p a g ≡ false) where
      turn_away : (r h : ℕ) → mine (turn_of p a r h) ≡ []
      turn_away r h = grind (arith, nat_tests)

      rounds_away : (n r : ℕ) → mine (flat_map (round_of p a) (range_with_len r n)) ≡ []
      rounds_away zero r = refl
      rounds_away (suc n) r =
          filter-append (is_statement_of g) (round_of p a r) (flat_map (round_of p a) (range_with_len (r + 1) n))
          ∙ ap (λ (os : List Op). os ++ mine (flat_map (round_of p a) (range_with_len (r + 1) n))) (none_of r (length p.goroutines) 0 (λ k low high. turn_away r k))
          ∙ rounds_away n (r + 1)

      -- it has no statement among the turns
      pub turns_away : mine (turns_of p a) ≡ []
      unfolding turns_of
      turns_away =
          filter-append (is_statement_of g) (flat_map (round_of p a) (range_with_len 0 (total_of p + 1))) (Op.Leave ∷ [])
          ∙ append-nil (mine (flat_map (round_of p a) (range_with_len 0 (total_of p + 1))))
          ∙ rounds_away (total_of p + 1) 0

  -- which operations are the goroutine's
  pub acted_ops : (xs : List Answered) → map (λ (a : Answered). a.op) (acted_by g xs) ≡ mine (map (λ (a : Answered). a.op) xs)
  acted_ops [] = refl
  acted_ops (x ∷ xs) = go (is_statement_of g x.op) (acted_ops xs) where
    go : (b : Bool) → map (λ (a : Answered). a.op) (acted_by g xs) ≡ mine (map (λ (a : Answered). a.op) xs) → map (λ (a : Answered). a.op) (cond b (x ∷ acted_by g xs) (acted_by g xs)) ≡ cond b (x.op ∷ mine (map (λ (a : Answered). a.op) xs)) (mine (map (λ (a : Answered). a.op) xs))
    go true ih = ap (λ (os : List Op). x.op ∷ os) ih
    go false ih = ih

  abbrev rest_of : List Answered → List (ℕ × Answer)
  rest_of xs = answers_to (map (λ (a : Answered). a.op) xs) (map (λ (a : Answered). a.answer) xs)

  -- and which answers
  pub acted_answers : (xs : List Answered) → map (λ (a : Answered). a.answer) (acted_by g xs) ≡ answers_by g (answers_to (map (λ (a : Answered). a.op) xs) (map (λ (a : Answered). a.answer) xs))
  acted_answers [] = refl
  acted_answers (x ∷ xs) = go (is_statement x.op) (eqb (its_goroutine x.op) g) refl (acted_answers xs) where
    go : (b c : Bool) → eqb (its_goroutine x.op) g ≡ c → map (λ (a : Answered). a.answer) (acted_by g xs) ≡ answers_by g (rest_of xs) → map (λ (a : Answered). a.answer) (cond (b && c) (x ∷ acted_by g xs) (acted_by g xs)) ≡ answers_by g (cond b ((its_goroutine x.op, x.answer) ∷ []) [] ++ rest_of xs)
    go b c e ih = grind arith
