-- The operations of a goroutine stand among the turns of its processor in their order, and among those of no other.
use Rattle.std.proofs.Common.{◌≡◌, ◌≢◌, ℕ, zero, suc, ◌+◌, ◌<◌, ◌≤◌, Bool, true, false, cond, eqb, leb, ◌&&◌, List, [], ◌∷◌, ◌++◌, map, length, drop, Option, Some, None, refl, sym, ap, subst, ◌∙◌, arith, inl, inr, slice_get}
use Rattle.std.proofs.lemmas.Bool.{eq-eqb, eqb-true}
use Rattle.std.proofs.lemmas.Bool.Decides.{nat_tests}
use Rattle.std.proofs.lemmas.List.{append-nil, drop_all, drop_more, get_or_past, length-append, length-map}
use Rattle.std.proofs.lemmas.Option.{slice_get-get_or, slice_get_past}
use Rattle.gh_soak.proofs.Vocabulary.{cases_lt, count_of, eqb-false, filter, filter-append, flat_map, get_or-le-sum_by, Goroutine, has_turn, is_by_goroutine, is_of_seat, no_goroutine, Op, operations_of, option_to_list, Program, range_with_len, round_of, statement_as_op, statements_in, statements_of, total_of, turn_of, turns_of}
use Rattle.gh_interp.specs.Working.{work_at}
use Rattle.gh_script.specs.declared.statement.Stmt.{Stmt}

-- ---- lists

-- the element there, and those behind it
pieces : {X : Type 0} (xs : List X) (r : ℕ) (d : X) → option_to_list (slice_get xs r) ++ drop (r + 1) xs ≡ drop r xs
pieces {X} xs r d = elim (cases_lt r (length xs)) [
  | inl lt ↦ ap (λ (x : Option X). option_to_list x ++ drop (r + 1) xs) (slice_get-get_or xs r d lt) ∙ sym (drop_more xs r d lt)
  | inr le ↦ ap (λ (x : Option X). option_to_list x ++ drop (r + 1) xs) (slice_get_past xs r le) ∙ drop_all (r + 1) xs (omega arith) ∙ sym (drop_all r xs le)
]

-- ---- whose an operation is

-- what goroutine h does is of goroutine h
work_is : (g h : ℕ) (s : Option Stmt) → is_by_goroutine g (work_at h s) ≡ eqb h g
work_is g h None = refl
work_is g h (Some (Stmt.New d t)) = refl
work_is g h (Some (Stmt.Load d b k)) = refl
work_is g h (Some (Stmt.Store b k v)) = refl
work_is g h (Some (Stmt.GetGlobal d k)) = refl
work_is g h (Some (Stmt.SetGlobal k v)) = refl
work_is g h (Some (Stmt.Int d n)) = refl
work_is g h (Some (Stmt.Move d s)) = refl
work_is g h (Some (Stmt.Nil d)) = refl
work_is g h (Some Stmt.Gc) = refl

differs : (h g : ℕ) → h ≢ g → eqb h g ≡ false
differs h g ne = grind (arith, nat_tests)

leb_both : (r n : ℕ) → leb (suc r) (suc n) ≡ leb r n
leb_both r n = grind (arith, nat_tests)

leb_first : (n : ℕ) → leb 0 n ≡ true
leb_first n = grind (arith, nat_tests)

module _ (p : Program) (g : ℕ) where
  abbrev pub mine : List Op → List Op
  mine os = filter (is_by_goroutine g) os

  -- what stands at place r of what it does
  abbrev piece : ℕ → List Op
  piece r = option_to_list (slice_get (operations_of p g) r)

  none_beyond : length p.goroutines ≤ g → statements_of p g ≡ []
  none_beyond le = ap (λ (x : Goroutine). x.statements) (get_or_past p.goroutines g no_goroutine le)

  few_statements : count_of p g ≤ total_of p
  few_statements = elim (cases_lt g (length p.goroutines)) [
    | inl lt ↦ get_or-le-sum_by statements_in p.goroutines g no_goroutine lt
    | inr le ↦ let none = ap (λ (xs : List Stmt). length xs) (none_beyond le) in omega (arith, none)
  ]

  many_operations : length (operations_of p g) ≡ count_of p g + 1
  many_operations = length-append (map (statement_as_op g) (statements_of p g)) (Op.End g ∷ []) ∙ ap (λ (n : ℕ). n + 1) (length-map (statements_of p g) (statement_as_op g))

  -- in round r the goroutine does what stands at place r, if anything
  turn_piece : (xs : List Stmt) (r : ℕ) → mine (cond (leb r (length xs)) (Op.Poll ∷ work_at g (slice_get xs r) ∷ []) []) ≡ option_to_list (slice_get (map (statement_as_op g) xs ++ Op.End g ∷ []) r)
  turn_piece [] zero = ap (λ (b : Bool). cond b (Op.End g ∷ []) []) (eq-eqb g g refl)
  turn_piece [] (suc r) = ap (λ (b : Bool). mine (cond b (Op.Poll ∷ Op.End g ∷ []) [])) (past r) where
    past : (n : ℕ) → leb (suc n) 0 ≡ false
    past n = grind (arith, nat_tests)
  turn_piece (x ∷ xs) zero = ap (λ (b : Bool). mine (cond b (Op.Poll ∷ statement_as_op g x ∷ []) [])) (leb_first (suc (length xs))) ∙ ap (λ (b : Bool). cond b (statement_as_op g x ∷ []) []) (work_is g g (Some x) ∙ eq-eqb g g refl)
  turn_piece (x ∷ xs) (suc r) = ap (λ (b : Bool). mine (cond b (Op.Poll ∷ work_at g (slice_get xs r) ∷ []) [])) (leb_both r (length xs)) ∙ turn_piece xs r

  -- Among the turns of one processor.
  module _ (a : ℕ) where
    turn_other : (r h : ℕ) → h ≢ g → mine (turn_of p a r h) ≡ []
    turn_other r h ne = go (has_turn p a r h) where
      go : (b : Bool) → mine (cond b (Op.Poll ∷ work_at h (slice_get (statements_of p h) r) ∷ []) []) ≡ []
      go false = refl
      go true = ap (λ (b : Bool). cond b (work_at h (slice_get (statements_of p h) r) ∷ []) []) (work_is g h (slice_get (statements_of p h) r) ∙ differs h g ne)

    -- turns in which it does nothing
    none_of : (r n h : ℕ) → ((k : ℕ) → h ≤ k → k < h + n → mine (turn_of p a r k) ≡ []) → mine (flat_map (turn_of p a r) (range_with_len h n)) ≡ []
    none_of r zero h none = refl
    none_of r (suc n) h none =
        filter-append (is_by_goroutine g) (turn_of p a r h) (flat_map (turn_of p a r) (range_with_len (h + 1) n))
        ∙ ap (λ (os : List Op). os ++ mine (flat_map (turn_of p a r) (range_with_len (h + 1) n))) (none h (omega arith) (omega arith))
        ∙ none_of r n (h + 1) (λ k low high. none k (omega arith) (omega arith))

    -- rounds in which it does nothing
    no_rounds : (n r : ℕ) → ((k : ℕ) → mine (round_of p a k) ≡ []) → mine (flat_map (round_of p a) (range_with_len r n)) ≡ []
    no_rounds zero r none = refl
    no_rounds (suc n) r none =
        filter-append (is_by_goroutine g) (round_of p a r) (flat_map (round_of p a) (range_with_len (r + 1) n))
        ∙ ap (λ (os : List Op). os ++ mine (flat_map (round_of p a) (range_with_len (r + 1) n))) (none r)
        ∙ no_rounds n (r + 1) none

    none_among : ((k : ℕ) → mine (round_of p a k) ≡ []) → mine (turns_of p a) ≡ []
    unfolding turns_of
    none_among none =
        filter-append (is_by_goroutine g) (flat_map (round_of p a) (range_with_len 0 (total_of p + 1))) (Op.Leave ∷ [])
        ∙ append-nil (mine (flat_map (round_of p a) (range_with_len 0 (total_of p + 1))))
        ∙ no_rounds (total_of p + 1) 0 none

    -- where there is no such goroutine
    pub turns_beyond : length p.goroutines ≤ g → mine (turns_of p a) ≡ []
    turns_beyond le = none_among (λ r. none_of r (length p.goroutines) 0 (λ k low high. turn_other r k (λ same. omega arith)))

    -- where it is of another processor
    pub turns_away : is_of_seat p a g ≡ false → mine (turns_of p a) ≡ []
    turns_away others = none_among (λ r. none_of r (length p.goroutines) 0 (λ k low high. away r k)) where
      away : (r h : ℕ) → mine (turn_of p a r h) ≡ []
      away r h = go (eqb h g) refl where
        go : (b : Bool) → eqb h g ≡ b → mine (turn_of p a r h) ≡ []
        go false ne = turn_other r h (eqb-false h g ne)
        go true e = ap (λ (k : ℕ). mine (turn_of p a r k)) (eqb-true h g e) ∙ ap (λ (b : Bool). mine (cond (b && leb r (count_of p g)) (Op.Poll ∷ work_at g (slice_get (statements_of p g) r) ∷ []) [])) others

    -- where it is of this one
    module _ (lt : g < length p.goroutines) (its : is_of_seat p a g ≡ true) where
      turn_mine : (r : ℕ) → mine (turn_of p a r g) ≡ piece r
      turn_mine r = ap (λ (b : Bool). mine (cond (b && leb r (count_of p g)) (Op.Poll ∷ work_at g (slice_get (statements_of p g) r) ∷ []) [])) its ∙ turn_piece (statements_of p g) r

      here : (r n h : ℕ) → h ≤ g → g < h + n → mine (flat_map (turn_of p a r) (range_with_len h n)) ≡ piece r
      here r zero h low high = absurd (omega arith)
      here r (suc n) h low high = elim (cases_lt h g) [
        | inl below ↦ filter-append (is_by_goroutine g) (turn_of p a r h) (flat_map (turn_of p a r) (range_with_len (h + 1) n))
            ∙ ap (λ (os : List Op). os ++ mine (flat_map (turn_of p a r) (range_with_len (h + 1) n))) (turn_other r h (λ same. omega arith))
            ∙ here r n (h + 1) (omega arith) (omega arith)
        | inr le ↦ let same : g ≡ h = omega arith in subst (λ (k : ℕ). mine (flat_map (turn_of p a r) (range_with_len k (suc n))) ≡ piece r) same
            (filter-append (is_by_goroutine g) (turn_of p a r g) (flat_map (turn_of p a r) (range_with_len (g + 1) n))
            ∙ ap (λ (os : List Op). os ++ mine (flat_map (turn_of p a r) (range_with_len (g + 1) n))) (turn_mine r)
            ∙ ap (λ (os : List Op). piece r ++ os) (none_of r n (g + 1) (λ k low high. turn_other r k (λ same. omega arith)))
            ∙ append-nil (piece r))
      ]

      rounds_mine : (n r : ℕ) → count_of p g < r + n → mine (flat_map (round_of p a) (range_with_len r n)) ≡ drop r (operations_of p g)
      rounds_mine zero r few = sym (drop_all r (operations_of p g) (let many = many_operations in omega (arith, many, few)))
      rounds_mine (suc n) r few =
          filter-append (is_by_goroutine g) (round_of p a r) (flat_map (round_of p a) (range_with_len (r + 1) n))
          ∙ ap (λ (os : List Op). os ++ mine (flat_map (round_of p a) (range_with_len (r + 1) n))) (here r (length p.goroutines) 0 (omega arith) (omega (arith, lt)))
          ∙ ap (λ (os : List Op). piece r ++ os) (rounds_mine n (r + 1) (omega (arith, few)))
          ∙ pieces (operations_of p g) r Op.Poll

      -- what it does among the turns are its operations
      pub turns_mine : mine (turns_of p a) ≡ operations_of p g
      unfolding turns_of
      turns_mine =
          filter-append (is_by_goroutine g) (flat_map (round_of p a) (range_with_len 0 (total_of p + 1))) (Op.Leave ∷ [])
          ∙ append-nil (mine (flat_map (round_of p a) (range_with_len 0 (total_of p + 1))))
          ∙ rounds_mine (total_of p + 1) 0 (omega (arith, few_statements))

  -- ---- one goroutine behind the other

  own_work : (h : ℕ) (xs : List Stmt) → h ≡ g → mine (map (statement_as_op h) xs ++ Op.End h ∷ []) ≡ map (statement_as_op h) xs ++ Op.End h ∷ []
  own_work h [] same = ap (λ (b : Bool). cond b (Op.End h ∷ []) []) (eq-eqb h g same)
  own_work h (x ∷ xs) same =
      ap (λ (b : Bool). cond b (statement_as_op h x ∷ mine (map (statement_as_op h) xs ++ Op.End h ∷ [])) (mine (map (statement_as_op h) xs ++ Op.End h ∷ []))) (work_is g h (Some x) ∙ eq-eqb h g same)
      ∙ ap (λ (os : List Op). statement_as_op h x ∷ os) (own_work h xs same)

  other_work : (h : ℕ) (xs : List Stmt) → h ≢ g → mine (map (statement_as_op h) xs ++ Op.End h ∷ []) ≡ []
  other_work h [] ne = ap (λ (b : Bool). cond b (Op.End h ∷ []) []) (differs h g ne)
  other_work h (x ∷ xs) ne =
      ap (λ (b : Bool). cond b (statement_as_op h x ∷ mine (map (statement_as_op h) xs ++ Op.End h ∷ [])) (mine (map (statement_as_op h) xs ++ Op.End h ∷ []))) (work_is g h (Some x) ∙ differs h g ne)
      ∙ other_work h xs ne

  none_in : (n h : ℕ) → ((k : ℕ) → h ≤ k → k < h + n → k ≢ g) → mine (flat_map (operations_of p) (range_with_len h n)) ≡ []
  none_in zero h none = refl
  none_in (suc n) h none =
      filter-append (is_by_goroutine g) (operations_of p h) (flat_map (operations_of p) (range_with_len (h + 1) n))
      ∙ ap (λ (os : List Op). os ++ mine (flat_map (operations_of p) (range_with_len (h + 1) n))) (other_work h (statements_of p h) (none h (omega arith) (omega arith)))
      ∙ none_in n (h + 1) (λ k low high. none k (omega arith) (omega arith))

  pub beyond_all : length p.goroutines ≤ g → mine (flat_map (operations_of p) (range_with_len 0 (length p.goroutines))) ≡ []
  beyond_all le = none_in (length p.goroutines) 0 (λ k low high same. omega arith)

  one_of : (n h : ℕ) → h ≤ g → g < h + n → mine (flat_map (operations_of p) (range_with_len h n)) ≡ operations_of p g
  one_of zero h low high = absurd (omega arith)
  one_of (suc n) h low high = elim (cases_lt h g) [
    | inl below ↦ filter-append (is_by_goroutine g) (operations_of p h) (flat_map (operations_of p) (range_with_len (h + 1) n))
        ∙ ap (λ (os : List Op). os ++ mine (flat_map (operations_of p) (range_with_len (h + 1) n))) (other_work h (statements_of p h) (λ same. omega arith))
        ∙ one_of n (h + 1) (omega arith) (omega arith)
    | inr le ↦ let same : g ≡ h = omega arith in subst (λ (k : ℕ). mine (flat_map (operations_of p) (range_with_len k (suc n))) ≡ operations_of p g) same
        (filter-append (is_by_goroutine g) (operations_of p g) (flat_map (operations_of p) (range_with_len (g + 1) n))
        ∙ ap (λ (os : List Op). os ++ mine (flat_map (operations_of p) (range_with_len (g + 1) n))) (own_work g (statements_of p g) refl)
        ∙ ap (λ (os : List Op). operations_of p g ++ os) (none_in n (g + 1) (λ k low high same. omega arith))
        ∙ append-nil (operations_of p g))
  ]

  pub one_of_all : g < length p.goroutines → mine (flat_map (operations_of p) (range_with_len 0 (length p.goroutines))) ≡ operations_of p g
  one_of_all lt = one_of (length p.goroutines) 0 (omega arith) (omega (arith, lt))
