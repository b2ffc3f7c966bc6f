-- The points of a run so far are the statements that acted, in their order, and those of each goroutine are its first ones.
use Rattle.std.proofs.Common.{◌≡◌, ℕ, zero, suc, ◌+◌, ◌-◌, ◌<◌, ◌%◌, Bool, true, false, cond, eqb, eq-eqb, ◌&&◌, List, [], ◌∷◌, ◌++◌, map, length, reverse, Option, Some, None, refl, sym, ap, subst, ◌∙◌, append_assoc, arith, inl, inr, option_map, slice_get}
use Rattle.std.proofs.lemmas.Bool.{eqb-true}
use Rattle.std.proofs.lemmas.List.{append-nil, length-reverse}
use Rattle.std.proofs.lemmas.Nat.{mod_below}
use Rattle.gh_world.proofs.Vocabulary.{Act, acts, Answered, answered, before_step, begun_in, bit, by, cases_lt, EachOperationActsOnce, Entry, ever_of, filter, filter-append, is_of_seat, is_point, is_statement, is_statement_of, IsRunSoFar, its_goroutine, Layout, Legal, length-range_with_len, map-append, nat_tests, next_point, now_in, Op, op_at, option_to_list, order_at, order_of, points_in, processor_kind, Program, range_with_len, reverse-append, setting_of, slice_get-map, state_of, statement_as_op, statement_at, statement_count, statement_now, statements_of}
use Rattle.gh_world.specs.Points.{numbers_with, op_at_point, ops_of, PointsAre, PointsAreStatements, statements_acted}
use Rattle.gh_world.proofs.EachOnce.{acted_ops, turns_mine}
use Rattle.gh_world.proofs.Explained.Acted.{acts_last, ops_are, ops_by, ops_in, reverse_more}
use Rattle.gh_world.proofs.Explained.Seats.{all_its, AreOf, filter-reverse, its_seat, order_its}
use Rattle.gh_world.proofs.Explained.Steps.{its_own, no_processors}

-- ---- statements by their numbers, the newest first

-- the goroutine and the number of the first, behind the others
abbrev number_behind : List Op → Op → ℕ × ℕ
number_behind os o = (its_goroutine o, statement_count (its_goroutine o) (o ∷ os))

-- the numbers of those that are statements, the first of them first
abbrev numbered : List Answered → List (ℕ × ℕ)
numbered [] = []
numbered (x ∷ xs) = numbered xs ++ next_point (is_statement x.op) (number_behind (ops_of xs) x.op)

-- the newest is a statement of goroutine g, or none
now_is : (o : Op) (os : List Op) → is_statement o ≡ true → statement_now (o ∷ os) ≡ number_behind os o
now_is o os is = ap (λ (b : Bool). cond b (number_behind os o) (statement_now os)) is

count_is : (g : ℕ) (os : List Op) → statement_count g os ≡ length (filter (is_statement_of g) os)
count_is g [] = refl
count_is g (o ∷ os) = go (is_statement_of g o) (count_is g os) where
  go : (b : Bool) → statement_count g os ≡ length (filter (is_statement_of g) os) → bit b + statement_count g os ≡ length (cond b (o ∷ filter (is_statement_of g) os) (filter (is_statement_of g) os))
  go true ih = omega (arith, ih)
  go false ih = omega (arith, ih)

-- ---- the numbers of one goroutine's

one_more : (n a j : ℕ) → a + n ≡ j → range_with_len a (suc n) ≡ range_with_len a n ++ j ∷ []
one_more zero a j e = let same : a ≡ j = omega (arith, e) in ap (λ (x : ℕ). x ∷ []) same
one_more (suc n) a j e = ap (λ (xs : List ℕ). a ∷ xs) (one_more n (a + 1) j (omega (arith, e)))

numbers_more : (g : ℕ) (os : List Op) (o : Op) → range_with_len 1 (statement_count g os) ++ numbers_with g (next_point (is_statement o) (number_behind os o)) ≡ range_with_len 1 (statement_count g (o ∷ os))
numbers_more g os o = go (is_statement o) refl (eqb (its_goroutine o) g) refl where
  go : (b : Bool) → is_statement o ≡ b → (c : Bool) → eqb (its_goroutine o) g ≡ c → range_with_len 1 (statement_count g os) ++ numbers_with g (next_point b (number_behind os o)) ≡ range_with_len 1 (bit (b && c) + statement_count g os)
  go false is c e = let same : 0 + statement_count g os ≡ statement_count g os = omega arith in append-nil (range_with_len 1 (statement_count g os)) ∙ ap (range_with_len 1) (sym same)
  go true is false e =
      let same : 0 + statement_count g os ≡ statement_count g os = omega arith in
      ap (λ (c : Bool). range_with_len 1 (statement_count g os) ++ map (λ (x : ℕ × ℕ). x.1) (cond c (number_behind os o ∷ []) [])) e
      ∙ append-nil (range_with_len 1 (statement_count g os)) ∙ ap (range_with_len 1) (sym same)
  go true is true e =
      let h : its_goroutine o ≡ g = eqb-true (its_goroutine o) g e in
      let test : is_statement_of (its_goroutine o) o ≡ true = ap (λ (c : Bool). c && eqb (its_goroutine o) (its_goroutine o)) is ∙ eq-eqb (its_goroutine o) (its_goroutine o) refl in
      let own : statement_count (its_goroutine o) (o ∷ os) ≡ 1 + statement_count (its_goroutine o) os = ap (λ (c : Bool). bit c + statement_count (its_goroutine o) os) test in
      let there : statement_count (its_goroutine o) os ≡ statement_count g os = ap (λ (k : ℕ). statement_count k os) h in
      ap (λ (c : Bool). range_with_len 1 (statement_count g os) ++ map (λ (x : ℕ × ℕ). x.1) (cond c (number_behind os o ∷ []) [])) e
      ∙ sym (one_more (statement_count g os) 1 (statement_count (its_goroutine o) (o ∷ os)) (omega (arith, own, there)))
      ∙ ap (range_with_len 1) (let next : suc (statement_count g os) ≡ 1 + statement_count g os = omega arith in next)

numbers_are : (g : ℕ) (xs : List Answered) → numbers_with g (numbered xs) ≡ range_with_len 1 (statement_count g (ops_of xs))
numbers_are g [] = refl
numbers_are g (x ∷ xs) =
    ap (map (λ (y : ℕ × ℕ). y.1)) (filter-append (λ (y : ℕ × ℕ). eqb y.0 g) (numbered xs) (next_point (is_statement x.op) (number_behind (ops_of xs) x.op)))
    ∙ map-append (λ (y : ℕ × ℕ). y.1) (filter (λ (y : ℕ × ℕ). eqb y.0 g) (numbered xs)) (filter (λ (y : ℕ × ℕ). eqb y.0 g) (next_point (is_statement x.op) (number_behind (ops_of xs) x.op)))
    ∙ ap (λ (ys : List ℕ). ys ++ numbers_with g (next_point (is_statement x.op) (number_behind (ops_of xs) x.op))) (numbers_are g xs)
    ∙ numbers_more g (ops_of xs) x.op

-- as many as there are
first_numbers : (xs : List ℕ) (n : ℕ) → xs ≡ range_with_len 1 n → xs ≡ range_with_len 1 (length xs)
first_numbers xs n e = e ∙ ap (range_with_len 1) (sym (ap length e ∙ length-range_with_len 1 n))

-- ---- their statements

get_behind : (xs : List Op) (o : Op) (rest : List Op) → slice_get (xs ++ o ∷ rest) (length xs) ≡ Some o
get_behind [] o rest = refl
get_behind (x ∷ xs) o rest = get_behind xs o rest

module _ (p : Program) where
  -- the statements of each goroutine are its first ones
  abbrev Firsts : List Op → Type 0
  Firsts os = (g : ℕ) → (rest : List Op) × (map (statement_as_op g) (statements_of p g) ≡ filter (is_statement_of g) (reverse os) ++ rest)

  abbrev newest : ℕ → Op → List Op
  newest g o = filter (is_statement_of g) (o ∷ [])

  split_off : (g : ℕ) (os : List Op) (o : Op) (rest : List Op) → filter (is_statement_of g) (reverse (o ∷ os)) ++ rest ≡ filter (is_statement_of g) (reverse os) ++ (newest g o ++ rest)
  split_off g os o rest =
      ap (λ (xs : List Op). filter (is_statement_of g) xs ++ rest) (reverse_more o os)
      ∙ ap (λ (xs : List Op). xs ++ rest) (filter-append (is_statement_of g) (reverse os) (o ∷ []))
      ∙ append_assoc (filter (is_statement_of g) (reverse os)) (newest g o) rest

  fewer : (os : List Op) (o : Op) → Firsts (o ∷ os) → Firsts os
  fewer os o first g = let f = first g in (newest g o ++ f.0, f.1 ∙ split_off g os o f.0)

  -- the statement of this number
  at_number : (g n : ℕ) (before : List Op) (o : Op) (rest : List Op) → n ≡ suc (length before) → map (statement_as_op g) (statements_of p g) ≡ before ++ o ∷ rest → option_map (statement_as_op g) (statement_at p g n) ≡ Some o
  at_number g n before o rest is e =
      let some : eqb n 0 ≡ false = grind (arith, nat_tests) in
      let less : n - 1 ≡ length before = omega (arith, is) in
      ap (λ (b : Bool). option_map (statement_as_op g) (cond b None (slice_get (statements_of p g) (n - 1)))) some
      ∙ ap (λ (k : ℕ). option_map (statement_as_op g) (slice_get (statements_of p g) k)) less
      ∙ sym (slice_get-map (statement_as_op g) (statements_of p g) (length before))
      ∙ ap (λ (xs : List Op). slice_get xs (length before)) e
      ∙ get_behind before o rest

  newest_at : (os : List Op) (o : Op) → is_statement o ≡ true → Firsts (o ∷ os) → op_at_point p (number_behind os o) ≡ Some o
  newest_at os o is first =
      let g = its_goroutine o in
      let f = first g in
      let test : is_statement_of g o ≡ true = ap (λ (c : Bool). c && eqb g g) is ∙ eq-eqb g g refl in
      let own : newest g o ≡ o ∷ [] = ap (λ (c : Bool). cond c (o ∷ []) []) test in
      let number : statement_count g (o ∷ os) ≡ 1 + statement_count g os = ap (λ (c : Bool). bit c + statement_count g os) test in
      let count = count_is g os in
      let turned = ap length (filter-reverse (is_statement_of g) os) in
      let long = length-reverse (filter (is_statement_of g) os) in
      at_number g (statement_count g (o ∷ os)) (filter (is_statement_of g) (reverse os)) o f.0 (omega (arith, number, count, turned, long))
      (f.1 ∙ split_off g os o f.0 ∙ ap (λ (xs : List Op). filter (is_statement_of g) (reverse os) ++ (xs ++ f.0)) own)

  statements_are : (xs : List Answered) → Firsts (ops_of xs) → map (op_at_point p) (numbered xs) ≡ map (λ (a : Answered). Some a.op) (statements_acted (reverse xs))
  statements_are [] first = refl
  statements_are (x ∷ xs) first =
      map-append (op_at_point p) (numbered xs) (next_point (is_statement x.op) (number_behind (ops_of xs) x.op))
      ∙ ap (λ (ys : List (Option Op)). ys ++ map (op_at_point p) (next_point (is_statement x.op) (number_behind (ops_of xs) x.op))) (statements_are xs (fewer (ops_of xs) x.op first))
      ∙ ap (λ (ys : List (Option Op)). map (λ (a : Answered). Some a.op) (statements_acted (reverse xs)) ++ ys) (go (is_statement x.op) refl)
      ∙ sym (map-append (λ (a : Answered). Some a.op) (statements_acted (reverse xs)) (statements_acted (x ∷ [])))
      ∙ ap (map (λ (a : Answered). Some a.op)) (sym (filter-append (λ (a : Answered). is_statement a.op) (reverse xs) (x ∷ [])))
      ∙ ap (λ (ys : List Answered). map (λ (a : Answered). Some a.op) (statements_acted ys)) (sym (reverse_more x xs)) where
        go : (b : Bool) → is_statement x.op ≡ b → map (op_at_point p) (next_point b (number_behind (ops_of xs) x.op)) ≡ map (λ (a : Answered). Some a.op) (cond b (x ∷ []) [])
        go false is = refl
        go true is = ap (λ (o : Option Op). o ∷ []) (newest_at (ops_of xs) x.op is first)

-- ---- the points are numbered so

module _ (p : Program) (l : Layout) (procs : l.procs ≡ p.settings.procs) (each : EachOperationActsOnce) where
  -- the statements of a goroutine are those that its processor did
  own_statements : (a g : ℕ) → is_of_seat p a g ≡ true → (es : List (Entry Op)) → Legal (setting_of p l) es → filter (is_statement_of g) (ops_in p l es) ≡ filter (is_statement_of g) (ops_by p l a es)
  own_statements a g its es legal =
      sym (acted_ops p g (order_of p.shapes l es)) ∙ ap (λ (xs : List Answered). ops_of xs) (order_its p l procs each a g its es legal) ∙ acted_ops p g (order_at p.shapes l a es)

  module _ (es : List (Entry Op)) (e : Entry Op) (legal : Legal (setting_of p l) (e ∷ es)) where
    point_is : (x : Act) → acts l (before_step p.shapes l es e) e.found ≡ Some x → is_statement x.op ≡ true → now_in (e ∷ es) ≡ number_behind (ops_in p l es) x.op
    point_is x is statement = elim (cases_lt e.actor l.procs) [
      | inl lt ↦
          let g = its_goroutine x.op in
          let begun = acts_last p l each e.actor lt es e legal (its_own p l es e legal e.actor lt refl) x is in
          let its = its_seat p l procs e.actor x.op (subst (AreOf p l procs e.actor) begun (all_its p l procs e.actor (e ∷ es) legal)).0 statement in
          let same : statement_count g (ops_by p l e.actor es) ≡ statement_count g (ops_in p l es) =
          count_is g (ops_by p l e.actor es) ∙ ap length (sym (own_statements e.actor g its es legal.0)) ∙ sym (count_is g (ops_in p l es)) in
          ap statement_now begun ∙ now_is x.op (ops_by p l e.actor es) statement ∙ ap (λ (n : ℕ). (g, bit (is_statement_of g x.op) + n)) same
      | inr le ↦ absurd (let no : None ≡ Some x = sym (no_processors p l es e legal le).acts_not ∙ is in cc)
    ]

    more_points : (x : Option Act) → acts l (before_step p.shapes l es e) e.found ≡ x → points_in p.shapes l es ≡ numbered (order_of p.shapes l es) →
        points_in p.shapes l es ++ next_point (is_point x) (now_in (e ∷ es)) ≡ numbered (option_to_list (answered p.shapes l (ever_of p.shapes l es) x) ++ order_of p.shapes l es)
    more_points None is ih = append-nil (points_in p.shapes l es) ∙ ih
    more_points (Some x) is ih = ap (λ (ps : List (ℕ × ℕ)). ps ++ next_point (is_statement x.op) (now_in (e ∷ es))) ih ∙ ap (λ (ps : List (ℕ × ℕ)). numbered (order_of p.shapes l es) ++ ps) (go (is_statement x.op) refl) where
      go : (b : Bool) → is_statement x.op ≡ b → next_point b (now_in (e ∷ es)) ≡ next_point b (number_behind (ops_in p l es) x.op)
      go false other = refl
      go true statement = ap (λ (n : ℕ × ℕ). n ∷ []) (point_is x is statement)

  all_numbered : (es : List (Entry Op)) → Legal (setting_of p l) es → points_in p.shapes l es ≡ numbered (order_of p.shapes l es)
  all_numbered [] legal = refl
  all_numbered (e ∷ es) legal = more_points es e legal (acts l (before_step p.shapes l es e) e.found) refl (all_numbered es legal.0)

  -- what has acted of a goroutine is the first of its statements
  module _ (es : List (Entry Op)) (r : IsRunSoFar p l es) where
    firsts : Firsts p (ops_in p l es)
    firsts g =
        let a = g % p.settings.procs in
        let some = l.limits.procs_fit.0 in
        let below = mod_below g p.settings.procs (omega (arith, procs, some)) in
        let there : a < l.procs = omega (arith, procs, below) in
        let its : is_of_seat p a g ≡ true = eq-eqb a a refl in
        let mine = is_statement_of g in
        let acted = ops_by p l a es in
        let pending = reverse (option_to_list (op_at (state_of (processor_kind p.shapes l) a es).task)) in
        let begun : reverse (begun_in (by a es)) ≡ reverse acted ++ pending = ap (λ (os : List Op). reverse os) (ops_are p l each a there es r.legal) ∙ reverse-append (option_to_list (op_at (state_of (processor_kind p.shapes l) a es).task)) acted in
        let same : filter mine (reverse acted) ≡ filter mine (reverse (ops_in p l es)) = filter-reverse mine acted ∙ ap (λ (os : List Op). reverse os) (sym (own_statements a g its es r.legal)) ∙ sym (filter-reverse mine (ops_in p l es)) in (
          filter mine pending ++ filter mine (r.to_come a),
          sym (turns_mine p g a its)
              ∙ ap (filter mine) (r.turns a there ∙ ap (λ (os : List Op). os ++ r.to_come a) begun)
              ∙ filter-append mine (reverse acted ++ pending) (r.to_come a)
              ∙ ap (λ (os : List Op). os ++ filter mine (r.to_come a)) (filter-append mine (reverse acted) pending)
              ∙ append_assoc (filter mine (reverse acted)) (filter mine pending) (filter mine (r.to_come a))
              ∙ ap (λ (os : List Op). os ++ (filter mine pending ++ filter mine (r.to_come a))) same,
        )

    pub points_are : PointsAre p l es
    points_are = record {
      statements = ap (map (op_at_point p)) (all_numbered es r.legal) ∙ statements_are p (order_of p.shapes l es) firsts;
      numbers = λ g. first_numbers (numbers_with g (points_in p.shapes l es)) (statement_count g (ops_in p l es)) (ap (numbers_with g) (all_numbered es r.legal) ∙ numbers_are g (order_of p.shapes l es));
    }

pub points_are_statements : EachOperationActsOnce → PointsAreStatements
points_are_statements each p l es formed lays r = points_are p l lays.procs_are each es r
