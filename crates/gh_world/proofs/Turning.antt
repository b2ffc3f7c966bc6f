-- The turns of a processor: what is still to come at each of them.
use Rattle.std.proofs.Common.{◌≡◌, ℕ, zero, suc, ◌+◌, ◌-◌, ◌<◌, ◌≤◌, ◌&&◌, Bool, true, false, cond, if◌then◌else◌, eqb, ltb, leb, List, [], ◌∷◌, ◌++◌, length, get_or, drop, min, Option, Some, None, refl, sym, ap, subst, ◌∙◌, append_assoc, arith, inl, inr, sum_by, slice_get, ◌%◌}
use Rattle.std.proofs.lemmas.Bool.{leb-true, leb-false, eqb-true}
use Rattle.gh_world.proofs.Vocabulary.{at_drop_more, bit, cases_lt, count_of, flat_map, Follows, get_or-le-sum_by, has_turn, HasTurn, is_leave, is_of_seat, is_statement, IsPast, its_goroutine, later, leave_is_begun, MayBeOver, nat_tests, Next, no_goroutine, Op, op_due, Program, range_with_len, round_of, slice_get-get_or, slice_get_past, Stands, statement_as_op, statements_among, statements_in, statements_of, Stmt, sum_by-cons, sum_by-le-sum_by, to_come, total_by, total_of, turn_of, turns_of, work_at, work_of}

-- ---- statements

pub statement_is : (g : ℕ) (s : Stmt) → is_statement (statement_as_op g s) ≡ true
statement_is g s = grind arith

pub goroutine_is : (g : ℕ) (s : Stmt) → its_goroutine (statement_as_op g s) ≡ g
goroutine_is g s = grind arith

no_end : (g h : ℕ) (s : Stmt) → statement_as_op g s ≡ Op.End h → ⊥
no_end g h s e = grind arith

pub work_no_leave : (g : ℕ) (s : Option Stmt) → is_leave (work_at g s) ≡ false
work_no_leave g s = grind arith

-- ---- the turns of a round, from a goroutine on

module _ (p : Program) (a r : ℕ) where
  abbrev pub turns_from : ℕ → List Op
  turns_from g = flat_map (turn_of p a r) (range_with_len g (length p.goroutines - g))

  pub none_from : (g : ℕ) → length p.goroutines ≤ g → turns_from g ≡ []
  none_from g h = grind arith

  one_more : (g : ℕ) → g < length p.goroutines → turns_from g ≡ turn_of p a r g ++ turns_from (g + 1)
  one_more g h = let more : length p.goroutines - g ≡ suc (length p.goroutines - (g + 1)) = omega arith in rw more refl

  -- it has no turn where it has ended
  ended_before : (g : ℕ) → count_of p g < r → has_turn p a r g ≡ false
  ended_before g over = grind arith

  -- nor where it is another processor's
  of_another : (g : ℕ) → is_of_seat p a g ≡ false → has_turn p a r g ≡ false
  of_another g other = ap (λ (its : Bool). its && leb r (count_of p g)) other

  pub turn_stands : (g : ℕ) → g < length p.goroutines → has_turn p a r g ≡ true → HasTurn p a r g
  turn_stands g lt turn = grind arith

  pub passed : (g : ℕ) → g < length p.goroutines → has_turn p a r g ≡ false → turns_from g ≡ turns_from (g + 1)
  passed g h none = grind arith

  pub has_one : (g : ℕ) → g < length p.goroutines → has_turn p a r g ≡ true → turns_from g ≡ Op.Poll ∷ work_of p r g ∷ turns_from (g + 1)
  has_one g h one = one_more g h ∙ rw one refl

  past_here : (n g : ℕ) (b : Bool) → has_turn p a r g ≡ b → cond b (Op.Poll ∷ work_of p r g ∷ []) [] ++ flat_map (turn_of p a r) (range_with_len (g + 1) n) ≡ [] → (h : ℕ) → g ≤ h → h < length p.goroutines → is_of_seat p a h ≡ true
      → (flat_map (turn_of p a r) (range_with_len (g + 1) n) ≡ [] → g + 1 ≤ h → count_of p h < r) → count_of p h < r
  past_here n g b t q h le lt its ih = grind arith

  pub all_past : (n g : ℕ) → g + n ≡ length p.goroutines → flat_map (turn_of p a r) (range_with_len g n) ≡ [] → (h : ℕ) → g ≤ h → h < length p.goroutines → is_of_seat p a h ≡ true → count_of p h < r
  all_past zero g e none h le lt its = absurd (omega arith)
  all_past (suc n) g e none h le lt its = past_here n g (has_turn p a r g) refl none h le lt its (λ q more. all_past n (g + 1) (omega arith) q h more lt its)

  -- a round in which each goroutine of the processor has ended has no turn
  no_turns : ((h : ℕ) → h < length p.goroutines → is_of_seat p a h ≡ true → count_of p h < r) → (n g : ℕ) → g + n ≡ length p.goroutines → flat_map (turn_of p a r) (range_with_len g n) ≡ []
  no_turns past zero g e = refl
  no_turns past (suc n) g e = rw (none (is_of_seat p a g) refl) (no_turns past n (g + 1) (omega arith)) where
    none : (its : Bool) → is_of_seat p a g ≡ its → has_turn p a r g ≡ false
    none true its = ended_before g (past g (omega arith) its)
    none false other = of_another g other

module _ (p : Program) where
  pub count-le : (g : ℕ) → g < length p.goroutines → count_of p g ≤ total_of p
  count-le g h = get_or-le-sum_by statements_in p.goroutines g no_goroutine h

module _ (p : Program) (a : ℕ) where
  -- when each goroutine of the processor has ended, no round follows
  no_rounds : (n r : ℕ) → ((h : ℕ) → h < length p.goroutines → is_of_seat p a h ≡ true → count_of p h < r) → flat_map (round_of p a) (range_with_len r n) ≡ []
  no_rounds zero r past = refl
  no_rounds (suc n) r past =
      let here : round_of p a r ≡ [] = no_turns p a r past (length p.goroutines) 0 (omega arith) in
      rw here (no_rounds n (r + 1) (λ h lt its. let q = past h lt its in omega arith))

  -- the first turn in the round
  pub later_here : (r g h : ℕ) → turns_from p a r g ≡ Op.Poll ∷ work_of p r h ∷ turns_from p a r (h + 1) → to_come p a (Next.Poll r h) ≡ later p a r g
  later_here r g h e = sym (ap (λ (xs : List Op). xs ++ (flat_map (round_of p a) (range_with_len (r + 1) (total_of p - r)) ++ Op.Leave ∷ [])) e)

  -- none in the round: the next one
  later_next : (r g : ℕ) → r < total_of p → turns_from p a r g ≡ [] → later p a r g ≡ later p a (r + 1) 0
  later_next r g lt e =
      let more : total_of p - r ≡ suc (total_of p - (r + 1)) = omega arith in
      let whole : length p.goroutines - 0 ≡ length p.goroutines = omega arith in
      ap (λ (xs : List Op). xs ++ (flat_map (round_of p a) (range_with_len (r + 1) (total_of p - r)) ++ Op.Leave ∷ [])) e
      ∙ rw (more, whole) (append_assoc (round_of p a (r + 1)) (flat_map (round_of p a) (range_with_len ((r + 1) + 1) (total_of p - (r + 1)))) (Op.Leave ∷ []))

  pub later_after : (r g h : ℕ) → r < total_of p → turns_from p a r g ≡ [] → turns_from p a (r + 1) 0 ≡ Op.Poll ∷ work_of p (r + 1) h ∷ turns_from p a (r + 1) (h + 1) → to_come p a (Next.Poll (r + 1) h) ≡ later p a r g
  later_after r g h lt none e = grind (arith, later_here, later_next, none)

  pub later_none : (r g : ℕ) → turns_from p a r g ≡ [] → turns_from p a (r + 1) 0 ≡ [] → to_come p a Next.Leave ≡ later p a r g
  later_none r g none e = grind (arith, all_past, no_rounds, none)

  pub opens_at : turns_of p a ≡ later p a 0 0
  unfolding turns_of
  opens_at =
      let whole : length p.goroutines - 0 ≡ length p.goroutines = omega arith in
      let all : total_of p - 0 ≡ total_of p = omega arith in
      let more : total_of p + 1 ≡ suc (total_of p) = omega arith in
      rw (whole, all, more) (append_assoc (round_of p a 0) (flat_map (round_of p a) (range_with_len (0 + 1) (total_of p))) (Op.Leave ∷ []))

module _ (p : Program) where
  -- ---- a goroutine is over once its last turn is

  pub over_here : (r g h k : ℕ) → g ≤ h → IsPast p r g k → MayBeOver p (Next.Poll r h) k
  over_here r g h k le past = grind arith

  pub over_next : (r g h k : ℕ) → IsPast p r g k → MayBeOver p (Next.Poll (r + 1) h) k
  over_next r g h k past = grind arith

  pub over_more : (r g k : ℕ) → IsPast p r g k → IsPast p r (g + 1) k
  over_more r g k past = grind arith

  no_statement : (xs : List Stmt) (n : ℕ) → slice_get xs n ≡ None → length xs ≤ n
  no_statement xs n e = elim (cases_lt n (length xs)) [
    | inl lt ↦ absurd (let some = slice_get-get_or xs n Stmt.Gc lt in cc)
    | inr le ↦ le
  ]

  -- a goroutine that ends in its turn is over behind it
  pub ends_over : (r g k : ℕ) → r ≤ count_of p g → work_of p r g ≡ Op.End k → IsPast p r (g + 1) k
  ends_over r g k stands e = go (slice_get (statements_of p g) r) refl e where
    go : (s : Option Stmt) → slice_get (statements_of p g) r ≡ s → work_at g s ≡ Op.End k → count_of p k < r + bit (ltb k (g + 1))
    go None t q =
        let same : g ≡ k = cc in
        let none : count_of p g ≤ r = no_statement (statements_of p g) r t in
        let lt : ltb k (g + 1) ≡ true = grind (arith, nat_tests) in
        rw (lt, ← same) (omega arith)
    go (Some s) t q = absurd (no_end g k s q)

  pub has_statement : (xs : List Stmt) (n : ℕ) (s : Stmt) → slice_get xs n ≡ Some s → n < length xs
  has_statement xs n s e = elim (cases_lt n (length xs)) [
    | inl lt ↦ lt
    | inr le ↦ absurd (let none = slice_get_past xs n le in cc)
  ]

-- ---- the statements among the turns are those of the processor's goroutines

among_append : (xs ys : List Op) → statements_among (xs ++ ys) ≡ statements_among xs + statements_among ys
among_append [] ys = omega arith
among_append (x ∷ xs) ys = let ih = among_append xs ys in omega (arith, ih)

-- how many statements goroutine g has, where it is of processor a
abbrev own_count : Program → (a g : ℕ) → ℕ
own_count p a g = if is_of_seat p a g then count_of p g else 0

module _ (p : Program) (a : ℕ) where
  -- so many statements of the goroutines from g on stand before round r
  before_round : ℕ → (g n : ℕ) → ℕ
  before_round r g zero = 0
  before_round r g (suc n) = min (own_count p a g) r + before_round r (g + 1) n

  before_none : (g n : ℕ) → before_round 0 g n ≡ 0
  unfolding before_round
  before_none g zero = refl
  before_none g (suc n) = let ih = before_none (g + 1) n in omega (arith, ih)

  one_turn : (r g : ℕ) → min (own_count p a g) r + statements_among (turn_of p a r g) ≡ min (own_count p a g) (r + 1)
  one_turn r g = go (is_of_seat p a g) (leb r (count_of p g)) (slice_get (statements_of p g) r) refl refl where
    go : (its b : Bool) (s : Option Stmt) → leb r (count_of p g) ≡ b → slice_get (statements_of p g) r ≡ s → min (cond its (count_of p g) 0) r + statements_among (cond (its && b) (Op.Poll ∷ work_at g s ∷ []) []) ≡ min (cond its (count_of p g) 0) (r + 1)
    go false b s e t = omega arith
    go true false s e t = let past = leb-false r (count_of p g) e in omega arith
    go true true None e t = let live = leb-true r (count_of p g) e in let none = no_statement p (statements_of p g) r t in omega arith
    go true true (Some s) e t =
        let lt : r < count_of p g = has_statement p (statements_of p g) r s t in
        let one : bit (is_statement (statement_as_op g s)) ≡ 1 = ap bit (statement_is g s) in
        omega (arith, one, lt)

  one_round : (r n g : ℕ) → before_round r g n + statements_among (flat_map (turn_of p a r) (range_with_len g n)) ≡ before_round (r + 1) g n
  unfolding before_round
  one_round r zero g = refl
  one_round r (suc n) g =
      let here = one_turn r g in
      let rest = one_round r n (g + 1) in
      let both = among_append (turn_of p a r g) (flat_map (turn_of p a r) (range_with_len (g + 1) n)) in
      omega (arith, here, rest, both)

  rounds_say : (n r : ℕ) → before_round r 0 (length p.goroutines) + statements_among (flat_map (round_of p a) (range_with_len r n)) ≡ before_round (r + n) 0 (length p.goroutines)
  rounds_say zero r = let same : r + 0 ≡ r = omega arith in rw same (omega arith)
  rounds_say (suc n) r =
      let here = one_round r (length p.goroutines) 0 in
      let rest = rounds_say n (r + 1) in
      let both = among_append (round_of p a r) (flat_map (round_of p a) (range_with_len (r + 1) n)) in
      let same : r + suc n ≡ (r + 1) + n = omega arith in
      rw same (omega (arith, here, rest, both))

  own_le : (g : ℕ) → own_count p a g ≤ count_of p g
  own_le g = grind arith

  all_before : (n g : ℕ) → g + n ≡ length p.goroutines → before_round (total_of p + 1) g n ≡ sum_by (own_count p a) (range_with_len g n)
  unfolding before_round
  all_before zero g e = refl
  all_before (suc n) g e =
      let own = own_le g in
      let few = count-le p g (omega arith) in
      let whole : min (own_count p a g) (total_of p + 1) ≡ own_count p a g = omega (arith, own, few) in
      let ih = all_before n (g + 1) (omega arith) in
      let head = sum_by-cons (own_count p a) g (range_with_len (g + 1) n) in
      omega (arith, whole, ih, head)

  pub turns_say : statements_among (turns_of p a) ≡ total_by p a
  unfolding turns_of
  turns_say =
      let rounds = rounds_say (total_of p + 1) 0 in
      let none = before_none 0 (length p.goroutines) in
      let all : before_round (total_of p + 1) 0 (length p.goroutines) ≡ total_by p a = all_before (length p.goroutines) 0 (omega arith) in
      let same : 0 + (total_of p + 1) ≡ total_of p + 1 = omega arith in
      let both = among_append (flat_map (round_of p a) (range_with_len 0 (total_of p + 1))) (Op.Leave ∷ []) in
      omega (arith, rw same at rounds, none, all, both)

-- they are at most those of the script
module _ (p : Program) where
  from_here : (f : ℕ → ℕ) → ((g : ℕ) → f g ≤ count_of p g) → (n g : ℕ) → g + n ≡ length p.goroutines → sum_by f (range_with_len g n) ≤ sum_by statements_in (drop g p.goroutines)
  from_here f le zero g e = omega arith
  from_here f le (suc n) g e =
      let own = le g in
      let ih = from_here f le n (g + 1) (omega arith) in
      let head = sum_by-cons f g (range_with_len (g + 1) n) in
      let more = at_drop_more (sum_by statements_in) p.goroutines g no_goroutine (omega arith) in
      let first = sum_by-cons statements_in (get_or p.goroutines g no_goroutine) (drop (g + 1) p.goroutines) in
      omega (arith, own, ih, head, more, first)

  pub total_by-le : (a : ℕ) → total_by p a ≤ total_of p
  total_by-le a = grind (arith, from_here, own_le)

  -- and so are those of all processors together, since each goroutine is of one
  once_at_most : (n k r c : ℕ) → (sum_by (λ (a : ℕ). cond (eqb r a) c 0) (range_with_len k n) ≤ c) × (r < k → sum_by (λ (a : ℕ). cond (eqb r a) c 0) (range_with_len k n) ≡ 0)
  once_at_most zero k r c = (omega arith, λ lt. refl)
  once_at_most (suc n) k r c =
      let head = sum_by-cons (λ (a : ℕ). cond (eqb r a) c 0) k (range_with_len (k + 1) n) in
      let rest = once_at_most n (k + 1) r c in
      go (eqb r k) refl head rest where
        go : (b : Bool) → eqb r k ≡ b → sum_by (λ (a : ℕ). cond (eqb r a) c 0) (k ∷ range_with_len (k + 1) n) ≡ cond b c 0 + sum_by (λ (a : ℕ). cond (eqb r a) c 0) (range_with_len (k + 1) n) →
            (sum_by (λ (a : ℕ). cond (eqb r a) c 0) (range_with_len (k + 1) n) ≤ c) × (r < k + 1 → sum_by (λ (a : ℕ). cond (eqb r a) c 0) (range_with_len (k + 1) n) ≡ 0) →
            (sum_by (λ (a : ℕ). cond (eqb r a) c 0) (k ∷ range_with_len (k + 1) n) ≤ c) × (r < k → sum_by (λ (a : ℕ). cond (eqb r a) c 0) (k ∷ range_with_len (k + 1) n) ≡ 0)
        go true e head rest = let same = eqb-true r k e in let none = rest.1 (omega (arith, same)) in (omega (arith, head, none), λ lt. absurd (omega (arith, same, lt)))
        go false e head rest = (omega (arith, head, rest.0), λ lt. let none = rest.1 (omega (arith, lt)) in omega (arith, head, none))

  both_sums : (f g : ℕ → ℕ) (xs : List ℕ) → sum_by (λ (a : ℕ). f a + g a) xs ≡ sum_by f xs + sum_by g xs
  both_sums f g [] = refl
  both_sums f g (x ∷ xs) = omega (arith, both_sums f g xs, sum_by-cons (λ (a : ℕ). f a + g a) x xs, sum_by-cons f x xs, sum_by-cons g x xs)

  by_goroutines : (m n g : ℕ) → sum_by (λ (a : ℕ). sum_by (own_count p a) (range_with_len g n)) (range_with_len 0 m) ≤ sum_by (count_of p) (range_with_len g n)
  by_goroutines m zero g = sum_none (range_with_len 0 m) where
    sum_none : (xs : List ℕ) → sum_by (λ (a : ℕ). 0) xs ≤ 0
    sum_none [] = omega arith
    sum_none (x ∷ xs) = omega (arith, sum_none xs, sum_by-cons (λ (a : ℕ). 0) x xs)
  by_goroutines m (suc n) g =
      let rest = range_with_len (g + 1) n in
      let parts = sum_by-le-sum_by (λ (a : ℕ). sum_by (own_count p a) (g ∷ rest)) (λ (a : ℕ). own_count p a g + sum_by (own_count p a) rest) (range_with_len 0 m) (λ a. let head = sum_by-cons (own_count p a) g rest in omega (arith, head)) in
      let both = both_sums (λ (a : ℕ). own_count p a g) (λ (a : ℕ). sum_by (own_count p a) rest) (range_with_len 0 m) in
      let once = (once_at_most m 0 (g % p.settings.procs) (count_of p g)).0 in
      let ih = by_goroutines m n (g + 1) in
      let head = sum_by-cons (count_of p) g rest in
      omega (arith, parts, both, once, ih, head)

  pub totals-le : (m : ℕ) → sum_by (total_by p) (range_with_len 0 m) ≤ total_of p
  totals-le m = let apart = by_goroutines m (length p.goroutines) 0 in let all = from_here (count_of p) (λ g. omega arith) (length p.goroutines) 0 (omega arith) in omega (arith, apart, all)

module _ (p : Program) (a : ℕ) where
  -- the turn behind a statement, or behind a goroutine's end
  pub follows_run : (before : Next) (r g : ℕ) (o : Op) (new : Next) → before ≡ Next.Run r g → Stands p a before → op_due p before ≡ Some o → to_come p a new ≡ later p a r (g + 1) → Stands p a new → ((h : ℕ) → IsPast p r (g + 1) h → MayBeOver p new h) → leave_is_begun new ≡ false → Follows p a before o new
  follows_run before r g o new is stands due come stood over going =
      subst (λ (b : Next). Follows p a b o new) (sym is) (go (subst (Stands p a) is stands) (subst (λ (b : Next). op_due p b ≡ Some o) is due)) where
        go : Stands p a (Next.Run r g) → Some (work_of p r g) ≡ Some o → Follows p a (Next.Run r g) o new
        go here e =
            let same : work_of p r g ≡ o = cc in
            record {
              come = ap (λ (x : Op). x ∷ later p a r (g + 1)) same ∙ ap (λ (xs : List Op). o ∷ xs) (sym come);
              stands = stood;
              over = λ h past. over h (over_more p r g h past);
              ends = λ h ended. over h (ends_over p r g h here.going (same ∙ ended));
              leaves = going ∙ sym (ap is_leave (sym same) ∙ work_no_leave g (slice_get (statements_of p g) r));
            }
