-- Among the turns of a processor each of its goroutines asks as often as it has `new` and `gc`, and each has ended before the leave.
use Rattle.std.proofs.Common.{◌≡◌, ℕ, zero, suc, ◌+◌, ◌<◌, ◌≤◌, Bool, true, false, cond, eqb, leb, ltb, ◌&&◌, ◌||◌, List, [], ◌∷◌, ◌++◌, map, length, reverse, Option, Some, None, refl, sym, ap, ◌∙◌, arith, inl, inr, not, slice_get}
use Rattle.std.proofs.lemmas.Bool.{le-leb, lt-ltb, eq-eqb}
use Rattle.std.proofs.lemmas.List.{length-append}
use Rattle.gh_world.proofs.Vocabulary.{all_ended, Arena, asked_by, asks_collector, begun_in, cases_lt, count_of, ended_in, ends, Entry, filter, filter-append, flat_map, is_of_seat, is_statement_of, may_ask, Op, option_to_list, Program, range_with_len, reverse_onto, round_of, slice_get_past, statement_as_op, statements_of, Stmt, total_of, turn_of, turns_of, wishes_among, wishes_of, work_at}
use Rattle.gh_world.proofs.EachOnce.{turns_away, turns_mine}
use Rattle.gh_world.proofs.Turning.{count-le}

more : {A : Type 0} (x : A) (xs : List A) → reverse (x ∷ xs) ≡ reverse xs ++ x ∷ []
more x xs = reverse_onto xs x []

-- ---- asking

abbrev one_if : Bool → ℕ
one_if b = cond b 1 0

abbrev asks : ℕ → Op → Bool
asks g o = asks_collector g (Some o)

abbrev pub asked_among : ℕ → List Op → ℕ
asked_among g os = length (filter (asks g) os)

asked_append : (g : ℕ) (xs ys : List Op) → asked_among g (xs ++ ys) ≡ asked_among g xs + asked_among g ys
asked_append g xs ys = ap length (filter-append (asks g) xs ys) ∙ length-append (filter (asks g) xs) (filter (asks g) ys)

asked_one : (g : ℕ) (o : Op) → asked_among g (o ∷ []) ≡ one_if (asks g o)
asked_one g o = grind arith

asked_more : (g : ℕ) (o : Op) (os : List Op) → asked_among g (o ∷ os) ≡ one_if (asks g o) + asked_among g os
asked_more g o os = grind arith

asked_reverse : (g : ℕ) (os : List Op) → asked_among g (reverse os) ≡ asked_among g os
asked_reverse g [] = refl
asked_reverse g (o ∷ os) =
    let split = ap (asked_among g) (more o os) ∙ asked_append g (reverse os) (o ∷ []) in
    omega (arith, split, asked_one g o, asked_more g o os, asked_reverse g os)

asked_begun : (g : ℕ) (es : List (Entry Op)) → asked_by g es ≡ asked_among g (begun_in es)
asked_begun g [] = refl
asked_begun g (e ∷ es) = go e.begun (asked_begun g es) where
  go : (b : Option Op) → asked_by g es ≡ asked_among g (begun_in es) → one_if (asks_collector g b) + asked_by g es ≡ asked_among g (option_to_list b ++ begun_in es)
  go None ih = omega (arith, ih)
  go (Some o) ih = omega (arith, asked_more g o (begun_in es), ih)

asked_mine : (g : ℕ) (os : List Op) → asked_among g os ≡ asked_among g (filter (is_statement_of g) os)
asked_mine g [] = refl
asked_mine g (o ∷ os) = go (is_statement_of g o) refl (asked_mine g os) where
  go : (b : Bool) → is_statement_of g o ≡ b → asked_among g os ≡ asked_among g (filter (is_statement_of g) os) → asked_among g (o ∷ os) ≡ asked_among g (cond b (o ∷ filter (is_statement_of g) os) (filter (is_statement_of g) os))
  go b e ih = grind arith

asks_is : (g : ℕ) (s : Stmt) → asks g (statement_as_op g s) ≡ may_ask s
asks_is g s = grind arith

asked_map : (g : ℕ) (ss : List Stmt) → asked_among g (map (statement_as_op g) ss) ≡ wishes_among ss
asked_map g [] = refl
asked_map g (s ∷ ss) =
    let here : one_if (asks g (statement_as_op g s)) ≡ one_if (may_ask s) = ap one_if (asks_is g s) in
    let wishes : wishes_among (s ∷ ss) ≡ one_if (may_ask s) + wishes_among ss = go (may_ask s) in
    omega (arith, asked_more g (statement_as_op g s) (map (statement_as_op g) ss), here, wishes, asked_map g ss) where
      go : (b : Bool) → length (cond b (s ∷ filter may_ask ss) (filter may_ask ss)) ≡ one_if b + wishes_among ss
      go true = omega arith
      go false = omega arith

pub asked_of : (p : Program) (g : ℕ) (os : List Op) → filter (is_statement_of g) os ≡ map (statement_as_op g) (statements_of p g) → asked_among g os ≡ wishes_of p g
asked_of p g os mine = asked_mine g os ∙ ap (asked_among g) mine ∙ asked_map g (statements_of p g)

-- a goroutine asks as often among the turns of its processor, and never among another's
asked_turns : (p : Program) (a g : ℕ) → asked_among g (turns_of p a) ≤ wishes_of p g
asked_turns p a g = go (is_of_seat p a g) refl where
  go : (b : Bool) → is_of_seat p a g ≡ b → asked_among g (turns_of p a) ≤ wishes_of p g
  go true its = let all = asked_of p g (turns_of p a) (turns_mine p g a its) in omega (arith, all)
  go false others = let none = asked_mine g (turns_of p a) ∙ ap (asked_among g) (turns_away p g a others) in omega (arith, none)

-- an operation that asks may begin
pub has_wish : (p : Program) (a g : ℕ) (es : List (Entry Op)) (o : Op) (rest : List Op) → turns_of p a ≡ reverse (begun_in es) ++ o ∷ rest → asks g o ≡ true → ltb (asked_by g es) (wishes_of p g) ≡ true
has_wish p a g es o rest turns e =
    let all = ap (asked_among g) turns ∙ asked_append g (reverse (begun_in es)) (o ∷ rest) in
    let one : one_if (asks g o) ≡ 1 = ap one_if e in
    lt-ltb (asked_by g es) (wishes_of p g) (omega (arith, asked_turns p a g, all, asked_more g o rest, one, asked_begun g es, asked_reverse g (begun_in es)))

-- ---- ending

abbrev ended_among : ℕ → List Op → Bool
ended_among g [] = false
ended_among g (o ∷ os) = ends (Some o) g || ended_among g os

or_assoc : (a b c : Bool) → ((a || b) || c) ≡ (a || (b || c))
or_assoc a b c = grind arith

or_right : (a b : Bool) → b ≡ true → (a || b) ≡ true
or_right a b e = grind arith

or_false : (a : Bool) → (a || false) ≡ a
or_false a = grind arith

or_swap : (a b : Bool) → (a || (b || false)) ≡ (b || a)
or_swap a b = grind arith

ended_append : (g : ℕ) (xs ys : List Op) → ended_among g (xs ++ ys) ≡ (ended_among g xs || ended_among g ys)
ended_append g [] ys = refl
ended_append g (x ∷ xs) ys = ap (λ (b : Bool). ends (Some x) g || b) (ended_append g xs ys) ∙ sym (or_assoc (ends (Some x) g) (ended_among g xs) (ended_among g ys))

ended_reverse : (g : ℕ) (xs : List Op) → ended_among g (reverse xs) ≡ ended_among g xs
ended_reverse g [] = refl
ended_reverse g (x ∷ xs) =
    ap (ended_among g) (more x xs) ∙ ended_append g (reverse xs) (x ∷ []) ∙ ap (λ (b : Bool). b || (ends (Some x) g || false)) (ended_reverse g xs) ∙ or_swap (ended_among g xs) (ends (Some x) g)

ended_begun : (g : ℕ) (es : List (Entry Op)) → ended_in es g ≡ ended_among g (begun_in es)
ended_begun g [] = refl
ended_begun g (e ∷ es) = go e.begun (ended_begun g es) where
  go : (b : Option Op) → ended_in es g ≡ ended_among g (begun_in es) → (ends b g || ended_in es g) ≡ ended_among g (option_to_list b ++ begun_in es)
  go None ih = ih
  go (Some o) ih = ap (λ (b : Bool). ends (Some o) g || b) ih

-- among pieces, one of which has it
among_pieces : (g : ℕ) (f : ℕ → List Op) (n a i : ℕ) → a ≤ i → i < a + n → ended_among g (f i) ≡ true → ended_among g (flat_map f (range_with_len a n)) ≡ true
among_pieces g f zero a i low high e = absurd (omega arith)
among_pieces g f (suc n) a i low high e = ended_append g (f a) (flat_map f (range_with_len (a + 1) n)) ∙ elim (cases_lt a i) [
  | inl lt ↦ or_right (ended_among g (f a)) (ended_among g (flat_map f (range_with_len (a + 1) n))) (among_pieces g f n (a + 1) i (omega arith) (omega arith) e)
  | inr le ↦ let same : i ≡ a = omega arith in ap (λ (b : Bool). b || ended_among g (flat_map f (range_with_len (a + 1) n))) (ap (λ (k : ℕ). ended_among g (f k)) (sym same) ∙ e)
]

-- a goroutine of the processor
module _ (p : Program) (a g : ℕ) (there : g < length p.goroutines) (its : is_of_seat p a g ≡ true) where
  turn_ends : ended_among g (turn_of p a (count_of p g) g) ≡ true
  turn_ends =
      let live : leb (count_of p g) (count_of p g) ≡ true = le-leb (count_of p g) (count_of p g) (omega arith) in
      let none = slice_get_past (statements_of p g) (count_of p g) (omega arith) in
      ap (λ (b : Bool). ended_among g (cond b (Op.Poll ∷ work_at g (slice_get (statements_of p g) (count_of p g)) ∷ []) [])) (ap (λ (b : Bool). b && leb (count_of p g) (count_of p g)) its ∙ live)
      ∙ ap (λ (s : Option Stmt). ended_among g (Op.Poll ∷ work_at g s ∷ [])) none
      ∙ ap (λ (b : Bool). b || false) (eq-eqb g g refl)

  pub turns_end : ended_among g (turns_of p a) ≡ true
  unfolding turns_of
  turns_end =
      let round : ended_among g (round_of p a (count_of p g)) ≡ true = among_pieces g (turn_of p a (count_of p g)) (length p.goroutines) 0 g (omega arith) (omega arith) turn_ends in
      let rounds = among_pieces g (round_of p a) (total_of p + 1) 0 (count_of p g) (omega arith) (omega (arith, count-le p g there)) round in
      ended_append g (flat_map (round_of p a) (range_with_len 0 (total_of p + 1))) (Op.Leave ∷ []) ∙ ap (λ (b : Bool). b || false) rounds

  -- where the leave is what comes next, it has ended
  pub ended_then : (es : List (Entry Op)) → turns_of p a ≡ reverse (begun_in es) ++ Op.Leave ∷ [] → ended_in es g ≡ true
  ended_then es turns = grind (arith, ended_append, ended_begun, ended_reverse, or_false, turns_end)

pub all_then : (p : Program) (z : Arena) (a : ℕ) (es : List (Entry Op)) → ((g : ℕ) → eqb (z.seat_of g) a ≡ is_of_seat p a g) → (n : ℕ) → n ≤ length p.goroutines → turns_of p a ≡ reverse (begun_in es) ++ Op.Leave ∷ [] → all_ended z a es n ≡ true
all_then p z a es seats zero le turns = refl
all_then p z a es seats (suc n) le turns = go (eqb (z.seat_of n) a) (all_ended z a es n) refl (all_then p z a es seats n (omega arith) turns) where
  go : (b c : Bool) → eqb (z.seat_of n) a ≡ b → c ≡ true → ((not b || ended_in es n) && c) ≡ true
  go false c e rest = rest
  go true c e rest = ap (λ (b : Bool). b && c) (ended_then p a n (omega arith) (sym (seats n) ∙ e) es turns) ∙ rest
