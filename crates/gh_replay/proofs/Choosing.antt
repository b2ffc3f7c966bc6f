-- Who steps next, where a schedule stands so: an actor that has not ended, or nobody where all have.
use Rattle.std.proofs.Common.{◌≡◌, ℕ, zero, suc, ◌+◌, ◌-◌, ◌%◌, ◌<◌, ◌≤◌, Bool, true, false, cond, eqb, not, ◌||◌, List, [], ◌∷◌, ◌++◌, length, Option, Some, None, refl, sym, ap, ◌∙◌, arith, inl, inr, ◌⊎◌, IfSome, nat_le, slice_get}
use Rattle.std.proofs.lemmas.List.{append-nil}
use Rattle.gh_replay.proofs.Vocabulary.{ActorsSoFar, cases_lt, filter, first_going, going, in_order_from, is_gone, is_over, is_over_by, Marks, mix_u64, moved, nat_tests, next_of, passed, range_with_len, slice_get-get_or, Standing, stands_behind, Steps, to_come, Turn, turn_from, Until, who, who_behind, who_by, who_of, with_actor_ended, Without}

-- ---- whose turn it is

pub some_going : (ended : ℕ → Bool) (as' : List ℕ) (a : ℕ) → first_going ended as' ≡ Some a → ended a ≡ false
some_going ended [] a e = absurd cc
some_going ended (b ∷ bs) a e = go (ended b) refl (some_going ended bs a) e where
  go : (c : Bool) → ended b ≡ c → (first_going ended bs ≡ Some a → ended a ≡ false) → cond c (first_going ended bs) (Some b) ≡ Some a → ended a ≡ false
  go true f ih q = ih q
  go false f ih q = let same : b ≡ a = cc in ap ended (sym same) ∙ f

-- it is one of them
some_of : (ended : ℕ → Bool) (n a m : ℕ) (rest : List ℕ) (w : ℕ) → a + m ≤ n → first_going ended (range_with_len a m ++ rest) ≡ Some w → (w < n) ⊎ (first_going ended rest ≡ Some w)
some_of ended n a zero rest w le e = inr e
some_of ended n a (suc m) rest w le e = go (ended a) e (some_of ended n (a + 1) m rest w (omega (arith, le))) where
  go : (b : Bool) → cond b (first_going ended (range_with_len (a + 1) m ++ rest)) (Some a) ≡ Some w → (first_going ended (range_with_len (a + 1) m ++ rest) ≡ Some w → (w < n) ⊎ (first_going ended rest ≡ Some w)) → (w < n) ⊎ (first_going ended rest ≡ Some w)
  go true q ih = ih q
  go false q ih = let same : a ≡ w = cc in inl (omega (arith, le, same))

some_low : (ended : ℕ → Bool) (n a m : ℕ) (w : ℕ) → a + m ≤ n → first_going ended (range_with_len a m) ≡ Some w → w < n
some_low ended n a m w le e = elim (some_of ended n a m [] w le (ap (first_going ended) (append-nil (range_with_len a m)) ∙ e)) [
  | inl lt ↦ lt
  | inr none ↦ absurd cc
]

pub some_there : (ended : ℕ → Bool) (n a w : ℕ) → a < n → turn_from ended n a ≡ Some w → w < n
some_there ended n a w lt e = elim (some_of ended n a (n - a) (range_with_len 0 a) w (omega (arith, lt)) e) [
  | inl there ↦ there
  | inr low ↦ some_low ended n 0 a w (omega (arith, lt)) low
]

-- where it is nobody's, each has ended
none_of : (ended : ℕ → Bool) (a m : ℕ) (rest : List ℕ) → first_going ended (range_with_len a m ++ rest) ≡ None → ((w : ℕ) → a ≤ w → w < a + m → ended w ≡ true) × (first_going ended rest ≡ None)
none_of ended a zero rest e = (λ w low high. absurd (omega (arith, low, high)), e)
none_of ended a (suc m) rest e = go (ended a) refl e (none_of ended (a + 1) m rest) where
  go : (b : Bool) → ended a ≡ b → cond b (first_going ended (range_with_len (a + 1) m ++ rest)) (Some a) ≡ None → (first_going ended (range_with_len (a + 1) m ++ rest) ≡ None → ((w : ℕ) → a + 1 ≤ w → w < a + 1 + m → ended w ≡ true) × (first_going ended rest ≡ None)) →
      ((w : ℕ) → a ≤ w → w < a + suc m → ended w ≡ true) × (first_going ended rest ≡ None)
  go b f q ih = grind arith

pub none_going : (ended : ℕ → Bool) (n a : ℕ) → turn_from ended n a ≡ None → (w : ℕ) → w < n → ended w ≡ true
none_going ended n a e w lt =
    let first = none_of ended a (n - a) (range_with_len 0 a) e in
    let second = none_of ended 0 a [] (ap (first_going ended) (append-nil (range_with_len 0 a)) ∙ first.1) in
    elim (cases_lt w a) [
      | inl low ↦ second.0 w (omega arith) (omega (arith, low))
      | inr high ↦ first.0 w high (omega (arith, high, lt))
    ]

-- ---- whom a word draws

drawn_of : (ended : ℕ → Bool) (b m k a : ℕ) → slice_get (filter (λ x. not (ended x)) (range_with_len b m)) k ≡ Some a → (a < b + m) × (ended a ≡ false)
drawn_of ended b zero k a e = absurd cc
drawn_of ended b (suc m) k a e = go (λ j f. let h = drawn_of ended (b + 1) m j a f in let low = h.0 in (omega (arith, low), h.1)) (ended b) refl k e where
  go : ((j : ℕ) → slice_get (filter (λ x. not (ended x)) (range_with_len (b + 1) m)) j ≡ Some a → (a < b + suc m) × (ended a ≡ false)) → (c : Bool) → ended b ≡ c → (j : ℕ) → slice_get (cond (not c) (b ∷ filter (λ x. not (ended x)) (range_with_len (b + 1) m)) (filter (λ x. not (ended x)) (range_with_len (b + 1) m))) j ≡ Some a → (a < b + suc m) × (ended a ≡ false)
  go later c f j q = grind arith

none_drawn : (ended : ℕ → Bool) (b m : ℕ) → length (filter (λ x. not (ended x)) (range_with_len b m)) ≡ 0 → (a : ℕ) → b ≤ a → a < b + m → ended a ≡ true
none_drawn ended b zero e a low high = absurd (omega arith)
none_drawn ended b (suc m) e a low high = go (λ q lt. none_drawn ended (b + 1) m q a (omega (arith, lt)) (omega (arith, high))) (ended b) refl e where
  go : (length (filter (λ x. not (ended x)) (range_with_len (b + 1) m)) ≡ 0 → b < a → ended a ≡ true) → (c : Bool) → ended b ≡ c → length (cond (not c) (b ∷ filter (λ x. not (ended x)) (range_with_len (b + 1) m)) (filter (λ x. not (ended x)) (range_with_len (b + 1) m))) ≡ 0 → ended a ≡ true
  go later c f q = grind arith

-- nobody is drawn only among none
none_at : {A : Type 0} (xs : List A) (w : ℕ) → slice_get xs (w % length xs) ≡ None → length xs ≡ 0
none_at [] w e = refl
none_at (x ∷ xs) w e = let some = slice_get-get_or (x ∷ xs) (w % length (x ∷ xs)) x (omega arith) in absurd cc

-- each has ended, so none is left
none_kept : (ended : ℕ → Bool) (b m : ℕ) → ((a : ℕ) → a < b + m → ended a ≡ true) → length (filter (λ x. not (ended x)) (range_with_len b m)) ≡ 0
none_kept ended b zero all = refl
none_kept ended b (suc m) all = rw (all b (omega arith)) (none_kept ended (b + 1) m (λ a lt. all a (omega (arith, lt))))

-- ---- in ascending order or drawn

-- whoever it is, it is there, and has not ended
pub behind_there : (r : ActorsSoFar) (next a : ℕ) (o : Option ℕ) → next < r.actors → who_behind r next o ≡ Some a → (a < r.actors) × (r.ended a ≡ false)
behind_there r next a None low q = (some_there r.ended r.actors next a low q, some_going r.ended (in_order_from next r.actors) a q)
behind_there r next a (Some x) low q = let h = drawn_of r.ended 0 r.actors ((mix_u64 x).0 % length (going r)) a q in let lt = h.0 in (omega (arith, lt), h.1)

-- where it is nobody, all have ended
behind_none : (r : ActorsSoFar) (next : ℕ) (o : Option ℕ) → who_behind r next o ≡ None → (a : ℕ) → a < r.actors → r.ended a ≡ true
behind_none r next None q a lt = none_going r.ended r.actors next q a lt
behind_none r next (Some x) q a lt = none_drawn r.ended 0 r.actors (none_at (going r) (mix_u64 x).0 q) a (omega arith) (omega (arith, lt))

-- ---- who steps next

pub either_false : (b c : Bool) → (b || c) ≡ false → (b ≡ false) × (c ≡ false)
either_false b c e = grind arith

-- an actor that is not gone
pub not_gone : (r : ActorsSoFar) (a : ℕ) → is_gone r a ≡ false → (a < r.actors) × (r.ended a ≡ false)
not_gone r a e = grind arith

-- by an item that has not ended
by_there : (r : ActorsSoFar) (s : Standing) (b a : ℕ) (u : Until) → s.next < r.actors → is_over_by r b u ≡ false → who_by r b u s ≡ Some a → (a < r.actors) × (r.ended a ≡ false)
by_there r s b a (Steps n) low f q = let same : b ≡ a = cc in not_gone r a (ap (is_gone r) (sym same) ∙ (either_false (is_gone r b) (eqb n 0) f).0)
by_there r s b a (Marks m) low f q = let same : b ≡ a = cc in not_gone r a (ap (is_gone r) (sym same) ∙ (either_false (is_gone r b) (nat_le m (r.marks b)) f).0)
by_there r s b a (Without n) low f q = let h = behind_there (with_actor_ended b r) s.next a s.drawn low q in (h.0, (either_false (eqb b a) (r.ended a) h.1).1)

by_some : (r : ActorsSoFar) (s : Standing) (b : ℕ) (u : Until) → is_over_by r b u ≡ false → who_by r b u s ≡ None → ⊥
by_some r s b (Steps n) f q = absurd cc
by_some r s b (Marks m) f q = absurd cc
by_some r s b (Without n) f q =
    let none : length (going (with_actor_ended b r)) ≡ 0 = none_kept (with_actor_ended b r).ended 0 r.actors (λ a lt. behind_none (with_actor_ended b r) s.next s.drawn q a (omega (arith, lt))) in
    let some : eqb (length (going (with_actor_ended b r))) 0 ≡ false = (either_false (eqb n 0) (eqb (length (going (with_actor_ended b r))) 0) f).1 in
    let no : true ≡ false = ap (λ (k : ℕ). eqb k 0) (sym none) ∙ some in
    absurd cc

-- the first item to come has not ended
head_going : (r : ActorsSoFar) (xs : List Turn) (t : Turn) (more : List Turn) → to_come r xs ≡ t ∷ more → is_over r t ≡ false
head_going r [] t more e = absurd cc
head_going r (x ∷ xs) t more e = go (head_going r xs t more) (is_over r x) refl e where
  go : (to_come r xs ≡ t ∷ more → is_over r t ≡ false) → (b : Bool) → is_over r x ≡ b → cond b (to_come r xs) (x ∷ xs) ≡ t ∷ more → is_over r t ≡ false
  go later true f q = later q
  go later false f q = let same : x ≡ t = cc in ap (is_over r) (sym same) ∙ f

pub next_low : (r : ActorsSoFar) (xs : List Turn) (next : ℕ) → next < r.actors → next_of r xs next < r.actors
next_low r xs next low = grind arith

-- whoever steps next is there, and has not ended
pub who_there : (r : ActorsSoFar) (s : Standing) (a : ℕ) → s.next < r.actors → who r s ≡ Some a → (a < r.actors) × (r.ended a ≡ false)
who_there r s a low e = go (to_come r s.items) refl e where
  go : (xs : List Turn) → to_come r s.items ≡ xs → who_of r xs (passed r s) ≡ Some a → (a < r.actors) × (r.ended a ≡ false)
  go [] f q = behind_there r (next_of r s.items s.next) a s.drawn (next_low r s.items s.next low) q
  go (t ∷ more) f q = by_there r (passed r s) t.actor a t.until (next_low r s.items s.next low) (head_going r s.items t more f) q

pub is_there : (r : ActorsSoFar) (s : Standing) (o : Option ℕ) → s.next < r.actors → o ≡ who r s → IfSome o (λ a. (a < r.actors) × (r.ended a ≡ false))
is_there r s o low e = grind (arith, who_there)

-- where nobody does, all have ended
pub none_left : (r : ActorsSoFar) (s : Standing) → who r s ≡ None → (a : ℕ) → a < r.actors → r.ended a ≡ true
none_left r s e a lt = go (to_come r s.items) refl e where
  go : (xs : List Turn) → to_come r s.items ≡ xs → who_of r xs (passed r s) ≡ None → r.ended a ≡ true
  go [] f q = behind_none r (next_of r s.items s.next) s.drawn q a lt
  go (t ∷ more) f q = absurd (by_some r (passed r s) t.actor t.until (head_going r s.items t more f) q)

-- the next turn stays that of an actor that there is
pub moved_low : (r : ActorsSoFar) (a : ℕ) (s : Standing) → s.next < r.actors → (moved r a s).next < r.actors
moved_low r a s low = grind (arith, nat_tests)

-- ---- actors that have come to the same

-- those that there are have
pub record Agree (r q : ActorsSoFar) : Type 0 where
  pub actors : r.actors ≡ q.actors
  pub ended : (a : ℕ) → a < r.actors → r.ended a ≡ q.ended a
  pub marks : (a : ℕ) → a < r.actors → r.marks a ≡ q.marks a

module _ (r q : ActorsSoFar) (h : Agree r q) where
  same_filter : (b m : ℕ) → b + m ≤ r.actors → filter (λ a. not (r.ended a)) (range_with_len b m) ≡ filter (λ a. not (q.ended a)) (range_with_len b m)
  same_filter b zero le = refl
  same_filter b (suc m) le = rw (h.ended b (omega (arith, le)), same_filter (b + 1) m (omega (arith, le))) refl

  same_first : (b m : ℕ) (rest : List ℕ) → b + m ≤ r.actors → first_going r.ended rest ≡ first_going q.ended rest → first_going r.ended (range_with_len b m ++ rest) ≡ first_going q.ended (range_with_len b m ++ rest)
  same_first b zero rest le e = e
  same_first b (suc m) rest le e = rw (h.ended b (omega (arith, le)), same_first (b + 1) m rest (omega (arith, le)) e) refl

  pub same_turn : (next : ℕ) → next < r.actors → turn_from r.ended r.actors next ≡ turn_from q.ended q.actors next
  same_turn next low =
      let low_part : first_going r.ended (range_with_len 0 next) ≡ first_going q.ended (range_with_len 0 next) = sym (ap (first_going r.ended) (append-nil (range_with_len 0 next))) ∙ same_first 0 next [] (omega (arith, low)) refl ∙ ap (first_going q.ended) (append-nil (range_with_len 0 next)) in
      same_first next (r.actors - next) (range_with_len 0 next) (omega (arith, low)) low_part ∙ ap (λ (n : ℕ). turn_from q.ended n next) h.actors

  same_going : going r ≡ going q
  same_going = grind (arith, same_filter)

  same_behind : (next : ℕ) (o : Option ℕ) → next < r.actors → who_behind r next o ≡ who_behind q next o
  same_behind next o low = grind (arith, same_going, same_turn)

  but_for : (b : ℕ) → Agree (with_actor_ended b r) (with_actor_ended b q)
  but_for b = record { actors = h.actors; ended = λ a lt. ap (λ (c : Bool). eqb b a || c) (h.ended a lt); marks = h.marks }

module _ (r q : ActorsSoFar) (h : Agree r q) where
  same_over_by : (a : ℕ) (u : Until) → is_over_by r a u ≡ is_over_by q a u
  same_over_by a (Without n) = ap (λ (xs : List ℕ). eqb n 0 || eqb (length xs) 0) (same_going (with_actor_ended a r) (with_actor_ended a q) (but_for r q h a))
  same_over_by a (Steps n) = ap (λ (b : Bool). b || eqb n 0) (elim (cases_lt a r.actors) [
    | inl lt ↦ rw (h.actors, h.ended a lt) refl
    | inr le ↦
        let past : nat_le r.actors a ≡ true = grind (arith, nat_tests) in
        let same = h.actors in
        let beyond : nat_le q.actors a ≡ true = grind (arith, nat_tests) in
        rw (past, beyond) refl
  ])
  same_over_by a (Marks m) = elim (cases_lt a r.actors) [
    | inl lt ↦ rw (h.actors, h.ended a lt, h.marks a lt) refl
    | inr le ↦
        let past : nat_le r.actors a ≡ true = grind (arith, nat_tests) in
        let same = h.actors in
        let beyond : nat_le q.actors a ≡ true = grind (arith, nat_tests) in
        rw (past, beyond) refl
  ]

  same_to_come : (xs : List Turn) → to_come r xs ≡ to_come q xs
  same_to_come [] = refl
  same_to_come (t ∷ more) = rw (same_over_by t.actor t.until, same_to_come more) refl

  same_next : (xs : List Turn) (next : ℕ) → next_of r xs next ≡ next_of q xs next
  same_next xs next = grind (arith, same_over_by)

  same_passed : (s : Standing) → passed r s ≡ passed q s
  same_passed s = grind (arith, same_next, same_to_come)

  same_by : (a : ℕ) (u : Until) (s : Standing) → s.next < r.actors → who_by r a u s ≡ who_by q a u s
  same_by a u s low = grind (arith, but_for, same_behind)

  same_of : (xs : List Turn) (s : Standing) → s.next < r.actors → who_of r xs s ≡ who_of q xs s
  same_of xs s low = grind (arith, same_behind, same_by)

  -- so the same actor steps next,
  pub same_who : (s : Standing) → s.next < r.actors → who r s ≡ who q s
  same_who s low = grind (arith, next_low, same_of, same_passed)

  same_behind_items : (a : ℕ) (xs : List Turn) (s : Standing) → stands_behind r a xs s ≡ stands_behind q a xs s
  same_behind_items a xs s = grind arith

  -- and the schedule stands alike then
  pub same_moved : (a : ℕ) (s : Standing) → moved r a s ≡ moved q a s
  same_moved a s = grind (arith, same_behind_items, same_passed)
