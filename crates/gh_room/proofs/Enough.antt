-- There are more buffers than seats could hold and objects could fill, so one has room and nobody holds it.
use Rattle.std.proofs.Common.{◌≡◌, ◌≢◌, ◌⊎◌, inl, inr, ℕ, zero, suc, ◌+◌, ◌-◌, ◌*◌, ◌/◌, ◌%◌, ◌<◌, ◌≤◌, Bool, true, false, cond, eqb, leb, Option, Some, None, refl, sym, ap, subst, ◌∙◌, arith}
use Rattle.std.proofs.lemmas.Bool.{eqb-true, eq-eqb}
use Rattle.std.proofs.lemmas.Bool.Decides.{nat_tests}
use Rattle.gh_base.specs.declared.held.Held.{Held}
use Rattle.gh_base.specs.declared.layout.Layout.{Layout}
use Rattle.gh_base.specs.Cells.{buffers_of, seats_of}
use Rattle.gh_base.specs.Holding.{AreCounted, Buffers, holder_in, IsIt}
use Rattle.gh_room.specs.Room.{AreDistinct, AreOfSeats, HasRoom, SomeHasRoom}
use Rattle.gh_base.specs.Rows.{Row}
use Rattle.gh_room.proofs.Counting.{AreApart, no_more}

module _ (l : Layout) (s : Buffers) (counted : AreCounted s) (distinct : AreDistinct (1024 * l.pages) s) (seated : AreOfSeats (seats_of l) s) where
  abbrev holder : ℕ → ℕ
  holder b = holder_in (s.words b)

  -- who holds a buffer is one of the seats
  is_seat : (b a : ℕ) → holder b ≡ a + 1 → a < seats_of l
  is_seat b a held = by (leb (a + 1) (seats_of l)) refl where
    by : (t : Bool) → leb (a + 1) (seats_of l) ≡ t → a < seats_of l
    by true e = grind (arith, nat_tests, e)
    by false e = absurd (((seated.others a (grind (arith, nat_tests, e))).only b).0 held)

  -- and holds no other
  one_each : (b c a : ℕ) → holder b ≡ a + 1 → holder c ≡ a + 1 → b ≡ c
  one_each b c a of_b of_c = let x = seated.each a (is_seat b a of_b) in same x.0 ((x.1.only b).0 of_b) ((x.1.only c).0 of_c) where
    same : (held : Option Held) → IsIt held b → IsIt held c → b ≡ c
    same None is also = absurd is
    same (Some h) is also = sym is ∙ also

  -- If each buffer that nobody holds has 252 entries, there are places for all: that of an entry is the heap word that it names, and behind these each seat has 252 for the buffer that it holds.
  abbrev IsFull : (many : ℕ) → Type 0
  IsFull many = (b : ℕ) → b < many → holder b ≡ 0 → 252 ≤ s.filled b

  abbrev place : (b j : ℕ) → ℕ
  place b j = cond (eqb (holder b) 0) (s.entries b j - 1) (1024 * l.pages + 252 * (holder b - 1) + j)

  data At (b j : ℕ) : Type 0 where
    in_heap : j < s.filled b → place b j + 1 ≡ s.entries b j → At b j
    at_seat : (a : ℕ) → holder b ≡ a + 1 → place b j ≡ 1024 * l.pages + 252 * a + j → At b j

  module _ (full : IsFull (buffers_of l)) where
    at : (b j : ℕ) → b < buffers_of l → j < 252 → At b j
    at b j there small = by (eqb (holder b) 0) refl where
      by : (t : Bool) → eqb (holder b) 0 ≡ t → At b j
      by true e =
          let enough : 252 ≤ s.filled b = full b there (eqb-true _ _ e) in
          let below : j < s.filled b = omega (arith, enough, small) in
          let some : 0 < s.entries b j = distinct.some b j below in
          let is : place b j ≡ s.entries b j - 1 = ap (λ (t : Bool). cond t (s.entries b j - 1) (1024 * l.pages + 252 * (holder b - 1) + j)) e in
          in_heap below (omega (arith, some, is))
      by false e =
          let other : holder b ≢ 0 = λ z. absurd (cc (e, eq-eqb _ _ z)) in
          let is : place b j ≡ 1024 * l.pages + 252 * (holder b - 1) + j = ap (λ (t : Bool). cond t (s.entries b j - 1) (1024 * l.pages + 252 * (holder b - 1) + j)) e in
          at_seat (holder b - 1) (omega (arith, other)) is

    below_all : (b j : ℕ) → j < 252 → At b j → place b j < 1024 * l.pages + 252 * seats_of l
    below_all b j small (in_heap below is) = let le : s.entries b j ≤ 1024 * l.pages = distinct.within b j below in omega (arith, le, is)
    below_all b j small (at_seat a held is) = let lt : a < seats_of l = is_seat b a held in omega (arith, lt, is, small)

    -- entries and seats have places of their own
    one_heap : (b j a n : ℕ) → j < s.filled b → place b j + 1 ≡ s.entries b j → place b j ≢ 1024 * l.pages + 252 * a + n
    one_heap b j a n below is same = let le : s.entries b j ≤ 1024 * l.pages = distinct.within b j below in omega (arith, le, is, same)

    record Same (b j c k : ℕ) : Type 0 where
      buffer : b ≡ c
      entry : j ≡ k

    apart : (b j c k : ℕ) → j < 252 → k < 252 → At b j → At c k → place b j ≡ place c k → Same b j c k
    apart b j c k sj sk (in_heap below is) (in_heap under also) same =
        let one : s.entries b j ≡ s.entries c k = omega (arith, is, also, same) in
        record { buffer = distinct.buffer b j c k below under one; entry = distinct.place b j c k below under one }
    apart b j c k sj sk (in_heap below is) (at_seat a held also) same = absurd (one_heap b j a k below is (same ∙ also))
    apart b j c k sj sk (at_seat a held is) (in_heap below also) same = absurd (one_heap c k a j below also (sym same ∙ is))
    apart b j c k sj sk (at_seat a held is) (at_seat d keeps also) same =
        let seat : a ≡ d = omega (arith, is, also, same, sj, sk) in
        let entry : j ≡ k = omega (arith, is, also, same, sj, sk) in
        record { buffer = one_each b c a held (keeps ∙ ap (λ (x : ℕ). x + 1) (sym seat)); entry = entry }

    -- all places in one row
    abbrev row : Row
    row i = place (i / 252) (i % 252)

    at_place : (i : ℕ) → i < 252 * buffers_of l → At (i / 252) (i % 252)
    at_place i lt = at (i / 252) (i % 252) (omega (arith, lt)) (omega arith)

    row_apart : AreApart row (252 * buffers_of l) (1024 * l.pages + 252 * seats_of l)
    row_apart = record {
      below = λ i lt. below_all (i / 252) (i % 252) (omega arith) (at_place i lt);
      apart = λ i j lti ltj same. let x = apart (i / 252) (i % 252) (j / 252) (j % 252) (omega arith) (omega arith) (at_place i lti) (at_place j ltj) same in let quotient = x.buffer in let rest = x.entry in omega (arith, quotient, rest);
    }

    -- which are too many
    not_all : ⊥
    not_all = let le : 252 * buffers_of l ≤ 1024 * l.pages + 252 * seats_of l = no_more (1024 * l.pages + 252 * seats_of l) (252 * buffers_of l) row row_apart in omega (arith, le)

  -- Look at one after the other.
  has_room : (b : ℕ) → holder b ≡ 0 → s.filled b ≤ 251 → HasRoom (s.words b)
  has_room b free few = grind arith

  looks : (many : ℕ) → many ≤ buffers_of l → SomeHasRoom l s ⊎ IsFull many
  looks zero le = inr (λ b lt free. absurd (omega (arith, lt)))
  looks (suc n) le = go (looks n (omega (arith, le))) where
    go : SomeHasRoom l s ⊎ IsFull n → SomeHasRoom l s ⊎ IsFull (suc n)
    go (inl found) = inl found
    go (inr full) = by (eqb (holder n) 0) refl (leb (s.filled n) 251) refl where
      -- of those before it is known
      on : (holder n ≡ 0 → 252 ≤ s.filled n) → IsFull (suc n)
      on here b lt free = last (eqb b n) refl where
        last : (t : Bool) → eqb b n ≡ t → 252 ≤ s.filled b
        last true e = let is : b ≡ n = eqb-true _ _ e in subst (λ (x : ℕ). 252 ≤ s.filled x) (sym is) (here (subst (λ (x : ℕ). holder x ≡ 0) is free))
        last false e = let other : b ≢ n = λ z. absurd (cc (e, eq-eqb _ _ z)) in full b (omega (arith, lt, other)) free

      by : (t : Bool) → eqb (holder n) 0 ≡ t → (r : Bool) → leb (s.filled n) 251 ≡ r → SomeHasRoom l s ⊎ IsFull (suc n)
      by false held r few = inr (on (λ free. absurd (cc (held, eq-eqb _ _ free))))
      by true free true few = inl (record { buffer = n; there = omega (arith, le); has = has_room n (eqb-true _ _ free) (grind (arith, nat_tests, few)) })
      by true free false few = inr (on (λ x. grind (arith, nat_tests, few)))

  pub some_has_room : SomeHasRoom l s
  some_has_room = go (looks (buffers_of l) (omega arith)) where
    go : SomeHasRoom l s ⊎ IsFull (buffers_of l) → SomeHasRoom l s
    go (inl found) = found
    go (inr full) = absurd (not_all full)
