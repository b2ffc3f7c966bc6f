-- The heap's count of bytes over the words and the actors alone: the one state has it with the bytes of each slot and what each seat has yet to count and to take off; the page words tell the first, and the actors' own stages the others.
use Rattle.std.proofs.Common.{◌≡◌, ◌≢◌, inl, inr, ℕ, zero, suc, ◌+◌, ◌*◌, ◌/◌, ◌%◌, ◌<◌, ◌≤◌, refl, sym, ap, subst, ◌∙◌, arith, List, Option, Some, None, count_ones}
use Rattle.std.proofs.lemmas.Nat.{ones_le_self}
use Rattle.gh_law.proofs.Vocabulary.{Actor, actors_after, alloc_words, arena, bit_at, bit_at-zero, cases_lt, Cell, Due, Entry, eqb_tells, Frees, HasState, Head, HeapIsCounted, InSpan, IsInSweep, IsKept, IsSeated, Known, Layout, Op, owed, page_of, page_words, placed, placed_in, row_bit, runs_are, same_from_bits_below, seated, seats_of, Setup, slot_row, SlotsAreRead, SpanHead, State, sum_below, sum_more, sum_none, sum_same, sweep_of, Sweeping, total, uncounted_at, untaken, untaken_at, Words}

sum_is_total : (f g : ℕ → ℕ) (n : ℕ) → ((a : ℕ) → a < n → f a ≡ g a) → sum_below f n ≡ total g n
sum_is_total f g zero h = sum_none f
sum_is_total f g (suc n) h =
    let rest : sum_below f n ≡ total g n = sum_is_total f g n (λ a lt. h a (omega (arith, lt))) in
    let last = h n (omega arith) in
    omega (arith, rest, last, sum_more f n)

-- where no bit is set no slot is taken
no_bytes : (word bytes : ℕ) → word ≡ 0 → count_ones word * bytes ≡ 0
no_bytes word bytes is =
    let none : count_ones 0 ≡ 0 = omega (arith, ones_le_self 0) in
    let product : count_ones word * bytes ≡ 0 * bytes = ap (λ (n : ℕ). count_ones n * bytes) is ∙ ap (λ (n : ℕ). n * bytes) none in
    omega (arith, product)

module _ (setup : Setup) (known : Known) (read : SlotsAreRead) (es : List (Entry Op)) (has : HasState setup es) where
  abbrev s : State
  s = has.state

  abbrev now : Words
  now = has.state.heap.words

  abbrev at : ℕ → Actor
  at a = actors_after (arena setup) setup.pacing setup.may es a

  -- The bytes of slots.

  -- where a bit is set nobody frees the span: no object stands in one that is being freed
  kept : (i : ℕ) → now (Cell.Alloc i) ≢ 0 → (c : InSpan (page_words now) i) → IsKept s.heap.freeing c.p
  kept i some c a y frees first = some (same_from_bits_below 64 (now (Cell.Alloc i)) 0 (has.good.heap.words i) (omega arith) (λ j low. no_bit j low ∙ sym (bit_at-zero j))) where
    f : Frees (page_words now) (alloc_words now) s.heap.locked a y
    f = has.good.heap.freeing a y frees

    same_head : f.being.h ≡ c.h
    same_head = let both : Head f.being.h ≡ Head c.h = sym f.being.head ∙ (ap (λ (p : ℕ). page_of (now (Cell.Page p))) first ∙ c.head) in cc

    size : c.h.pages ≡ y.pages
    size = ap (λ (h : SpanHead). h.pages) (sym same_head) ∙ f.being.size

    bit_in : (j : ℕ) → j < 64 → bit_at (now (Cell.Alloc i)) j ≡ row_bit (alloc_words now) (64 * i + j)
    bit_in j low =
        let word : (64 * i + j) / 64 ≡ i = omega (arith, low) in
        let within : (64 * i + j) % 64 ≡ j = omega (arith, low) in
        sym (known.rows.bit_of (alloc_words now) i (64 * i + j) word ∙ ap (λ (n : ℕ). bit_at (now (Cell.Alloc i)) n) within)

    no_bit : (j : ℕ) → j < 64 → bit_at (now (Cell.Alloc i)) j ≡ 0
    no_bit j low =
        let from = c.from in
        let below = c.below in
        bit_in j low ∙ f.empty (64 * i + j) (omega (arith, from, first)) (omega (arith, below, size, first, low))

  same_slot : (i : ℕ) → now (Cell.Alloc i) ≢ 0 → s.slot i ≡ slot_row (page_words now) i
  same_slot i some =
      let c = has.good.sweep.inside i some in
      has.good.sweep.slots i c ∙ sym (read setup.layout.pages (page_words now) i c (has.good.heap.whole c.p c.h c.head (kept i some c)))

  same_bytes : (i : ℕ) → placed_in (alloc_words now) s.slot i ≡ placed_in (alloc_words now) (slot_row (page_words now)) i
  same_bytes i = elim (eqb_tells (now (Cell.Alloc i)) 0) [
    | inl y ↦ no_bytes (now (Cell.Alloc i)) (s.slot i) y.1 ∙ sym (no_bytes (now (Cell.Alloc i)) (slot_row (page_words now) i) y.1)
    | inr n ↦ ap (λ (x : ℕ). count_ones (now (Cell.Alloc i)) * x) (same_slot i n.1)
  ]

  -- What each seat has yet to count and to take off.

  others_count_none : (a : ℕ) → setup.layout.procs ≤ a → (x : Actor) → at a ≡ x → uncounted_at x ≡ 0
  others_count_none a ge (Actor.Runs m) is = absurd (let lt : a < setup.layout.procs = subst (IsSeated setup.layout a) is (seated setup es a) in omega (arith, lt, ge))
  others_count_none a ge (Actor.Marks w) is = refl
  others_count_none a ge (Actor.Leads c) is = refl

  pend_is : (a : ℕ) → s.pend a ≡ uncounted_at (at a)
  pend_is a = elim (cases_lt a setup.layout.procs) [
    | inl lt ↦ has.placing a lt ∙ ap uncounted_at (sym (runs_are setup es a lt))
    | inr ge ↦ has.others_place a ge ∙ sym (others_count_none a ge (at a) refl)
  ]

  due_of : (a : ℕ) (x : Option Sweeping) → IsInSweep a s x → (s.due a).cleared ≡ untaken x
  due_of a None r = ap (λ (d : Due). d.cleared) r.told
  due_of a (Some m) r = ap (λ (d : Due). d.cleared) r.0.fine.due

  due_is : (a : ℕ) → a < seats_of setup.layout → (s.due a).cleared ≡ untaken_at (at a)
  due_is a lt = due_of a (sweep_of (at a)) (has.sweeps a lt)

  -- All of them.

  abbrev to_count : ℕ
  to_count = total (λ a. uncounted_at (at a)) (seats_of setup.layout)

  abbrev to_take : ℕ
  to_take = total (λ a. untaken_at (at a)) (seats_of setup.layout)

  by_ghosts : now Cell.Heap + sum_below s.pend (seats_of setup.layout) ≡ placed (alloc_words now) s.slot (16 * setup.layout.pages) + owed (λ d. d.cleared) s.due (seats_of setup.layout)
  by_ghosts = subst (λ (k : Layout). now Cell.Heap + sum_below s.pend (seats_of k) ≡ placed (alloc_words now) s.slot (16 * k.pages) + owed (λ d. d.cleared) s.due (seats_of k)) has.good.layout has.good.sweep.counted.heap

  by_words : now Cell.Heap + to_count ≡ placed (alloc_words now) (slot_row (page_words now)) (16 * setup.layout.pages) + to_take
  by_words =
      let placing : sum_below s.pend (seats_of setup.layout) ≡ to_count = sum_is_total s.pend (λ a. uncounted_at (at a)) (seats_of setup.layout) (λ a lt. pend_is a) in
      let taking : sum_below (λ a. (s.due a).cleared) (seats_of setup.layout) ≡ to_take = sum_is_total (λ a. (s.due a).cleared) (λ a. untaken_at (at a)) (seats_of setup.layout) due_is in
      let standing : placed (alloc_words now) s.slot (16 * setup.layout.pages) ≡ placed (alloc_words now) (slot_row (page_words now)) (16 * setup.layout.pages) = sum_same (placed_in (alloc_words now) s.slot) (placed_in (alloc_words now) (slot_row (page_words now))) (16 * setup.layout.pages) (λ i lt. same_bytes i) in
      ap (λ (n : ℕ). now Cell.Heap + n) (sym placing) ∙ (by_ghosts ∙ (ap (λ (n : ℕ). n + owed (λ d. d.cleared) s.due (seats_of setup.layout)) standing ∙ ap (λ (n : ℕ). placed (alloc_words now) (slot_row (page_words now)) (16 * setup.layout.pages) + n) taking))

  pub heap_bytes : HeapIsCounted setup es
  heap_bytes = grind (arith, by_words)
