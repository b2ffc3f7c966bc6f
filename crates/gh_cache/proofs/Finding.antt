-- After each load the routine looks at the next slot, or has ended.
use Rattle.std.proofs.Common.{◌≡◌, ℕ, zero, suc, ◌+◌, ◌<◌, ◌⊎◌, Bool, false, cond, ltb, Some, None, is_none, refl, sym, ap, subst, ◌∙◌, arith, inl, inr}
use Rattle.gh_cache.proofs.Vocabulary.{asks, Cached, Ended, FitsArena, given, given_at, goes, goes_at, is_clear, Layout, Look, opening, Searching, slots_of, SlotStage}
use Rattle.gh_base.specs.declared.cell.Cell.TheVariants.{Alloc}
use Rattle.gh_base.specs.declared.cell.Ask.TheVariants.{Load}
use Rattle.gh_cache.specs.NextClear.{AreTaken, FindsNextClear, GoesOn, IsNextClear, told}
use Rattle.gh_cache.proofs.Slots.{IsCut, slot_word}

module _ (l : Layout) (span : Cached) (found : ℕ → ℕ) where
  -- it looks at the n-th slot from the cursor on
  abbrev looking : ℕ → SlotStage → Searching
  looking n p = record { span = record span { cursor = span.cursor + n }; stage = p }

  abbrev after : ℕ → Searching
  after n = told l (opening span) found n

  -- there is such a slot, and those before it are taken
  abbrev Reached : ℕ → Type 0
  Reached n = (span.cursor + n < slots_of span.class) × AreTaken span found (span.cursor + n)

  abbrev After : ℕ → Type 0
  After n = ((after n ≡ looking n Look) × Reached n) ⊎ ((is_none (given (after n)) ≡ false) × (Reached n → ⊥))

  -- what its word says of the slot that it looks at, and whether there is a further one
  abbrev clears : ℕ → Bool
  clears n = is_clear span (span.cursor + n) (found n)

  abbrev more : ℕ → Bool
  more n = ltb (span.cursor + n + 1) (slots_of span.class)

  -- what it is then, by these two
  abbrev next : ℕ → (clear further : Bool) → Searching
  next n clear further = cond clear (looking n (Ended (Some (span.cursor + n)))) (record { span = record span { cursor = span.cursor + n + 1 }; stage = cond further Look (Ended None) })

  fewer_taken : (n : ℕ) → Reached (suc n) → Reached n
  fewer_taken n r = let lt : span.cursor + suc n < slots_of span.class = r.0 in (omega arith, λ slot from below. r.1 slot from (omega arith))

  moved : (n : ℕ) → after n ≡ looking n Look → after (suc n) ≡ next n (clears n) (more n)
  moved n e = ap (λ (s : Searching). goes s (found n)) e

  after_next : (n : ℕ) → Reached n → (c m : Bool) → clears n ≡ c → more n ≡ m → after (suc n) ≡ next n c m → After (suc n)
  after_next n r c m t u e = grind arith

  stays_ended : (s : Searching) (f : ℕ) (p : SlotStage) → is_none (given_at p) ≡ false → is_none (given (goes_at s p f)) ≡ false
  stays_ended s f p e = grind arith

  after_each : span.cursor < slots_of span.class → (n : ℕ) → After n
  after_each below zero =
      let same : span.cursor ≡ span.cursor + zero = omega arith in
      inl (ap (λ (k : ℕ). record { span = record span { cursor = k }; stage = Look }) same, (omega arith, λ slot from lt. absurd (omega arith)))
  after_each below (suc n) = elim (after_each below n) [
    | inl h ↦ after_next n h.1 (clears n) (more n) refl refl (moved n h.0)
    | inr h ↦ inr (stays_ended (after n) (found n) (after n).stage h.0, λ q. h.1 (fewer_taken n q))
  ]

  module _ (n : ℕ) where
    -- by its next load, where it looks at the slot
    gives_here : after n ≡ looking n Look → given (goes (after n) (found n)) ≡ given (next n (clears n) (more n))
    gives_here e = ap (λ (s : Searching). given (goes s (found n))) e

    -- there is no such load, where it has ended
    over : is_none (given (after n)) ≡ false → ¬ GoesOn l (opening span) found n
    over ended busy = absurd (cc)

    some_forward : (slot : ℕ) → Reached n → (c m : Bool) → clears n ≡ c → given (next n c m) ≡ Some (Some slot) → IsNextClear span found slot × (slot ≡ span.cursor + n)
    some_forward slot r c m t e = grind arith

    some_back : (slot : ℕ) → IsNextClear span found slot → slot ≡ span.cursor + n → (c m : Bool) → clears n ≡ c → given (next n c m) ≡ Some (Some slot)
    some_back slot h same c m t = grind arith

    none_forward : Reached n → (c m : Bool) → clears n ≡ c → more n ≡ m → given (next n c m) ≡ Some None → AreTaken span found (slots_of span.class) × (span.cursor + suc n ≡ slots_of span.class)
    none_forward r c m t u e = grind arith

    none_back : AreTaken span found (slots_of span.class) → span.cursor + suc n ≡ slots_of span.class → (c m : Bool) → clears n ≡ c → more n ≡ m → given (next n c m) ≡ Some None
    none_back taken same c m t u = grind arith

    cursor_some_at : (slot : ℕ) → (c m : Bool) → given (next n c m) ≡ Some (Some slot) →
        (next n c m).span.cursor ≡ slot
    cursor_some_at slot c m e = grind arith

    cursor_none_at : Reached n → (c m : Bool) → more n ≡ m → given (next n c m) ≡ Some None →
        (next n c m).span.cursor ≡ slots_of span.class
    cursor_none_at r c m u e = grind arith

  pub finds : IsCut span.class → FitsArena l span → span.cursor < slots_of span.class → FindsNextClear l (opening span) found
  finds cut within below = record {
    goes_on = λ n. elim (after_each below n) [
      | inl h ↦ (λ _. h.1, λ _. ap (λ (s : Searching). is_none (given s)) h.0)
      | inr h ↦ (λ busy. absurd (over n h.0 busy), λ r. absurd (h.1 r))
    ];
    loads = λ n busy. elim (after_each below n) [
      | inl h ↦ ap (asks l) h.0 ∙ ap (λ (k : ℕ). Load (Alloc k)) (slot_word l span (span.cursor + n) cut within h.1.0)
      | inr h ↦ absurd (over n h.0 busy)
    ];
    some = λ n slot. elim (after_each below n) [
      | inl h ↦ (λ e. some_forward n slot h.1 (clears n) (more n) refl (sym (gives_here n h.0) ∙ e.1), λ q. (ap (λ (s : Searching). is_none (given s)) h.0, gives_here n h.0 ∙ some_back n slot q.0 q.1 (clears n) (more n) refl))
      | inr h ↦ (λ e. absurd (over n h.0 e.0), λ q. absurd (h.1 (reached_slot n slot q.0 q.1)))
    ];
    none = λ n. elim (after_each below n) [
      | inl h ↦ (λ e. none_forward n h.1 (clears n) (more n) refl refl (sym (gives_here n h.0) ∙ e.1), λ q. (ap (λ (s : Searching). is_none (given s)) h.0, gives_here n h.0 ∙ none_back n q.0 q.1 (clears n) (more n) refl refl))
      | inr h ↦ (λ e. absurd (over n h.0 e.0), λ q. absurd (h.1 (reached_all n q.0 q.1)))
    ];
    cursor_some = λ n slot e. elim (after_each below n) [
      | inl h ↦ ap (λ (s : Searching). s.span.cursor) (moved n h.0) ∙ cursor_some_at n slot (clears n) (more n) (sym (gives_here n h.0) ∙ e.1)
      | inr h ↦ absurd (over n h.0 e.0)
    ];
    cursor_none = λ n e. elim (after_each below n) [
      | inl h ↦ ap (λ (s : Searching). s.span.cursor) (moved n h.0) ∙ cursor_none_at n h.1 (clears n) (more n) refl (sym (gives_here n h.0) ∙ e.1)
      | inr h ↦ absurd (over n h.0 e.0)
    ];
  } where
    reached_slot : (n slot : ℕ) → IsNextClear span found slot → slot ≡ span.cursor + n → Reached n
    reached_slot n slot h same = (let lt : slot < slots_of span.class = h.among in omega arith, subst (λ (k : ℕ). AreTaken span found k) same h.least)

    reached_all : (n : ℕ) → AreTaken span found (slots_of span.class) → span.cursor + suc n ≡ slots_of span.class → Reached n
    reached_all n taken same = (omega arith, λ slot from lt. taken slot from (omega arith))
