-- Where the scan is while marking is on: what it knows of the words that it is done with lasts, and it goes on behind a word or ends with a black object.
use Rattle.std.proofs.Common.{◌≡◌, ◌≢◌, ℕ, zero, suc, ◌+◌, ◌-◌, ◌*◌, ◌/◌, ◌%◌, ◌<◌, ◌≤◌, Bool, true, false, cond, eqb, ltb, Option, Some, None, inl, inr, refl, sym, ap, subst, ◌∙◌, arith, ◌||◌}
use Rattle.std.proofs.lemmas.Bool.{eqb-true, eq-eqb, ltb-true, ltb-false}
use Rattle.gh_scan.proofs.Vocabulary.{at_next, at_stage, behind, bit_says_pointer, BitsAre, Blacken, CleanBefore, Cycle, EachFactLasts, EachHandFollows, EachOwnMoveLeaves, end, Ended, Facts, FactsLast, field_words, FoundStillStands, Good, Hands, in_hand, InHand, is_loaded, IsAt, IsAtPointerField, IsClean, IsPointer, IsSince, Keeps, Lands, lands_by, lands_still, LoadBitmap, LoadField, loads_at, next_from, next_in, object_of, SameExtent, Scanning, seen_field, seen_row, seen_word, Shades, Shared, Taken, WhatIsKeptGoesOn}

-- what the laws of gh_marks say, as far as it is of one seat's facts
pub record KnownOfFacts : Type 0 where
  pub facts : EachFactLasts
  pub follow : EachHandFollows
  pub leave : EachOwnMoveLeaves
  pub go_on : WhatIsKeptGoesOn

-- The first word for which something is loaded, and none before it.
abbrev Skips : (bits x above : ℕ) → Option ℕ → Type 0
Skips bits x above None = (y : ℕ) → x ≤ y → y < above → is_loaded bits y ≡ false
Skips bits x above (Some q) = (x ≤ q) × (q < above) × (is_loaded bits q ≡ true) × ((y : ℕ) → x ≤ y → y < q → is_loaded bits y ≡ false)

skips-more : (bits x w : ℕ) (n : Option ℕ) → is_loaded bits x ≡ false → Skips bits (x + 1) (x + 1 + w) n → Skips bits x (x + suc w) n
skips-more bits x w n e h = grind arith

skips : (bits w x : ℕ) → Skips bits x (x + w) (next_in bits w x)
skips bits zero x = λ y le lt. absurd (omega arith)
skips bits (suc w) x = by (is_loaded bits x) refl (skips bits w (x + 1)) where
  by : (b : Bool) → is_loaded bits x ≡ b → Skips bits (x + 1) (x + 1 + w) (next_in bits w (x + 1)) → Skips bits x (x + suc w) (cond b (Some x) (next_in bits w (x + 1)))
  by true e h = (omega arith, omega arith, e, λ y le lt. absurd (omega arith))
  by false e h = skips-more bits x w (next_in bits w (x + 1)) e h

skips-from : (bits above x : ℕ) → x ≤ above → Skips bits x above (next_from bits above x)
skips-from bits above x le = grind (arith, skips)

-- a word for which nothing is loaded
no-group : (bits y : ℕ) → is_loaded bits y ≡ false → y % 64 ≢ 0
no-group bits y e z = let yes : eqb (y % 64) 0 ≡ true = eq-eqb _ _ z in absurd (by (eqb (y % 64) 0) yes e) where
  by : (b : Bool) → b ≡ true → (b || bit_says_pointer bits y) ≡ false → ⊥
  by true p q = cc
  by false p q = cc

no-pointer : (bits y : ℕ) → is_loaded bits y ≡ false → bit_says_pointer bits y ≡ false
no-pointer bits y e = grind arith

is-pointer : (bits y : ℕ) → is_loaded bits y ≡ true → eqb (y % 64) 0 ≡ false → bit_says_pointer bits y ≡ true
is-pointer bits y e f = grind arith

-- no word that begins a group lies between, so both are of one group
one-group : (x y : ℕ) → x ≤ y → ((v : ℕ) → x < v → v ≤ y → v % 64 ≢ 0) → y / 64 ≡ x / 64
one-group x y le none = by (eqb (y / 64) (x / 64)) refl where
  by : (b : Bool) → eqb (y / 64) (x / 64) ≡ b → y / 64 ≡ x / 64
  by true e = eqb-true _ _ e
  by false e =
      let ne : y / 64 ≢ x / 64 = λ z. absurd (cc (e, eq-eqb _ _ z)) in
      absurd (none (64 * (y / 64)) (omega arith) (omega arith) (omega arith))

module _ (k : KnownOfFacts) (z : Cycle) (a : ℕ) (s t : Shared) (o : ℕ) (known : s.since o ≡ true) (keeps : Keeps z a s t) where
  last : FactsLast z a s t
  last = k.facts z a s t keeps

  extent : SameExtent s.extents t.extents o
  extent = keeps.extents o known

  pub at-kept : (slot at : ℕ) → IsAt s o slot at → IsAt t o slot at
  at-kept slot at h = record {
    slot_is = h.slot_is ∙ sym extent.size;
    from = h.from;
    below = omega (arith, h.below, extent.size);
    clean = λ j l lt. let was : IsPointer s.extents o j = last.pointer_was o j known l in last.field o j known was (h.clean j was lt);
  }

  pub field-kept : (bits at : ℕ) → IsAtPointerField s o bits at → IsAtPointerField t o bits at
  field-kept bits at h = record {
    k = h.k;
    at_is = h.at_is;
    pointer = last.pointer o h.k known h.pointer;
    bits_are = λ j l e. h.bits_are j (omega (arith, l, extent.size)) e ∙ sym (ap (λ (f : ℕ → Bool). f j) extent.pointer);
  }

  -- what it found there stands there still, or the word that came in its place is clean
  stands-kept : (at bits reference : ℕ) → IsSince s.since (seen_word s.extents.base reference) → IsAtPointerField s o bits at → FoundStillStands s at reference → FoundStillStands t at reference
  stands-kept at bits reference named h (inl e) = elim (keeps.fields o h.k known h.pointer) [
    | inl w ↦ inl (ap (seen_field t) h.at_is ∙ w ∙ ap (seen_field s) (sym h.at_is) ∙ e ∙ sym (last.seen reference named))
    | inr c ↦ inr (subst (λ (x : ℕ). IsClean t.colour (seen_field t x)) (sym h.at_is) c)
  ]
  stands-kept at bits reference named h (inr c) = inr (subst (λ (x : ℕ). IsClean t.colour (seen_field t x)) (sym h.at_is)
      (last.field o h.k known h.pointer (subst (λ (x : ℕ). IsClean s.colour (seen_field s x)) h.at_is c)))

  pub shades-kept : (slot at bits reference : ℕ) → IsSince s.since (seen_word s.extents.base reference) → Shades s o slot at bits reference → Shades t o slot at bits reference
  shades-kept slot at bits reference named h = record { is_at = at-kept slot at h.is_at; is_field = field-kept bits at h.is_field; stands = stands-kept at bits reference named h.is_field h.stands }

-- Behind the word that it is at: it goes on at the next word for which something is loaded, and with none left its object is black.
module _ (k : KnownOfFacts) (z : Cycle) (a : ℕ) (t : Shared) (rest : InHand) (g : Good z t) (n : Scanning) where
  abbrev o : ℕ
  o = object_of n.reference

  -- done with the word that it is at
  pub record IsDone : Type 0 where
    pub seat_is : n.seat ≡ a
    pub known : t.since o ≡ true
    pub is_at : IsAt t o n.slot n.at
    pub bits_are : BitsAre t.extents o n.bits n.at
    pub clean : (j : ℕ) → IsPointer t.extents o j → o + j ≡ n.at → IsClean t.colour (seen_field t (o + j))
    pub hands : Hands a t (in_hand rest n.held (Some o))

  module _ (d : IsDone) where
    taken : t.colour o ≡ Taken a
    taken = (d.hands.has.is_taken o).0 refl

    scanned : t.extents.noscan o ≡ false
    scanned = g.objects.grey o (rw taken tt)

    -- nothing is loaded for the words between
    clean-to : (q : ℕ) → n.at < q → ((y : ℕ) → n.at + 1 ≤ y → y < q → is_loaded n.bits y ≡ false) → CleanBefore t.extents t.colour (seen_row t.extents.base (field_words t.words)) o q
    clean-to q lt none j l below = by (ltb (o + j) n.at) (eqb (o + j) n.at) refl refl where
      later : n.at < o + j → ⊥
      later more =
          let off : is_loaded n.bits (o + j) ≡ false = none (o + j) (omega arith) below in
          let group : (o + j) / 64 ≡ n.at / 64 = one-group n.at (o + j) (omega arith) (λ v x y. no-group n.bits v (none v (omega arith) (omega arith))) in
          let is : bit_says_pointer n.bits (o + j) ≡ true = d.bits_are j l.0 group ∙ l.1 in
          let not : bit_says_pointer n.bits (o + j) ≡ false = no-pointer n.bits (o + j) off in
          cc

      by : (b c : Bool) → ltb (o + j) n.at ≡ b → eqb (o + j) n.at ≡ c → IsClean t.colour (seen_field t (o + j))
      by true c e f = d.is_at.clean j l (ltb-true _ _ e)
      by false true e f = d.clean j l (eqb-true _ _ f)
      by false false e f =
          let ne : o + j ≢ n.at = λ x. absurd (cc (f, eq-eqb _ _ x)) in
          let le : n.at ≤ o + j = ltb-false _ _ e in
          absurd (later (omega arith))

    stop : n.at + 1 ≤ end n
    stop = grind arith

    abbrev Goal : Scanning → Type 0
    Goal then = Lands z a t t.words (λ u. Keeps z a t u × Facts z a u rest then)

    blackens : Skips n.bits (n.at + 1) (end n) None → Goal (at_stage n (Ended n.slot))
    blackens none =
        let all : CleanBefore t.extents t.colour (seen_row t.extents.base (field_words t.words)) o (end n) = clean-to (end n) (omega (arith, stop)) (λ y le lt. none y le lt) in
        let may : (t.colour o ≡ Taken a) × ((j : ℕ) → IsPointer t.extents o j → IsClean t.colour (seen_field t (o + j))) = (taken, λ j l. all j l (omega (arith, l.0, d.is_at.slot_is))) in
        lands_by z a t t.words (λ u. Keeps z a t u × Facts z a u rest (at_stage n (Ended n.slot))) (Blacken o) may refl
        (k.leave z a t (Blacken o) g may tt, record { seat_is = d.seat_is; known = d.known; stage_is = (k.follow z a t (in_hand rest n.held (Some o)) g d.hands).blackened o refl })

    goes-on : (q : ℕ) → Skips n.bits (n.at + 1) (end n) (Some q) → Goal (record n { at = q; stage = loads_at q })
    goes-on q h = by (eqb (q % 64) 0) refl where
      is_at : IsAt t o n.slot q
      is_at = record {
        slot_is = d.is_at.slot_is;
        from = omega (arith, d.is_at.from, h.0);
        below = omega (arith, h.1, d.is_at.slot_is);
        clean = clean-to q (omega (arith, h.0)) h.3;
      }

      still : (stage : _) → Facts z a t rest (record n { at = q; stage = stage }) → Goal (record n { at = q; stage = stage })
      still stage f = lands_still z a t t.words (λ u. Keeps z a t u × Facts z a u rest (record n { at = q; stage = stage })) refl ((k.go_on z a).stays t, f)

      by : (b : Bool) → eqb (q % 64) 0 ≡ b → Goal (record n { at = q; stage = cond b LoadBitmap LoadField })
      by true e = still LoadBitmap (record { seat_is = d.seat_is; known = d.known; stage_is = (is_at, d.hands) })
      by false e =
          let off : q % 64 ≢ 0 = λ x. absurd (cc (e, eq-eqb _ _ x)) in
          let group : q / 64 ≡ n.at / 64 = one-group n.at q (omega (arith, h.0)) (λ v x y. begins v x y off) in
          let index : q ≡ o + (q - o) = omega (arith, is_at.from) in
          let less : q - o < t.extents.size o = omega (arith, is_at.below, is_at.from) in
          let same : bit_says_pointer n.bits (o + (q - o)) ≡ t.extents.pointer o (q - o) = d.bits_are (q - o) less (ap (λ (x : ℕ). x / 64) (sym index) ∙ group) in
          let set : t.extents.pointer o (q - o) ≡ true = sym same ∙ ap (bit_says_pointer n.bits) (sym index) ∙ is-pointer n.bits q h.2 e in
          still LoadField (record {
            seat_is = d.seat_is;
            known = d.known;
            stage_is = (is_at, record { k = q - o; at_is = index; pointer = (less, set, scanned); bits_are = λ j l x. d.bits_are j l (x ∙ group) }, d.hands);
          }) where
            begins : (v : ℕ) → n.at < v → v ≤ q → q % 64 ≢ 0 → v % 64 ≢ 0
            begins v x y off = same (eqb v q) refl where
              same : (b : Bool) → eqb v q ≡ b → v % 64 ≢ 0
              same true e = subst (λ (w : ℕ). w % 64 ≢ 0) (sym (eqb-true _ _ e)) off
              same false e = let ne : v ≢ q = λ x. absurd (cc (e, eq-eqb _ _ x)) in no-group n.bits v (h.3 v (omega arith) (omega arith))

    pub goes-behind : Goal (behind n)
    goes-behind = by (next_from n.bits (end n) (n.at + 1)) (skips-from n.bits (end n) (n.at + 1) stop) where
      by : (next : Option ℕ) → Skips n.bits (n.at + 1) (end n) next → Goal (at_next n next)
      by None h = blackens h
      by (Some q) h = goes-on q h
