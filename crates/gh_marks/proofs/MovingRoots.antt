-- Each move keeps what holds at every moment: those of globals, of stacks and of new objects, and all together.
use Rattle.std.proofs.Common.{◌≡◌, ℕ, zero, suc, ◌+◌, ◌<◌, ◌≤◌, Bool, true, false, eqb, arith, refl, sym, ap, ◌∙◌, inl, inr}
use Rattle.gh_marks.proofs.Vocabulary.{bit, Black, Blacken, Buffered, ClaimGlobal, Cycle, EachMoveKeeps, END, EndStack, Enter, entry_words, eqb_tells, field_words, GiveBuffer, global_words, Good, IsPointer, IsSince, mark_words, May, Move, moved, nat_tests, PassGlobals, Place, Placing, PutField, PutGlobal, Quiet, ReadGlobal, Reserve, ScanGlobal, scanned_words, ScanStack, seats_among, seats_of, seen_field, seen_global, seen_row, seen_word, SetRegister, Shade, ShadeAgain, ShadeFlat, Shared, TakeBuffer, TakeEntry, update, ValuesGood}
use Rattle.gh_marks.proofs.Bits.{alloc-other, alloc-same, marked-again}
use Rattle.gh_marks.proofs.Keeps.{entries-apart, stacks-set, values-set}
use Rattle.gh_marks.proofs.Moving.{cursor-coloured, Known, good-again, good-blacken, good-enter, good-flat, good-give_buffer, good-put_field, good-put_global, good-quiet, good-reserve, good-shade, good-take_buffer, good-take_entry, pictured}

-- one seat more is counted, and no seat behind those counted matters
count-behind : (passed : ℕ → Bool) (a n : ℕ) → n ≤ a → seats_among (update passed a true) n ≡ seats_among passed n
count-behind passed a zero le = refl
count-behind passed a (suc n) le = elim (eqb_tells a n) [ inl y ↦ absurd (omega (arith, y.1)) | inr m ↦ (let same : seats_among (update passed a true) n ≡ seats_among passed n = count-behind passed a n (omega arith) in rw (m.0) (ap (λ (c : ℕ). c + bit (passed n)) same)) ]

count-passed : (passed : ℕ → Bool) (a n : ℕ) → a < n → passed a ≡ false → seats_among (update passed a true) n ≡ seats_among passed n + 1
count-passed passed a zero lt first = absurd (omega arith)
count-passed passed a (suc n) lt first = elim (eqb_tells a n) [
  | inl y ↦ (let same : seats_among (update passed a true) n ≡ seats_among passed n = count-behind passed a n (omega (arith, y.1)) in let none : passed n ≡ false = ap passed (sym y.1) ∙ first in rw (y.0, none, same) (omega arith))
  | inr m ↦ (let more : seats_among (update passed a true) n ≡ seats_among passed n + 1 = count-passed passed a n (omega (arith, m.1)) first in rw (m.0, more) (omega arith))
]

module _ (know : Known) (z : Cycle) (a : ℕ) (s : Shared) (g : Good z s) where
  abbrev Kept : Move → Type 0
  Kept m = May z a s m → Good z (moved z a s m)

  good-claim : (i : ℕ) → Kept (ClaimGlobal i)
  good-claim i may = record {
    marks = g.marks;
    objects = g.objects;
    counts = g.counts;
    entries = g.entries;
    values = g.values;
    cursor = record {
      untouched = λ j l h. grind (arith, nat_tests, g.cursor.untouched j l, may);
      ahead = λ j l h. grind (arith, nat_tests, g.cursor.ahead j l, may);
      read = λ j c w h. elim (eqb_tells i j) [ inl y ↦ absurd (grind (arith, y)) | inr n ↦ g.cursor.read j c w (rw (n.0) at h) ];
    };
    passes = record { behind = λ b h. absurd (omega (arith, g.passes.behind b h, may.0, may.1)); few = omega (arith, may.1) };
    stacks = g.stacks;
    pictured = pictured know z a s g (ClaimGlobal i) may;
  }

  good-pass : (i : ℕ) → Kept (PassGlobals i)
  good-pass i may = record {
    marks = g.marks;
    objects = g.objects;
    counts = g.counts;
    entries = g.entries;
    values = g.values;
    cursor = record {
      untouched = λ j l h. omega (arith, g.cursor.untouched j l h, may.at, may.behind);
      ahead = λ j l h. absurd (omega (arith, may.at, may.behind));
      read = g.cursor.read;
    };
    passes = record {
      behind = λ b h. omega (arith, may.behind);
      few = omega (arith, g.passes.few, may.at, count-passed s.passed a (seats_of z.arena.layout) may.seat may.first);
    };
    stacks = g.stacks;
    pictured = pictured know z a s g (PassGlobals i) may;
  }

  good-read : (i : ℕ) → Kept (ReadGlobal i)
  good-read i may = record {
    marks = g.marks;
    objects = g.objects;
    counts = g.counts;
    entries = g.entries;
    values = g.values;
    cursor = record {
      untouched = λ j l h. grind (arith, nat_tests, g.cursor.untouched j l);
      ahead = λ j l h. grind (arith, nat_tests, g.cursor.ahead j l h, may);
      read = λ j c w h. elim (eqb_tells i j) [ inl y ↦ inl (grind (arith, nat_tests)) | inr n ↦ g.cursor.read j c w (rw (n.0) at h) ];
    };
    passes = g.passes;
    stacks = g.stacks;
    pictured = pictured know z a s g (ReadGlobal i) may;
  }

  good-scan : (i v : ℕ) → Kept (ScanGlobal i v)
  good-scan i v may = record {
    marks = g.marks;
    objects = g.objects;
    counts = g.counts;
    entries = g.entries;
    values = g.values;
    cursor = record {
      untouched = λ j l h. grind (arith, nat_tests, g.cursor.untouched j l);
      ahead = λ j l h. grind (arith, nat_tests, g.cursor.ahead j l h, may.0);
      read = λ j c w h. elim (eqb_tells i j) [ inl y ↦ absurd (grind (arith, y)) | inr n ↦ g.cursor.read j c w (rw (n.0) at h) ];
    };
    passes = g.passes;
    stacks = g.stacks;
    pictured = pictured know z a s g (ScanGlobal i v) may;
  }

  good-set_register : (h d v : ℕ) → Kept (SetRegister h d v)
  good-set_register h d v may = record {
    marks = g.marks;
    objects = g.objects;
    counts = g.counts;
    entries = g.entries;
    values = values-set s.extents (seen_row s.extents.base (field_words s.words)) (seen_row s.extents.base (global_words s.words)) s.registers s.known s.since h d v may.since g.values;
    cursor = g.cursor;
    passes = g.passes;
    stacks = stacks-set z.number (scanned_words s.words) s.registers h d v may.goes_on g.stacks;
    pictured = pictured know z a s g (SetRegister h d v) may;
  }

  not_end : z.number ≡ END → ⊥
  not_end e = omega (arith, z.few)

  good-scan_stack : (h : ℕ) → Kept (ScanStack h)
  good-scan_stack h may = record {
    marks = g.marks;
    objects = g.objects;
    counts = g.counts;
    entries = g.entries;
    values = g.values;
    cursor = g.cursor;
    passes = g.passes;
    stacks = record {
      over = λ f q end. elim (eqb_tells h f) [ inr n ↦ g.stacks.over f q (rw (n.0) at end) | inl y ↦ absurd (not_end (rw (y.0) at end)) ];
      most = λ f. elim (eqb_tells h f) [ inr n ↦ rw (n.0) (g.stacks.most f) | inl y ↦ rw (y.0) (inl (omega arith)) ];
    };
    pictured = pictured know z a s g (ScanStack h) may;
  }

  -- what an ended goroutine's registers hold is nothing
  nil-since : (o : ℕ) → 0 ≡ o + 1 → ⊥
  nil-since o e = omega arith

  good-end_stack : (h : ℕ) → Kept (EndStack h)
  good-end_stack h may = record {
    marks = g.marks;
    objects = g.objects;
    counts = g.counts;
    entries = g.entries;
    values = record {
      known_fields = g.values.known_fields;
      fields = g.values.fields;
      globals = g.values.globals;
      stacks = λ f q o e. elim (eqb_tells h f) [ inr n ↦ g.values.stacks f q o (rw (n.0) at e) | inl y ↦ absurd (nil-since o (rw (y.0) at e)) ];
    };
    cursor = g.cursor;
    passes = g.passes;
    stacks = record {
      over = λ f q end. elim (eqb_tells h f) [ inr n ↦ rw (n.0) (g.stacks.over f q (rw (n.0) at end)) | inl y ↦ rw (y.0) refl ];
      most = λ f. elim (eqb_tells h f) [ inr n ↦ rw (n.0) (g.stacks.most f) | inl y ↦ rw (y.0) (inr refl) ];
    };
    pictured = pictured know z a s g (EndStack h) may;
  }

  since-grows : (set : ℕ → Bool) (o v : ℕ) → IsSince set v → IsSince (update set o true) v
  since-grows set o v h q e = elim (eqb_tells o q) [ inl y ↦ rw (y.0) refl | inr n ↦ rw (n.0) (h q e) ]

  good-place : (o size : ℕ) (pointer : ℕ → Bool) (noscan : Bool) (f d : ℕ) → Kept (Place o size pointer noscan f d)
  good-place o size pointer noscan f d may = record {
    marks = marked-again (mark_words s.words) s.colour o Black (rw (may.reserved) refl) g.marks;
    objects = record {
      placed = λ p h. elim (eqb_tells o p) [ inl y ↦ rw (← y.1) (alloc-same know.rows s.words o) | inr n ↦ alloc-other know.rows s.words o p n.1 ∙ g.objects.placed p (rw (n.0) at h) ];
      bases = λ p h. elim (eqb_tells o p) [ inl y ↦ rw (← y.1) may.base | inr n ↦ g.objects.bases p (rw (n.0) at h) ];
      of_cycle = λ p h. elim (eqb_tells o p) [ inl y ↦ rw (y.0) refl | inr n ↦ rw (n.0) (g.objects.of_cycle p (rw (n.0) at h)) ];
      shaded = λ p h. elim (eqb_tells o p) [ inl y ↦ rw (y.0) refl | inr n ↦ rw (n.0) (g.objects.shaded p (rw (n.0) at h)) ];
      grey = λ p h. elim (eqb_tells o p) [ inl y ↦ absurd (rw (y.0) at h) | inr n ↦ rw (n.0) (g.objects.grey p (rw (n.0) at h)) ];
      placing = λ p b h. elim (eqb_tells o p) [ inl y ↦ absurd (black-placing (rw (y.0) at h)) | inr n ↦ (λ e. g.objects.placing p b (rw (n.0) at h) (sym (alloc-other know.rows s.words o p n.1) ∙ e)) ];
    };
    counts = g.counts;
    entries = entries-apart (entry_words s.words) s.filled s.colour o Black (λ b j e. placing-buffered (sym may.reserved ∙ e)) (λ b j e. cc) g.entries;
    values = values-set then.extents (seen_row s.extents.base (field_words s.words)) (seen_row s.extents.base (global_words s.words)) s.registers then.known then.since f d (o + 1) since values;
    cursor = cursor-coloured know z a s g o Black (λ h. cc);
    passes = g.passes;
    stacks = stacks-set z.number (scanned_words s.words) s.registers f d (o + 1) may.goes_on g.stacks;
    pictured = pictured know z a s g (Place o size pointer noscan f d) may;
  } where
    then : Shared
    then = moved z a s (Place o size pointer noscan f d)

    since : IsSince then.since (o + 1)
    since p e = let same : o ≡ p = omega (arith, e) in elim (eqb_tells o p) [ inl y ↦ rw (y.0) refl | inr n ↦ absurd (n.1 same) ]

    none : {v : ℕ} (q : ℕ) → v ≡ q + 1 → v ≡ 0 → ⊥
    none q x y = omega (arith, x, y)

    nil : (p j : ℕ) → IsPointer then.extents p j → ((eqb o p ≡ true) × (o ≡ p)) → (q : ℕ) → seen_field s (p + j) ≡ q + 1 → ⊥
    nil p j l y q e =
        let zero : seen_field s (o + j) ≡ 0 = ap (seen_word s.extents.base) (may.clear j (rw (y.0) at l.0) (rw (y.0) at l.1)) in
        let same : seen_field s (o + j) ≡ q + 1 = rw (y.1) e in
        none q same zero

    black-placing : {b : ℕ} → Black ≡ Placing b → ⊥
    black-placing e = cc

    placing-buffered : {b j : ℕ} → Placing a ≡ Buffered b j → ⊥
    placing-buffered e = cc

    -- without the register that names it
    values : ValuesGood then.extents (seen_row s.extents.base (field_words s.words)) (seen_row s.extents.base (global_words s.words)) s.registers then.known then.since
    values = record {
      known_fields = λ p j h l q e. elim (eqb_tells o p) [
        | inl y ↦ absurd (nil p j l y q e)
        | inr n ↦ since-grows s.known o (seen_field s (p + j)) (g.values.known_fields p j (rw (n.0) at h) (rw (n.0) at l)) q e
      ];
      fields = λ p j h l q e. elim (eqb_tells o p) [
        | inl y ↦ absurd (nil p j l y q e)
        | inr n ↦ since-grows s.since o (seen_field s (p + j)) (g.values.fields p j (rw (n.0) at h) (rw (n.0) at l)) q e
      ];
      globals = λ j. since-grows s.since o (seen_global s j) (g.values.globals j);
      stacks = λ h r. since-grows s.since o (s.registers h r) (g.values.stacks h r);
    }

  good-moved : (m : Move) → Kept m
  good-moved (Quiet step) = good-quiet know z a s g step
  good-moved (Shade o) = good-shade know z a s g o
  good-moved (ShadeFlat o) = good-flat know z a s g o
  good-moved (ShadeAgain o) = good-again know z a s g o
  good-moved (TakeBuffer b) = good-take_buffer know z a s g b
  good-moved (GiveBuffer b) = good-give_buffer know z a s g b
  good-moved (Enter b o) = good-enter know z a s g b o
  good-moved (TakeEntry b o) = good-take_entry know z a s g b o
  good-moved (Blacken o) = good-blacken know z a s g o
  good-moved (PutField x v) = good-put_field know z a s g x v
  good-moved (PutGlobal i v) = good-put_global know z a s g i v
  good-moved (ClaimGlobal i) = good-claim i
  good-moved (PassGlobals i) = good-pass i
  good-moved (ReadGlobal i) = good-read i
  good-moved (ScanGlobal i v) = good-scan i v
  good-moved (SetRegister h d v) = good-set_register h d v
  good-moved (ScanStack h) = good-scan_stack h
  good-moved (EndStack h) = good-end_stack h
  good-moved (Reserve o) = good-reserve know z a s g o
  good-moved (Place o size pointer noscan f d) = good-place o size pointer noscan f d

pub each-move-keeps : Known → EachMoveKeeps
each-move-keeps know z a s m g may = good-moved know z a s g m may
