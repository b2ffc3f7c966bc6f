-- The stores of marking, behind the write barrier.
use Rattle.std.proofs.Common.{◌≡◌, ℕ, ◌+◌, ◌-◌, ◌<◌, ◌≤◌, Bool, true, false, arith, refl, sym, ap, cond, eqb, inl, inr, ◌⊎◌, subst, Option, ◌==◌, ◌&&◌, nat_lt}
use Rattle.gh_marks.proofs.Vocabulary.{Cell, Cycle, eqb_tells, global_at, Good, IsClean, IsDrawn, IsField, IsPointer, May, moved, Names, nat_tests, NilOrMarked, pointer_at, put2, PutField, PutGlobal, Row, seen_field, seen_word, Shared, Shows, stays, Tricolour}
use Rattle.gh_marks.proofs.Drawing.Reading.{clean-marked, is_pointer, lt-tells, names-made, numbered, value-field, value-global, within-fields}
use Rattle.gh_marks.proofs.Drawing.Runs.{goes-store, goes-stores, stored_to}
use Rattle.gh_marks.proofs.Drawing.Showing.{shows-still, shows-stored}

module _ (z : Cycle) (a : ℕ) (s : Shared) (at : Row) (p : Tricolour) (room : ℕ) (g : Good z s) (sh : Shows z s at p) (fits : p.objects + (room + 1) ≤ p.limit) where
  some-stack : 0 < p.stacks
  some-stack = let l = z.arena.layout.limits in omega (arith, l.goroutines_fit.0, sh.stacks)

  -- A heap word may be a field of many objects, for all that is known here; so each field that it is takes the value.
  module _ (x : ℕ) where
    abbrev hit : ℕ → Bool
    hit n = nat_lt 0 n && ((at n + (x - at n) == x) && is_pointer s.extents (at n) (x - at n))

    record IsHit (n k : ℕ) : Type 0 where
      pub pointer : IsPointer s.extents (at n) k
      pub word : at n + k ≡ x

    hit-tells : (n : ℕ) → 0 < n → ((hit n ≡ true) × IsHit n (x - at n)) ⊎ ((hit n ≡ false) × ¬ IsHit n (x - at n))
    hit-tells n some = grind (arith, nat_tests)

    module _ (value : ℕ) (may : May z a s (PutField x value)) where
      named : (v : Option ℕ) × Names at p.objects v (seen_word s.extents.base value)
      named = numbered s.known at p.objects (seen_word s.extents.base value) sh.numbers (λ o e. g.objects.of_cycle o (may.since o e))

      abbrev stored : ℕ → ℕ → Option ℕ
      stored = stored_to p 0 named.0 some-stack (names-made z s at p sh named.0 (seen_word s.extents.base value) named.1) (clean-marked z s at p sh g.marks named.0 (seen_word s.extents.base value) named.1 may.new) sh.reads hit (λ n. x - at n) p.objects

      may-store : (n : ℕ) → n < p.objects → hit n ≡ true → IsField p n (x - at n) × NilOrMarked p (p.value n (x - at n))
      may-store n below h = elim (lt-tells 0 n) [
        | inr none ↦ absurd (two (ap (λ b. b && ((at n + (x - at n) == x) && is_pointer s.extents (at n) (x - at n))) none.0) h)
        | inl some ↦ elim (hit-tells n some.1) [
          | inr t ↦ absurd (two t.0 h)
          | inl t ↦ (
            record { made = below; within = within-fields z s at p sh n (x - at n) some.1 below t.1.pointer },
            clean-marked z s at p sh g.marks (p.value n (x - at n)) _ (value-field z s at p sh n (x - at n) some.1 below t.1.pointer)
                (subst (λ y. IsClean s.colour (seen_field s y)) (sym t.1.word) may.old),
          )
        ]
      ] where
        two : {b : Bool} → b ≡ false → b ≡ true → ⊥
        two e f = cc

      stored-globals : (i : ℕ) → Names at p.objects (stored 0 i) (global_at z s i)
      stored-globals i = grind arith

      stored-fields : (n k : ℕ) → 0 < n → n < p.objects → Names at p.objects (stored n k) (pointer_at (moved z a s (PutField x value)) (at n) k)
      stored-fields n k some below = grind (arith, nat_tests)

      pub put_field-drawn : IsDrawn z (moved z a s (PutField x value)) p room
      put_field-drawn = record {
        picture = record p { value = stored };
        at = at;
        goes = goes-stores p 0 named.0 some-stack (names-made z s at p sh named.0 (seen_word s.extents.base value) named.1) (clean-marked z s at p sh g.marks named.0 (seen_word s.extents.base value) named.1 may.new) sh.reads hit (λ n. x - at n) may-store p.objects (omega arith);
        shows = shows-stored z s at p sh (moved z a s (PutField x value)).words stored stored-globals (λ h. refl) stored-fields;
        room_left = omega arith;
      }

  module _ (i value : ℕ) (may : May z a s (PutGlobal i value)) where
    named_global : (v : Option ℕ) × Names at p.objects v (seen_word s.extents.base value)
    named_global = numbered s.known at p.objects (seen_word s.extents.base value) sh.numbers (λ o e. g.objects.of_cycle o (may.since o e))

    -- no global of the layout
    past : z.arena.layout.globals ≤ i → IsDrawn z (moved z a s (PutGlobal i value)) p room
    past le = record {
      picture = p;
      at = at;
      goes = stays;
      shows = shows-still z s at p sh (moved z a s (PutGlobal i value)).words s.colour s.filled s.progress s.passed (λ q k j l. refl) same (λ h. refl) (λ q known. refl) (λ j. refl);
      room_left = omega arith;
    } where
      same : (j : ℕ) → j < z.arena.layout.globals → cond (eqb i j) value (s.words (Cell.Global j)) ≡ s.words (Cell.Global j)
      same j l = elim (eqb_tells i j) [ inl y ↦ absurd (omega (arith, y.1)) | inr n ↦ rw (n.0) refl ]

    put-globals : i < z.arena.layout.globals → (j : ℕ) → Names at p.objects (put2 p.value 0 i named_global.0 0 j) (global_at z (moved z a s (PutGlobal i value)) j)
    put-globals l j = elim (eqb_tells i j) [ inl y ↦ rw (y.0, below y.1) named_global.1 | inr n ↦ rw (n.0) (sh.globals j) ] where
      below : i ≡ j → nat_lt j z.arena.layout.globals ≡ true
      below e = elim (lt-tells j z.arena.layout.globals) [ inl t ↦ t.0 | inr t ↦ absurd (omega (arith, l, e, t.1)) ]

    put-fields : (n k : ℕ) → 0 < n → n < p.objects → Names at p.objects (put2 p.value 0 i named_global.0 n k) (pointer_at s (at n) k)
    put-fields n k some below = grind (arith, nat_tests)

    pub put_global-drawn : IsDrawn z (moved z a s (PutGlobal i value)) p room
    put_global-drawn = elim (lt-tells i z.arena.layout.globals) [
      | inr t ↦ past t.1
      | inl t ↦ record {
        picture = record p { value = put2 p.value 0 i named_global.0 };
        at = at;
        goes = goes-store p 0 named_global.0 some-stack (names-made z s at p sh named_global.0 (seen_word s.extents.base value) named_global.1) (clean-marked z s at p sh g.marks named_global.0 (seen_word s.extents.base value) named_global.1 may.new) sh.reads 0 i
            (record { made = sh.numbers.some; within = within t.1 }) (clean-marked z s at p sh g.marks (p.value 0 i) _ (value-global z s at p sh i t.1) may.old);
        shows = shows-stored z s at p sh (moved z a s (PutGlobal i value)).words (put2 p.value 0 i named_global.0) (put-globals t.1) (λ h. refl) put-fields;
        room_left = omega arith;
      }
    ] where
      within : i < z.arena.layout.globals → i < p.fields
      within l = omega (arith, sh.globals_fit)
