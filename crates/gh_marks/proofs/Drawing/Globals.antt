-- The scan of a global. Once all are scanned the globals are black in the picture.
use Rattle.std.proofs.Common.{◌≡◌, ℕ, zero, suc, ◌+◌, ◌<◌, ◌≤◌, Bool, true, false, arith, refl, sym, ◌∙◌, ap, inl, inr, ◌⊎◌, subst, None}
use Rattle.gh_marks.proofs.Vocabulary.{cases_lt, Cycle, eqb_tells, Good, is_scanned, IsClean, IsDrawn, May, moved, NilOrMarked, Progress, put1, put2, Row, ScanGlobal, Scanned, seen_global, Shared, Shows, stays, Tricolour, update}
use Rattle.gh_tri.specs.declared.Colour.{Colour}
use Rattle.gh_marks.proofs.Drawing.Reading.{clean-marked, global-none, named-nothing, value-global}
use Rattle.gh_marks.proofs.Drawing.Runs.{filled-at, filled_to, goes-black, goes-scanned}
use Rattle.gh_marks.proofs.Drawing.Saying.{the-picture-says}

-- each of the first n is true, or one is not
bounded : (test : ℕ → Bool) (n : ℕ) → ((k : ℕ) → k < n → test k ≡ true) ⊎ ((k : ℕ) × (k < n) × (test k ≡ false))
bounded test zero = inl (λ k l. absurd (omega arith))
bounded test (suc n) = go (bounded test n) (test n) refl where
  more : ((k : ℕ) → k < n → test k ≡ true) → test n ≡ true → (k : ℕ) → k < suc n → test k ≡ true
  more all last k l = elim (cases_lt k n) [ inl below ↦ all k below | inr le ↦ (let same : n ≡ k = omega arith in ap test (sym same) ∙ last) ]

  go : ((k : ℕ) → k < n → test k ≡ true) ⊎ ((k : ℕ) × (k < n) × (test k ≡ false)) → (b : Bool) → test n ≡ b → ((k : ℕ) → k < suc n → test k ≡ true) ⊎ ((k : ℕ) × (k < suc n) × (test k ≡ false))
  go (inr some) b e = inr (some.0, less some.1, some.2) where
    less : some.0 < n → some.0 < suc n
    less l = omega arith
  go (inl all) true e = inl (more all e)
  go (inl all) false e = inr (n, omega arith, e)

module _ (z : Cycle) (a : ℕ) (s : Shared) (at : Row) (p : Tricolour) (room : ℕ) (g : Good z s) (sh : Shows z s at p) (fits : p.objects + (room + 1) ≤ p.limit) (i value : ℕ) (may : May z a s (ScanGlobal i value)) where
  two : {b : Bool} → b ≡ false → b ≡ true → ⊥
  two e f = cc

  -- a global that is not scanned behind the move was not before
  was-waiting : (j : ℕ) → is_scanned (update s.progress i Scanned j) ≡ false → is_scanned (s.progress j) ≡ false
  was-waiting j e = elim (eqb_tells i j) [ inl y ↦ absurd (two (rw (y.0) at e) refl) | inr n ↦ rw (n.0) at e ]

  is-scanned : (progress : Progress) → is_scanned progress ≡ true → progress ≡ Scanned
  is-scanned progress e = grind arith

  within : (f : ℕ) → f < z.arena.layout.globals → f < p.fields
  within f l = omega (arith, sh.globals_fit)

  clean-global : (f : ℕ) → f < z.arena.layout.globals → IsClean s.colour (seen_global s f) → NilOrMarked p (p.value 0 f)
  clean-global f l clean = clean-marked z s at p sh g.marks (p.value 0 f) _ (value-global z s at p sh f l) clean

  -- some global is left
  module _ (k : ℕ) (below : k < z.arena.layout.globals) (left : is_scanned (update s.progress i Scanned k) ≡ false) where
    some-left : i < z.arena.layout.globals → IsDrawn z (moved z a s (ScanGlobal i value)) p room
    some-left l = record {
      picture = record p { scanned = put2 p.scanned 0 i true };
      at = at;
      goes = goes-scanned p p stays 0 i (record { made = sh.numbers.some; within = within i l }) (clean-global i l may.1);
      shows = record {
        numbers = sh.numbers;
        stacks = sh.stacks;
        globals_fit = sh.globals_fit;
        objects_fit = sh.objects_fit;
        sizes = sh.sizes;
        colours = sh.colours;
        waits = λ j l' e. sh.waits j l' (was-waiting j e);
        all_scanned = λ h. absurd (two left (h k below));
        scanned = λ j l'. elim (eqb_tells i j) [ inl y ↦ rw (y.0) refl | inr n ↦ rw (n.0) (sh.scanned j l') ];
        globals = sh.globals;
        fields = sh.fields;
        registers = sh.registers;
        seen = sh.seen;
        reads = sh.reads;
      };
      room_left = omega arith;
    }

  -- all are scanned
  module _ (all : (k : ℕ) → k < z.arena.layout.globals → is_scanned (update s.progress i Scanned k) ≡ true) where
    clean : (f : ℕ) → f < p.fields → NilOrMarked p (p.value 0 f)
    clean f l = elim (cases_lt f z.arena.layout.globals) [
      | inr le ↦ (λ w e. let none : p.value 0 f ≡ None = named-nothing at p.objects (p.value 0 f) _ (sh.globals f) (global-none z s f le) in cc)
      | inl below ↦ elim (eqb_tells i f) [
        | inl y ↦ clean-global f below (subst (λ j. IsClean s.colour (seen_global s j)) y.1 may.1)
        | inr n ↦ clean-global f below ((the-picture-says z s g).globals f below (is-scanned (s.progress f) (rw (n.0) at (all f below))))
      ]
    ]

    all-done : IsDrawn z (moved z a s (ScanGlobal i value)) p room
    all-done = record {
      picture = record p { colour = put1 p.colour 0 Colour.Black; scanned = filled_to true p.scanned 0 p.fields };
      at = at;
      goes = goes-black p 0 sh.numbers.some clean;
      shows = record {
        numbers = sh.numbers;
        stacks = sh.stacks;
        globals_fit = sh.globals_fit;
        objects_fit = sh.objects_fit;
        sizes = sh.sizes;
        colours = λ n some below. other n some ∙ sh.colours n some below;
        waits = λ j l e. absurd (two e (all j l));
        all_scanned = λ h. refl;
        scanned = λ j l. filled-at true p.scanned 0 p.fields j (within j l) ∙ sym (all j l);
        globals = sh.globals;
        fields = sh.fields;
        registers = sh.registers;
        seen = sh.seen;
        reads = sh.reads;
      };
      room_left = omega arith;
    } where
      other : (n : ℕ) → 0 < n → put1 p.colour 0 Colour.Black n ≡ p.colour n
      other n some = elim (eqb_tells 0 n) [ inl y ↦ absurd (omega (arith, y.1)) | inr x ↦ rw (x.0) refl ]

  -- what is no global of the layout is nothing in the picture
  past : z.arena.layout.globals ≤ i → Shows z (moved z a s (ScanGlobal i value)) at p
  past le = record { numbers = grind arith; stacks = grind arith; globals_fit = grind arith; objects_fit = grind arith; sizes = grind arith; colours = grind arith; waits = grind arith; all_scanned = grind arith; scanned = grind arith; globals = grind arith; fields = grind arith; registers = grind arith; seen = grind arith; reads = grind arith }

  pub scan_global-drawn : IsDrawn z (moved z a s (ScanGlobal i value)) p room
  scan_global-drawn = elim (bounded (λ k. is_scanned (update s.progress i Scanned k)) z.arena.layout.globals) [
    | inl all ↦ all-done all
    | inr some ↦ elim (cases_lt i z.arena.layout.globals) [
      | inl l ↦ some-left some.0 some.1 some.2 l
      | inr le ↦ record { picture = p; at = at; goes = stays; shows = past le; room_left = omega arith }
    ]
  ]
