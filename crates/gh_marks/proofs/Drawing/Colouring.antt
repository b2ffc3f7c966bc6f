-- The moves of marking that colour an object.
use Rattle.std.proofs.Common.{◌≡◌, ◌≢◌, ℕ, ◌+◌, ◌<◌, ◌≤◌, true, arith, refl, sym, ◌∙◌, ap, inl, inr, subst, Some, None}
use Rattle.gh_marks.proofs.Vocabulary.{Black, Blacken, Cycle, Goes, Good, IsClean, IsDrawn, IsPointer, mark_words, May, Move, moved, moves, NilOrMarked, Pending, put1, Row, seen_field, shade_of, shaded, ShadeFlat, Shades, Shared, Shows, stays, Tricolour, update, White}
use Rattle.gh_tri.specs.declared.Colour.{Colour as Shade, Colour}
use Rattle.gh_tri.specs.declared.Move.TheVariants as tri
use Rattle.gh_marks.proofs.Bits.{two-ways, white-colour}
use Rattle.gh_marks.proofs.Drawing.Reading.{clean-marked, named-nothing, pointer-none, pointer-tells, value-field}
use Rattle.gh_marks.proofs.Drawing.Runs.{filled-other, filled_to, goes-black}
use Rattle.gh_marks.proofs.Drawing.Showing.{shows-coloured, shows-still}

-- a white object is shaded
white-shaded : (colour : ℕ → Shade) (n : ℕ) → colour n ≡ Colour.White → shaded colour (Some n) ≡ put1 colour n Colour.Grey
white-shaded colour n white = grind arith

module _ (z : Cycle) (a : ℕ) (s : Shared) (at : Row) (p : Tricolour) (room : ℕ) (g : Good z s) (sh : Shows z s at p) (fits : p.objects + (room + 1) ≤ p.limit) where
  abbrev Drawn : Move → Type 0
  Drawn m = May z a s m → IsDrawn z (moved z a s m) p room

  pub shade-drawn : (o : ℕ) → Drawn (Shades o)
  shade-drawn o may =
      let n = sh.numbers.all o (g.objects.of_cycle o may.0.since) in
      let t = moved z a s (Shades o) in
      let was : s.colour o ≡ White = white-colour (mark_words s.words) s.colour g.marks o may.0.white in
      record {
        picture = record p { colour = put1 p.colour n.0 Colour.Grey };
        at = at;
        goes = subst (λ (c : ℕ → Shade). Goes p (record p { colour = c })) (white-shaded p.colour n.0 (sh.colours n.0 n.1 n.2 ∙ ap shade_of (ap s.colour n.3 ∙ was))) (moves p (tri.Shade n.0) stays n.2);
        shows = shows-coloured z (record s { words = t.words }) at p
            (shows-still z s at p sh t.words s.colour s.filled s.progress s.passed (λ q k i l. refl) (λ i l. refl) (λ h. refl) (λ q known. refl) (λ i. refl))
            o (Pending a) n.0 p.scanned n.1 n.2 n.3 (λ i. refl);
        room_left = omega arith;
      }

  -- each field is scanned, and the object is black
  blacken : (t : Shared) (o : ℕ) → Shows z t at p → s.known o ≡ true → t.known ≡ s.known → ((n : ℕ) → 0 < n → n < p.objects → at n ≡ o → (f : ℕ) → f < p.fields → NilOrMarked p (p.value n f)) → IsDrawn z (record t { colour = update t.colour o Black }) p room
  blacken t o shows known same clean =
      let n = sh.numbers.all o known in
      record {
        picture = record p { colour = put1 p.colour n.0 Colour.Black; scanned = filled_to true p.scanned n.0 p.fields };
        at = at;
        goes = goes-black p n.0 n.2 (clean n.0 n.1 n.2 n.3);
        shows = shows-coloured z t at p shows o Black n.0 (filled_to true p.scanned n.0 p.fields) n.1 n.2 n.3 (λ i. filled-other true p.scanned n.0 p.fields 0 i (other n.0 n.1));
        room_left = omega arith;
      } where
        other : (n : ℕ) → 0 < n → n ≢ 0
        other n some e = omega arith

  -- an object without pointer fields
  pub flat-drawn : (o : ℕ) → Drawn (ShadeFlat o)
  flat-drawn o may = let t = moved z a s (ShadeFlat o) in
      blacken (record s { words = t.words }) o
      (shows-still z s at p sh t.words s.colour s.filled s.progress s.passed (λ q k i l. refl) (λ i l. refl) (λ h. refl) (λ q known. refl) (λ i. refl))
      (g.objects.of_cycle o may.0.since) refl clean where
        flat : (n f : ℕ) → at n ≡ o → ¬ IsPointer s.extents (at n) f
        flat n f e l = two-ways (ap s.extents.noscan e ∙ may.1) l.2

        clean : (n : ℕ) → 0 < n → n < p.objects → at n ≡ o → (f : ℕ) → f < p.fields → NilOrMarked p (p.value n f)
        clean n some below e f l w x =
            let none : p.value n f ≡ None = named-nothing at p.objects (p.value n f) _ (sh.fields n f some below) (pointer-none s (at n) f (flat n f e)) in cc

  pub blacken-drawn : (o : ℕ) → Drawn (Blacken o)
  blacken-drawn o may = blacken s o sh (g.objects.of_cycle o (g.objects.shaded o (rw (may.0) tt))) refl clean where
    clean : (n : ℕ) → 0 < n → n < p.objects → at n ≡ o → (f : ℕ) → f < p.fields → NilOrMarked p (p.value n f)
    clean n some below e f l = elim (pointer-tells s.extents (at n) f) [
      | inl y ↦ clean-marked z s at p sh g.marks (p.value n f) _ (value-field z s at p sh n f some below y.1)
          (subst (λ x. IsClean s.colour (seen_field s (x + f))) (sym e) (may.1 f (subst (λ x. IsPointer s.extents x f) e y.1)))
      | inr x ↦ (λ w h. let none : p.value n f ≡ None = named-nothing at p.objects (p.value n f) _ (sh.fields n f some below) (pointer-none s (at n) f x.1) in cc)
    ]
