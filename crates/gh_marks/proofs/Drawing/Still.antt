-- The moves of marking that are no move of the picture.
use Rattle.std.proofs.Common.{◌≡◌, ℕ, ◌+◌, ◌-◌, ◌≤◌, true, arith, refl, sym, ◌∙◌, ap, inl, inr}
use Rattle.gh_marks.proofs.Vocabulary.{Buffered, Claimed, ClaimGlobal, Colour, Cycle, Enter, eqb_tells, GiveBuffer, Good, is_scanned, IsDrawn, May, Move, moved, PassGlobals, Placing, Progress, Quiet, Read, ReadGlobal, Reserve, Row, seen_global, shade_of, ShadeAgain, Shared, Shows, stays, TakeBuffer, TakeEntry, Taken, Tricolour, Untouched, update}
use Rattle.gh_marks.proofs.Drawing.Showing.{shows-still}
use Rattle.gh_marks.proofs.Quiet.{ReadRows, Unread, unread}

module _ (z : Cycle) (a : ℕ) (s : Shared) (at : Row) (p : Tricolour) (room : ℕ) (g : Good z s) (sh : Shows z s at p) (fits : p.objects + (room + 1) ≤ p.limit) where
  abbrev pub Drawn : Move → Type 0
  Drawn m = May z a s m → IsDrawn z (moved z a s m) p room

  -- the picture stays
  pub stays-drawn : (t : Shared) → Shows z t at p → IsDrawn z t p room
  stays-drawn t shows = record { picture = p; at = at; goes = stays; shows = shows; room_left = omega arith }

  -- an object keeps its shade
  same-shade : (o : ℕ) (c : Colour) → shade_of c ≡ shade_of (s.colour o) → (q : ℕ) → shade_of (update s.colour o c q) ≡ shade_of (s.colour q)
  same-shade o c e q = elim (eqb_tells o q) [ inl y ↦ rw (y.0) (e ∙ ap (λ x. shade_of (s.colour x)) y.1) | inr n ↦ rw (n.0) refl ]

  -- a global stays unscanned
  same-progress : (i : ℕ) (v : Progress) → is_scanned v ≡ is_scanned (s.progress i) → (j : ℕ) → is_scanned (update s.progress i v j) ≡ is_scanned (s.progress j)
  same-progress i v e j = elim (eqb_tells i j) [ inl y ↦ rw (y.0) (e ∙ ap (λ x. is_scanned (s.progress x)) y.1) | inr n ↦ rw (n.0) refl ]

  pub quiet-drawn : (step : _) → Drawn (Quiet step)
  quiet-drawn step may = let u : Unread s (moved z a s (Quiet step)).words = unread s step may in
      stays-drawn (moved z a s (Quiet step)) (shows-still z s at p sh (moved z a s (Quiet step)).words s.colour s.filled s.progress s.passed u.fields
      (λ i l. ap (λ (r : ReadRows). r.global i) u.rows_are) (λ h. ap (λ (r : ReadRows). r.scanned h) u.rows_are) (λ o known. refl) (λ i. refl))

  pub again-drawn : (o : ℕ) → Drawn (ShadeAgain o)
  again-drawn o may = let t = moved z a s (ShadeAgain o) in
      stays-drawn t (shows-still z s at p sh t.words s.colour s.filled s.progress s.passed (λ q k i l. refl) (λ i l. refl) (λ h. refl) (λ q known. refl) (λ i. refl))

  pub take_buffer-drawn : (b : ℕ) → Drawn (TakeBuffer b)
  take_buffer-drawn b may = let t = moved z a s (TakeBuffer b) in
      stays-drawn t (shows-still z s at p sh t.words s.colour s.filled s.progress s.passed (λ q k i l. refl) (λ i l. refl) (λ h. refl) (λ q known. refl) (λ i. refl))

  pub give_buffer-drawn : (b : ℕ) → Drawn (GiveBuffer b)
  give_buffer-drawn b may = let t = moved z a s (GiveBuffer b) in
      stays-drawn t (shows-still z s at p sh t.words s.colour s.filled s.progress s.passed (λ q k i l. refl) (λ i l. refl) (λ h. refl) (λ q known. refl) (λ i. refl))

  pub enter-drawn : (b o : ℕ) → Drawn (Enter b o)
  enter-drawn b o may = let t = moved z a s (Enter b o) in
      stays-drawn t (shows-still z s at p sh t.words t.colour t.filled s.progress s.passed (λ q k i l. refl) (λ i l. refl) (λ h. refl)
      (λ q known. same-shade o (Buffered b (s.filled b)) (sym (ap shade_of may.pending)) q) (λ i. refl))

  pub take_entry-drawn : (b o : ℕ) → Drawn (TakeEntry b o)
  take_entry-drawn b o may =
      let t = moved z a s (TakeEntry b o) in
      let was : s.colour o ≡ Buffered b (s.filled b - 1) = g.entries.entered b (s.filled b - 1) o (omega (arith, may.some)) may.entry in
      stays-drawn t (shows-still z s at p sh s.words t.colour t.filled s.progress s.passed (λ q k i l. refl) (λ i l. refl) (λ h. refl)
      (λ q known. same-shade o (Taken a) (sym (ap shade_of was)) q) (λ i. refl))

  pub claim-drawn : (i : ℕ) → Drawn (ClaimGlobal i)
  claim-drawn i may =
      let t = moved z a s (ClaimGlobal i) in
      let was : s.progress i ≡ Untouched = g.cursor.ahead i may.1 (omega (arith, may.0)) in
      stays-drawn t (shows-still z s at p sh t.words s.colour s.filled t.progress s.passed (λ q k i l. refl) (λ i l. refl) (λ h. refl) (λ q known. refl)
      (λ j. same-progress i (Claimed a) (sym (ap is_scanned was)) j))

  pub pass-drawn : (i : ℕ) → Drawn (PassGlobals i)
  pass-drawn i may = let t = moved z a s (PassGlobals i) in
      stays-drawn t (shows-still z s at p sh t.words s.colour s.filled s.progress t.passed (λ q k i l. refl) (λ i l. refl) (λ h. refl) (λ q known. refl) (λ i. refl))

  pub read-drawn : (i : ℕ) → Drawn (ReadGlobal i)
  read-drawn i may = let t = moved z a s (ReadGlobal i) in
      stays-drawn t (shows-still z s at p sh s.words s.colour s.filled t.progress s.passed (λ q k i l. refl) (λ i l. refl) (λ h. refl) (λ q known. refl)
      (λ j. same-progress i (Read a (seen_global s i)) (sym (ap is_scanned may)) j))

  -- what is not placed is not known
  pub reserve-drawn : (o : ℕ) → Drawn (Reserve o)
  reserve-drawn o may = let t = moved z a s (Reserve o) in
      stays-drawn t (shows-still z s at p sh t.words t.colour s.filled s.progress s.passed (λ q k i l. refl) (λ i l. refl) (λ h. refl) shade (λ i. refl)) where
        shade : (q : ℕ) → s.known q ≡ true → shade_of (update s.colour o (Placing a) q) ≡ shade_of (s.colour q)
        shade q known = elim (eqb_tells o q) [ inl y ↦ absurd (may.empty (rw (y.1) (g.objects.placed q known))) | inr n ↦ rw (n.0) refl ]
