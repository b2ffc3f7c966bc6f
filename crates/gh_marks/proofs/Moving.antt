-- Each move keeps what holds at every moment.
use Rattle.std.proofs.Common.{◌≡◌, ◌≢◌, ℕ, ◌+◌, ◌-◌, arith, refl, sym, ap, ◌∙◌, inl, inr, subst}
use Rattle.gh_marks.proofs.Vocabulary.{alloc_words, AreCounted, Black, Blacken, Buffered, buffers_as_held, BuffersAreHeld, Cell, Colour, CursorGood, Cycle, EachStepKeepsTheInvariants, Enter, EntriesGood, entry_words, eqb_tells, GiveBuffer, global_words, Good, IsDrawn, IsPictured, IsSince, mark_of, mark_words, MarksGood, May, MayShade, Move, moved, nat_tests, ObjectsGood, PassesGood, Pending, Placing, PutField, PutGlobal, Quiet, Reserve, RowsAreWritten, seats_of, seen_row, seen_word, set_mark, Shade, ShadeAgain, ShadeFlat, Shared, StacksGood, TakeBuffer, TakeEntry, Taken, update, White}
use Rattle.gh_base.specs.Holding as holding
use Rattle.gh_marks.proofs.Bits.{colours-grow, marked-again, marked-set, marked-still, white-colour}
use Rattle.gh_marks.proofs.Drawing.Moving.{each-move-is-drawn}
use Rattle.gh_marks.proofs.Keeps.{cursor-grows, entries-apart, objects-coloured, objects-shaded}
use Rattle.gh_marks.proofs.Quiet.{ReadRows, Unread, unread}

-- what the laws of gh_base say
pub record Known : Type 0 where
  pub rows : RowsAreWritten
  pub held : BuffersAreHeld
  -- and that of gh_tri
  pub steps : EachStepKeepsTheInvariants

module _ (know : Known) (z : Cycle) (a : ℕ) (s : Shared) (g : Good z s) where
  abbrev Kept : Move → Type 0
  Kept m = May z a s m → Good z (moved z a s m)

  -- the move is drawn from a picture of the state, with room for one object more; and moves of the picture keep its invariants
  pub pictured : (m : Move) → May z a s m → (room : ℕ) → IsPictured z (moved z a s m) room
  pictured m may room =
      let p : IsPictured z s (room + 1) = g.pictured (room + 1) in
      let d : IsDrawn z (moved z a s m) p.picture room = each-move-is-drawn z a s m p.at p.picture room g may p.shows p.room_left in
      record { picture = d.picture; at = d.at; shows = d.shows; invariants = know.steps p.picture d.picture d.goes p.invariants; room_left = d.room_left }

  counts : (m : holding.Move) → holding.May a (buffers_as_held s.words s.filled) m → AreCounted (holding.moved a (buffers_as_held s.words s.filled) m)
  counts m may = (know.held.keep a (buffers_as_held s.words s.filled) m g.counts may).counted

  pub good-quiet : (step : _) → Kept (Quiet step)
  good-quiet step may = record {
    marks = subst (λ (r : ReadRows). MarksGood r.mark s.colour) (sym u.rows_are) g.marks;
    objects = subst (λ (r : ReadRows). ObjectsGood r.alloc s.colour s.known s.since s.extents) (sym u.rows_are) g.objects;
    counts = subst (λ (r : ReadRows). AreCounted (record { words = r.buffer; entries = r.entry; filled = s.filled })) (sym u.rows_are) g.counts;
    entries = subst (λ (r : ReadRows). EntriesGood r.entry s.filled s.colour) (sym u.rows_are) g.entries;
    values = record {
      known_fields = λ o k i l p e. g.values.known_fields o k i l p (sym (ap (seen_word s.extents.base) (u.fields o k i l)) ∙ e);
      fields = λ o k i l p e. g.values.fields o k i l p (sym (ap (seen_word s.extents.base) (u.fields o k (g.objects.of_cycle o i) l)) ∙ e);
      globals = subst (λ (r : ReadRows). (i : ℕ) → IsSince s.since (seen_word s.extents.base (r.global i))) (sym u.rows_are) g.values.globals;
      stacks = g.values.stacks;
    };
    cursor = subst (λ (r : ReadRows). CursorGood z.arena.layout.globals r.gcur (seen_row s.extents.base r.global) s.progress s.colour) (sym u.rows_are) g.cursor;
    passes = subst (λ (r : ReadRows). PassesGood z.arena.layout.globals (seats_of z.arena.layout) r.gcur s.passed) (sym u.rows_are) g.passes;
    stacks = subst (λ (r : ReadRows). StacksGood z.number r.scanned s.registers) (sym u.rows_are) g.stacks;
    pictured = pictured (Quiet step) may;
  } where
    u : Unread s (moved z a s (Quiet step)).words
    u = unread s step may

  pub cursor-coloured : (o : ℕ) (c : Colour) → c ≢ White → CursorGood z.arena.layout.globals (s.words Cell.Gcur) (seen_row s.extents.base (global_words s.words)) s.progress (update s.colour o c)
  cursor-coloured o c h = cursor-grows z.arena.layout.globals (s.words Cell.Gcur) (seen_row s.extents.base (global_words s.words)) s.progress s.colour (update s.colour o c) (colours-grow s.colour o c h) g.cursor

  -- a mark bit is set
  set : (o : ℕ) (c : Colour) → s.colour o ≡ White → mark_of c ≡ 1 → ((b j : ℕ) → c ≢ Buffered b j) → ObjectsGood (alloc_words s.words) (update s.colour o c) s.known s.since s.extents →
      ((room : ℕ) → IsPictured z (record s { words = set_mark s.words o; colour = update s.colour o c }) room) → Good z (record s { words = set_mark s.words o; colour = update s.colour o c })
  set o c white one nb objects pictured = record {
    marks = marked-set know.rows s.words o s.colour c one g.marks;
    objects = objects;
    counts = g.counts;
    entries = entries-apart (entry_words s.words) s.filled s.colour o c (λ b j e. white-buffered (sym white ∙ e)) nb g.entries;
    values = g.values;
    cursor = cursor-coloured o c (λ e. marked-white one e);
    passes = g.passes;
    stacks = g.stacks;
    pictured = pictured;
  } where
    white-buffered : {b j : ℕ} → White ≡ Buffered b j → ⊥
    white-buffered e = cc

    marked-white : mark_of c ≡ 1 → c ≡ White → ⊥
    marked-white h e = let none : mark_of c ≡ 0 = rw e refl in omega (arith, h, none)

  white-of : (o : ℕ) → MayShade s o → s.colour o ≡ White
  white-of o may = white-colour (mark_words s.words) s.colour g.marks o may.white

  pub good-shade : (o : ℕ) → Kept (Shade o)
  good-shade o may = set o (Pending a) (white-of o may.0) refl (λ b j e. cc)
      (objects-shaded (alloc_words s.words) s.colour s.known s.since s.extents o (Pending a) may.0.since tt (λ h. may.1) g.objects) (pictured (Shade o) may)

  pub good-flat : (o : ℕ) → Kept (ShadeFlat o)
  good-flat o may = set o Black (white-of o may.0) refl (λ b j e. cc)
      (objects-shaded (alloc_words s.words) s.colour s.known s.since s.extents o Black may.0.since tt (λ h. absurd h) g.objects) (pictured (ShadeFlat o) may)

  pub good-reserve : (o : ℕ) → Kept (Reserve o)
  good-reserve o may = set o (Placing a) may.white refl (λ b j e. cc)
      (objects-coloured (alloc_words s.words) s.colour s.known s.since s.extents o (Placing a) (λ h. absurd h) (λ h. absurd h) (λ c e. may.empty) g.objects) (pictured (Reserve o) may)

  pub good-again : (o : ℕ) → Kept (ShadeAgain o)
  good-again o may = record {
    marks = marked-still know.rows s.words o s.colour may g.marks;
    objects = g.objects;
    counts = g.counts;
    entries = g.entries;
    values = g.values;
    cursor = g.cursor;
    passes = g.passes;
    stacks = g.stacks;
    pictured = pictured (ShadeAgain o) may;
  }

  pub good-take_buffer : (b : ℕ) → Kept (TakeBuffer b)
  good-take_buffer b may = record { marks = g.marks; objects = g.objects; counts = counts (holding.TakesBuffer b) may; entries = g.entries; values = g.values; cursor = g.cursor; passes = g.passes; stacks = g.stacks; pictured = pictured (TakeBuffer b) may }

  pub good-give_buffer : (b : ℕ) → Kept (GiveBuffer b)
  good-give_buffer b may = record { marks = g.marks; objects = g.objects; counts = counts (holding.GivesBuffer b) may; entries = g.entries; values = g.values; cursor = g.cursor; passes = g.passes; stacks = g.stacks; pictured = pictured (GiveBuffer b) may }

  pub good-enter : (b o : ℕ) → Kept (Enter b o)
  good-enter b o may = record {
    marks = marked-again (mark_words s.words) s.colour o (Buffered b (s.filled b)) (rw (may.pending) refl) g.marks;
    objects = objects-shaded (alloc_words s.words) s.colour s.known s.since s.extents o (Buffered b (s.filled b)) (g.objects.shaded o (rw (may.pending) tt)) tt (λ h. g.objects.grey o (rw (may.pending) tt)) g.objects;
    counts = counts (holding.PutsEntry b (o + 1)) (may.held, may.room);
    entries = record {
      some = λ c k h. grind (arith, nat_tests, g.entries.some c k);
      entered = λ c k p h e. grind (arith, nat_tests, g.entries.entered c k p, may.pending);
      buffered = λ p c k h. grind (arith, nat_tests, g.entries.buffered p c k);
    };
    values = g.values;
    cursor = cursor-coloured o (Buffered b (s.filled b)) (λ h. cc);
    passes = g.passes;
    stacks = g.stacks;
    pictured = pictured (Enter b o) may;
  }

  pub good-take_entry : (b o : ℕ) → Kept (TakeEntry b o)
  good-take_entry b o may =
      let was : s.colour o ≡ Buffered b (s.filled b - 1) = g.entries.entered b (s.filled b - 1) o (omega (arith, may.some)) may.entry in
      record {
        marks = marked-again (mark_words s.words) s.colour o (Taken a) (rw was refl) g.marks;
        objects = objects-shaded (alloc_words s.words) s.colour s.known s.since s.extents o (Taken a) (g.objects.shaded o (rw was tt)) tt (λ h. g.objects.grey o (rw was tt)) g.objects;
        counts = counts (holding.TakesEntry b) (may.held, may.some);
        entries = record {
          some = λ c k h. grind (arith, nat_tests, g.entries.some c k);
          entered = λ c k p h e. grind (arith, nat_tests, g.entries.entered c k p, was, may.some);
          buffered = λ p c k h. grind (arith, nat_tests, g.entries.buffered p c k, may.entry);
        };
        values = g.values;
        cursor = cursor-coloured o (Taken a) (λ h. cc);
        passes = g.passes;
        stacks = g.stacks;
        pictured = pictured (TakeEntry b o) may;
      }

  pub good-blacken : (o : ℕ) → Kept (Blacken o)
  good-blacken o may = record {
    marks = marked-again (mark_words s.words) s.colour o Black (rw (may.0) refl) g.marks;
    objects = objects-shaded (alloc_words s.words) s.colour s.known s.since s.extents o Black (g.objects.shaded o (rw (may.0) tt)) tt (λ h. absurd h) g.objects;
    counts = g.counts;
    entries = entries-apart (entry_words s.words) s.filled s.colour o Black (λ b j e. taken-buffered (sym may.0 ∙ e)) (λ b j e. cc) g.entries;
    values = g.values;
    cursor = cursor-coloured o Black (λ h. cc);
    passes = g.passes;
    stacks = g.stacks;
    pictured = pictured (Blacken o) may;
  } where
    taken-buffered : {b j : ℕ} → Taken a ≡ Buffered b j → ⊥
    taken-buffered e = cc

  pub good-put_field : (x v : ℕ) → Kept (PutField x v)
  good-put_field x v may = record {
    marks = g.marks;
    objects = g.objects;
    counts = g.counts;
    entries = g.entries;
    values = record {
      known_fields = λ p j h l q e. elim (eqb_tells x (p + j)) [ inr n ↦ g.values.known_fields p j h l q (rw (n.0) at e) | inl y ↦ g.objects.of_cycle q (may.since q (rw (y.0) at e)) ];
      fields = λ p j h l q e. elim (eqb_tells x (p + j)) [ inr n ↦ g.values.fields p j h l q (rw (n.0) at e) | inl y ↦ may.since q (rw (y.0) at e) ];
      globals = g.values.globals;
      stacks = g.values.stacks;
    };
    cursor = g.cursor;
    passes = g.passes;
    stacks = g.stacks;
    pictured = pictured (PutField x v) may;
  }

  pub good-put_global : (i v : ℕ) → Kept (PutGlobal i v)
  good-put_global i v may = record {
    marks = g.marks;
    objects = g.objects;
    counts = g.counts;
    entries = g.entries;
    values = record {
      known_fields = g.values.known_fields;
      fields = g.values.fields;
      globals = λ j q e. elim (eqb_tells i j) [ inr n ↦ g.values.globals j q (rw (n.0) at e) | inl y ↦ may.since q (rw (y.0) at e) ];
      stacks = g.values.stacks;
    };
    cursor = record {
      untouched = g.cursor.untouched;
      ahead = g.cursor.ahead;
      read = λ j c w h. elim (eqb_tells i j) [ inl y ↦ inr (rw (y.0) may.new) | inr n ↦ rw (n.0) (g.cursor.read j c w h) ];
    };
    passes = g.passes;
    stacks = g.stacks;
    pictured = pictured (PutGlobal i v) may;
  }
