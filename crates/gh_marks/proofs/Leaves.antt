-- What each move of one seat leaves to another, and what it leaves to that seat itself where it changes no stack.
use Rattle.std.proofs.Common.{◌≡◌, ◌≢◌, ℕ, ◌+◌, Bool, true, arith, refl, sym, ◌∙◌, ap, inl, inr, ◌⊎◌, subst, ◌↔◌}
use Rattle.gh_marks.proofs.Vocabulary.{Ask, Black, Blacken, buffer_words, Buffered, Cell, Claimed, ClaimGlobal, Colour, Cycle, EachMoveLeaves, EndStack, Enter, eqb_tells, Extents, field_words, GiveBuffer, global_words, Good, HasMark, holder_in, IsClean, IsMarked, IsOf, IsPointer, Keeps, LeavesStacks, mark_words, May, Move, moved, nat_tests, Others, PassGlobals, Pending, Place, Placing, Progress, PutField, PutGlobal, Quiet, Read, ReadGlobal, Reserve, Row, RowsAreWritten, SameExtent, ScanGlobal, scanned_words, ScanStack, seen_row, seen_word, SetRegister, Shade, ShadeAgain, ShadeFlat, Shared, TakeBuffer, TakeEntry, Taken, update, update_at, White}
use Rattle.gh_marks.proofs.Bits.{colours-grow, marks-grow, white-colour}
use Rattle.gh_marks.proofs.Quiet.{ReadRows, Unread, unread}

pub same-iff : {P : Type 0} → P ↔ P
same-iff = ((λ h. h), (λ h. h))

pub iff-then : {P Q R : Type 0} → P ↔ Q → Q ↔ R → P ↔ R
iff-then p q = ((λ h. q.0 (p.0 h)), (λ h. p.1 (q.1 h)))

-- What is kept, in parts over the rows that a move may change. A part is kept by its name where a move changes none of its rows.
record WordsKept (since : ℕ → Bool) (e : Extents) (colour colour_then : ℕ → Colour) (mark field global mark_then field_then global_then : Row) : Type 0 where
  pub marks : (o : ℕ) → HasMark mark o → HasMark mark_then o
  pub colours : (o : ℕ) → IsMarked colour o → IsMarked colour_then o
  pub fields : (o k : ℕ) → since o ≡ true → IsPointer e o k → (field_then (o + k) ≡ field (o + k)) ⊎ IsClean colour_then (field_then (o + k))
  pub globals : (i : ℕ) → (global_then i ≡ global i) ⊎ IsClean colour_then (global_then i)

record ObjectsKept (known known_then since since_then : ℕ → Bool) (e f : Extents) : Type 0 where
  pub knowns : (o : ℕ) → known o ≡ true → known_then o ≡ true
  pub sinces : (o : ℕ) → since o ≡ true → since_then o ≡ true
  pub extents : (o : ℕ) → since o ≡ true → SameExtent e f o
  pub known_extents : (o : ℕ) → known o ≡ true → SameExtent e f o
  pub bases : (x : ℕ) → since (e.base x) ≡ true → f.base x ≡ e.base x

record StacksKept (z : Cycle) (a : ℕ) (registers registers_then : ℕ → Row) (scanned scanned_then : Row) : Type 0 where
  pub each_register : (g d : ℕ) → IsOf z.arena a g → registers_then g d ≡ registers g d
  pub each_stack : (g : ℕ) → IsOf z.arena a g → scanned_then g ≡ scanned g

record WorkKept (a : ℕ) (colour colour_then : ℕ → Colour) (progress progress_then : ℕ → Progress) : Type 0 where
  pub pending : (o : ℕ) → (colour o ≡ Pending a) ↔ (colour_then o ≡ Pending a)
  pub taken : (o : ℕ) → (colour o ≡ Taken a) ↔ (colour_then o ≡ Taken a)
  pub placing : (o : ℕ) → (colour o ≡ Placing a) ↔ (colour_then o ≡ Placing a)
  pub claimed : (i : ℕ) → (progress i ≡ Claimed a) ↔ (progress_then i ≡ Claimed a)
  pub read : (i value : ℕ) → (progress i ≡ Read a value) ↔ (progress_then i ≡ Read a value)

record BufferKept (a : ℕ) (buffer buffer_then filled filled_then : Row) (passed passed_then : ℕ → Bool) : Type 0 where
  pub held : (b : ℕ) → (holder_in (buffer b) ≡ a + 1) ↔ (holder_in (buffer_then b) ≡ a + 1)
  pub count : (b : ℕ) → holder_in (buffer b) ≡ a + 1 → filled_then b ≡ filled b
  pub passes : passed_then a ≡ passed a

module _ (z : Cycle) (a : ℕ) (s t : Shared) where
  abbrev Words : Type 0
  Words = WordsKept s.since s.extents s.colour t.colour (mark_words s.words) (seen_row s.extents.base (field_words s.words)) (seen_row s.extents.base (global_words s.words)) (mark_words t.words) (seen_row t.extents.base (field_words t.words)) (seen_row t.extents.base (global_words t.words))

  abbrev Objects : Type 0
  Objects = ObjectsKept s.known t.known s.since t.since s.extents t.extents

  abbrev Stacks : Type 0
  Stacks = StacksKept z a s.registers t.registers (scanned_words s.words) (scanned_words t.words)

  abbrev Work : Type 0
  Work = WorkKept a s.colour t.colour s.progress t.progress

  abbrev Buffer : Type 0
  Buffer = BufferKept a (buffer_words s.words) (buffer_words t.words) s.filled t.filled s.passed t.passed

  all-kept : Keeps z a s t → Work → Buffer → Others z a s t
  all-kept k h b = record {
    keeps = k;
    pending = h.pending;
    taken = h.taken;
    placing = h.placing;
    claimed = h.claimed;
    read = h.read;
    held = b.held;
    filled = b.count;
    passes = b.passes;
  }

same-extent : (e : Extents) (o : ℕ) → SameExtent e e o
same-extent e o = record { size = refl; pointer = refl; noscan = refl }

module _ (z : Cycle) (a : ℕ) (s : Shared) where
  words-same : Words z a s s
  words-same = record { marks = λ o h. h; colours = λ o h. h; fields = λ o k i l. inl refl; globals = λ i. inl refl }

  -- an object takes a colour that is not white
  words-coloured : (o : ℕ) (c : Colour) → c ≢ White → Words z a s (record s { colour = update s.colour o c })
  words-coloured o c h = record { marks = λ p m. m; colours = colours-grow s.colour o c h; fields = λ p k i l. inl refl; globals = λ i. inl refl }

  objects-same : Objects z a s s
  objects-same = record { knowns = λ o h. h; sinces = λ o h. h; extents = λ o h. same-extent s.extents o; known_extents = λ o h. same-extent s.extents o; bases = λ x h. refl }

  stacks-same : Stacks z a s s
  stacks-same = record { each_register = λ g d own. refl; each_stack = λ g own. refl }

  work-same : Work z a s s
  work-same = record { pending = λ o. same-iff; taken = λ o. same-iff; placing = λ o. same-iff; claimed = λ i. same-iff; read = λ i v. same-iff }

  buffer-same : Buffer z a s s
  buffer-same = record { held = λ b. same-iff; count = λ b h. refl; passes = refl }

pub keeps-same : (z : Cycle) (a : ℕ) (s : Shared) → Keeps z a s s
keeps-same z a s = grind arith

pub others-same : (z : Cycle) (a : ℕ) (s : Shared) → Others z a s s
others-same z a s = grind arith

-- The moves of seat c, and what they leave to seat a, which may be c.
module _ (k : RowsAreWritten) (z : Cycle) (a c : ℕ) (s : Shared) (g : Good z s) where
  plain : (m : Move) → Words z a s (moved z c s m) → Objects z a s (moved z c s m) → Stacks z a s (moved z c s m) → Keeps z a s (moved z c s m)
  plain m w o t = grind arith

  marks-set : (o : ℕ) → Words z a s (moved z c s (ShadeAgain o))
  marks-set o = record { marks = marks-grow k s.words o; colours = λ p m. m; fields = λ p j i l. inl refl; globals = λ i. inl refl }

  marks-coloured : (o : ℕ) (d : Colour) → d ≢ White → Words z a s (record (moved z c s (ShadeAgain o)) { colour = update s.colour o d })
  marks-coloured o d h = record { marks = marks-grow k s.words o; colours = colours-grow s.colour o d h; fields = λ p j i l. inl refl; globals = λ i. inl refl }

  keeps-put_field : (x v : ℕ) → May z c s (PutField x v) → Keeps z a s (moved z c s (PutField x v))
  keeps-put_field x v may = plain (PutField x v)
      (record {
        marks = λ p h. h;
        colours = λ p h. h;
        fields = λ p m i l. elim (eqb_tells x (p + m)) [ inr n ↦ inl (rw (n.0) refl) | inl y ↦ inr (rw (y.0) may.new) ];
        globals = λ i. inl refl;
      })
      (objects-same z a s) (stacks-same z a s)

  keeps-put_global : (i v : ℕ) → May z c s (PutGlobal i v) → Keeps z a s (moved z c s (PutGlobal i v))
  keeps-put_global i v may = plain (PutGlobal i v)
      (record {
        marks = λ p h. h;
        colours = λ p h. h;
        fields = λ p m i l. inl refl;
        globals = λ j. elim (eqb_tells i j) [ inr n ↦ inl (rw (n.0) refl) | inl y ↦ inr (rw (y.0) may.new) ];
      })
      (objects-same z a s) (stacks-same z a s)

  module _ (step : Ask) (may : May z c s (Quiet step)) where
    u : Unread s (moved z c s (Quiet step)).words
    u = unread s step may

    keeps-quiet : Keeps z a s (moved z c s (Quiet step))
    keeps-quiet = plain (Quiet step)
        (record {
          marks = subst (λ (r : ReadRows). (o : ℕ) → HasMark (mark_words s.words) o → HasMark r.mark o) (sym u.rows_are) (λ o h. h);
          colours = λ o h. h;
          fields = λ o j i l. inl (ap (seen_word s.extents.base) (u.fields o j (g.objects.of_cycle o i) l));
          globals = λ i. inl (ap (λ (r : ReadRows). seen_word s.extents.base (r.global i)) u.rows_are);
        })
        (objects-same z a s)
        (record { each_register = λ f d own. refl; each_stack = λ f own. ap (λ (r : ReadRows). r.scanned f) u.rows_are })

    buffer-quiet : Buffer z a s (moved z c s (Quiet step))
    buffer-quiet = record {
      held = subst (λ (r : ReadRows). (b : ℕ) → (holder_in (s.words (Cell.Buffer b)) ≡ a + 1) ↔ (holder_in (r.buffer b) ≡ a + 1)) (sym u.rows_are) (λ b. same-iff);
      count = λ b h. refl;
      passes = refl;
    }

  pub keeps-moved : (m : Move) → May z c s m → LeavesStacks m → Keeps z a s (moved z c s m)
  keeps-moved (Quiet step) may x = keeps-quiet step may
  keeps-moved (Shade o) may x = plain (Shade o) (marks-coloured o (Pending c) (λ h. cc)) (objects-same z a s) (stacks-same z a s)
  keeps-moved (ShadeFlat o) may x = plain (ShadeFlat o) (marks-coloured o (Black) (λ h. cc)) (objects-same z a s) (stacks-same z a s)
  keeps-moved (ShadeAgain o) may x = plain (ShadeAgain o) (marks-set o) (objects-same z a s) (stacks-same z a s)
  keeps-moved (TakeBuffer b) may x = plain (TakeBuffer b) (words-same z a s) (objects-same z a s) (stacks-same z a s)
  keeps-moved (GiveBuffer b) may x = plain (GiveBuffer b) (words-same z a s) (objects-same z a s) (stacks-same z a s)
  keeps-moved (Enter b o) may x = plain (Enter b o) (words-coloured z a s o (Buffered b (s.filled b)) (λ h. cc)) (objects-same z a s) (stacks-same z a s)
  keeps-moved (TakeEntry b o) may x = plain (TakeEntry b o) (words-coloured z a s o (Taken c) (λ h. cc)) (objects-same z a s) (stacks-same z a s)
  keeps-moved (Blacken o) may x = plain (Blacken o) (words-coloured z a s o (Black) (λ h. cc)) (objects-same z a s) (stacks-same z a s)
  keeps-moved (PutField y v) may x = keeps-put_field y v may
  keeps-moved (PutGlobal i v) may x = keeps-put_global i v may
  keeps-moved (ClaimGlobal i) may x = plain (ClaimGlobal i) (words-same z a s) (objects-same z a s) (stacks-same z a s)
  keeps-moved (PassGlobals i) may x = plain (PassGlobals i) (words-same z a s) (objects-same z a s) (stacks-same z a s)
  keeps-moved (ReadGlobal i) may x = plain (ReadGlobal i) (words-same z a s) (objects-same z a s) (stacks-same z a s)
  keeps-moved (ScanGlobal i v) may x = plain (ScanGlobal i v) (words-same z a s) (objects-same z a s) (stacks-same z a s)
  keeps-moved (Reserve o) may x = plain (Reserve o) (marks-coloured o (Placing c) (λ h. cc)) (objects-same z a s) (stacks-same z a s)
  keeps-moved _ may x = absurd x

  -- To another seat: what it has in hand stays, and its stacks.
  module _ (ne : a ≢ c) where
    -- no goroutine is of both
    apart : {P : Type 0} (h f : ℕ) → IsOf z.arena c h → IsOf z.arena a f → h ≡ f → P
    apart h f own other e = absurd (ne (sym other.1 ∙ (ap z.arena.seat_of (sym e) ∙ own.1)))

    left : (m : Move) → May z c s m → LeavesStacks m → Work z a s (moved z c s m) → Buffer z a s (moved z c s m) → Others z a s (moved z c s m)
    left m may x h b = grind (arith, all-kept, keeps-moved)

    -- an object that is of none of the seat's colours takes one that is none of them
    recoloured : (o : ℕ) (d : Colour) → (s.colour o ≢ Pending a) × (s.colour o ≢ Taken a) × (s.colour o ≢ Placing a) → (d ≢ Pending a) × (d ≢ Taken a) × (d ≢ Placing a) → WorkKept a s.colour (update s.colour o d) s.progress s.progress
    recoloured o d was is = record { pending = grind arith; taken = grind arith; placing = grind arith; claimed = grind arith; read = grind arith }

    white-other : (o : ℕ) → s.colour o ≡ White → (s.colour o ≢ Pending a) × (s.colour o ≢ Taken a) × (s.colour o ≢ Placing a)
    white-other o e = rw e ((λ h. cc), (λ h. cc), (λ h. cc))

    leaves-shade : (o : ℕ) → May z c s (Shade o) → Others z a s (moved z c s (Shade o))
    leaves-shade o may = left (Shade o) may tt
        (recoloured o (Pending c) (white-other o (white-colour (mark_words s.words) s.colour g.marks o may.0.white)) ((λ h. absurd (ne (same h))), (λ h. cc), (λ h. cc)))
        (buffer-same z a s) where
          same : Pending c ≡ Pending a → a ≡ c
          same h = cc

    leaves-flat : (o : ℕ) → May z c s (ShadeFlat o) → Others z a s (moved z c s (ShadeFlat o))
    leaves-flat o may = left (ShadeFlat o) may tt
        (recoloured o Black (white-other o (white-colour (mark_words s.words) s.colour g.marks o may.0.white)) ((λ h. cc), (λ h. cc), (λ h. cc)))
        (buffer-same z a s)

    leaves-reserve : (o : ℕ) → May z c s (Reserve o) → Others z a s (moved z c s (Reserve o))
    leaves-reserve o may = left (Reserve o) may tt
        (recoloured o (Placing c) (white-other o may.white) ((λ h. cc), (λ h. cc), (λ h. absurd (ne (same h)))))
        (buffer-same z a s) where
          same : Placing c ≡ Placing a → a ≡ c
          same h = cc

    leaves-enter : (b o : ℕ) → May z c s (Enter b o) → Others z a s (moved z c s (Enter b o))
    leaves-enter b o may = grind arith

    leaves-take_entry : (b o : ℕ) → May z c s (TakeEntry b o) → Others z a s (moved z c s (TakeEntry b o))
    leaves-take_entry b o may = grind arith

    leaves-blacken : (o : ℕ) → May z c s (Blacken o) → Others z a s (moved z c s (Blacken o))
    leaves-blacken o may = grind arith

    leaves-take : (b : ℕ) → May z c s (TakeBuffer b) → Others z a s (moved z c s (TakeBuffer b))
    leaves-take b may = grind arith

    leaves-give : (b : ℕ) → May z c s (GiveBuffer b) → Others z a s (moved z c s (GiveBuffer b))
    leaves-give b may = grind arith

    leaves-claim : (i : ℕ) → May z c s (ClaimGlobal i) → Others z a s (moved z c s (ClaimGlobal i))
    leaves-claim i may = grind arith

    leaves-read : (i : ℕ) → May z c s (ReadGlobal i) → Others z a s (moved z c s (ReadGlobal i))
    leaves-read i may = grind arith

    leaves-scan : (i w : ℕ) → May z c s (ScanGlobal i w) → Others z a s (moved z c s (ScanGlobal i w))
    leaves-scan i w may = grind arith

    -- the stacks of another seat
    of-stack : (m : Move) → Words z a s (moved z c s m) → Objects z a s (moved z c s m) → Stacks z a s (moved z c s m) → Work z a s (moved z c s m) → Buffer z a s (moved z c s m) → Others z a s (moved z c s m)
    of-stack m w o t h b = grind arith

    -- a register of a goroutine of the mover
    register-set : (h d v : ℕ) → IsOf z.arena c h → StacksKept z a s.registers (update_at s.registers h d v) (scanned_words s.words) (scanned_words s.words)
    register-set h d v own = record { each_register = λ f q other. elim (eqb_tells h f) [ inl y ↦ apart h f own other y.1 | inr n ↦ rw (n.0) refl ]; each_stack = λ f other. refl }

    leaves-set : (h d v : ℕ) → May z c s (SetRegister h d v) → Others z a s (moved z c s (SetRegister h d v))
    leaves-set h d v may = of-stack (SetRegister h d v) (words-same z a s) (objects-same z a s) (register-set h d v may.own) (work-same z a s) (buffer-same z a s)

    leaves-place : (o size : ℕ) (pointer : ℕ → Bool) (noscan : Bool) (h d : ℕ) → May z c s (Place o size pointer noscan h d) → Others z a s (moved z c s (Place o size pointer noscan h d))
    leaves-place o size pointer noscan h d may = grind (arith, nat_tests)

    leaves-scan_stack : (h : ℕ) → May z c s (ScanStack h) → Others z a s (moved z c s (ScanStack h))
    leaves-scan_stack h may = of-stack (ScanStack h) (words-same z a s) (objects-same z a s)
        (record { each_register = λ f q own. refl; each_stack = λ f own. elim (eqb_tells h f) [ inl y ↦ apart h f may.own own y.1 | inr n ↦ rw (n.0) refl ] })
        (work-same z a s) (buffer-same z a s)

    leaves-end : (h : ℕ) → May z c s (EndStack h) → Others z a s (moved z c s (EndStack h))
    leaves-end h may = of-stack (EndStack h) (words-same z a s) (objects-same z a s)
        (record {
          each_register = λ f q own. elim (eqb_tells h f) [ inl y ↦ apart h f may own y.1 | inr n ↦ rw (n.0) refl ];
          each_stack = λ f own. elim (eqb_tells h f) [ inl y ↦ apart h f may own y.1 | inr n ↦ rw (n.0) refl ];
        })
        (work-same z a s) (buffer-same z a s)

    not-passed : update s.passed c true a ≡ s.passed a
    not-passed = elim (eqb_tells c a) [ inl y ↦ absurd (ne (sym y.1)) | inr n ↦ rw (n.0) refl ]

    leaves-moved : (m : Move) → May z c s m → Others z a s (moved z c s m)
    leaves-moved (Quiet step) may = left (Quiet step) may tt (work-same z a s) (buffer-quiet step may)
    leaves-moved (Shade o) may = leaves-shade o may
    leaves-moved (ShadeFlat o) may = leaves-flat o may
    leaves-moved (ShadeAgain o) may = left (ShadeAgain o) may tt (work-same z a s) (buffer-same z a s)
    leaves-moved (TakeBuffer b) may = leaves-take b may
    leaves-moved (GiveBuffer b) may = leaves-give b may
    leaves-moved (Enter b o) may = leaves-enter b o may
    leaves-moved (TakeEntry b o) may = leaves-take_entry b o may
    leaves-moved (Blacken o) may = leaves-blacken o may
    leaves-moved (PutField x v) may = left (PutField x v) may tt (work-same z a s) (buffer-same z a s)
    leaves-moved (PutGlobal i v) may = left (PutGlobal i v) may tt (work-same z a s) (buffer-same z a s)
    leaves-moved (ClaimGlobal i) may = leaves-claim i may
    leaves-moved (PassGlobals i) may = left (PassGlobals i) may tt (work-same z a s) (record { held = λ b. same-iff; count = λ b h. refl; passes = not-passed })
    leaves-moved (ReadGlobal i) may = leaves-read i may
    leaves-moved (ScanGlobal i v) may = leaves-scan i v may
    leaves-moved (SetRegister h d v) may = leaves-set h d v may
    leaves-moved (ScanStack h) may = leaves-scan_stack h may
    leaves-moved (EndStack h) may = leaves-end h may
    leaves-moved (Reserve o) may = leaves-reserve o may
    leaves-moved (Place o size pointer noscan h d) may = leaves-place o size pointer noscan h d may

pub each-move-leaves : RowsAreWritten → EachMoveLeaves
each-move-leaves k z a b s m ne g may = leaves-moved k z a b s g ne m may
