-- The changes that the eight moves are made of, each of which keeps the invariants.
use Rattle.std.proofs.Common.{◌≡◌, ◌≢◌, ℕ, ◌+◌, ◌<◌, Bool, true, false, refl, sym, ◌∙◌, ap, subst, inl, inr, ◌⊎◌, Option, Some, None, arith}
use Rattle.gh_tri.proofs.Vocabulary.{Black, eqb_tells, HasScanLeft, Invariants, IsBlackStack, IsMarked, NilOrMade, NilOrMarked, put1, put2, put3, put_row, shaded, Tricolour, White}
use Rattle.gh_tri.proofs.Tells.{differ, put-tells, put2-tells, put3-tells, put_row-tells, shaded-tells, shaded-marks, shaded-black}
use Rattle.gh_tri.proofs.Protecting.{IsSafe, Guards, safe-kept}

-- a register takes a value that is made; where the stack is black, a safe one, and where the register is scanned, a marked one
pub keeps-register : (p : Tricolour) (s r : ℕ) (v : Option ℕ) → Invariants p → NilOrMade p v → (IsBlackStack p s → (o : ℕ) → v ≡ Some o → IsSafe p o) → (HasScanLeft p s → p.seen s r ≡ true → NilOrMarked p v) → Invariants (record p { register = put2 p.register s r v })
keeps-register p s r v i made safe marked =
    record {
      scanned_fields = i.scanned_fields;
      black_stacks = record {
        black = λ t b o dark lt e. safe-kept p _ guards o (elim (put2-tells p.register s r v t b) [
          | inl y ↦ safe (subst (IsBlackStack p) (sym y.0) dark) o (sym y.2 ∙ e)
          | inr n ↦ i.black_stacks.black t b o dark lt (sym n ∙ e)
        ]);
        middle = λ t b left h o e. elim (put2-tells p.register s r v t b) [
          | inl y ↦ marked (subst (HasScanLeft p) (sym y.0) left) (ap (λ c. p.seen c r) y.0 ∙ (ap (p.seen t) y.1 ∙ h)) o (sym y.2 ∙ e)
          | inr n ↦ i.black_stacks.middle t b left h o (sym n ∙ e)
        ];
      };
      barrier_order = record { holds = i.barrier_order.holds; shaded = i.barrier_order.shaded };
      marked_objects = record {
        globals = i.marked_objects.globals;
        black = i.marked_objects.black;
      };
      unmade_objects = record {
        white = i.unmade_objects.white;
        empty = i.unmade_objects.empty;
        fields = i.unmade_objects.fields;
        registers = λ t b o e. elim (put2-tells p.register s r v t b) [
          | inl y ↦ made o (sym y.2 ∙ e)
          | inr n ↦ i.unmade_objects.registers t b o (sym n ∙ e)
        ];
        reads = i.unmade_objects.reads;
      };
    } where
      guards : Guards p (record p { register = put2 p.register s r v })
      guards = grind arith

-- a stack keeps what it reads in a field
pub keeps-read : (p : Tricolour) (s o f : ℕ) → Invariants p → Invariants (record p { read = put3 p.read s o f (Some (p.value o f)) })
keeps-read p s o f i =
    record {
      scanned_fields = i.scanned_fields;
      black_stacks = record {
        black = λ t b w dark lt e. safe-kept p _ guards w (i.black_stacks.black t b w dark lt e);
        middle = i.black_stacks.middle;
      };
      barrier_order = record {
        holds = holds;
        shaded = λ t a b v e clean. elim (holds t a b v e) [
          | inl same ↦ (λ w h. clean w (sym same ∙ h))
          | inr h ↦ h
        ];
      };
      marked_objects = record {
        globals = i.marked_objects.globals;
        black = i.marked_objects.black;
      };
      unmade_objects = record {
        white = i.unmade_objects.white;
        empty = i.unmade_objects.empty;
        fields = i.unmade_objects.fields;
        registers = i.unmade_objects.registers;
        reads = λ t a b v e w h. elim (put3-tells p.read s o f (Some (p.value o f)) t a b) [
          | inl y ↦ (let same : Some v ≡ Some (p.value o f) = sym e ∙ y.3 in let inner : v ≡ p.value o f = cc in i.unmade_objects.fields o f w (sym inner ∙ h))
          | inr n ↦ i.unmade_objects.reads t a b v (sym n ∙ e) w h
        ];
      };
    } where
      guards : Guards p (record p { read = put3 p.read s o f (Some (p.value o f)) })
      guards = grind arith

      holds : (t a b : ℕ) (v : Option ℕ) → put3 p.read s o f (Some (p.value o f)) t a b ≡ Some v → (p.value a b ≡ v) ⊎ NilOrMarked p (p.value a b)
      holds t a b v e = elim (put3-tells p.read s o f (Some (p.value o f)) t a b) [
        | inl y ↦ (let same : Some v ≡ Some (p.value o f) = sym e ∙ y.3 in let inner : p.value o f ≡ v = cc in inl (ap (λ c. p.value c b) (sym y.1) ∙ (ap (p.value o) (sym y.2) ∙ inner)))
        | inr n ↦ i.barrier_order.holds t a b v (sym n ∙ e)
      ]

-- the object that a value names is shaded
pub keeps-shaded : (p : Tricolour) (v : Option ℕ) → Invariants p → NilOrMade p v → Invariants (record p { colour = shaded p.colour v })
keeps-shaded p v i made =
    record {
      scanned_fields = λ o f h w e. shaded-marks p.colour v w (i.scanned_fields o f h w e);
      black_stacks = record {
        black = λ t b w dark lt e. safe-kept p _ guards w (i.black_stacks.black t b w dark lt e);
        middle = λ t b left h w e. shaded-marks p.colour v w (i.black_stacks.middle t b left h w e);
      };
      barrier_order = record {
        holds = holds;
        shaded = λ t a b u e clean. elim (holds t a b u e) [
          | inl same ↦ (λ w h. clean w (sym same ∙ h))
          | inr h ↦ h
        ];
      };
      marked_objects = record {
        globals = shaded-marks p.colour v 0 i.marked_objects.globals;
        black = λ o f h lt. i.marked_objects.black o f (shaded-black p.colour v o h) lt;
      };
      unmade_objects = record {
        white = λ o h. elim (shaded-tells p.colour v o) [
          | inl y ↦ (let below : o < p.objects = made o y.0 in absurd (omega arith))
          | inr n ↦ n.1 ∙ i.unmade_objects.white o h
        ];
        empty = i.unmade_objects.empty;
        fields = i.unmade_objects.fields;
        registers = i.unmade_objects.registers;
        reads = i.unmade_objects.reads;
      };
    } where
      guards : Guards p (record p { colour = shaded p.colour v })
      guards = grind arith

      holds : (t a b : ℕ) (u : Option ℕ) → p.read t a b ≡ Some u → (p.value a b ≡ u) ⊎ ((w : ℕ) → p.value a b ≡ Some w → shaded p.colour v w ≢ White)
      holds t a b u e = elim (i.barrier_order.holds t a b u e) [
        | inl same ↦ inl same
        | inr h ↦ inr (λ w x. shaded-marks p.colour v w (h w x))
      ]

-- a field whose value is nil or marked, in place of one that holds nil or a marked object, takes such a value
pub keeps-value : (p : Tricolour) (s o f : ℕ) (new : Option ℕ) → Invariants p → o < p.objects → NilOrMarked p (p.value o f) → NilOrMade p new → NilOrMarked p new → Invariants (record p { value = put2 p.value o f new; read = put3 p.read s o f None })
keeps-value p s o f new i in_range was made marked =
    record {
      scanned_fields = λ a b h w e. elim (put2-tells p.value o f new a b) [
        | inl y ↦ marked w (sym y.2 ∙ e)
        | inr n ↦ i.scanned_fields a b h w (sym n ∙ e)
      ];
      black_stacks = record {
        black = λ t b w dark lt e. safe-kept p _ guards w (i.black_stacks.black t b w dark lt e);
        middle = i.black_stacks.middle;
      };
      barrier_order = record {
        holds = holds;
        shaded = λ t a b v e clean. elim (holds t a b v e) [
          | inl same ↦ (λ w h. clean w (sym same ∙ h))
          | inr h ↦ h
        ];
      };
      marked_objects = record {
        globals = i.marked_objects.globals;
        black = i.marked_objects.black;
      };
      unmade_objects = record {
        white = i.unmade_objects.white;
        empty = λ a b h. elim (put2-tells p.value o f new a b) [
          | inl y ↦ absurd (omega arith)
          | inr n ↦ n ∙ i.unmade_objects.empty a b h
        ];
        fields = λ a b w e. elim (put2-tells p.value o f new a b) [
          | inl y ↦ made w (sym y.2 ∙ e)
          | inr n ↦ i.unmade_objects.fields a b w (sym n ∙ e)
        ];
        registers = i.unmade_objects.registers;
        reads = λ t a b v e w h. i.unmade_objects.reads t a b v (was_read t a b v e) w h;
      };
    } where
      was_read : (t a b : ℕ) (v : Option ℕ) → put3 p.read s o f None t a b ≡ Some v → p.read t a b ≡ Some v
      was_read t a b v e = elim (put3-tells p.read s o f None t a b) [
        | inl y ↦ (let none : None ≡ Some v = sym y.3 ∙ e in cc)
        | inr n ↦ sym n ∙ e
      ]

      holds : (t a b : ℕ) (v : Option ℕ) → put3 p.read s o f None t a b ≡ Some v → (put2 p.value o f new a b ≡ v) ⊎ NilOrMarked p (put2 p.value o f new a b)
      holds t a b v e = elim (put2-tells p.value o f new a b) [
        | inl y ↦ inr (λ w h. marked w (sym y.2 ∙ h))
        | inr n ↦ elim (i.barrier_order.holds t a b v (was_read t a b v e)) [
          | inl same ↦ inl (n ∙ same)
          | inr h ↦ inr (λ w x. h w (sym n ∙ x))
        ]
      ]

      guards : Guards p (record p { value = put2 p.value o f new; read = put3 p.read s o f None })
      guards = grind arith

-- a field that holds nil or a marked object is scanned
pub keeps-scanned : (p : Tricolour) (o f : ℕ) → Invariants p → NilOrMarked p (p.value o f) → Invariants (record p { scanned = put2 p.scanned o f true })
keeps-scanned p o f i clean =
    record {
      scanned_fields = λ a b h w e. elim (put2-tells p.scanned o f true a b) [
        | inl y ↦ clean w (ap (λ c. p.value c f) y.0 ∙ (ap (p.value a) y.1 ∙ e))
        | inr n ↦ i.scanned_fields a b (sym n ∙ h) w e
      ];
      black_stacks = record {
        black = λ t b w dark lt e. safe-kept p _ guards w (i.black_stacks.black t b w dark lt e);
        middle = i.black_stacks.middle;
      };
      barrier_order = record { holds = i.barrier_order.holds; shaded = i.barrier_order.shaded };
      marked_objects = record {
        globals = i.marked_objects.globals;
        black = λ a b h lt. elim (put2-tells p.scanned o f true a b) [
          | inl y ↦ y.2
          | inr n ↦ n ∙ i.marked_objects.black a b h lt
        ];
      };
      unmade_objects = record {
        white = i.unmade_objects.white;
        empty = i.unmade_objects.empty;
        fields = i.unmade_objects.fields;
        registers = i.unmade_objects.registers;
        reads = i.unmade_objects.reads;
      };
    } where
      guards : Guards p (record p { scanned = put2 p.scanned o f true })
      guards = grind arith

-- an object whose fields are all scanned becomes black
pub keeps-black : (p : Tricolour) (o : ℕ) → Invariants p → o < p.objects → ((f : ℕ) → f < p.fields → p.scanned o f ≡ true) → Invariants (record p { colour = put1 p.colour o Black })
keeps-black p o i in_range done =
    record {
      scanned_fields = λ a b h w e. marks w (i.scanned_fields a b h w e);
      black_stacks = record {
        black = λ t b w dark lt e. safe-kept p _ guards w (i.black_stacks.black t b w dark lt e);
        middle = λ t b left h w e. marks w (i.black_stacks.middle t b left h w e);
      };
      barrier_order = record {
        holds = holds;
        shaded = λ t a b u e clean. elim (holds t a b u e) [
          | inl same ↦ (λ w h. clean w (sym same ∙ h))
          | inr h ↦ h
        ];
      };
      marked_objects = record {
        globals = marks 0 i.marked_objects.globals;
        black = λ a b h lt. elim (put-tells p.colour o Black a) [
          | inl y ↦ ap (λ c. p.scanned c b) (sym y.0) ∙ done b lt
          | inr n ↦ i.marked_objects.black a b (sym n.1 ∙ h) lt
        ];
      };
      unmade_objects = record {
        white = λ a h. elim (put-tells p.colour o Black a) [
          | inl y ↦ absurd (omega arith)
          | inr n ↦ n.1 ∙ i.unmade_objects.white a h
        ];
        empty = i.unmade_objects.empty;
        fields = i.unmade_objects.fields;
        registers = i.unmade_objects.registers;
        reads = i.unmade_objects.reads;
      };
    } where
      marks : (w : ℕ) → p.colour w ≢ White → put1 p.colour o Black w ≢ White
      marks w h = elim (put-tells p.colour o Black w) [
        | inl y ↦ (λ e. let clash : Black ≡ White = sym y.1 ∙ e in cc)
        | inr n ↦ (λ e. h (sym n.1 ∙ e))
      ]

      holds : (t a b : ℕ) (u : Option ℕ) → p.read t a b ≡ Some u → (p.value a b ≡ u) ⊎ ((w : ℕ) → p.value a b ≡ Some w → put1 p.colour o Black w ≢ White)
      holds t a b u e = elim (i.barrier_order.holds t a b u e) [
        | inl same ↦ inl same
        | inr h ↦ inr (λ w x. marks w (h w x))
      ]

      clean : (a f w : ℕ) → o ≡ a → f < p.fields → p.value a f ≡ Some w → put1 p.colour o Black w ≢ White
      clean a f w y lt e = marks w (i.scanned_fields a f (ap (λ c. p.scanned c f) (sym y) ∙ done f lt) w e)

      guards : Guards p (record p { colour = put1 p.colour o Black })
      guards = record {
        marks = marks;
        edges = λ a b w e. inl (record { within = e.within; holds = e.holds });
        greys = λ a b w h e. elim (put-tells p.colour o Black a) [
          | inl y ↦ inr (clean a b w y.0 e.within e.holds)
          | inr n ↦ inl (n.1 ∙ h)
        ];
        globals = λ b w h e. inl h;
        whites = λ a b w h e. elim (put-tells p.colour o Black a) [
          | inl y ↦ inr (clean a b w y.0 e.within e.holds)
          | inr n ↦ inl (inl (n.1 ∙ h))
        ];
      }

-- the next object is made, black, with all its fields nil and scanned
pub keeps-made : (p : Tricolour) → Invariants p → Invariants (record p { objects = p.objects + 1; colour = put1 p.colour p.objects Black; value = put_row p.value p.objects None; scanned = put_row p.scanned p.objects true })
keeps-made p i =
    record {
      scanned_fields = λ a b h w e. elim (put_row-tells p.value p.objects None a b) [
        | inl y ↦ (let none : None ≡ Some w = sym y.1 ∙ e in cc)
        | inr n ↦ elim (put_row-tells p.scanned p.objects true a b) [
          | inl y ↦ absurd (n.0 y.0)
          | inr m ↦ marks w (i.scanned_fields a b (sym m.1 ∙ h) w (sym n.1 ∙ e))
        ]
      ];
      black_stacks = record {
        black = λ t b w dark lt e. safe-kept p _ guards w (i.black_stacks.black t b w dark lt e);
        middle = λ t b left h w e. marks w (i.black_stacks.middle t b left h w e);
      };
      barrier_order = record {
        holds = holds;
        shaded = λ t a b u e clean. elim (holds t a b u e) [
          | inl same ↦ (λ w h. clean w (sym same ∙ h))
          | inr h ↦ h
        ];
      };
      marked_objects = record {
        globals = marks 0 i.marked_objects.globals;
        black = λ a b h lt. elim (put_row-tells p.scanned p.objects true a b) [
          | inl y ↦ y.1
          | inr n ↦ elim (put-tells p.colour p.objects Black a) [
            | inl y ↦ absurd (n.0 y.0)
            | inr m ↦ n.1 ∙ i.marked_objects.black a b (sym m.1 ∙ h) lt
          ]
        ];
      };
      unmade_objects = record {
        white = λ a h. elim (put-tells p.colour p.objects Black a) [
          | inl y ↦ absurd (omega arith)
          | inr n ↦ n.1 ∙ i.unmade_objects.white a (omega arith)
        ];
        empty = λ a b h. elim (put_row-tells p.value p.objects None a b) [
          | inl y ↦ y.1
          | inr n ↦ n.1 ∙ i.unmade_objects.empty a b (omega arith)
        ];
        fields = λ a b w e. elim (put_row-tells p.value p.objects None a b) [
          | inl y ↦ (let none : None ≡ Some w = sym y.1 ∙ e in cc)
          | inr n ↦ more w (i.unmade_objects.fields a b w (sym n.1 ∙ e))
        ];
        registers = λ t b w e. more w (i.unmade_objects.registers t b w e);
        reads = λ t a b v e w h. more w (i.unmade_objects.reads t a b v e w h);
      };
    } where
      more : (w : ℕ) → w < p.objects → w < p.objects + 1
      more w h = omega arith

      marks : (w : ℕ) → p.colour w ≢ White → put1 p.colour p.objects Black w ≢ White
      marks w h = elim (put-tells p.colour p.objects Black w) [
        | inl y ↦ (λ e. let clash : Black ≡ White = sym y.1 ∙ e in cc)
        | inr n ↦ (λ e. h (sym n.1 ∙ e))
      ]

      holds : (t a b : ℕ) (u : Option ℕ) → p.read t a b ≡ Some u → (put_row p.value p.objects None a b ≡ u) ⊎ ((w : ℕ) → put_row p.value p.objects None a b ≡ Some w → put1 p.colour p.objects Black w ≢ White)
      holds t a b u e = elim (put_row-tells p.value p.objects None a b) [
        | inl y ↦ inr (λ w x. let none : None ≡ Some w = sym y.1 ∙ x in cc)
        | inr n ↦ elim (i.barrier_order.holds t a b u e) [
          | inl same ↦ inl (n.1 ∙ same)
          | inr h ↦ inr (λ w x. marks w (h w (sym n.1 ∙ x)))
        ]
      ]

      guards : Guards p (record p { objects = p.objects + 1; colour = put1 p.colour p.objects Black; value = put_row p.value p.objects None; scanned = put_row p.scanned p.objects true })
      guards = grind arith

-- a register that holds nil or a marked object is scanned, for the first time or again
pub keeps-seen : (p : Tricolour) (s r : ℕ) → Invariants p → r < 16 → NilOrMarked p (p.register s r) → Invariants (record p { seen = put2 p.seen s r true })
keeps-seen p s r i within clean =
    record {
      scanned_fields = i.scanned_fields;
      black_stacks = record {
        black = λ t b w dark lt e. safe-kept p _ guards w (elim (eqb_tells s t) [
          | inl same ↦ held (p.seen s r) refl t b w same.1 dark lt e
          | inr other ↦ i.black_stacks.black t b w (was_black t other.1 dark) lt e
        ]);
        middle = λ t b left h w e. elim (put2-tells p.seen s r true t b) [
          | inl y ↦ named t b w y.0 y.1 e
          | inr n ↦ i.black_stacks.middle t b (left.0, left.1, was_left t left.0 left.2) (sym n ∙ h) w e
        ];
      };
      barrier_order = record { holds = i.barrier_order.holds; shaded = i.barrier_order.shaded };
      marked_objects = record {
        globals = i.marked_objects.globals;
        black = i.marked_objects.black;
      };
      unmade_objects = record {
        white = i.unmade_objects.white;
        empty = i.unmade_objects.empty;
        fields = i.unmade_objects.fields;
        registers = i.unmade_objects.registers;
        reads = i.unmade_objects.reads;
      };
    } where
      named : (t b w : ℕ) → s ≡ t → r ≡ b → p.register t b ≡ Some w → IsMarked p w
      named t b w x y e = clean w (ap (λ c. p.register c r) x ∙ (ap (p.register t) y ∙ e))

      held : (c : Bool) → p.seen s r ≡ c → (t b w : ℕ) → s ≡ t → ((a : ℕ) → a < 16 → put2 p.seen s r true t a ≡ true) → b < 16 → p.register t b ≡ Some w → IsSafe p w
      held true seen t b w same dark lt e = i.black_stacks.black t b w (λ a few. elim (put2-tells p.seen s r true t a) [
        | inl y ↦ ap (λ c. p.seen c a) (sym same) ∙ (ap (p.seen s) (sym y.1) ∙ seen)
        | inr n ↦ sym n ∙ dark a few
      ]) lt e
      held false seen t b w same dark lt e = inl (elim (put2-tells p.seen s r true t b) [
        | inl y ↦ named t b w y.0 y.1 e
        | inr n ↦ i.black_stacks.middle t b (r, within, ap (λ c. p.seen c r) (sym same) ∙ seen) (sym n ∙ dark b lt) w e
      ])

      was_black : (t : ℕ) → s ≢ t → ((b : ℕ) → b < 16 → put2 p.seen s r true t b ≡ true) → IsBlackStack p t
      was_black t ne dark = λ b lt. elim (put2-tells p.seen s r true t b) [
        | inl y ↦ absurd (ne y.0)
        | inr n ↦ sym n ∙ dark b lt
      ]

      was_left : (t b : ℕ) → put2 p.seen s r true t b ≡ false → p.seen t b ≡ false
      was_left t b e = elim (put2-tells p.seen s r true t b) [
        | inl y ↦ absurd (differ y.2 e)
        | inr n ↦ sym n ∙ e
      ]

      guards : Guards p (record p { seen = put2 p.seen s r true })
      guards = grind arith
