-- Every move keeps the invariants, and so does every list of moves; what they give once marking is done.
use Rattle.std.proofs.Common.{◌≡◌, ◌≢◌, ℕ, ◌+◌, ◌<◌, true, sym, ◌∙◌, ap, inl, inr, ◌⊎◌, Option, Some, None, List, [], ◌∷◌, arith}
use Rattle.gh_tri.proofs.Vocabulary.{after, Allocate, Black, Blacken, cases_lt, changed_picture, ChangesKeepTheInvariants, Copy, Drop, EachMay, eqb_tells, EveryMoveKeepsTheInvariants, field, globals, Grey, HasScanLeft, held, Invariants, IsBlackStack, IsGreyStack, IsMarked, IsMarkingDone, IsReachedInPicture, KeepsTheInvariants, Load, MarkedWhatIsReached, MayAllocate, MayCopy, MayLoad, MayStore, Move, moved, NoWhiteObjectIsReached, Opens, put1, put_row, ReadOld, ScanField, ScanRegister, Shade, shaded, Store, Tricolour, White}
use Rattle.gh_tri.proofs.Tells.{differ, put-tells, shaded-named, marked-tells}
use Rattle.gh_tri.proofs.Protecting.{IsSafe, safe-field, none-protected}
use Rattle.gh_tri.proofs.Steps.{keeps-register, keeps-read, keeps-shaded, keeps-value, keeps-scanned, keeps-black, keeps-made, keeps-seen}

-- what a stack that is black can load from is marked or protected
held-safe : (p : Tricolour) (s o : ℕ) → Invariants p → IsBlackStack p s → (o ≡ 0) ⊎ ((r : ℕ) × (r < 16) × (p.register s r ≡ Some o)) → IsSafe p o
held-safe p s o i dark h = grind arith

-- between its scans a stack has no register that is scanned while another is not
between-scans : (p : Tricolour) (s r : ℕ) → r < 16 → IsGreyStack p s ⊎ IsBlackStack p s → HasScanLeft p s → p.seen s r ≡ true → ⊥
between-scans p s r within h left seen = grind arith

keeps-load : (p : Tricolour) (s r o f : ℕ) → Invariants p → MayLoad p s r o f → Invariants (moved p (Load s r o f))
keeps-load p s r o f i may =
    keeps-register p s r (p.value o f) i (i.unmade_objects.fields o f)
    (λ dark w e. safe-field p i o f w (held-safe p s o i dark may.held) (record { within = may.from.within; holds = e }))
    (λ left seen. absurd (between-scans p s r may.into.within may.scan left seen))

keeps-store : (p : Tricolour) (s o f : ℕ) (new : Option ℕ) → Invariants p → MayStore p s o f new → Invariants (moved p (Store s o f new))
keeps-store p s o f new i may =
    keeps-value p s o f new i may.into.made (i.barrier_order.shaded s o f may.reads.0 may.reads.1 may.reads.2) may.made may.shades

keeps-allocate : (p : Tricolour) (s r : ℕ) → Invariants p → MayAllocate p s r → Invariants (moved p (Allocate s r))
keeps-allocate p s r i may =
    keeps-register (record p { objects = p.objects + 1; colour = put1 p.colour p.objects Black; value = put_row p.value p.objects None; scanned = put_row p.scanned p.objects true })
    s r (Some p.objects) (keeps-made p i)
    (λ o e. let same : p.objects ≡ o = cc in omega arith)
    (λ dark o e. inl (marked o e))
    (λ left seen o e. marked o e) where
      marked : (o : ℕ) → Some p.objects ≡ Some o → put1 p.colour p.objects Black o ≢ White
      marked o e = elim (put-tells p.colour p.objects Black o) [
        | inl y ↦ (λ h. let clash : Black ≡ White = sym y.1 ∙ h in cc)
        | inr n ↦ absurd (n.0 (cc))
      ]

-- each of the eight moves keeps the invariants
pub keeps-moved : KeepsTheInvariants
keeps-moved p (Load s r o f) i may = keeps-load p s r o f i may
keeps-moved p (ReadOld s o f) i may = keeps-read p s o f i
keeps-moved p (Shade o) i may = keeps-shaded p (Some o) i (λ w e. let same : o ≡ w = cc in omega arith)
keeps-moved p (Store s o f new) i may = keeps-store p s o f new i may
keeps-moved p (ScanField o f) i may =
    keeps-scanned (record p { colour = shaded p.colour (p.value o f) }) o f
    (keeps-shaded p (p.value o f) i (i.unmade_objects.fields o f)) (λ w e. shaded-named p.colour (p.value o f) w e)
keeps-moved p (Blacken o) i may = keeps-black p o i may.made may.fields
keeps-moved p (Allocate s r) i may = keeps-allocate p s r i may
keeps-moved p (ScanRegister s r) i may =
    keeps-seen (record p { colour = shaded p.colour (p.register s r) }) s r
    (keeps-shaded p (p.register s r) i (i.unmade_objects.registers s r)) may.within (λ w e. shaded-named p.colour (p.register s r) w e)

keeps-copy : (p : Tricolour) (s d r : ℕ) → Invariants p → MayCopy p s d r → Invariants (changed_picture p (Copy s d r))
keeps-copy p s d r i may =
    keeps-register p s d (p.register s r) i (i.unmade_objects.registers s r)
    (λ dark o e. i.black_stacks.black s r o dark may.from.within e)
    (λ left seen. absurd (between-scans p s d may.into.within may.scan left seen))

-- so does each change that is no move
pub keeps-changed : ChangesKeepTheInvariants
keeps-changed p (Drop s r) i may = keeps-register p s r None i (λ o e. cc) (λ dark o e. cc) (λ left seen o e. cc)
keeps-changed p (Copy s d r) i may = keeps-copy p s d r i may

pub keeps-after : (p : Tricolour) (moves : List Move) → Invariants p → EachMay p moves → Invariants (after p moves)
keeps-after p [] i each = i
keeps-after p (m ∷ moves) i each = keeps-after (moved p m) moves (keeps-moved p m i each.0) each.1

-- an opening picture has the invariants
pub opening-holds : Opens
opening-holds p h = record {
  scanned_fields = λ o f e w x. absurd (nothing (sym (h.scanned o f e) ∙ x));
  black_stacks = record {
    black = λ s r o dark lt e. absurd (differ (dark r lt) (h.seen s r));
    middle = λ s r left e. absurd (differ e (h.seen s r));
  };
  barrier_order = record {
    holds = λ s o f v e. absurd (no_read (sym (h.read s o f) ∙ e));
    shaded = λ s o f v e. absurd (no_read (sym (h.read s o f) ∙ e));
  };
  marked_objects = record {
    globals = λ e. let clash : Grey ≡ White = sym h.grey ∙ e in cc;
    black = λ o f e lt. absurd (not_black o e);
  };
  unmade_objects = record {
    white = λ o le. h.white o (let some : 0 < p.objects = h.some in omega arith);
    empty = h.empty;
    fields = h.fields;
    registers = h.registers;
    reads = λ s o f v e. absurd (no_read (sym (h.read s o f) ∙ e));
  };
} where
  nothing : {w : ℕ} → None ≡ Some w → ⊥
  nothing e = cc

  no_read : {v : Option ℕ} → None ≡ Some v → ⊥
  no_read e = cc

  not_black : (o : ℕ) → p.colour o ≡ Black → ⊥
  not_black o e = elim (eqb_tells 0 o) [
    | inl y ↦ (let clash : Black ≡ Grey = sym e ∙ (ap p.colour (sym y.1) ∙ h.grey) in cc)
    | inr n ↦ (let clash : Black ≡ White = sym e ∙ h.white o (omega arith) in cc)
  ]

-- where marking is done, no number has the colour grey
no-grey : (p : Tricolour) → Invariants p → IsMarkingDone p → (o : ℕ) → p.colour o ≢ Grey
no-grey p i done o e = elim (cases_lt o p.objects) [
  | inl lt ↦ done.greys o lt e
  | inr le ↦ (let clash : White ≡ Grey = sym (i.unmade_objects.white o le) ∙ e in cc)
]

-- where marking is done, what is reached is marked
reached-marked : (p : Tricolour) → Invariants p → IsMarkingDone p → (o : ℕ) → IsReachedInPicture p o → IsMarked p o
reached-marked p i done o globals = i.marked_objects.globals
reached-marked p i done o (held s r w lt within e) = elim (i.black_stacks.black s r w (done.stacks s lt) within e) [
  | inl m ↦ m
  | inr d ↦ absurd (none-protected p (no-grey p i done) done.globals w d)
]
reached-marked p i done o (field a f w d e) = elim (marked-tells (p.colour a) (reached-marked p i done a d)) [
  | inl grey ↦ absurd (no-grey p i done a grey)
  | inr black ↦ i.scanned_fields a f (i.marked_objects.black a f black e.within) w e.holds
]

pub none-white : MarkedWhatIsReached
none-white p i done o white reached = reached-marked p i done o reached white

pub every-move : EveryMoveKeepsTheInvariants
every-move p moves opens each = keeps-after p moves (opening-holds p opens) each

pub no-white : NoWhiteObjectIsReached
no-white p moves opens each done = none-white (after p moves) (every-move p moves opens each) done
