-- While marking is on the scan of a stack knows the registers before the one that is shaded as clean, and its step is the move that makes the stack black.
use Rattle.std.proofs.Common.{◌≡◌, ℕ, suc, ◌+◌, ◌-◌, ◌<◌, ◌≤◌, List, [], ◌∷◌, length, drop, Some, refl, sym, ap, subst, ◌∙◌, arith, below_more, slice_index_or}
use Rattle.std.proofs.lemmas.List.{get_or-drop, length-drop}
use Rattle.gh_stack.proofs.Vocabulary.{after_shade, asks, asks_at, Ended, first_reference, opening, Shade, StackScan, StackStage, Store, Value, wish_of}
use Rattle.gh_base.specs.declared.cell.Cell.{Cell}
use Rattle.gh_base.specs.declared.limits.TheConstants.{REGISTERS}
use Rattle.gh_base.specs.Cells.{put}
use Rattle.gh_base.specs.Rows.{Row}
use Rattle.gh_base.specs.Steps.{effect}
use Rattle.gh_heap.specs.Rights.{IsOf}
use Rattle.gh_marks.specs.Colours.{Colour, Cycle, IsClean, IsMarked, IsSince, seen_word, Shared}
use Rattle.gh_marks.specs.Good.{Good}
use Rattle.gh_marks.specs.Laws.{EachFactLasts}
use Rattle.gh_marks.specs.Moves.{Keeps, MayScanStack, ScanStack, Steps, lands_by, moved, seen_some}
use Rattle.gh_marks.specs.Seats.{CleanBelow}
use Rattle.gh_stack.specs.Facts.{AreRegisters, Begins, Facts, IsWish, StacksAreScannedByMoves, StageFacts, named}

-- one register more is clean
clean-more : (mark : ℕ → Colour) (row : Row) (i : ℕ) → CleanBelow mark row i → IsClean mark (row i) → CleanBelow mark row (i + 1)
clean-more mark row i h c j l = below_more (λ (j : ℕ). IsClean mark (row j)) i h c j l

clean-nil : (mark : ℕ → Colour) (v : ℕ) → v ≡ 0 → IsClean mark v
clean-nil mark v e o h = absurd (omega arith)

module _ (s : Shared) (g : ℕ) where
  abbrev row : Row
  row = s.registers g

  -- what is seen of a value
  abbrev seen : Value → ℕ
  seen v = seen_word s.extents.base (named v)

  -- these are the values of the registers from number i on
  record AreFrom (i : ℕ) (values : List Value) : Type 0 where
    pub all : i + length values ≡ REGISTERS
    pub each : (n : ℕ) → n < length values → row (i + n) ≡ seen (slice_index_or values n Value.Nil)
    pub some : (n reference : ℕ) → n < length values → slice_index_or values n Value.Nil ≡ Value.Ref reference → 1 ≤ reference

  behind : (i : ℕ) (v : Value) (values : List Value) → AreFrom i (v ∷ values) → AreFrom (i + 1) values
  behind i v values h = record {
    all = omega (arith, h.all);
    each = λ n l. let index : i + 1 + n ≡ i + suc n = omega arith in ap row index ∙ h.each (suc n) (omega arith);
    some = λ n reference l e. h.some (suc n) reference (omega arith) e;
  }

  here : (i : ℕ) (v : Value) (values : List Value) → AreFrom i (v ∷ values) → row i ≡ seen v
  here i v values h = let index : i ≡ i + 0 = omega arith in ap row index ∙ h.each 0 (omega arith)

  -- the first reference from there on
  first : (i : ℕ) (values : List Value) → AreFrom i values → CleanBelow s.colour row i → StageFacts s g (first_reference i values)
  first i [] h c = let all : i ≡ REGISTERS = omega (arith, h.all) in subst (λ (n : ℕ). CleanBelow s.colour row n) all c
  first i (Value.Ref reference ∷ values) h c = record { within = omega (arith, h.all); names = here i (Value.Ref reference) values h; some = h.some 0 reference (omega arith) refl; before = c }
  first i (Value.Nil ∷ values) h c = first (i + 1) values (behind i Value.Nil values h) (clean-more s.colour row i c (clean-nil s.colour (row i) (here i Value.Nil values h)))
  first i (Value.Int n ∷ values) h c = first (i + 1) values (behind i (Value.Int n) values h) (clean-more s.colour row i c (clean-nil s.colour (row i) (here i (Value.Int n) values h)))

  from : (i : ℕ) (registers : List Value) → AreRegisters s.extents.base row registers → i ≤ REGISTERS → AreFrom i (drop i registers)
  from i registers h le = record {
    all = omega (arith, h.whole, length-drop i registers);
    each = λ n l. h.each (i + n) (omega (arith, l, length-drop i registers)) ∙ ap seen (sym (get_or-drop i registers n Value.Nil));
    some = λ n reference l e. h.some (i + n) reference (omega (arith, l, length-drop i registers)) (sym (get_or-drop i registers n Value.Nil) ∙ e);
  }

begins : (z : Cycle) (a : ℕ) (s : Shared) (g : ℕ) (registers : List Value) → Good z s → Begins z a s g → AreRegisters s.extents.base (s.registers g) registers → Facts z a s (opening g z.number registers)
begins z a s g registers good b h = record {
  own = b.own;
  goes_on = b.goes_on;
  cycle_is = refl;
  since = good.values.stacks g;
  registers_are = h;
  stage_is = first s g 0 (drop 0 registers) (from s g 0 registers h (omega arith)) (λ i l. absurd (omega arith));
}

wish-at : (z : Cycle) (s : Shared) (g : ℕ) (p : StackStage) (reference : ℕ) → Good z s → StageFacts s g p → wish_of p ≡ Some reference → IsWish s reference
wish-at z s g (Shade register own) reference good f e =
    let is : own ≡ reference = cc in
    let some : 1 ≤ reference = omega (arith, f.some, is) in
    record { some = some; known = good.values.stacks g register (s.extents.base (reference - 1)) (f.names ∙ ap (seen_word s.extents.base) is ∙ seen_some s.extents.base reference some) }
wish-at z s g Store reference good f e = absurd (cc)
wish-at z s g Ended reference good f e = absurd (cc)

told-at : (s : Shared) (g : ℕ) (registers : List Value) (p : StackStage) (reference : ℕ) → AreRegisters s.extents.base (s.registers g) registers → StageFacts s g p → wish_of p ≡ Some reference → IsMarked s.colour (s.extents.base (reference - 1)) → StageFacts s g (after_shade registers p)
told-at s g registers (Shade register own) reference h f e marked =
    first s g (register + 1) (drop (register + 1) registers) (from s g (register + 1) registers h (omega (arith, f.within))) (clean-more s.colour (s.registers g) register f.before clean) where
      clean : IsClean s.colour (s.registers g register)
      clean o same =
          let is : own ≡ reference = cc in
          let seen : s.registers g register ≡ s.extents.base (reference - 1) + 1 = f.names ∙ ap (seen_word s.extents.base) is ∙ seen_some s.extents.base reference (omega (arith, f.some, is)) in
          let object : s.extents.base (reference - 1) ≡ o = omega (arith, seen, same) in
          subst (λ (x : ℕ). IsMarked s.colour x) object marked
told-at s g registers Store reference h f e marked = absurd (cc)
told-at s g registers Ended reference h f e marked = absurd (cc)

stores : (z : Cycle) (a : ℕ) (s : Shared) (m : StackScan) → Facts z a s m → CleanBelow s.colour (s.registers m.goroutine) REGISTERS → Steps z a s (asks_at m Store) (λ t. t ≡ moved z a s (ScanStack m.goroutine))
stores z a s m f clean =
    let may : MayScanStack z a s m.goroutine = record { own = f.own; goes_on = f.goes_on; clean = λ d l. clean d l } in
    lands_by z a s (effect s.words (asks_at m Store)) (λ t. t ≡ moved z a s (ScanStack m.goroutine)) (ScanStack m.goroutine) may (ap (λ (n : ℕ). put s.words (Cell.Scanned m.goroutine) n) (sym f.cycle_is)) refl

own-step : (z : Cycle) (a : ℕ) (s : Shared) (m : StackScan) → Facts z a s m → m.stage ≡ Store → Steps z a s (asks m) (λ t. t ≡ moved z a s (ScanStack m.goroutine))
own-step z a s m f e = subst (λ (p : StackStage). Steps z a s (asks_at m p) (λ t. t ≡ moved z a s (ScanStack m.goroutine))) (sym e)
    (stores z a s m f (subst (λ (p : StackStage). StageFacts s m.goroutine p) e f.stage_is))

-- What is known lasts.
module _ (last : EachFactLasts) (z : Cycle) (a : ℕ) (s t : Shared) (k : Keeps z a s t) where
  clean-below : (g x : ℕ) → IsOf z.arena a g → CleanBelow s.colour (s.registers g) x → CleanBelow t.colour (t.registers g) x
  clean-below g x own h i l = (last z a s t k).register g i own (h i l)

  -- what is seen of a register's word stays
  seen-lasts : (g d w : ℕ) → IsSince s.since (s.registers g d) → s.registers g d ≡ seen_word s.extents.base w → seen_word t.extents.base w ≡ seen_word s.extents.base w
  seen-lasts g d w known e = (last z a s t k).seen w (subst (λ (v : ℕ). IsSince s.since v) e known)

  stage-lasts : (g : ℕ) (p : StackStage) → IsOf z.arena a g → ((d : ℕ) → IsSince s.since (s.registers g d)) → StageFacts s g p → StageFacts t g p
  stage-lasts g (Shade register reference) own known f = record { within = f.within; names = k.registers g register own ∙ f.names ∙ sym (seen-lasts g register reference (known register) f.names); some = f.some; before = clean-below g register own f.before }
  stage-lasts g Store own known f = clean-below g REGISTERS own f
  stage-lasts g Ended own known f = tt

  lasts : (m : StackScan) → Facts z a s m → Facts z a t m
  lasts m f = record {
    own = f.own;
    goes_on = λ e. f.goes_on (sym (k.stacks m.goroutine f.own) ∙ e);
    cycle_is = f.cycle_is;
    since = λ d o e. k.since o (f.since d o (sym (k.registers m.goroutine d f.own) ∙ e));
    registers_are = record {
      whole = f.registers_are.whole;
      each = λ d l. k.registers m.goroutine d f.own ∙ f.registers_are.each d l ∙ sym (seen-lasts m.goroutine d (named (slice_index_or m.registers d Value.Nil)) (f.since d) (f.registers_are.each d l));
      some = f.registers_are.some;
    };
    stage_is = stage-lasts m.goroutine m.stage f.own f.since f.stage_is;
  }

pub scanned-by-moves : EachFactLasts → StacksAreScannedByMoves
scanned-by-moves last = record {
  begins = begins;
  wishes = λ z a s m reference g f e. wish-at z s m.goroutine m.stage reference g f.stage_is e;
  told = λ z a s m reference f e marked. record { own = f.own; goes_on = f.goes_on; cycle_is = f.cycle_is; since = f.since; registers_are = f.registers_are; stage_is = told-at s m.goroutine m.registers m.stage reference f.registers_are f.stage_is e marked };
  own_step = λ z a s m g f e. own-step z a s m f e;
  lasts = λ z a s t m k f. lasts last z a s t k m f;
}
