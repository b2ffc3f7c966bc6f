-- While marking is on, an object is marked before it is made; while it is off, nothing is marked: by its stages.
use Rattle.std.proofs.Common.{◌≡◌, ◌≢◌, ℕ, zero, suc, ◌+◌, ◌*◌, ◌%◌, ◌^◌, Bool, true, false, cond, nat_lt, Option, Some, None, is_none, refl, sym, ap, ◌∙◌, arith}
use Rattle.gh_alloc.proofs.Vocabulary.{Alloc, Birth, Bits, Cell, cell_of, Clear, Count, counted, filled, Layout, LoadTrigger, made, Mark, opening, Or, PlaceStage, Placing, SpanHead, steps_of, told}
use Rattle.gh_bitmap.specs.SetPointers as bits
use Rattle.gh_alloc.specs.declared.place.PlaceStage.TheVariants.{Ended}
use Rattle.gh_alloc.specs.Marking.{AnObjectIsMarkedBeforeItIsMade, IsMarkedBefore}
use Rattle.gh_alloc.specs.Place.{asks, asks_at, goes_at, listing}

-- The alloc bits are set at one stage, and the mark bits at one.

sets_alloc : (l : Layout) (p : Placing) (q : PlaceStage) (i w : ℕ) → asks_at l p q ≡ Or (Cell.Alloc i) w → q ≡ Alloc
sets_alloc l p q i w e = grind arith

sets_mark : (l : Layout) (p : Placing) (q : PlaceStage) (i : ℕ) → cell_of (asks_at l p q) ≡ Cell.Mark i → q ≡ Mark
sets_mark l p q i e = grind arith

-- Where marking is on, the stage before that of the alloc bit is that of the mark bit.

from_mark : (p : Placing) (q : PlaceStage) (w : ℕ) → p.marking ≡ true → goes_at p q w ≡ Alloc → q ≡ Mark
from_mark p q w on e = grind arith

-- Where it is off, no stage leads to that of the mark bit.

unmarked_cleared : (b : Bool) (k : ℕ) → cond b (Clear k) Birth ≢ Mark
unmarked_cleared true k e = absurd (cc)
unmarked_cleared false k e = absurd (cc)

unmarked_filled : (b : Bool) (s : bits.PointerSetting) → cond b (Bits s) (filled false) ≢ Mark
unmarked_filled true s e = absurd (cc)
unmarked_filled false s e = absurd (cc)

unmarked_made : (p : Placing) (span : Option SpanHead) → made p span ≢ Mark
unmarked_made p None e = absurd (cc)
unmarked_made p (Some head) e = absurd (cc)

unmarked_counted : (p : Placing) (found : ℕ) → counted p found ≢ Mark
unmarked_counted p found e = by p.marking e where
  by : (b : Bool) → cond b (Ended false) (LoadTrigger ((found + 8 * p.slot) % 2 ^ 64)) ≢ Mark
  by true e = cc
  by false e = cc

no_mark : (p : Placing) (q : PlaceStage) (w : ℕ) → p.marking ≡ false → goes_at p q w ≢ Mark
no_mark p (Clear k) w off e = absurd (unmarked_cleared (nat_lt (k + 1) p.slot) (k + 1) e)
no_mark p (Bits s) w off e = absurd (unmarked_filled (is_none (bits.given (bits.goes s w))) (bits.goes s w) (ap (λ (m : Bool). cond (is_none (bits.given (bits.goes s w))) (Bits (bits.goes s w)) (filled m)) (sym off) ∙ e))
no_mark p Alloc w off e = absurd (unmarked_made p p.span e)
no_mark p Count w off e = absurd (unmarked_counted p w e)
no_mark p _ w off e = absurd (cc)

same_bits : (i j w x : ℕ) → Or (Cell.Alloc i) w ≡ Or (Cell.Alloc j) x → Or (Cell.Mark i) w ≡ Or (Cell.Mark j) x
same_bits i j w x e = cc

module _ (l : Layout) (p : Placing) (found : ℕ → ℕ) where
  abbrev after : ℕ → Placing
  after n = told (steps_of l (listing l)) p found n

  keeps_marking : (n : ℕ) → (after n).marking ≡ p.marking
  keeps_marking zero = refl
  keeps_marking (suc n) = keeps_marking n

  marked : p.marking ≡ true → p.stage ≡ Clear 0 → (n i w : ℕ) → asks l (after n) ≡ Or (Cell.Alloc i) w → IsMarkedBefore l p found n i w
  marked on first n i w e = grind (arith, from_mark, keeps_marking, same_bits, sets_alloc)

pub marked_first : AnObjectIsMarkedBeforeItIsMade
marked_first = record {
  marked = λ l shape at slot name span found. marked l (opening shape at slot name span true) found refl refl;
  opens_off = λ shape at slot name span. record { off = refl; stage = λ e. absurd (cc) };
  stays_off = λ p found x. record { off = x.off; stage = no_mark p p.stage found x.off };
  unmarked = λ l p i x e. x.stage (sets_mark l p p.stage i e);
}
