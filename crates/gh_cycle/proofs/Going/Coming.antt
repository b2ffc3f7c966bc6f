-- Where a register takes its value from the heap that never frees, marking sees its word come from the same place; and so a script reaches the value.
use Rattle.std.proofs.Common.{◌≡◌, ℕ, ◌+◌, ◌<◌, Bool, true, false, Some, refl, sym, subst, ◌∙◌, arith}
use Rattle.gh_cycle.proofs.Vocabulary.{Arena, Cell, Cycle, Ever, EverValue, from_nil, from_number, GoroutineRuns, Heap, Holds, IsKnownObject, IsMade, IsPointer, IsReached, Marking, Name, names, Place, points, Reach, reference_of, REGISTERS, seen_field, seen_global, shape_for, size_for, TakesFrom, TheReachedWereMade, view}
use Rattle.gh_model.specs.Ever as path
use Rattle.gh_marks.specs.Moves as marks
use Rattle.gh_cycle.specs.Deeds.{from_field, from_global, from_register}
use Rattle.gh_cycle.proofs.Beginning.{reference-told}
use Rattle.gh_marks.specs.Moves.{seen_is}
use Rattle.gh_cycle.proofs.Going.Objects.{here}
use Rattle.gh_cycle.proofs.Going.Plain.{Together}

pub from-reached : (z : Arena) (e : Ever) (g : ℕ) → e.ended g ≡ false → (value : EverValue) → TakesFrom z e g value → IsReached e value
from-reached z e g on value from_nil = λ n is. absurd (cc)
from-reached z e g on value (from_number i) = λ n is. absurd (cc)
from-reached z e g on value (from_register r low) = λ n is. path.from_register g r n on is
from-reached z e g on value (from_field r n k low named few scans) = λ m is. path.from_field n k m (path.from_register g r n on named) is
from-reached z e g on value (from_global k low) = λ n is. path.from_global k n is

-- the word of a pointer is what its value names, and a number names nothing
word-of : (place : Place) (made : ℕ → ℕ) (value : EverValue) (word : ℕ) → Holds place made true value word → word ≡ reference_of place value
word-of place made value word holds = grind arith

none-of : (place : Place) (made : ℕ → ℕ) (value : EverValue) (word : ℕ) → Holds place made false value word → 0 ≡ reference_of place value
none-of place made value word holds = grind arith

module _ (made : TheReachedWereMade) (z : Cycle) (a : ℕ) (h : Heap) (s : Marking) (w : Together z h s) (g : ℕ) (runs : GoroutineRuns z.arena (view (here h s)) a g) where
  abbrev Comes : EverValue → Type 0
  Comes value = marks.MayBring z s g (reference_of h.place value)

  by-word : (word : ℕ) (value : EverValue) → word ≡ reference_of h.place value → marks.MayBring z s g word → Comes value
  by-word word value is c = subst (λ (x : ℕ). marks.MayBring z s g x) is c

  register-is : (r : ℕ) → r < REGISTERS → s.registers g r ≡ reference_of h.place (h.ever.register g r)
  register-is r low = w.beside.registers g r runs.of.0 low runs.goes_on

  -- a field of an object that a register names: where it is no pointer, it holds a number
  field-comes : (r : ℕ) (n : Name) (k : ℕ) → r < REGISTERS → names (h.ever.register g r) ≡ Some n → k < size_for z.arena.shapes h.ever.type_of n → (points z.arena.shapes h.ever.type_of n k ≡ true → (shape_for z.arena.shapes h.ever.type_of n).noscan ≡ false) → Comes (h.ever.field n k)
  field-comes r n k low named few scans = by (points z.arena.shapes h.ever.type_of n k) refl (w.heap.fields n k known (w.heap.reached n reach) few) where
    reach : Reach h.ever n
    reach = path.from_register g r n runs.goes_on named

    known : IsMade h.ever.made n
    known = made z.arena h.ever w.bounded n reach

    of : IsKnownObject (here h s) s n
    of = record { made = known; placed = w.heap.reached n reach; known = w.beside.known n reach }

    by : (p : Bool) → points z.arena.shapes h.ever.type_of n k ≡ p → Holds h.place h.ever.made p (h.ever.field n k) (s.words (Cell.Field (h.place n + k))) → Comes (h.ever.field n k)
    by true kind holds = by-word (seen_field s (h.place n + k)) (h.ever.field n k) (seen_is s.extents.base w.beside.base (s.words (Cell.Field (h.place n + k))) ∙ word-of h.place h.ever.made (h.ever.field n k) (s.words (Cell.Field (h.place n + k))) holds)
        (marks.from_field r (h.place n) k low (register-is r low ∙ reference-told h.place (h.ever.register g r) n named) pointer) where
          pointer : IsPointer s.extents (h.place n) k
          pointer = (subst (λ (i : ℕ). k < i) (sym (w.beside.size n of)) few, w.beside.pointer n k of few ∙ kind, w.beside.noscan n of ∙ scans kind)
    by false kind holds = by-word 0 (h.ever.field n k) (none-of h.place h.ever.made (h.ever.field n k) (s.words (Cell.Field (h.place n + k))) holds) marks.from_nothing

  pub comes : (value : EverValue) → TakesFrom z.arena h.ever g value → Comes value
  comes value from_nil = marks.from_nothing
  comes value (from_number i) = marks.from_nothing
  comes value (from_register r low) = by-word (s.registers g r) (h.ever.register g r) (register-is r low) (marks.from_register r low)
  comes value (from_field r n k low named few scans) = field-comes r n k low named few scans
  comes value (from_global k low) = by-word (seen_global s k) (h.ever.global k) (seen_is s.extents.base w.beside.base (s.words (Cell.Global k)) ∙ word-of h.place h.ever.made (h.ever.global k) (s.words (Cell.Global k)) (w.heap.globals k low)) (marks.from_global k low)
