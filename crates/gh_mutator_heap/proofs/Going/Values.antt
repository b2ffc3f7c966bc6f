-- What a statement's step changes in the heap that never frees, and the pointer fields of objects that a script reaches, beside marking.
use Rattle.std.proofs.Common.{◌≡◌, ℕ, ◌/◌, ◌%◌, ◌<◌, Bool, true, false, eqb, ltb, List, [], ◌++◌, length, Option, Some, None, inl, inr, ◌⊎◌, refl, ap, subst, ◌∙◌, arith}
use Rattle.std.proofs.lemmas.Bool.{cases_Bool, ltb-true, ltb-false}
use Rattle.std.proofs.lemmas.List.{get_or_past}
use Rattle.std.proofs.lemmas.Nat.Bits.{bit_at-zero}
use Rattle.gh_mutator_heap.proofs.Vocabulary.{acted, acting, Answer, answered, answered_at, bit_at, Cycle, Ever, ever_after, Fault, FitsShape, Hands, Heap, HeapGood, holding_only, is_pointer, IsBeside, IsBetween, IsKnownObject, IsMade, IsPointer, KnowsNumber, KnowsStacks, Marking, Name, no_shape, Op, option_to_list, points, Polling, Reach, Shape, shape_at, ShapesAreGood, size_for, Step, Value, view, with_value_if_any}

-- The heap that never frees.

-- the step goes on, or it ends the statement with a fault
abbrev pub Quits : {S : Type 0} → Step S → Type 0
Quits step = (step.acts ≡ false) ⊎ ((f : Fault) × (step.acts ≡ true) × (answered step.then ≡ Some (Answer.Fault f)))

-- then nothing changes
pub quits_rests : {S : Type 0} (shapes : List Shape) (e : Ever) (o : Op) (pending after : Option Answer) (step : Step S) → ((f : Fault) → ever_after shapes e o (Answer.Fault f) ≡ e) → pending ≡ None →
    option_to_list (answered_at shapes e (acting step.acts o false)) ++ option_to_list pending ≡ option_to_list after ++ option_to_list (answered step.then) → Quits step → acted shapes e (acting step.acts o false) ≡ e
quits_rests shapes e o pending after step stays none all h = grind arith

-- What is known between two polls.
pub between_then : (z : Cycle) (a : ℕ) (u : Marking) (p : Polling) (g d : ℕ) (o : Option Value) → KnowsStacks z a u (with_value_if_any p g d o).local.stacks (with_value_if_any p g d o).local.scanned → KnowsNumber z p.local.view → Hands a u (holding_only p.local.held) → IsBetween z a u (with_value_if_any p g d o).local
between_then z a u p g d o stacks number hands = grind arith

-- an object with a pointer field is not noscan
no_bit : (i w : ℕ) → w ≡ 0 → eqb (bit_at w i) 1 ≡ false
no_bit i w is = rw is (ap (λ (n : ℕ). eqb n 1) (bit_at-zero i))

scans : (shape : Shape) (k : ℕ) → FitsShape shape → is_pointer shape k ≡ true → shape.noscan ≡ false
scans shape k fits e = elim (cases_Bool shape.noscan) [
  | inl t ↦ let no = (fits.noscan).0 t k in absurd (cc)
  | inr f ↦ f
]

pub pointing_scans : (shapes : List Shape) → ShapesAreGood shapes → (t k : ℕ) → is_pointer (shape_at shapes t) k ≡ true → (shape_at shapes t).noscan ≡ false
pointing_scans shapes good t k pointer = by (ltb t (length shapes)) refl where
  by : (b : Bool) → ltb t (length shapes) ≡ b → (shape_at shapes t).noscan ≡ false
  by true l = scans (shape_at shapes t) k (good.fit t (ltb-true _ _ l)) pointer
  by false l = ap (λ (shape : Shape). shape.noscan) (get_or_past shapes t no_shape (ltb-false _ _ l)) ∙ absurd (let some = subst (λ (shape : Shape). is_pointer shape k ≡ true) (get_or_past shapes t no_shape (ltb-false _ _ l)) pointer in let none = no_bit (k % 64) _ (get_or_past [] (k / 64) 0 (omega arith)) in cc)

module _ (z : Cycle) (h : Heap) (s : Marking) (shapes : ShapesAreGood z.arena.shapes) (good : HeapGood z.arena (view h)) (beside : IsBeside z.arena h s) where
  -- an object that a script reaches is known, with the pointer fields of its type
  pub known_object : (n : Name) → IsMade h.ever.made n → Reach h.ever n → IsKnownObject h s n
  known_object n made reach = record { made = made; placed = good.reached n reach; known = beside.known n reach }

  pub is_pointer_there : (n : Name) (k : ℕ) → IsMade h.ever.made n → Reach h.ever n → k < size_for z.arena.shapes h.ever.type_of n → points z.arena.shapes h.ever.type_of n k ≡ true → IsPointer s.extents (h.place n) k
  is_pointer_there n k made reach few kind = grind (arith, known_object, pointing_scans)
