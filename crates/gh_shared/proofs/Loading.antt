-- Where a load stands after each of its steps.
use Rattle.std.proofs.Common.{◌≡◌, ℕ, ◌+◌, ◌-◌, Bool, true, false, cond, refl, sym, ap, ◌∙◌, Some, None, arith}
use Rattle.gh_shared.proofs.Vocabulary.{Answer, at_task, Birth, Bits, Ends, Fault, Field, follows, has_field, is_pointer_by, Layout, Load, LoadStage, marks_after, Mutating, name_of, NilBase, object_in, Op, Page, register_of, rested, set_register, takes, taking, Task, Value, value_of, value_told}
use Rattle.gh_mutator.specs.declared.step.Step.{Step}
use Rattle.gh_mutator.specs.declared.step.Then.{Then}
use Rattle.gh_mutator.specs.Load as load
use Rattle.gh_mutator.specs.Mutating as mutating
use Rattle.gh_mutator.specs.Step.{answered, ends, goes_on}

-- the processor at a load
abbrev pub at_load : Mutating → Load → Mutating
at_load m x = record m { processor = at_task m.processor (Task.Load x) }

-- its register has taken the value
abbrev pub with_value : Mutating → (g d : ℕ) → Value → Mutating
with_value m g d v = record m { processor = set_register m.processor g d v }

-- what a step of the load comes to
abbrev pub after_step : Mutating → Load → Step Load → Mutating
after_step m x s = record m { processor = at_task (taking (at_load m x).processor x.g x.d s.sets) (follows Task.Load s.then); marks = marks_after m.marks (answered s.then) }

module _ (l : Layout) (m : Mutating) (g d b k : ℕ) where
  abbrev pub load_at : (at : ℕ) → LoadStage → Load
  load_at at s = record { g = g; d = d; b = b; k = k; at = at; stage = s }

  -- ---- where it begins

  pub begins_page : (at : ℕ) → object_in (register_of m.processor g b) ≡ Some at → mutating.begins m (Op.Load g d b k) ≡ at_load m (load_at at Page)
  begins_page at e = grind arith

  pub begins_none : object_in (register_of m.processor g b) ≡ None → mutating.begins m (Op.Load g d b k) ≡ at_load m (load_at 0 NilBase)
  begins_none e = grind arith

  -- ---- its steps

  pub goes_so : (x : Load) (n : ℕ) (s : Step Load) → load.step l x n ≡ s → mutating.goes l (at_load m x) n ≡ after_step m x s
  goes_so x n s e = ap (after_step m x) e

  pub gives_so : (x : Load) (n : ℕ) (s : Step Load) → load.step l x n ≡ s → mutating.gives l (at_load m x) n ≡ answered s.then
  gives_so x n s e = ap (λ (t : Step Load). answered t.then) e

  module _ (at : ℕ) where
    -- without an object
    pub none_goes : (n : ℕ) → mutating.goes l (at_load m (load_at at NilBase)) n ≡ rested m m.processor (Answer.Fault Fault.NilBase)
    none_goes n = refl

    pub none_gives : (n : ℕ) → mutating.gives l (at_load m (load_at at NilBase)) n ≡ Some (Answer.Fault Fault.NilBase)
    none_gives n = refl

    -- with the page word
    page_step : (n : ℕ) (has : Bool) → has_field k n ≡ has → load.step l (load_at at Page) n ≡ (cond has (goes_on (load_at at Bits)) (ends (Answer.Fault Fault.Field)))
    page_step n has e = ap (λ (h : Bool). cond h (goes_on (load_at at Bits)) (ends (Answer.Fault Fault.Field))) e

    pub page_goes : (n : ℕ) → has_field k n ≡ true → mutating.goes l (at_load m (load_at at Page)) n ≡ at_load m (load_at at Bits)
    page_goes n e = goes_so (load_at at Page) n (goes_on (load_at at Bits)) (page_step n true e)

    pub page_ends : (n : ℕ) → has_field k n ≡ false → mutating.goes l (at_load m (load_at at Page)) n ≡ rested m m.processor (Answer.Fault Fault.Field)
    page_ends n e = goes_so (load_at at Page) n (ends (Answer.Fault Fault.Field)) (page_step n false e)

    pub page_gives : (n : ℕ) → has_field k n ≡ false → mutating.gives l (at_load m (load_at at Page)) n ≡ Some (Answer.Fault Fault.Field)
    page_gives n e = gives_so (load_at at Page) n (ends (Answer.Fault Fault.Field)) (page_step n false e)

    -- with the word of the bitmap
    pub bits_goes : (n : ℕ) (pointer : Bool) → pointer ≡ is_pointer_by l (at + k) n → mutating.goes l (at_load m (load_at at Bits)) n ≡ at_load m (load_at at (Field pointer))
    bits_goes n pointer e = ap (λ (p : Bool). at_load m (load_at at (Field p))) (sym e)

    -- with the field, whose value is v
    module _ (pointer : Bool) (n : ℕ) (v : Value) (is : v ≡ value_of l.pages pointer n) where
      abbrev at_field : Load
      at_field = load_at at (Field pointer)

      field_step : load.step l at_field n ≡ takes (load.naming at_field) v
      field_step = ap (takes (load.naming at_field)) (sym is)

      -- that is told at once
      pub field_ends : (given : Answer) → value_told (load.naming at_field) v ≡ Ends given → mutating.goes l (at_load m at_field) n ≡ rested m (set_register m.processor g d v) given
      field_ends given e = goes_so at_field n (takes (load.naming at_field) v) field_step ∙ ap (λ (t : Then Load). after_step m at_field (record { then = t; sets = Some v; acts = true })) e

      pub field_gives : (given : Answer) → value_told (load.naming at_field) v ≡ Ends given → mutating.gives l (at_load m at_field) n ≡ Some given
      field_gives given e = gives_so at_field n (takes (load.naming at_field) v) field_step ∙ ap answered e

      -- or that is a reference, of which the name is loaded next
      pub field_refers : (r : ℕ) → v ≡ Value.Ref r → mutating.goes l (at_load m at_field) n ≡ at_load (with_value m g d v) (load_at at (Birth (r - 1)))
      field_refers r e = goes_so at_field n (takes (load.naming at_field) v) field_step ∙ ap (λ (w : Value). after_step m at_field (record { then = value_told (load.naming at_field) w; sets = Some v; acts = true })) e

    -- with the name
    pub birth_ends : (v : Value) (i n : ℕ) → mutating.goes l (at_load (with_value m g d v) (load_at at (Birth i))) n ≡ rested m (set_register m.processor g d v) (Answer.Ref (name_of l.goroutines n))
    birth_ends v i n = refl

    pub birth_gives : (v : Value) (i n : ℕ) → mutating.gives l (at_load (with_value m g d v) (load_at at (Birth i))) n ≡ Some (Answer.Ref (name_of l.goroutines n))
    birth_gives v i n = refl
