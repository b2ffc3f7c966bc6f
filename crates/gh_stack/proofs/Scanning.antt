-- The scan of a stack, register by register.
use Rattle.std.proofs.Common.{◌≡◌, ℕ, zero, suc, ◌+◌, ◌<◌, false, List, [], ◌∷◌, length, drop, Some, refl, sym, ap, subst, ◌∙◌, arith, slice_index}
use Rattle.gh_stack.proofs.Vocabulary.{asks, first_reference, gives, goes, is_busy, Shade, shade_stage_from, StackScan, StackStage, Store, Value, wish_of}
use Rattle.gh_stack.specs.Scans.{references, ScansStack, shaded_times}

-- the values behind the first of those from a register on
pub drop_next : (i : ℕ) (xs : List Value) (v : Value) (vs : List Value) → drop i xs ≡ v ∷ vs → drop (i + 1) xs ≡ vs
drop_next zero xs v vs e = ap (drop 1) e
drop_next (suc i) [] v vs e = absurd (cc)
drop_next (suc i) (x ∷ xs) v vs e =
    let is : suc i + 1 ≡ suc (i + 1) = omega arith in
    ap (λ (n : ℕ). drop n (x ∷ xs)) is ∙ drop_next i xs v vs e

module _ (goroutine cycle : ℕ) (registers : List Value) where
  abbrev at : StackStage → StackScan
  at stage = record { goroutine = goroutine; cycle = cycle; registers = registers; stage = stage }

  -- from this stage on these references are wished
  record Wishes (stage : StackStage) (refs : List ℕ) : Type 0 where
    wishes : (n : ℕ) → n < length refs → wish_of (shaded_times (at stage) n).stage ≡ Some (slice_index refs n)
    waits : (n : ℕ) → n < length refs → is_busy (shaded_times (at stage) n).stage ≡ false
    behind : shaded_times (at stage) (length refs) ≡ at Store

  from_here : (values : List Value) (i : ℕ) → drop i registers ≡ values → Wishes (first_reference i values) (references values)
  from_here [] i e = record { wishes = λ n lt. absurd (omega arith); waits = λ n lt. absurd (omega arith); behind = refl }
  from_here (Value.Nil ∷ values) i e = from_here values (i + 1) (drop_next i registers Value.Nil values e)
  from_here (Value.Int n ∷ values) i e = from_here values (i + 1) (drop_next i registers (Value.Int n) values e)
  from_here (Value.Ref r ∷ values) i e =
      let next : drop (i + 1) registers ≡ values = drop_next i registers (Value.Ref r) values e in
      more (subst (λ (vs : List Value). Wishes (first_reference (i + 1) vs) (references values)) (sym next) (from_here values (i + 1) next)) where
        more : Wishes (shade_stage_from registers (i + 1)) (references values) → Wishes (Shade i r) (r ∷ references values)
        more rest = record { wishes = wishes; waits = waits; behind = rest.behind } where
          wishes : (n : ℕ) → n < length (r ∷ references values) → wish_of (shaded_times (at (Shade i r)) n).stage ≡ Some (slice_index (r ∷ references values) n)
          wishes zero lt = refl
          wishes (suc n) lt = rest.wishes n (omega arith)

          waits : (n : ℕ) → n < length (r ∷ references values) → is_busy (shaded_times (at (Shade i r)) n).stage ≡ false
          waits zero lt = refl
          waits (suc n) lt = rest.waits n (omega arith)

  pub scans : ScansStack goroutine cycle registers
  scans =
      let all : Wishes (first_reference 0 registers) (references registers) = from_here registers 0 refl in
      record {
        wishes = all.wishes;
        waits = all.waits;
        no_more = ap (λ (s : StackScan). wish_of s.stage) all.behind;
        busy = ap (λ (s : StackScan). is_busy s.stage) all.behind;
        stores = ap asks all.behind;
        gives_then = λ found. ap (λ (s : StackScan). gives s found) all.behind;
        over = λ found. ap (λ (s : StackScan). is_busy (goes s found).stage) all.behind;
      }
