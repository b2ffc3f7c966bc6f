-- Where all is over a script reaches what its globals hold: every goroutine that there is has ended, and no other has a register that names an object.
use Rattle.std.proofs.Common.{◌≡◌, ℕ, ◌<◌, ◌≤◌, Bool, true, false, cond, List, [], ◌∷◌, Some, None, refl, sym, ap, ◌∙◌, arith, inl, inr}
use Rattle.gh_explained.proofs.Vocabulary.{Answer, by_field, by_global, cases_lt, Ever, ever_after, ever_after_all, EverValue, filter, from_field, from_global, from_register, is_statement_of, IsHeldByGlobals, Name, names, nat_tests, Op, Reach, Shape}

module _ (shapes : List Shape) (g d : ℕ) where
  -- whoever is no statement of the goroutine leaves its registers
  leaves : (e : Ever) (o : Op) (a : Answer) → is_statement_of g o ≡ false → (ever_after shapes e o a).register g d ≡ e.register g d
  leaves e o a ne = grind (arith, nat_tests)

  pub all_leave : (e : Ever) (os : List Op) (as' : List Answer) → filter (is_statement_of g) os ≡ [] → (ever_after_all shapes e os as').register g d ≡ e.register g d
  all_leave e [] as' none = refl
  all_leave e (o ∷ os) [] none = refl
  all_leave e (o ∷ os) (a ∷ as') none = go (is_statement_of g o) refl none (λ rest. all_leave (ever_after shapes e o a) os as' rest) where
    go : (b : Bool) → is_statement_of g o ≡ b → cond b (o ∷ filter (is_statement_of g) os) (filter (is_statement_of g) os) ≡ [] → (filter (is_statement_of g) os ≡ [] → (ever_after_all shapes (ever_after shapes e o a) os as').register g d ≡ (ever_after shapes e o a).register g d) →
        (ever_after_all shapes (ever_after shapes e o a) os as').register g d ≡ e.register g d
    go true is none rest = absurd cc
    go false is none rest = rest none ∙ leaves e o a is

-- so what is reached then is held by the globals
pub held_at_end : (e : Ever) (goroutines : ℕ) → ((g : ℕ) → g < goroutines → e.ended g ≡ true) → ((g d : ℕ) → goroutines ≤ g → e.register g d ≡ EverValue.Nil) → (n : Name) → Reach e n → IsHeldByGlobals e n
held_at_end e goroutines over beyond n (from_global k m is) = by_global k m is
held_at_end e goroutines over beyond n (from_register g d m runs is) = elim (cases_lt g goroutines) [
  | inl lt ↦ absurd (let no : true ≡ false = sym (over g lt) ∙ runs in cc)
  | inr le ↦ absurd (let no : None ≡ Some m = ap names (sym (beyond g d le)) ∙ is in cc)
]
held_at_end e goroutines over beyond n (from_field m k o r is) = by_field m k o (held_at_end e goroutines over beyond m r) is
