-- A goroutine that ends.
use Rattle.std.proofs.Common.{◌≡◌, ℕ, ◌<◌, true, false, cond, eqb, Bool, List, length, get_or, refl, arith}
use Rattle.std.proofs.lemmas.List.{get_or-set_same, get_or-set_other}
use Rattle.gh_ever.proofs.Vocabulary.{cases_eq, ever_of, Lists, nat_tests, set, with_end}
use Rattle.gh_ever.proofs.Same.{same_ever}

ended_after : (ended : List Bool) (g h : ℕ) → g < length ended → get_or (set ended g true) h false ≡ cond (eqb h g) true (get_or ended h false)
ended_after ended g h w = grind (arith, nat_tests, get_or-set_same ended g true false w, get_or-set_other ended g h true false, cases_eq h g)

pub end_after : (v : Lists) (g : ℕ) → g < length v.ended → ever_of (record v { ended = set v.ended g true }) ≡ with_end (ever_of v) g
unfolding ever_of
end_after v g w = same_ever (ever_of (record v { ended = set v.ended g true })) (with_end (ever_of v) g) (λ h. refl) (λ n. refl) (λ n k. refl) (λ k. refl) (λ h d. refl) (λ h. ended_after v.ended g h w)
