-- Heaps that agree everywhere are one heap.
use Rattle.std.proofs.Common.{◌≡◌, ℕ}
use Rattle.gh_ever.proofs.Vocabulary.{Ever, Name}

pub same_ever : (e f : Ever) → ((g : ℕ) → e.made g ≡ f.made g) → ((n : Name) → e.type_of n ≡ f.type_of n) → ((n : Name) (k : ℕ) → e.field n k ≡ f.field n k) →
    ((k : ℕ) → e.global k ≡ f.global k) → ((g d : ℕ) → e.register g d ≡ f.register g d) → ((g : ℕ) → e.ended g ≡ f.ended g) → e ≡ f
same_ever e f a b c d h k = λ i. record {
  made = λ g. a g i;
  type_of = λ n. b n i;
  field = λ n j. c n j i;
  global = λ j. d j i;
  register = λ g j. h g j i;
  ended = λ g. k g i;
}
