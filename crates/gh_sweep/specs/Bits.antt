-- How many bits of a word are set, and how many objects a sweep keeps and frees.
use Rattle.std.specs.Prelude.{◌≡◌, ℕ, zero, suc, ◌+◌, ◌-◌, ◌^◌, ◌<◌, bit_and, count_ones}
use Rattle.gh_sweep.specs.Vocabulary.{bit_at}

-- the sum of f over the numbers below n
unfoldable pub sum_below : (ℕ → ℕ) → ℕ → ℕ
sum_below f zero = 0
sum_below f (suc n) = sum_below f n + f n

-- how many bits of an alloc word are kept where these are the marks, and how many are freed
abbrev pub kept_in : (alloc marks : ℕ) → ℕ
kept_in alloc marks = count_ones (bit_and alloc marks)

abbrev pub freed_in : (alloc marks : ℕ) → ℕ
freed_in alloc marks = count_ones (bit_and alloc (2 ^ 64 - 1 - marks))

-- the number of set bits of a word is the sum of its bits
abbrev pub SetBitsAreCounted : Type 0
SetBitsAreCounted = (word : ℕ) → word < 2 ^ 64 → count_ones word ≡ sum_below (λ j. bit_at word j) 64

-- each set bit of an alloc word is kept or freed
abbrev pub BitsAreKeptOrFreed : Type 0
BitsAreKeptOrFreed = (alloc marks : ℕ) → alloc < 2 ^ 64 → marks < 2 ^ 64 → kept_in alloc marks + freed_in alloc marks ≡ count_ones alloc
