-- When an assist tries the bank, from its first step on, whatever its steps find: once, behind its two loads, and before it takes a grey object.
use Rattle.std.specs.Prelude.{◌≡◌, ◌≢◌, ◌⊎◌, ℕ, ◌-◌, ◌≤◌, min, Option}
use Rattle.gh_assist.specs.Vocabulary.{Cell, cell_of, Held, Layout, Load}
use Rattle.gh_assist.specs.Listing.{asks, Assisting, listing, opening}
use Rattle.gh_base.specs.declared.cell.Ask.TheVariants.{Swap}
use Rattle.gh_base.specs.Machines.{steps_of}
use Rattle.gh_base.specs.Routines.{told}

-- the word of a buffer, or an entry: the steps by which a grey object is taken, and those of its scan beside
abbrev pub IsOfBuffers : Cell → Type 0
IsOfBuffers (Cell.Buffer i) = Unit {0}
IsOfBuffers (Cell.Entry i j) = Unit {0}
IsOfBuffers _ = ⊥

-- its steps are told these words; before step n it is this
module _ (l : Layout) (x : Assisting) (found : ℕ → ℕ) where
  abbrev pub before : ℕ → Assisting
  before n = told (steps_of l (listing l)) x found n

  pub record TriesTheBankFirst : Type 0 where
    -- where words are owed behind its two loads, it looks at the bank
    pub looks : (before 2).owed ≢ 0 → asks l (before 2) ≡ Load Cell.Bank
    -- and tries to take out the lesser of what the bank held then and what is owed, if it held some
    pub tries : (before 2).owed ≢ 0 → found 2 ≢ 0 → asks l (before 3) ≡ Swap Cell.Bank (found 2) (found 2 - min (found 2) (before 2).owed)
    -- no other step of it is on the bank
    pub once : (n : ℕ) → cell_of (asks l (before n)) ≡ Cell.Bank → (n ≡ 2) ⊎ ((n ≡ 3) × (found 2 ≢ 0))
    -- it takes no grey object before that
    pub first : (n : ℕ) → IsOfBuffers (cell_of (asks l (before n))) → (3 ≤ n) × (found 2 ≢ 0 → 4 ≤ n)

abbrev pub AssistsTryTheBankFirst : Type 0
AssistsTryTheBankFirst = (l : Layout) (seat : ℕ) (held : Option Held) (bytes owed spent : ℕ) (found : ℕ → ℕ) → TriesTheBankFirst l (opening seat held bytes owed spent) found
