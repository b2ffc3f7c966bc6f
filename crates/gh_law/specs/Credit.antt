-- Credit, over every legal list of steps of all actors (Go's `bgScanCredit`): what workers have added to the bank, what was taken out of it, and what has lapsed where marking was ended. All is counted in words of the heap, and by what the list's steps do to the bank's word alone.
use Rattle.std.specs.Prelude.{◌≡◌, ℕ, ◌+◌, ◌^◌, ◌<◌, ◌≤◌, List, [], ◌∷◌}
use Rattle.gh_law.specs.Vocabulary.{Actor, Ask, Cell, Coordinating, Entry, Given, IsInLimits, IsLed, lapsed_at, Legal, MOST_STATEMENTS, Op, scanned_in, seats_of, Setup, setup_for, ShapesAreGood, state_of, Store, those, total, words}
use Rattle.gh_coord.specs.Handshake as leading
use Rattle.gh_credit.specs.Drawing.{drawn_by}
use Rattle.gh_credit.specs.Earning.{handed_by}
use Rattle.gh_mutator.specs.Spending.{spent_of}
use Rattle.gh_law.specs.Phases.{IsStopped}

-- by a store the word that it replaced has lapsed
abbrev pub lapsed_by : Ask → (found : ℕ) → ℕ
lapsed_by (Store Cell.Bank value) found = found
lapsed_by _ found = 0

-- The credit that was earned, spent, and has lapsed in the list.

abbrev pub earned_in : List (Entry Op) → ℕ
earned_in [] = 0
earned_in (e ∷ es) = earned_in es + handed_by e.ask

abbrev pub spent_in : List (Entry Op) → ℕ
spent_in [] = 0
spent_in (e ∷ es) = spent_in es + drawn_by e.ask e.found

abbrev pub lapsed_in : List (Entry Op) → ℕ
lapsed_in [] = 0
lapsed_in (e ∷ es) = lapsed_in es + lapsed_by e.ask e.found

-- the words that an actor has scanned and not handed over yet
abbrev pub left_at : Actor → ℕ
left_at (Actor.Marks w) = w.scan_work
left_at _ = 0

-- and those that it has drawn from the bank
abbrev pub spent_at : Actor → ℕ
spent_at (Actor.Runs m) = spent_of m
spent_at _ = 0

-- of the first n actors
abbrev pub left_among : (ℕ → Actor) → (n : ℕ) → ℕ
left_among at n = total (λ a. left_at (at a)) n

abbrev pub spent_among : (ℕ → Actor) → (n : ℕ) → ℕ
spent_among at n = total (λ a. spent_at (at a)) n

module _ (setup : Setup) where
  -- the actor after the list
  abbrev pub at : List (Entry Op) → ℕ → Actor
  at es a = state_of (those setup).kind a es

  -- nothing is left to hand over, nothing is in the bank, and the coordinator knows what has lapsed
  pub record IsSettled (es : List (Entry Op)) (c : Coordinating) : Type 0 where
    pub none_left : left_among (at es) (seats_of setup.layout) ≡ 0
    pub empty : words setup es Cell.Bank ≡ 0
    pub lapsed : lapsed_in es ≡ lapsed_at c.lapsed c.stage

  pub record CreditStands (es : List (Entry Op)) : Type 0 where
    -- at every moment what was earned was spent, has lapsed, or is in the bank
    pub balanced : earned_in es ≡ spent_in es + lapsed_in es + words setup es Cell.Bank
    -- it is the words that workers have scanned, but for those that they have still to hand over
    pub scanned : scanned_in setup es ≡ earned_in es + left_among (at es) (seats_of setup.layout)
    pub few : scanned_in setup es < 2 ^ 48
    -- what processors have drawn is what was spent
    pub drawn : spent_in es ≡ spent_among (at es) (seats_of setup.layout)
    -- in a stopped world no worker has any left
    pub stopped : (c : Coordinating) → IsLed setup es c → IsStopped c → left_among (at es) (seats_of setup.layout) ≡ 0
    -- while no cycle is marked all is settled
    pub settled : (c : Coordinating) → IsLed setup es c → (leading.Marks c.stage → ⊥) → IsSettled es c

-- Whatever the types' shapes, the heap's layout, its pacing, how many objects and cycles each goroutine may ask for, and however many processors and workers there are: after every legal list of their steps, in every order.
abbrev pub EveryListBalances : Type 0
EveryListBalances = (given : Given) (es : List (Entry Op)) → ShapesAreGood given.shapes → IsInLimits given.layout → total given.counts given.layout.goroutines ≤ MOST_STATEMENTS →
    Legal (those (setup_for given)) es → CreditStands (setup_for given) es
