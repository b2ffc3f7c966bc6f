-- Looking for a slot where a collector runs: what is asked for at each stage, where that leads, what it has given, and that it writes what the search does that it runs.
use Rattle.std.specs.Prelude.{ℕ, Bool, true, false, if◌then◌else◌, Option, Some, None, is_none}
use Rattle.gh_alloc.specs.Vocabulary.{Ask, CachedSpan, FindStage, First, Found, Free, Layout, Listing, Reclaiming, Search, SearchStage, Second, Sought, Sweeping, Unlock}
use Rattle.gh_central.specs.Reclaim as reclaim
use Rattle.gh_alloc.specs.SearchSound.{Sound}
use Rattle.gh_alloc.specs.Find.{Finding, spans_for}
use Rattle.gh_alloc.specs.Find as find

-- the search of the cached span and of the heap, and the stage that says which search it is
abbrev pub Seeking : Type 0
Seeking = Search

abbrev pub opening : (seat generation : ℕ) → Sought → Option CachedSpan → Seeking
opening seat generation wanted cached = record { find = find.opening seat generation wanted cached; stage = First }

-- the next step frees the lock
abbrev pub frees_at : FindStage → Bool
frees_at (Unlock after) = true
frees_at _ = false

-- the pages of empty spans are freed
abbrev pub reclaiming : Finding → Reclaiming
reclaiming f = reclaim.opening f.generation

-- a span is looked for once more, under the same lock: each is swept by then
abbrev pub again : Finding → Finding
again f = record f { sweeps = false; stage = spans_for f f.wanted }

-- the stage after a step of the first search led there: in place of no room, empty spans are freed
abbrev pub after_first : Finding → SearchStage
after_first f = if find.finds_none f then Free (reclaiming f) else First

-- what it is after the freeing has given this
abbrev pub after_free : Finding → Reclaiming → Option (Unit {0}) → Seeking
after_free f r None = record { find = f; stage = Free r }
after_free f r (Some _) = record { find = again f; stage = Second }

module _ (l : Layout) (f : Finding) where
  abbrev pub asks_at : SearchStage → Ask
  asks_at (Free r) = reclaim.asks l r
  asks_at _ = find.asks l f

  -- the second search ends where the lock is freed
  abbrev pub goes_at : SearchStage → ℕ → Seeking
  goes_at First found = record { find = find.goes l f found; stage = after_first (find.goes l f found) }
  goes_at (Free r) found = after_free f (reclaim.goes l r found) (reclaim.given (reclaim.goes l r found))
  goes_at Second found = record { find = find.goes l f found; stage = if frees_at f.stage then First else Second }

  -- by the word found the first search goes on in the cached span or in another, or to a further page
  abbrev pub goes_further_at : SearchStage → (found : ℕ) → Bool
  goes_further_at First found = find.goes_further_at l f.stage found
  goes_further_at _ found = false

module _ (f : Finding) where
  -- what the search has given that it runs
  abbrev pub given_at : SearchStage → Option Found
  given_at (Free r) = None
  given_at _ = find.given f

  abbrev pub is_busy : SearchStage → Bool
  is_busy p = is_none (given_at p)

  -- with the next step it has ended with no room
  abbrev pub refuses_at : SearchStage → Bool
  refuses_at (Free r) = false
  refuses_at _ = find.refuses f

-- the step that it asks for, what it is after the step found this, what it has given, and what it has given after that step
abbrev pub asks : Layout → Seeking → Ask
asks l s = asks_at l s.find s.stage

abbrev pub goes : Layout → Seeking → ℕ → Seeking
goes l s found = goes_at l s.find s.stage found

abbrev pub given : Seeking → Option Found
given s = given_at s.find s.stage

abbrev pub gives : Layout → Seeking → ℕ → Option Found
gives l s found = given (goes l s found)

abbrev pub listing : Layout → Listing Seeking Found
listing l = record { asks = asks l; goes = goes l; given = given; sound = Sound l; writes = find.writes }

-- it searches the cached span
abbrev pub is_in_span : Seeking → Bool
is_in_span s = find.is_in_span s.find

abbrev pub refuses : Seeking → Bool
refuses s = refuses_at s.find s.stage

-- the sweep that it runs, if it runs one
abbrev pub sweep_at : Finding → SearchStage → Option Sweeping
sweep_at f (Free r) = reclaim.sweep_in r
sweep_at f _ = find.sweep_in f

abbrev pub sweep_in : Seeking → Option Sweeping
sweep_in s = sweep_at s.find s.stage

-- the sweep generation by which the routine sweeps that it runs
abbrev pub sweep_generation_at : Finding → SearchStage → ℕ
sweep_generation_at f (Free r) = r.generation
sweep_generation_at f _ = find.sweep_generation f

abbrev pub sweep_generation : Seeking → ℕ
sweep_generation s = sweep_generation_at s.find s.stage
