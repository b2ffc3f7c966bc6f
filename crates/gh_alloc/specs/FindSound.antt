-- What the search knows of its own numbers, whatever it is told.
use Rattle.std.specs.Prelude.{◌≡◌, ℕ, ◌+◌, ◌^◌, ◌<◌, ◌≤◌, Option, Some}
use Rattle.gh_alloc.specs.Vocabulary.{After, Again, CachedSpan, Carve, End, Ended, Find, FindStage, Give, Large, Layout, Lock, MOST_PAGES, pages_of, Pass, Runs, seats_of, SizeClass, Slots, slots_of, Small, Sought, Unlock, Unswept}
use Rattle.gh_class.specs.declared.class.TheConstants.{CLASSES, MOST_SPAN_PAGES}
use Rattle.gh_cache.specs.Listing as slots
use Rattle.gh_central.specs.GiveBack as give
use Rattle.gh_central.specs.SweptPass as pass
use Rattle.gh_central.specs.UnsweptPass as unswept
use Rattle.gh_pages.specs.Listing as carve
use Rattle.gh_alloc.specs.Within.{LiesWithin, span_for}

-- a large object has 1 to MOST_SPAN_PAGES pages
abbrev pub FitsPages : Sought → Type 0
FitsPages (Small c) = Unit {0}
FitsPages (Large pages noscan) = (1 ≤ pages) × (pages ≤ MOST_SPAN_PAGES)

-- and a size class is one of the table's
abbrev pub IsSought : Sought → Type 0
IsSought (Small c) = c.class < CLASSES
IsSought (Large pages noscan) = FitsPages (Large pages noscan)

-- the pages of a span of the class lie in the arena, and the cursor is that of a slot, or the number of slots
pub record IsCachedSpan (l : Layout) (class : ℕ) (s : CachedSpan) : Type 0 where
  pub pages : s.head + pages_of class ≤ l.pages
  pub cursor : s.cursor ≤ slots_of class

abbrev pub IsCached : Layout → Sought → Option CachedSpan → Type 0
IsCached l (Small c) (Some s) = IsCachedSpan l c.class s
IsCached l _ _ = Unit {0}

-- the first word of the slot at the cursor can be told
abbrev pub FitsWord : Sought → Option CachedSpan → Type 0
FitsWord (Small c) (Some s) = (s.head ≤ MOST_PAGES) × (s.cursor ≤ 1024)
FitsWord _ _ = Unit {0}

-- the slot that it ends with, if it ends, lies in the arena
abbrev pub AfterLiesWithin : Layout → Sought → After → Type 0
AfterLiesWithin l wanted Again = Unit {0}
AfterLiesWithin l wanted (End out) = LiesWithin l wanted out

-- the routine that it runs is sound, for what is wanted, and asks for a step
abbrev pub IsStage : Layout → Sought → FindStage → Type 0
IsStage l wanted (Slots s) = Runs (slots.listing l) s × (SizeClass.Small s.span.class ≡ (span_for wanted).class)
IsStage l wanted (Give g) = Runs (give.listing l) g
IsStage l wanted (Pass p) = Runs (pass.listing l) p × (wanted ≡ Small p.wanted)
IsStage l wanted (Unswept u) = Runs (unswept.listing l) u × (wanted ≡ Small u.wanted)
IsStage l wanted (Carve c) = Runs (carve.listing l) c × (c.span ≡ span_for wanted)
IsStage l wanted (Unlock after) = AfterLiesWithin l wanted after
IsStage l wanted (Ended out) = LiesWithin l wanted out
IsStage l wanted Lock = Unit {0}

-- the cached span is the one that it searches, and its cursor that of the search
abbrev pub IsSearched : Option CachedSpan → FindStage → Type 0
IsSearched cached (Slots s) = cached ≡ Some (record { head = s.span.head; cursor = s.span.cursor })
IsSearched cached _ = Unit {0}

pub record Sound (l : Layout) (f : Find) : Type 0 where
  pub seat : f.seat < seats_of l
  pub generation : f.generation < 2 ^ 34
  pub wanted : IsSought f.wanted
  pub cached : IsCached l f.wanted f.cached
  pub stage : IsStage l f.wanted f.stage
  pub searched : IsSearched f.cached f.stage
