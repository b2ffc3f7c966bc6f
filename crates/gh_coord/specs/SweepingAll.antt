-- Each span is swept: what is asked for at each stage, where that leads, and what it gives.
use Rattle.std.specs.Prelude.{◌≡◌, ℕ, ◌+◌, ◌^◌, ◌<◌, Bool, true, false, nat_lt, ◌==◌, if◌then◌else◌, Option, Some, None, is_none}
use Rattle.gh_coord.specs.Vocabulary.{Ask, Footprint, Head, Layout, Listing, Load, Lost, Page, page_of, PageWord, Runs, SweepEnd, Swept, Touch}
use Rattle.gh_base.specs.Footprints as row
use Rattle.gh_coord.specs.declared.sweep_all.SweepAll.{SweepAll}
use Rattle.gh_coord.specs.declared.sweep_all.SweepAllStage.{SweepAllStage}
use Rattle.gh_coord.specs.declared.sweep_all.SweepAllStage.TheVariants.{LoadPage, Sweep, Await, Ended}
use Rattle.gh_sweep.specs.Listing as sweep

-- the sweep generation, and the stage
abbrev pub SweepingAll : Type 0
SweepingAll = SweepAll

abbrev pub opening : (generation : ℕ) → SweepingAll
opening generation = record { generation = generation; stage = LoadPage 0 }

abbrev pub at_stage : SweepingAll → SweepAllStage → SweepingAll
at_stage s stage = record s { stage = stage }

-- somebody sweeps the span: its sweep number is 1 below
abbrev pub is_in_sweep : (generation : ℕ) → PageWord → Bool
is_in_sweep generation (Head h) = h.number + 1 == generation
is_in_sweep generation _ = false

-- what follows behind this page of so many: the next, if there is one
abbrev pub behind_of : (pages page : ℕ) → SweepAllStage
behind_of pages page = if nat_lt (page + 1) pages then LoadPage (page + 1) else Ended

abbrev pub behind : Layout → (page : ℕ) → SweepAllStage
behind l page = behind_of l.pages page

abbrev pub asks_at : Layout → SweepAllStage → Ask
asks_at l (LoadPage page) = Load (Page page)
asks_at l (Sweep page sw) = sweep.asks l sw
asks_at l (Await page) = Load (Page page)
asks_at l Ended = Load Touch

module _ (l : Layout) (s : SweepingAll) where
  -- after the load of the page's word
  abbrev pub after_load : (page : ℕ) → PageWord → SweepingAll
  after_load page (Head h) = at_stage s (if h.number + 2 == s.generation then Sweep page (sweep.opening page h) else if h.number + 1 == s.generation then Await page else behind l page)
  after_load page _ = at_stage s (behind l page)

  -- after a step of the sweep, by what that gave
  abbrev pub after_sweep : (page : ℕ) → Option SweepEnd → SweepingAll
  after_sweep page None = s
  after_sweep page (Some Lost) = at_stage s (Await page)
  after_sweep page (Some (Swept span)) = at_stage s (behind l page)

  -- after a further load of the page's word
  abbrev pub after_await : (page : ℕ) → PageWord → SweepingAll
  after_await page word = at_stage s (if is_in_sweep s.generation word then Await page else behind l page)

module _ (l : Layout) where
  abbrev pub goes_at : SweepingAll → SweepAllStage → ℕ → SweepingAll
  goes_at s (LoadPage page) found = after_load l s page (page_of found)
  goes_at s (Sweep page sw) found = after_sweep l (at_stage s (Sweep page (sweep.goes sw found))) page (sweep.gives sw found)
  goes_at s (Await page) found = after_await l s page (page_of found)
  goes_at s Ended found = at_stage s Ended

-- what it has given, and whether it is busy
abbrev pub given_at : SweepAllStage → Option (Unit {0})
given_at Ended = Some tt
given_at _ = None

abbrev pub is_busy : SweepAllStage → Bool
is_busy stage = is_none (given_at stage)

abbrev pub given : SweepingAll → Option (Unit {0})
given s = given_at s.stage

abbrev pub asks : Layout → SweepingAll → Ask
asks l s = asks_at l s.stage

abbrev pub goes : Layout → SweepingAll → ℕ → SweepingAll
goes l s found = goes_at l s s.stage found

-- the page is one that there is, and the span that it sweeps begins there
abbrev pub IsAtPage : Layout → SweepAllStage → Type 0
IsAtPage l (LoadPage page) = page < l.pages
IsAtPage l (Sweep page sw) = (page < l.pages) × (sw.page ≡ page)
IsAtPage l (Await page) = page < l.pages
IsAtPage l Ended = Unit {0}

-- its sweep of a span is sound, and asks for a step
abbrev pub RunsSweep : Layout → SweepAllStage → Type 0
RunsSweep l (Sweep page sw) = Runs (sweep.listing l) sw
RunsSweep l _ = Unit {0}

-- and the sweep generation fits a page word
pub record Sound (l : Layout) (s : SweepingAll) : Type 0 where
  pub generation : s.generation < 2 ^ 34
  pub page : IsAtPage l s.stage
  pub sweep : RunsSweep l s.stage

-- what the sweep of a span writes
abbrev pub writes : Footprint
writes row.Page = true
writes row.Mark = true
writes row.Alloc = true
writes row.Tally = true
writes row.Live = true
writes row.Heap = true
writes _ = false

abbrev pub listing : Layout → Listing SweepingAll (Unit {0})
listing l = record { asks = asks l; goes = goes l; given = given; sound = Sound l; writes = writes }

-- the sweep of a span that it runs, if it runs one
abbrev pub sweep_at : SweepAllStage → Option sweep.Sweeping
sweep_at (Sweep page sw) = Some sw
sweep_at _ = None
