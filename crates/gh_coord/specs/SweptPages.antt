-- Where the coordinator tells that a cycle is swept, it has found of each page that nothing is left to sweep there: said by the words, whatever it is told.
use Rattle.std.specs.Prelude.{◌≡◌, ◌≢◌, ℕ, ◌+◌, ◌<◌, ◌≤◌, ◌⊎◌, Option, Some}
use Rattle.gh_coord.specs.Vocabulary.{Ask, Gen, gives, Head, Layout, Load, Lost, Page, page_of, PageWord, steps_of, Store, SweepEnd, Sweeping, told}
use Rattle.gh_base.specs.declared.cell.Cell.TheVariants.{Swept}
use Rattle.gh_coord.specs.Listing.{asks, Coordinating, opening, sweep_in}
use Rattle.gh_coord.specs.Sound.{listing}
use Rattle.gh_sweep.specs.declared.sweep.SweptSpan.{SweptSpan}

-- By its word no span begins at the page whose sweep number is so much below the sweep generation: 2 below it is unswept, 1 below somebody sweeps it.
abbrev pub IsNone : (below generation : ℕ) → PageWord → Type 0
IsNone below generation (Head h) = h.number + below ≢ generation
IsNone below generation _ = Unit {0}

-- the step loads the page's word, and that says so
pub record FindsNoSpanBelow (below generation : ℕ) (step : Ask) (found page : ℕ) : Type 0 where
  pub loads : step ≡ Load (Page page)
  pub is_so : IsNone below generation (page_of found)

-- with the step its own sweep of the span that begins there has ended, with this
pub record EndsSweep (running : Option Sweeping) (found page : ℕ) (end : SweepEnd) : Type 0 where
  pub sw : Sweeping
  pub runs : running ≡ Some sw
  pub page_is : sw.page ≡ page
  pub ends : gives sw found ≡ Some end

module _ (l : Layout) (seat gogc minheap room : ℕ) (found : ℕ → ℕ) where
  -- after n steps
  abbrev pub state : ℕ → Coordinating
  state n = told (steps_of l (listing l)) (opening l seat gogc minheap room) found n

  -- with this step it has found that no unswept span begins at the page: by the word, or since another has begun to sweep it
  abbrev pub FindsBegun : (generation page by : ℕ) → Type 0
  FindsBegun generation page by = FindsNoSpanBelow 2 generation (asks l (state by)) (found by) page ⊎ EndsSweep (sweep_in (state by)) (found by) page Lost

  -- with this step it has found that somebody sweeps no span there
  abbrev pub FindsDone : (generation page by : ℕ) → Type 0
  FindsDone generation page by = FindsNoSpanBelow 1 generation (asks l (state by)) (found by) page

  -- with this step it has swept the span there itself
  abbrev pub HasSwept : (page by : ℕ) → Type 0
  HasSwept page by = (span : SweptSpan) × EndsSweep (sweep_in (state by)) (found by) page (SweepEnd.Swept span)

  -- By one of the first n steps it has swept the span itself, or found that nobody sweeps it, and by that step or one before that it is not unswept. Since then the sweep generation was not stored.
  pub record HasPassed (n generation page : ℕ) : Type 0 where
    pub first : ℕ
    pub by : ℕ
    pub is_behind : first ≤ by
    pub is_before : by < n
    pub is_so : HasSwept page by ⊎ (FindsBegun generation page first × FindsDone generation page by)
    pub since : (m : ℕ) → first ≤ m → m < n → (other : ℕ) → asks l (state m) ≢ Store Gen other

abbrev pub TellsOnceAllAreSwept : Type 0
TellsOnceAllAreSwept = (l : Layout) (seat gogc minheap room : ℕ) (found : ℕ → ℕ) (n cycle page : ℕ) →
    asks l (state l seat gogc minheap room found n) ≡ Store Swept cycle → page < l.pages → HasPassed l seat gogc minheap room found n (state l seat gogc minheap room found n).generation page
