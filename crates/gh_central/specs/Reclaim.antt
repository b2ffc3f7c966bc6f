-- Pages of empty spans are freed: what is asked for at each stage, where that leads, what it has given, and that it writes what a sweep does.
use Rattle.std.specs.Prelude.{ℕ, ◌+◌, ◌*◌, ◌%◌, Bool, nat_lt, ◌==◌, if◌then◌else◌, Option, Some, None}
use Rattle.gh_central.specs.Vocabulary.{Ask, Bits, Body, Cell, Ended, Layout, Listing, Load, Look, Lost, page_of, PageWord, Reclaim, ReclaimStage, SpanHead, Store, Sweep, SweepEnd, Sweeping, Swept, Wait}
use Rattle.gh_central.specs.declared.reclaim.ReclaimStage.TheVariants.{Head}
use Rattle.gh_central.specs.ReclaimSound.{Sound}
use Rattle.gh_central.specs.SweptPass.{alloc_word}
use Rattle.gh_sweep.specs.Listing as sweep

-- the sweep generation, and the routine's stage
abbrev pub Reclaiming : Type 0
Reclaiming = Reclaim

abbrev pub at_stage : Reclaiming → ReclaimStage → Reclaiming
at_stage m p = record m { stage = p }

-- it has looked at no page
abbrev pub opening : (generation : ℕ) → Reclaiming
opening generation = record { generation = generation; stage = Look 0 }

-- what it has given at a stage
abbrev pub given_at : ReclaimStage → Option (Unit {0})
given_at Ended = Some tt
given_at _ = None

-- the bodies of the span from this distance on are freed, then its head
abbrev pub free_from : (page pages distance : ℕ) → ReclaimStage
free_from page pages distance = if nat_lt distance pages then Body page pages distance else Head page pages

-- after a step of the sweep, by what that has given
abbrev pub after_sweep : (page pages : ℕ) → Sweeping → Option SweepEnd → ReclaimStage
after_sweep page pages sw None = Sweep page pages sw
after_sweep page pages sw (Some Lost) = Wait page
after_sweep page pages sw (Some (Swept span)) = Bits page pages 0

module _ (l : Layout) where
  -- the page at this distance from the head
  abbrev pub body_page : (page distance : ℕ) → ℕ
  body_page page distance = (page + distance) % l.pages

  abbrev pub asks_at : ReclaimStage → Ask
  asks_at (Look page) = Load (Cell.Page page)
  asks_at (Sweep page pages sw) = sweep.asks l sw
  asks_at (Wait page) = Load (Cell.Page page)
  asks_at (Bits page pages i) = Load (Cell.Alloc (alloc_word l page i))
  asks_at (Body page pages distance) = Store (Cell.Page (body_page page distance)) 0
  asks_at (Head page pages) = Store (Cell.Page page) 0
  asks_at Ended = Load Cell.Touch

  abbrev pub look_from : ℕ → ReclaimStage
  look_from page = if nat_lt page l.pages then Look page else Ended

  abbrev pub after_bits : (page pages i found : ℕ) → ReclaimStage
  after_bits page pages i found =
      if found == 0 then (if nat_lt (i + 1) (16 * pages) then Bits page pages (i + 1) else free_from page pages 1)
      else look_from (page + pages)

module _ (m : Reclaiming) where
  -- the span is swept
  abbrev pub is_swept : SpanHead → Bool
  is_swept h = h.number == m.generation

  -- a span that nobody owns and that is not swept: it is swept now, or another's sweep of it is waited for
  abbrev pub unswept : ℕ → SpanHead → ReclaimStage
  unswept page h = if h.number + 2 == m.generation then Sweep page h.pages (sweep.opening page h) else Wait page

  -- a span that nobody owns
  abbrev pub unowned : ℕ → SpanHead → ReclaimStage
  unowned page h = if is_swept h then Bits page h.pages 0 else unswept page h

  -- another's sweep is waited for until the number is that of the sweep generation
  abbrev pub after_wait : ℕ → PageWord → ReclaimStage
  after_wait page PageWord.Free = Wait page
  after_wait page (PageWord.Body b) = Wait page
  after_wait page (PageWord.Head h) = if is_swept h then Bits page h.pages 0 else Wait page

module _ (l : Layout) (m : Reclaiming) where
  abbrev pub after_page : ℕ → PageWord → ReclaimStage
  after_page page PageWord.Free = look_from l (page + 1)
  after_page page (PageWord.Body b) = look_from l (page + 1)
  after_page page (PageWord.Head h) = if h.owner == 0 then unowned m page h else look_from l (page + h.pages)

  abbrev pub goes_at : ReclaimStage → ℕ → ReclaimStage
  goes_at (Look page) found = after_page page (page_of found)
  goes_at (Sweep page pages sw) found = after_sweep page pages (sweep.goes sw found) (sweep.gives sw found)
  goes_at (Wait page) found = after_wait m page (page_of found)
  goes_at (Bits page pages i) found = after_bits l page pages i found
  goes_at (Body page pages distance) found = free_from page pages (distance + 1)
  goes_at (Head page pages) found = look_from l (page + pages)
  goes_at Ended found = Ended

-- the step that it asks for, what it is after the step found this, and what it has given
abbrev pub asks : Layout → Reclaiming → Ask
asks l m = asks_at l m.stage

abbrev pub goes : Layout → Reclaiming → ℕ → Reclaiming
goes l m found = at_stage m (goes_at l m m.stage found)

abbrev pub given : Reclaiming → Option (Unit {0})
given m = given_at m.stage

abbrev pub listing : Layout → Listing Reclaiming (Unit {0})
listing l = record { asks = asks l; goes = goes l; given = given; sound = Sound l; writes = sweep.writes }

-- the sweep that it runs, if it runs one
abbrev pub sweep_at : ReclaimStage → Option Sweeping
sweep_at (Sweep page pages sw) = Some sw
sweep_at _ = None

abbrev pub sweep_in : Reclaiming → Option Sweeping
sweep_in m = sweep_at m.stage
