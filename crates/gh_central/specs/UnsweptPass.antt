-- The pass for an unswept span that has room once it is swept: what it asks for at each stage, where that leads, what it has given, and that it writes what a sweep does.
use Rattle.std.specs.Prelude.{ℕ, ◌+◌, Bool, true, false, nat_lt, ◌==◌, ◌&&◌, if◌then◌else◌, Option, Some, None}
use Rattle.gh_central.specs.Vocabulary.{Ask, beq, Cell, Free, Head, head_word, Layout, Listing, Load, Lost, once_swept, page_of, PageWord, SpanClass, SpanHead, Store, SweepEnd, Sweeping, Swept, Take, UnsweptPass, UnsweptStage}
use Rattle.gh_base.specs.declared.pack.PageWord.TheVariants.{Body}
use Rattle.gh_sweep.specs.Listing as sweep
use Rattle.gh_central.specs.declared.unswept.UnsweptStage.TheVariants.{Look, Sweep, Ended}
use Rattle.gh_central.specs.SweptPass.{is_small, owned_by}
use Rattle.gh_central.specs.UnsweptSound.{Sound}

-- whose pass it is, the sweep generation, the span class that is wanted, and its stage
abbrev pub Unswept : Type 0
Unswept = UnsweptPass

abbrev pub at_stage : Unswept → UnsweptStage → Unswept
at_stage m p = record m { stage = p }

-- it has looked at no page
abbrev pub opening : (seat generation : ℕ) → SpanClass → Unswept
opening seat generation wanted = record { seat = seat; generation = generation; wanted = wanted; stage = Look 0 }

-- what it has given at a stage
abbrev pub given_at : UnsweptStage → Option (Option ℕ)
given_at (Ended taken) = Some taken
given_at _ = None

-- it looks at a page
abbrev pub looks : UnsweptStage → Bool
looks (Look page) = true
looks _ = false

abbrev pub look_from : Layout → ℕ → UnsweptStage
look_from l page = if nat_lt page l.pages then Look page else Ended None

-- a span of the wanted span class that is not swept, and that nobody sweeps
abbrev pub is_unswept : Unswept → SpanHead → Bool
is_unswept m h = is_small m.wanted.class h.class && beq h.noscan m.wanted.noscan && (h.number + 2 == m.generation)

-- after a step of the sweep, by what that has given: its own counts say whether a slot is clear
abbrev pub after_sweep : Layout → ℕ → SpanHead → Sweeping → Option SweepEnd → UnsweptStage
after_sweep l page h sw None = Sweep page h sw
after_sweep l page h sw (Some Lost) = look_from l (page + h.pages)
after_sweep l page h sw (Some (Swept span)) = if span.clear then Take page (once_swept h) else look_from l (page + h.pages)

module _ (l : Layout) (m : Unswept) where
  abbrev pub asks_at : UnsweptStage → Ask
  asks_at (Look page) = Load (Cell.Page page)
  asks_at (Sweep page h sw) = sweep.asks l sw
  asks_at (Take page h) = Store (Cell.Page page) (head_word (owned_by (m.seat + 1) h))
  asks_at (Ended taken) = Load Cell.Touch

  abbrev pub after_page : ℕ → PageWord → UnsweptStage
  after_page page Free = look_from l (page + 1)
  after_page page (Body b) = look_from l (page + 1)
  after_page page (Head h) = if is_unswept m h then Sweep page h (sweep.opening page h) else look_from l (page + h.pages)

  abbrev pub goes_at : UnsweptStage → ℕ → UnsweptStage
  goes_at (Look page) found = after_page page (page_of found)
  goes_at (Sweep page h sw) found = after_sweep l page h (sweep.goes sw found) (sweep.gives sw found)
  goes_at (Take page h) found = Ended (Some page)
  goes_at (Ended taken) found = Ended taken

  -- it looks at a page, and at a further one once the word is found
  abbrev pub looks_on_at : UnsweptStage → (found : ℕ) → Bool
  looks_on_at p found = looks p && looks (goes_at p found)

-- the step that it asks for, what it is after the step found this, and what it has given
abbrev pub asks : Layout → Unswept → Ask
asks l m = asks_at l m m.stage

abbrev pub goes : Layout → Unswept → ℕ → Unswept
goes l m found = at_stage m (goes_at l m m.stage found)

abbrev pub given : Unswept → Option (Option ℕ)
given m = given_at m.stage

abbrev pub listing : Layout → Listing Unswept (Option ℕ)
listing l = record { asks = asks l; goes = goes l; given = given; sound = Sound l; writes = sweep.writes }

-- the sweep that it runs, if it runs one
abbrev pub sweep_at : UnsweptStage → Option Sweeping
sweep_at (Sweep page h sw) = Some sw
sweep_at _ = None

abbrev pub sweep_in : Unswept → Option Sweeping
sweep_in m = sweep_at m.stage
