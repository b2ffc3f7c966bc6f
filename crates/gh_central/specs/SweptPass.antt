-- The pass for a swept span with room: what it asks for at each stage, where that leads, what it has given, what it knows of its own numbers, and that it writes page words.
use Rattle.std.specs.Prelude.{ℕ, ◌+◌, ◌*◌, ◌%◌, ◌^◌, ◌<◌, Bool, true, false, not, nat_lt, ◌==◌, ◌&&◌, if◌then◌else◌, Option, Some, None}
use Rattle.gh_central.specs.Vocabulary.{Ask, beq, Cell, CLASSES, FitsHead, Free, Head, head_word, Large, Layout, Listing, Load, page_of, PageWord, PassStage, seats_of, slot_words_of, slots_of, Small, SpanClass, SpanHead, Store}
use Rattle.gh_base.specs.declared.pack.PageWord.TheVariants.{Body}
use Rattle.gh_base.specs.Footprints.{Footprint}
use Rattle.gh_base.specs.Footprints as row
use Rattle.gh_class.specs.declared.class.SizeClass.{SizeClass}
use Rattle.gh_central.specs.declared.pass.PassStage.TheVariants.{Look, Bits, Take, Ended}
use Rattle.gh_central.specs.declared.pass.SweptPass.{SweptPass}
use Rattle.gh_central.specs.Slots.{lacks_slot}

-- whose pass it is, the sweep generation, the span class that is wanted, and its stage
abbrev pub Pass : Type 0
Pass = SweptPass

abbrev pub at_stage : Pass → PassStage → Pass
at_stage m p = record m { stage = p }

-- it has looked at no page
abbrev pub opening : (seat generation : ℕ) → SpanClass → Pass
opening seat generation wanted = record { seat = seat; generation = generation; wanted = wanted; stage = Look 0 }

-- the head with another owner; 0 is nobody, and a seat's number is one more
abbrev pub owned_by : ℕ → SpanHead → SpanHead
owned_by owner h = record h { owner = owner }

-- the pages from this one to the one behind the span; a page that is no head is gone past alone
abbrev pub pages_gone : PageWord → ℕ
pages_gone Free = 1
pages_gone (Head h) = h.pages
pages_gone (Body b) = 1

-- the size class is this one of the table's
abbrev pub is_small : ℕ → SizeClass → Bool
is_small class (Small c) = c == class
is_small class Large = false

-- what it has given at a stage
abbrev pub given_at : PassStage → Option (Option ℕ)
given_at (Ended taken) = Some taken
given_at _ = None

-- the span that it has found at a stage and is to take: its page and its head
abbrev pub found_at : PassStage → Option (ℕ × SpanHead)
found_at (Take page h) = Some (page, h)
found_at _ = None

-- it looks at a page
abbrev pub looks : PassStage → Bool
looks (Look page) = true
looks _ = false

-- where alloc word i of the span at this page is loaded
abbrev pub alloc_word : Layout → (page i : ℕ) → ℕ
alloc_word l page i = (16 * page + i) % (16 * l.pages)

abbrev pub look_from : Layout → ℕ → PassStage
look_from l page = if nat_lt page l.pages then Look page else Ended None

-- it has found the span at this page, and is to take it
abbrev pub take_from : ℕ → SpanHead → PassStage
take_from page h = Take page h

module _ (m : Pass) where
  -- a span of the wanted span class that nobody owns, and that is swept
  abbrev pub is_wanted : SpanHead → Bool
  is_wanted h = is_small m.wanted.class h.class && beq h.noscan m.wanted.noscan && (h.owner == 0) && (h.number == m.generation)

  -- alloc word i of the span at this page lacks a slot's bit
  abbrev pub lacks_at : (page i found : ℕ) → Bool
  lacks_at page i found = lacks_slot (slot_words_of m.wanted.class) (slots_of m.wanted.class) (1024 * page) (16 * page + i) found

module _ (l : Layout) (m : Pass) where
  abbrev pub asks_at : PassStage → Ask
  asks_at (Look page) = Load (Cell.Page page)
  asks_at (Bits page h i) = Load (Cell.Alloc (alloc_word l page i))
  asks_at (Take page h) = Store (Cell.Page page) (head_word (owned_by (m.seat + 1) h))
  asks_at (Ended taken) = Load Cell.Touch

  abbrev pub after_page : ℕ → PageWord → PassStage
  after_page page Free = look_from l (page + 1)
  after_page page (Body b) = look_from l (page + 1)
  after_page page (Head h) = if is_wanted m h then Bits page h 0 else look_from l (page + h.pages)

  abbrev pub after_bits : ℕ → SpanHead → (i found : ℕ) → PassStage
  after_bits page h i found =
      if lacks_at m page i found then take_from page h
      else if nat_lt (i + 1) (16 * h.pages) then Bits page h (i + 1) else look_from l (page + h.pages)

  abbrev pub goes_at : PassStage → ℕ → PassStage
  goes_at (Look page) found = after_page page (page_of found)
  goes_at (Bits page h i) found = after_bits page h i found
  goes_at (Take page h) found = Ended (Some page)
  goes_at (Ended taken) found = Ended taken

  -- the word found leads to a further page, or to the span's next alloc word
  abbrev pub goes_on_at : PassStage → (found : ℕ) → Bool
  goes_on_at (Look page) found = looks (goes_at (Look page) found)
  goes_on_at (Bits page h i) found = nat_lt (i + 1) (16 * h.pages) && not (lacks_at m page i found)
  goes_on_at _ found = false

-- the step that it asks for, what it is after the step found this, and what it has given
abbrev pub asks : Layout → Pass → Ask
asks l m = asks_at l m m.stage

abbrev pub goes : Layout → Pass → ℕ → Pass
goes l m found = at_stage m (goes_at l m m.stage found)

abbrev pub given : Pass → Option (Option ℕ)
given m = given_at m.stage

-- the page is one of the arena, and the head fits its word
abbrev pub IsStage : Layout → PassStage → Type 0
IsStage l (Look page) = page < l.pages
IsStage l (Bits page h i) = (page < l.pages) × FitsHead h × (i < 16 * h.pages)
IsStage l (Take page h) = (page < l.pages) × FitsHead h
IsStage l (Ended taken) = Unit {0}

pub record Sound (l : Layout) (m : Pass) : Type 0 where
  pub seat : m.seat < seats_of l
  pub generation : m.generation < 2 ^ 34
  pub class : m.wanted.class < CLASSES
  pub stage : IsStage l m.stage

-- page words: the routines here write no other row, but by a sweep
abbrev pub writes : Footprint
writes row.Page = true
writes _ = false

abbrev pub listing : Layout → Listing Pass (Option ℕ)
listing l = record { asks = asks l; goes = goes l; given = given; sound = Sound l; writes = writes }
