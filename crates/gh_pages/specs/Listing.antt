-- Fresh pages for a span: what is asked for at each stage, where that leads, what it has given, and that it writes page words.
use Rattle.std.specs.Prelude.{ℕ, ◌+◌, ◌-◌, Bool, true, false, not, nat_lt, ◌==◌, ◌&&◌, if◌then◌else◌, Option, Some, None}
use Rattle.gh_pages.specs.Vocabulary.{Ask, Body, body_word, Carve, CarveStage, Ended, Head, head_word, Layout, Listing, Load, Look, Page, page_of, PageWord, Span, Store, Touch}
use Rattle.gh_base.specs.declared.pack.PageWord.TheVariants.{Free}
use Rattle.gh_base.specs.declared.pack.SpanHead.{SpanHead}
use Rattle.gh_base.specs.declared.pack.SpanBody.{SpanBody}
use Rattle.gh_base.specs.Footprints.{Footprint}
use Rattle.gh_base.specs.Footprints as row
use Rattle.gh_pages.specs.Sound.{Sound}

-- a routine that looks for pages for a span: whose it is, the sweep generation, the span, and its stage
abbrev pub Carving : Type 0
Carving = Carve

abbrev pub at_stage : Carving → CarveStage → Carving
at_stage c stage = record c { stage = stage }

-- it has looked at no page
abbrev pub opening : (seat generation : ℕ) → Span → Carving
opening seat generation span = record { seat = seat; generation = generation; span = span; stage = Look 0 0 }

-- what is written to the span's first page, and to one further on
abbrev pub fresh_head : Carving → SpanHead
fresh_head c = record { class = c.span.class; noscan = c.span.noscan; pages = c.span.pages; owner = c.seat + 1; number = c.generation }

abbrev pub fresh_body : Carving → ℕ → SpanBody
fresh_body c distance = record { class = c.span.class; noscan = c.span.noscan; distance = distance }

abbrev pub is_free : PageWord → Bool
is_free Free = true
is_free _ = false

-- so many free pages stand in a row up to the page whose word was found
abbrev pub row_after : ℕ → ℕ → ℕ
row_after run found = if is_free (page_of found) then run + 1 else 0

-- the store that follows those of the pages up to this distance behind the first: the next page's, and last the first page's
abbrev pub next_store : Span → ℕ → ℕ → CarveStage
next_store span first distance = if nat_lt (distance + 1) span.pages then Body first (distance + 1) else Head first

-- the first store of a span from this page on
abbrev pub first_store : Span → ℕ → CarveStage
first_store span first = next_store span first 0

abbrev pub is_last_page : Layout → ℕ → Bool
is_last_page l page = not (nat_lt (page + 1) l.pages)

abbrev pub asks_at : Carving → CarveStage → Ask
asks_at c (Look page run) = Load (Page page)
asks_at c (Body first distance) = Store (Page (first + distance)) (body_word (fresh_body c distance))
asks_at c (Head first) = Store (Page first) (head_word (fresh_head c))
asks_at c (Ended taken) = Load Touch

module _ (l : Layout) (c : Carving) where
  abbrev pub after_look : ℕ → ℕ → CarveStage
  after_look page row =
      if row == c.span.pages then first_store c.span (page + 1 - c.span.pages)
      else if is_last_page l page then Ended None else Look (page + 1) row

  abbrev pub goes_at : CarveStage → ℕ → CarveStage
  goes_at (Look page run) found = after_look page (row_after run found)
  goes_at (Body first distance) found = next_store c.span first distance
  goes_at (Head first) found = Ended (Some first)
  goes_at (Ended taken) found = Ended taken

-- it looks at a page
abbrev pub looks : CarveStage → Bool
looks (Look page run) = true
looks _ = false

-- it looks at a page, and at the next one once the word is found
abbrev pub looks_on_at : Layout → Carving → CarveStage → (found : ℕ) → Bool
looks_on_at l c p found = looks p && looks (goes_at l c p found)

-- what it has given at a stage
abbrev pub given_at : CarveStage → Option (Option ℕ)
given_at (Ended taken) = Some taken
given_at _ = None

-- the step that it asks for, what it is after the step found this, and what it has given
abbrev pub asks : Carving → Ask
asks c = asks_at c c.stage

abbrev pub goes : Layout → Carving → ℕ → Carving
goes l c found = at_stage c (goes_at l c c.stage found)

abbrev pub given : Carving → Option (Option ℕ)
given c = given_at c.stage

abbrev pub writes : Footprint
writes row.Page = true
writes _ = false

abbrev pub listing : Layout → Listing Carving (Option ℕ)
listing l = record { asks = asks; goes = goes l; given = given; sound = Sound l; writes = writes }
