-- A span is given back: what is asked for at each stage, where that leads, what it has given, and that it writes page words.
use Rattle.std.specs.Prelude.{ℕ, ◌<◌, Option, Some, None}
use Rattle.gh_central.specs.Vocabulary.{Ask, FitsHead, head_word, Layout, Listing, Load, Page, SpanHead, Store, Touch, Write}
use Rattle.gh_central.specs.declared.give.GiveBack.{GiveBack}
use Rattle.gh_central.specs.declared.give.GiveStage.{GiveStage}
use Rattle.gh_central.specs.declared.give.GiveStage.TheVariants.{Ended}
use Rattle.gh_central.specs.SweptPass.{owned_by, writes}

-- the span's first page and what its head word says, and the routine's stage
abbrev pub SpanGiving : Type 0
SpanGiving = GiveBack

abbrev pub opening : ℕ → SpanHead → SpanGiving
opening page h = record { page = page; head = h; stage = Write }

-- the page is one of the arena, and the head fits its word
pub record CanGive (l : Layout) (page : ℕ) (h : SpanHead) : Type 0 where
  pub there : page < l.pages
  pub fits : FitsHead h

-- what it has given at a stage
abbrev pub given_at : GiveStage → Option (Unit {0})
given_at Ended = Some tt
given_at _ = None

abbrev pub asks_at : SpanGiving → GiveStage → Ask
asks_at g Write = Store (Page g.page) (head_word (owned_by 0 g.head))
asks_at g Ended = Load Touch

-- the step that it asks for, what it is after the step found this, and what it has given
abbrev pub asks : SpanGiving → Ask
asks g = asks_at g g.stage

abbrev pub goes : SpanGiving → ℕ → SpanGiving
goes g found = record g { stage = Ended }

abbrev pub given : SpanGiving → Option (Unit {0})
given g = given_at g.stage

abbrev pub listing : Layout → Listing SpanGiving (Unit {0})
listing l = record { asks = asks; goes = goes; given = given; sound = λ g. CanGive l g.page g.head; writes = writes }
