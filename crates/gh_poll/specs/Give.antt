-- A processor gives back what it holds: what is asked for at each stage, where that leads, and what it has given there.
use Rattle.std.specs.Prelude.{ℕ, ◌+◌, ◌/◌, ◌%◌, Bool, true, ◌==◌, if◌then◌else◌, List, [], ◌∷◌, drop, replicate, Option, Some, None, is_none}
use Rattle.gh_poll.specs.Vocabulary.{Ask, CachedSpan, Cell, Footprint, Give, GiveBuffer, GiveSpan, GiveStage, head_word, Held, Layout, Listing, Load, Lock, SPAN_CLASSES, Store, Swap, Unlock}
use Rattle.gh_base.specs.Footprints as row
use Rattle.gh_class.specs.declared.class.SpanClass.{SpanClass}
use Rattle.gh_alloc.specs.Find.{given_head}
use Rattle.gh_wbuf.specs.BufferGiving as buffer
use Rattle.gh_wbuf.specs.Trying as try
use Rattle.gh_poll.specs.declared.give.GiveStage.TheVariants.{Ended}
use Rattle.gh_poll.specs.GiveSound.{SoundGiving}

-- a giving back: whose it is, the sweep generation, the spans that are cached, the buffer that is held, and its stage
abbrev pub Giving : Type 0
Giving = Give

abbrev pub at_stage : Giving → GiveStage → Giving
at_stage g stage = record g { stage = stage }

-- the span class of this number
abbrev pub span_class : ℕ → SpanClass
span_class number = record { class = number / 2; noscan = number % 2 == 1 }

-- a span of this class is given back: nobody owns it, and it is swept
abbrev pub head_store : (generation class : ℕ) → CachedSpan → Ask
head_store generation class s = Store (Cell.Page s.head) (head_word (given_head generation (span_class class)))

-- the first of these spans, numbered from this class on, that is cached; where none is, the lock is freed
abbrev pub first_cached : (class : ℕ) → List (Option CachedSpan) → GiveStage
first_cached class [] = Unlock
first_cached class (Some s ∷ spans) = GiveSpan class s
first_cached class (None ∷ spans) = first_cached (class + 1) spans

-- so from this class on
abbrev pub stage_from : List (Option CachedSpan) → (class : ℕ) → GiveStage
stage_from cache class = first_cached class (drop class cache)

-- no span is cached
abbrev pub none_cached : List (Option CachedSpan)
none_cached = replicate SPAN_CLASSES None

-- a buffer that is held is given back
abbrev pub giving_buffer : Option Held → GiveStage
giving_buffer None = Ended
giving_buffer (Some h) = GiveBuffer (buffer.opening h)

-- by what would follow under the lock: the lock is needed where a span is cached
abbrev pub begins : Option Held → GiveStage → GiveStage
begins held Unlock = giving_buffer held
begins held _ = Lock

abbrev pub opening : (seat generation : ℕ) → List (Option CachedSpan) → Option Held → Giving
opening seat generation cache held = record { seat = seat; generation = generation; cache = cache; held = held; stage = begins held (stage_from cache 0) }

-- after a step of the giving back of the buffer
abbrev pub after_buffer : Giving → buffer.BufferGiving → Option (Unit {0}) → Giving
after_buffer g b None = at_stage g (GiveBuffer b)
after_buffer g b (Some x) = record g { held = None; stage = Ended }

module _ (g : Giving) where
  abbrev pub asks_at : GiveStage → Ask
  asks_at Lock = Swap Cell.Lock 0 (g.seat + 1)
  asks_at (GiveSpan class s) = head_store g.generation class s
  asks_at Unlock = Store Cell.Lock 0
  asks_at (GiveBuffer b) = buffer.asks b
  asks_at Ended = Load Cell.Touch

  abbrev pub goes_at : GiveStage → ℕ → Giving
  goes_at Lock found = at_stage g (if found == 0 then stage_from g.cache 0 else Lock)
  goes_at (GiveSpan class s) found = at_stage g (stage_from g.cache (class + 1))
  goes_at Unlock found = record g { cache = none_cached; stage = giving_buffer g.held }
  goes_at (GiveBuffer b) found = after_buffer g (buffer.goes b found) (buffer.gives b found)
  goes_at Ended found = at_stage g Ended

-- what it has given at this stage; it is busy where that is nothing
abbrev pub given : GiveStage → Option (Unit {0})
given Ended = Some tt
given _ = None

abbrev pub is_busy : GiveStage → Bool
is_busy stage = is_none (given stage)

-- the step that it asks for, and what it is after the step found this
abbrev pub asks : Giving → Ask
asks g = asks_at g g.stage

abbrev pub goes : Giving → ℕ → Giving
goes g found = goes_at g g.stage found

-- the lock, the pages of the spans, and the buffer
abbrev pub writes : Footprint
writes row.Lock = true
writes row.Page = true
writes r = try.writes r

abbrev pub listing : Layout → Listing Giving (Unit {0})
listing l = record { asks = asks; goes = goes; given = λ g. given g.stage; sound = SoundGiving l; writes = writes }
