-- Looking for a slot: what is asked for at each stage, where that leads, what it has given, and that it writes what a sweep does and the lock.
use Rattle.std.specs.Prelude.{ℕ, ◌+◌, ◌*◌, Bool, true, false, nat_lt, nat_le, ◌==◌, if◌then◌else◌, Option, Some, None, is_none}
use Rattle.gh_alloc.specs.Vocabulary.{After, Again, Ask, At, CachedSpan, Carve, Cell, End, Ended, Find, FindStage, Footprint, Found, Give, Large, Layout, Listing, Load, Lock, NoRoom, pages_of, Pass, SizeClass, Slots, slots_of, Small, Sought, SpanClass, SpanHead, Store, Swap, Sweeping, Unlock, Unswept}
use Rattle.gh_base.specs.Footprints as row
use Rattle.gh_cache.specs.declared.next_slot.Cached.{Cached}
use Rattle.gh_cache.specs.Listing as slots
use Rattle.gh_central.specs.GiveBack as give
use Rattle.gh_central.specs.SweptPass as pass
use Rattle.gh_central.specs.UnsweptPass as unswept
use Rattle.gh_sweep.specs.Listing as sweep
use Rattle.gh_pages.specs.Listing as carve
use Rattle.gh_alloc.specs.FindSound.{Sound}
pub use Rattle.gh_alloc.specs.Within.{span_for}

-- a search: whose it is, the sweep generation, what it is for, the span that is cached, whether unswept spans are looked for too, and its stage
abbrev pub Finding : Type 0
Finding = Find

abbrev pub at_stage : Finding → FindStage → Finding
at_stage f stage = record f { stage = stage }

-- a cached span of a class
abbrev pub span_at : (class : ℕ) → CachedSpan → Cached
span_at class s = record { head = s.head; class = class; cursor = s.cursor }

-- the search of a cached span, where a slot is left from its cursor on; else the lock
abbrev pub search_in : (class : ℕ) → CachedSpan → FindStage
search_in class s = if nat_lt s.cursor (slots_of class) then Slots (slots.opening (span_at class s)) else Lock

abbrev pub begin : Sought → Option CachedSpan → FindStage
begin (Small c) (Some s) = search_in c.class s
begin _ _ = Lock

abbrev pub opening : (seat generation : ℕ) → Sought → Option CachedSpan → Finding
opening seat generation wanted cached = record { seat = seat; generation = generation; wanted = wanted; cached = cached; sweeps = true; stage = begin wanted cached }

-- the cached span is given back as a swept one
abbrev pub given_head : (generation : ℕ) → SpanClass → SpanHead
given_head generation c = record { class = SizeClass.Small c.class; noscan = c.noscan; pages = pages_of c.class; owner = 0; number = generation }

abbrev pub move_cursor : ℕ → Option CachedSpan → Option CachedSpan
move_cursor cursor None = None
move_cursor cursor (Some s) = Some (record s { cursor = cursor })

-- the first heap word of the slot at the cursor
abbrev pub word_at_cursor : Sought → Option CachedSpan → ℕ
word_at_cursor (Small c) (Some s) = slots.slot_at (span_at c.class s) s.cursor
word_at_cursor _ _ = 0

module _ (f : Finding) where
  -- fresh pages are looked for
  abbrev pub carving : FindStage
  carving = Carve (carve.opening f.seat f.generation (span_for f.wanted))

  -- a span is looked for: of a size class first a swept one
  abbrev pub spans_for : Sought → FindStage
  spans_for (Small c) = Pass (pass.opening f.seat f.generation c)
  spans_for (Large pages noscan) = carving

  -- behind the swept spans of a size class, as long as that is so, unswept ones, which are swept; and then fresh pages
  abbrev pub behind_for : Sought → FindStage
  behind_for (Small c) = if f.sweeps then Unswept (unswept.opening f.seat f.generation c) else carving
  behind_for (Large pages noscan) = carving

  -- with the lock: a cached span is given back first
  abbrev pub locked_for : Sought → Option CachedSpan → FindStage
  locked_for (Small c) (Some s) = Give (give.opening s.head (given_head f.generation c))
  locked_for wanted _ = spans_for wanted

  -- what it is after it asked for the lock and found this
  abbrev pub after_lock : ℕ → Finding
  after_lock found = at_stage f (if found == 0 then locked_for f.wanted f.cached else Lock)

  -- what it is after the routine that it runs has given this
  abbrev pub after_slots : Option (Option ℕ) → Finding
  after_slots None = f
  after_slots (Some None) = at_stage f Lock
  after_slots (Some (Some slot)) = at_stage f (Ended (At (word_at_cursor f.wanted f.cached)))

  abbrev pub after_give : Option (Unit {0}) → Finding
  after_give None = f
  after_give (Some _) = record f { cached = None; stage = spans_for f.wanted }

  -- after a step of that search
  abbrev pub searched : slots.Searching → Finding
  searched s = record f { cached = move_cursor s.span.cursor f.cached; stage = Slots s }

  abbrev pub unlocked : After → FindStage
  unlocked Again = begin f.wanted f.cached
  unlocked (End out) = Ended out

-- a page from which so many do not fit is read as page 0
abbrev pub first_page : Layout → (pages page : ℕ) → ℕ
first_page l pages page = if nat_le (page + pages) l.pages then page else 0

module _ (l : Layout) (f : Finding) where
  -- the span from this page on: of a size class it is cached, a large object's is what was looked for
  abbrev pub taken_for : Sought → ℕ → Finding
  taken_for (Small c) page = record f { cached = Some (record { head = first_page l (pages_of c.class) page; cursor = 0 }); stage = Unlock Again }
  taken_for (Large pages noscan) page = at_stage f (Unlock (End (At (1024 * first_page l pages page))))

  abbrev pub taken : ℕ → Finding
  taken page = taken_for f.wanted page

  abbrev pub after_pass : Option (Option ℕ) → Finding
  after_pass None = f
  after_pass (Some None) = at_stage f (behind_for f f.wanted)
  after_pass (Some (Some page)) = taken page

  abbrev pub after_unswept : Option (Option ℕ) → Finding
  after_unswept None = f
  after_unswept (Some None) = at_stage f (carving f)
  after_unswept (Some (Some page)) = taken page

  abbrev pub after_carve : Option (Option ℕ) → Finding
  after_carve None = f
  after_carve (Some None) = at_stage f (Unlock (End NoRoom))
  after_carve (Some (Some page)) = taken page

  abbrev pub asks_at : FindStage → Ask
  asks_at (Slots s) = slots.asks l s
  asks_at Lock = Swap Cell.Lock 0 (f.seat + 1)
  asks_at (Give g) = give.asks g
  asks_at (Pass p) = pass.asks l p
  asks_at (Unswept u) = unswept.asks l u
  asks_at (Carve c) = carve.asks c
  asks_at (Unlock after) = Store Cell.Lock 0
  asks_at (Ended out) = Load Cell.Touch

abbrev pub goes_at : Layout → Finding → FindStage → ℕ → Finding
goes_at l f (Slots s) found = after_slots (searched f (slots.goes s found)) (slots.given (slots.goes s found))
goes_at l f Lock found = after_lock f found
goes_at l f (Give g) found = after_give (at_stage f (Give (give.goes g found))) (give.given (give.goes g found))
goes_at l f (Pass p) found = after_pass l (at_stage f (Pass (pass.goes l p found))) (pass.given (pass.goes l p found))
goes_at l f (Unswept u) found = after_unswept l (at_stage f (Unswept (unswept.goes l u found))) (unswept.given (unswept.goes l u found))
goes_at l f (Carve c) found = after_carve l (at_stage f (Carve (carve.goes l c found))) (carve.given (carve.goes l c found))
-- a search that takes the lock anew looks for unswept spans anew
goes_at l f (Unlock after) found = record f { sweeps = true; stage = unlocked f after }
-- where it has ended it names the stage, so that what it has given computes there too
goes_at l f (Ended out) found = at_stage f (Ended out)

-- it searches the cached span
abbrev pub is_in_span_at : FindStage → Bool
is_in_span_at (Slots s) = true
is_in_span_at _ = false

abbrev pub is_in_span : Finding → Bool
is_in_span f = is_in_span_at f.stage

-- by the word found the routine that it runs goes on in the cached span or in another, or to a further page
abbrev pub goes_further_at : Layout → FindStage → (found : ℕ) → Bool
goes_further_at l (Slots s) found = slots.goes_on_at s s.stage found
goes_further_at l (Pass p) found = pass.goes_on_at l p p.stage found
goes_further_at l (Unswept u) found = unswept.looks_on_at l u u.stage found
goes_further_at l (Carve c) found = carve.looks_on_at l c c.stage found
goes_further_at l _ found = false

-- what it has given: it ends with a slot, or with no room
abbrev pub given_at : FindStage → Option Found
given_at (Ended out) = Some out
given_at _ = None

abbrev pub is_busy : FindStage → Bool
is_busy p = is_none (given_at p)

-- the step that it asks for, what it is after the step found this, what it has given, and what it has given after that step
abbrev pub asks : Layout → Finding → Ask
asks l f = asks_at l f f.stage

abbrev pub goes : Layout → Finding → ℕ → Finding
goes l f found = goes_at l f f.stage found

abbrev pub given : Finding → Option Found
given f = given_at f.stage

abbrev pub gives : Layout → Finding → ℕ → Option Found
gives l f found = given (goes l f found)

abbrev pub writes : Footprint
writes row.Lock = true
writes r = sweep.writes r

abbrev pub listing : Layout → Listing Finding Found
listing l = record { asks = asks l; goes = goes l; given = given; sound = Sound l; writes = writes }

-- it has found no room, and its next step frees the lock
abbrev pub finds_none_at : FindStage → Bool
finds_none_at (Unlock (End NoRoom)) = true
finds_none_at _ = false

abbrev pub finds_none : Finding → Bool
finds_none f = finds_none_at f.stage

-- with that step it has ended with no room, and has still after any further one
abbrev pub refuses_at : FindStage → Bool
refuses_at (Unlock (End NoRoom)) = true
refuses_at (Ended NoRoom) = true
refuses_at _ = false

abbrev pub refuses : Finding → Bool
refuses f = refuses_at f.stage

-- the sweep that it runs, if it runs one
abbrev pub sweep_at : FindStage → Option Sweeping
sweep_at (Unswept u) = unswept.sweep_in u
sweep_at _ = None

abbrev pub sweep_in : Finding → Option Sweeping
sweep_in f = sweep_at f.stage

-- the sweep generation by which the routine sweeps that it runs
abbrev pub sweep_generation_at : Finding → FindStage → ℕ
sweep_generation_at f (Unswept u) = u.generation
sweep_generation_at f _ = f.generation

abbrev pub sweep_generation : Finding → ℕ
sweep_generation f = sweep_generation_at f f.stage
