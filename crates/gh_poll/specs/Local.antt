-- What a processor alone knows: its registers, the spans that it has cached, and the scans of its stacks. It is kept with the poll, which reads and changes it too.
use Rattle.std.specs.Prelude.{ℕ, Bool, true, false, not, ◌&&◌, List, [], Option, Some, None, is_some, replicate, slice_index_or, slice_set}
use Rattle.gh_poll.specs.Vocabulary.{Assisting, CachedSpan, END, first_view, Local, MOST_GOROUTINES, phase_of, REGISTERS, run_phase, RunPhase, span_index, Value}
use Rattle.gh_alloc.specs.declared.sought.Sought.{Sought}
use Rattle.gh_alloc.specs.declared.sought.Sought.TheVariants.{Small, Large}
use Rattle.gh_assist.specs.Listing as assist
use Rattle.gh_poll.specs.Give.{none_cached}
use Rattle.gh_poll.specs.Leave as leave
use Rattle.gh_poll.specs.Poll.{Polling, is_busy}

-- when the heap opens
abbrev pub first_local : Local
first_local = record {
  view = first_view;
  cache = none_cached;
  held = None;
  polls = 0;
  owed = 0;
  spent = 0;
  scanned = replicate MOST_GOROUTINES 0;
  stacks = replicate MOST_GOROUTINES (replicate REGISTERS Value.Nil);
}

-- Marking is on, as it knows: it finds out between two statements alone, so that this stays until a statement ends.
abbrev pub is_mark : RunPhase → Bool
is_mark RunPhase.Mark = true
is_mark _ = false

abbrev pub marking_at : Polling → Bool
marking_at p = is_mark p.local.view.phase

-- This phase word ends at once a poll that begins now: none is under way, the world runs, and marking is off, as it knows.
abbrev pub passes : Polling → (found : ℕ) → Bool
passes p found = not (is_busy p.stage) && is_some (run_phase (phase_of found).phase) && not (marking_at p)

-- Registers.

abbrev pub register_in_stacks : List (List Value) → (g d : ℕ) → Value
register_in_stacks stacks g d = slice_index_or (slice_index_or stacks g []) d Value.Nil

-- what register d of goroutine g holds
abbrev pub register_at : Polling → (g d : ℕ) → Value
register_at p g d = register_in_stacks p.local.stacks g d

abbrev pub stacks_with : List (List Value) → (g d : ℕ) → Value → List (List Value)
stacks_with stacks g d v = slice_set stacks g (slice_set (slice_index_or stacks g []) d v)

-- it takes this value
abbrev pub with_register_value : Polling → (g d : ℕ) → Value → Polling
with_register_value p g d v = record p { local = record (p.local) { stacks = stacks_with p.local.stacks g d v } }

-- or this one, if there is one
abbrev pub with_value_if_any : Polling → (g d : ℕ) → Option Value → Polling
with_value_if_any p g d None = p
with_value_if_any p g d (Some v) = with_register_value p g d v

-- Cached spans.

-- the span that is cached for such an object; a large one has its span for itself
abbrev pub cached_in : List (Option CachedSpan) → Sought → Option CachedSpan
cached_in cache (Small c) = slice_index_or cache (span_index c) None
cached_in cache (Large pages noscan) = None

abbrev pub cached_at : Polling → Sought → Option CachedSpan
cached_at p sought = cached_in p.local.cache sought

-- the span that is cached for such objects from now on, if any is
abbrev pub cache_with : List (Option CachedSpan) → Sought → Option CachedSpan → List (Option CachedSpan)
cache_with cache (Small c) cached = slice_set cache (span_index c) cached
cache_with cache (Large pages noscan) cached = cache

abbrev pub with_cached : Polling → Sought → Option CachedSpan → Polling
with_cached p sought cached = record p { local = record (p.local) { cache = cache_with p.local.cache sought cached } }

-- An assist, and the ends.

-- it holds what the assist holds, and what is owed and spent is what that says
abbrev pub with_payment : Polling → Assisting → Polling
with_payment p x = record p { local = record (p.local) { held = assist.held_at x.held x.stage; owed = x.owed; spent = x.spent } }

-- goroutine g has ended: its stack counts as scanned in each cycle to come
abbrev pub with_ended : Polling → (g : ℕ) → Polling
with_ended p g = record p { local = record (p.local) { scanned = slice_set p.local.scanned g END } }

-- the processor leaves with what it holds, and holds nothing any more
abbrev pub leaving : Polling → leave.Leaving
leaving p = leave.opening p.seat p.local.view.generation p.local.cache p.local.held

abbrev pub with_nothing : Polling → Polling
with_nothing p = record p { local = record (p.local) { cache = none_cached; held = None } }
