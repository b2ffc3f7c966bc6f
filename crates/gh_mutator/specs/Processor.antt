-- The processor's private state: what it alone knows, which is kept with its poll; the numbers of objects; and its task.
use Rattle.std.specs.Prelude.{ℕ, Option, slice_index, replicate}
use Rattle.gh_mutator.specs.Vocabulary.{cached_at, CachedSpan, first_local, Held, Idle, MOST_GOROUTINES, Polling, register_at, resting, Sought, Task, Value, with_cached, with_held, with_register_value, with_value_if_any}
use Rattle.gh_mutator.specs.Processing.{Processor}

abbrev pub at_task : Processor → Task → Processor
at_task m t = record m { task = t }

abbrev pub at_poll : Processor → Polling → Processor
at_poll m p = record m { poll = p }

-- what register d of goroutine g holds
abbrev pub register_of : Processor → (g d : ℕ) → Value
register_of m g d = register_at m.poll g d

abbrev pub set_register : Processor → (g d : ℕ) → Value → Processor
set_register m g d v = at_poll m (with_register_value m.poll g d v)

-- register d of goroutine g takes the value, if there is one
abbrev pub taking : Processor → (g d : ℕ) → Option Value → Processor
taking m g d v = at_poll m (with_value_if_any m.poll g d v)

-- the buffer that it holds is this, if it holds one
abbrev pub keeping : Processor → Option Held → Processor
keeping m held = at_poll m (with_held m.poll held)

-- how many objects goroutine g has made
abbrev pub made_by : Processor → ℕ → ℕ
made_by m g = slice_index m.made g

-- the span that is cached for such an object
abbrev pub cached_for : Processor → Sought → Option CachedSpan
cached_for m sought = cached_at m.poll sought

abbrev pub cache_span : Processor → Sought → Option CachedSpan → Processor
cache_span m sought cached = at_poll m (with_cached m.poll sought cached)

-- the processor before its first step
abbrev pub opening_processor : (seat : ℕ) → Processor
opening_processor seat = record { poll = resting seat first_local; made = replicate MOST_GOROUTINES 0; task = Idle }
