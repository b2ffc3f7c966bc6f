-- What is known of the cached spans stays where one of them changes.
use Rattle.std.proofs.Common.{◌≡◌, ℕ, ◌/◌, List, [], length, ◌∙◌, sym, subst, Option, None, arith, slice_index_or, slice_set}
use Rattle.std.proofs.Math.ListN.{set}
use Rattle.std.proofs.lemmas.List.{length-set}
use Rattle.gh_poll.proofs.Vocabulary.{CachedSpan, FitsCache, IsCached, Large, Layout, Local, Polling, read_after_set, REGISTERS, Small, SoundCached, SoundLocal, SoundPolling, span_index, Value}
use Rattle.gh_class.specs.declared.class.SpanClass.{SpanClass}
use Rattle.gh_alloc.specs.declared.sought.Sought.{Sought}
use Rattle.gh_poll.specs.Local.{cache_with, stacks_with, with_register_value}

-- the cached span of a span class is this now
half : (c : SpanClass) (i : ℕ) → span_index c ≡ i → c.class ≡ i / 2
half c i e = grind arith

fits_small : (l : Layout) (c : SpanClass) (cached : Option CachedSpan) → IsCached l (Small c) cached → SoundCached l.pages c.class cached
fits_small l c cached h = grind arith

pub cached_fits : (l : Layout) (cache : List (Option CachedSpan)) (x : Sought) (c : Option CachedSpan) → FitsCache l cache → IsCached l x c → FitsCache l (cache_with cache x c)
cached_fits l cache (Large pages noscan) c fits h i = fits i
cached_fits l cache (Small x) c fits h i = read_after_set (SoundCached l.pages (i / 2)) cache (span_index x) i c None (λ e. subst (λ n. SoundCached l.pages n c) (half x i e) (fits_small l x c h)) (fits i)

-- so what is known of the processor's own state stays, where the span class is of this number
pub recached_fits : (l : Layout) (local : Local) (x : SpanClass) (i : ℕ) (c : Option CachedSpan) → i ≡ span_index x → SoundLocal l local → IsCached l (Small x) c → SoundLocal l (record local { cache = set local.cache i c })
recached_fits l local x i c e h fits = record {
  view = h.view;
  room = length-set local.cache i c ∙ h.room;
  cache = subst (λ (n : ℕ). FitsCache l (set local.cache n c)) (sym e) (cached_fits l local.cache (Small x) c h.cache fits);
  held = h.held;
  scanned = h.scanned;
  stacks = h.stacks;
  rows = h.rows;
}

-- and where a register takes a value
rows_after : (stacks : List (List Value)) (g d i : ℕ) (v : Value) → length (slice_index_or stacks i []) ≡ REGISTERS → length (slice_index_or (stacks_with stacks g d v) i []) ≡ REGISTERS
rows_after stacks g d i v was =
    read_after_set (λ (row : List Value). length row ≡ REGISTERS) stacks g i (slice_set (slice_index_or stacks g []) d v) [] (λ e. length-set (slice_index_or stacks g []) d v ∙ subst (λ (j : ℕ). length (slice_index_or stacks j []) ≡ REGISTERS) (sym e) was) was

pub register_fits : (l : Layout) (p : Polling) (g d : ℕ) (v : Value) → SoundPolling l p → SoundPolling l (with_register_value p g d v)
register_fits l p g d v s = record {
  seat = s.seat;
  local = record { view = s.local.view; room = s.local.room; cache = s.local.cache; held = s.local.held; scanned = s.local.scanned; stacks = length-set p.local.stacks g _ ∙ s.local.stacks; rows = λ i low. rows_after p.local.stacks g d i v (s.local.rows i low) };
  stage = s.stage;
}
