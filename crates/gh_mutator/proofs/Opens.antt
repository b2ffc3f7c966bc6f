-- What a routine begins with is sound, by what the poll knows of its own numbers.
use Rattle.std.proofs.Common.{◌≡◌, ℕ, ◌+◌, ◌*◌, ◌/◌, ◌^◌, ◌<◌, ◌≤◌, Bool, List, Option, None, get_or, refl, subst, arith}
use Rattle.gh_mutator.proofs.Vocabulary.{cached_in, CachedSpan, FitsSpanHead, IsCached, IsHeld, IsNear, IsSought, Large, Layout, Local, Name, nat_tests, own_span, Polling, Runs, Shape, Small, Sought, SoundPolling, span_index, Value, written}
use Rattle.gh_assist.specs.Listing as assist
use Rattle.gh_alloc.specs.Place as place
use Rattle.gh_alloc.specs.Search as search
use Rattle.gh_barrier.specs.declared.pointer_cell.PointerCell.{PointerCell}
use Rattle.gh_barrier.specs.Listing as write
use Rattle.gh_base.specs.Cells.{InRange}
use Rattle.gh_class.specs.declared.class.SpanClass.{SpanClass}
use Rattle.gh_mutator.proofs.ClassFacts.{ClassLaws}
use Rattle.gh_poll.specs.Cached.{SoundCached}
use Rattle.gh_poll.specs.GiveSound.{FitsCache}

-- the span that is cached for what is sought fits
half : (c : SpanClass) → span_index c / 2 ≡ c.class
half c = grind arith

is_cached : (l : Layout) (c : SpanClass) (cached : Option CachedSpan) → SoundCached l.pages c.class cached → IsCached l (Small c) cached
is_cached l c cached h = grind arith

cached_fits : (l : Layout) (cache : List (Option CachedSpan)) (x : Sought) → FitsCache l cache → IsCached l x (cached_in cache x)
cached_fits l cache (Small c) fits = is_cached l c (get_or cache (span_index c) None) (subst (λ (n : ℕ). SoundCached l.pages n (get_or cache (span_index c) None)) (half c) (fits (span_index c)))
cached_fits l cache (Large pages noscan) fits = tt

begins : ClassLaws → (l : Layout) (seat generation : ℕ) (w : Sought) (c : Option CachedSpan) → seat < l.procs → generation < 2 ^ 34 → IsSought w → IsCached l w c → Runs (search.listing l) (search.opening seat generation w c)
begins laws l seat generation w c there fits sought cached = grind (arith, nat_tests)

pub search_opens : (l : Layout) → ClassLaws → (p : Polling) (w : Sought) → SoundPolling l p → IsSought w → Runs (search.listing l) (search.opening p.seat p.local.view.generation w (cached_in p.local.cache w))
search_opens l laws p w f sought = begins laws l p.seat p.local.view.generation w (cached_in p.local.cache w) f.seat f.local.view.generation sought (cached_fits l p.local.cache w f.local.cache)

-- what the first page of a large object's span says
span_fits : (l : Layout) (seat generation : ℕ) (w : Sought) → seat < l.procs → generation < 2 ^ 34 → IsSought w → FitsSpanHead (own_span seat generation w)
span_fits l seat generation w there fits sought = grind arith

pub place_opens : (l : Layout) (seat generation : ℕ) (w : Sought) (shape : Shape) (at slot : ℕ) (name : Name) (marking : Bool) → seat < l.procs → generation < 2 ^ 34 → IsSought w → 1 ≤ slot → at + slot ≤ 1024 * l.pages → name.g < 32 →
    Runs (place.listing l) (place.opening shape at slot name (own_span seat generation w) marking)
place_opens l seat generation w shape at slot name marking there fits sought some within few = record { sound = record { some = some; within = within; name = omega (arith, few); span = span_fits l seat generation w there fits sought; stage = some }; busy = refl }

pub assist_opens : (l : Layout) (p : Polling) (slot : ℕ) → SoundPolling l p → 8 * slot ≤ 2 ^ 31 → Runs (assist.listing l) (assist.opening p.seat p.local.held (8 * slot) p.local.owed p.local.spent)
assist_opens l p slot f few = record { sound = record { seat = omega (arith, f.seat); held = f.local.held; bytes = few; stage = tt }; busy = refl }

pub write_opens : (l : Layout) (own : Local) (at : PointerCell) (v : Value) → InRange l (write.cell_at at) → IsNear l.pages v → IsHeld l own.held → Runs (write.listing l) (written own at v)
write_opens l own at v there near held = grind arith
