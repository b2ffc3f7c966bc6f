-- Each step of the search is on a word that there is: its routines' are, and the span that is given back lies in the arena.
use Rattle.std.proofs.Common.{ℕ, Bool, Option, refl, sym, subst, arith}
use Rattle.gh_alloc.proofs.Vocabulary.{Arena, asks, at_stage, CachedSpan, Caches, Carve, cell_of, Ended, FactsAt, Finding, FindStage, Give, Good, InRange, IsCached, IsCachedFor, Lock, Pass, Seeks, Slots, Small, Sought, span_at, SpanClass, Unlock, Unswept, View, Within}
use Rattle.gh_cache.specs.Listing as slots
use Rattle.gh_central.specs.GiveBack as give
use Rattle.gh_alloc.proofs.FindLasts.{Known}

module _ (k : Known) (z : Arena) (a : ℕ) (sure : Bool) (v : View) (f : Finding) (good : Good z v) (seeks : Seeks z a v f) (caches : Caches a v f.wanted f.cached) where
  cached : (c : SpanClass) (x : CachedSpan) → IsCachedFor f c x → IsCached a v c x
  cached c x for = subst (λ (y : Option CachedSpan). Caches a v (Small c) y) for.cached (subst (λ (w : Sought). Caches a v w f.cached) for.wanted caches)

  within-at : (q : FindStage) → FactsAt z a sure v f q → InRange z.layout (cell_of (asks z.layout (at_stage f q)))
  within-at (Slots s) x =
      let y = cached x.c x.k x.for in
      let there = k.search.within z a v x.c.noscan (slots.opening (span_at x.c.class x.k)) (record { span = y.span; stage = refl; cursor = x.left; taken = y.taken }) in
      subst (λ (m : slots.Searching). InRange z.layout (cell_of (slots.asks z.layout m))) (sym x.is) there
  within-at Lock x = tt
  within-at (Give g) x =
      let y = cached x.c x.k x.for in
      let span = good.spans x.k.head y.span.h y.span.head in
      subst (λ (m : give.SpanGiving). InRange z.layout (cell_of (give.asks m))) (sym x.is) (omega (arith, span.within, span.fits.some))
  within-at (Pass p) x = k.pass.within z a sure v p good x.facts
  within-at (Unswept u) x = k.unswept.within z a v u good x.facts
  within-at (Carve m) x = k.carve.within z a v m x.facts
  within-at (Unlock after) x = tt
  within-at (Ended out) x = absurd x

pub within : Known → Within
within k z a sure v rest f good x = within-at k z a sure v f good x.seeks x.caches f.stage x.stage
