-- The steps of the sweeps that the freeing of empty spans runs: they lead to the next stage's facts.
use Rattle.std.proofs.Common.{◌≡◌, ℕ, ◌+◌, ◌^◌, ◌<◌, Bool, true, Option, Some, None, refl, sym, ap, subst, ◌∙◌, arith}
use Rattle.gh_central.proofs.Vocabulary.{after_sweep, Arena, cell_of, Comes, effect, Facts, FitsHead, freeing_at, Good, Lost, once_swept, page_of, PageWord, Reclaiming, Reclaims, ReclaimsByItsRights, ReclaimStage, Right, Rights, Shared, SpanHead, Sweep, sweep_at, SweepEnd, Sweeping, SweepLeaves, SweepsIt, SweepStep, Swept, TidyBefore, View, view, Wait, WaitsFor}
use Rattle.gh_central.specs.declared.reclaim.ReclaimStage.TheVariants.{Bits}
use Rattle.gh_central.specs.Reclaim.{asks, at_stage, given, given_at, goes}
use Rattle.gh_central.proofs.ReclaimRights.{frees-at, Known, lasts, opens, own, within}
use Rattle.gh_central.proofs.Sweeping.Steps as steps
use Rattle.gh_sweep.specs.Listing as sweep

module _ (k : Known) (z : Arena) (a : ℕ) (s t : Shared) (held : ℕ → Bool) (m : Reclaiming) (g : Good z (view s)) (o : SweepLeaves (view s) (view t)) (right : Right a (view t) true held None) (whose : Reclaims (view s) m) where
  abbrev before : View
  before = view s

  abbrev then : View
  then = view t

  tidy-then : (p : ℕ) → TidyBefore before.page before.alloc before.generation p → TidyBefore then.page then.alloc then.generation p
  tidy-then p x = k.walks.tidy before then p o.leaves x

  -- the span that nobody owned stands, with whatever number
  waits-then : (p : ℕ) → WaitsFor z before p → WaitsFor z then p
  waits-then p x = record { there = x.there; tidy = tidy-then p x.tidy; unowned = steps.unowned_then before then o p x.unowned }

  whose-at : (q : ReclaimStage) → Reclaims then (at_stage m q)
  whose-at q = whose ∙ sym o.leaves.generation

  -- the sweep goes on, is lost, or has swept the span
  ran : (p count : ℕ) (sw : Sweeping) → SweepsIt z before p count sw → t.words ≡ effect s.words (sweep.asks z.layout sw) → (end : Option SweepEnd) → sweep.gives sw (s.words (cell_of (sweep.asks z.layout sw))) ≡ end →
      Comes z a before then held (given_at (after_sweep p count (sweep.goes sw (s.words (cell_of (sweep.asks z.layout sw)))) end)) (at_stage m (after_sweep p count (sweep.goes sw (s.words (cell_of (sweep.asks z.layout sw)))) end))
  ran p count sw x words None e =
      let found = s.words (cell_of (sweep.asks z.layout sw)) in
      let same = steps.same_head sw found in (
        o.leaves,
        right,
        record {
          whose = whose-at (Sweep p count (sweep.goes sw found));
          stage = record {
            waits = waits-then p x.waits;
            page_is = steps.same_page sw found ∙ x.page_is;
            size = ap (λ (h : SpanHead). h.pages) same ∙ x.size;
            fits = subst (λ (h : SpanHead). FitsHead h) (sym same) x.fits;
            number = ap (λ (h : SpanHead). h.number + 2) same ∙ x.number ∙ sym o.leaves.generation;
            busy = steps.goes_on (sweep.goes sw found) e;
          };
        },
      )
  ran p count sw x words (Some Lost) e = (o.leaves, right, record { whose = whose-at (Wait p); stage = waits-then p x.waits })
  ran p count sw x words (Some (Swept span)) e =
      let few : sw.head.number + 2 < 2 ^ 34 = omega (arith, x.number, g.generation) in
      let head : page_of (then.page p) ≡ PageWord.Head (once_swept sw.head) = steps.swept_then k.packed z.layout s.words t.words sw p sw.head span words x.page_is refl x.busy x.fits few e in (
        o.leaves,
        right,
        record {
          whose = whose-at (Bits p count 0);
          stage = record {
            idle = record { h = once_swept sw.head; head = head; owner = refl; size = x.size; number = x.number ∙ sym o.leaves.generation };
            tidy = tidy-then p x.waits.tidy;
            within = omega (arith, x.fits.some, x.size);
            clear = λ y low high. absurd (omega (arith, low, high));
          };
        },
      )

sweep-at : Known → (z : Arena) (a : ℕ) (s t : Shared) (held : ℕ → Bool) (m : Reclaiming) (q : ReclaimStage) (sw : Sweeping) → Good z (view s) → Rights a (view s) true held None (freeing_at q) → Facts z (view s) (at_stage m q) → sweep_at q ≡ Some sw → SweepLeaves (view s) (view t) → t.words ≡ effect s.words (asks z.layout (at_stage m q)) →
    Comes z a (view s) (view t) held (given (goes z.layout (at_stage m q) (s.words (cell_of (asks z.layout (at_stage m q)))))) (goes z.layout (at_stage m q) (s.words (cell_of (asks z.layout (at_stage m q)))))
sweep-at k z a s t held m q on g right x is o words = grind (arith, ran)

sweep-step : Known → SweepStep
sweep-step k z a s t held m sw g right x is o words = (steps.objects_then (view s) (view t) o, sweep-at k z a s t held m m.stage sw g right x is o words)

pub reclaims_by_its_rights : Known → ReclaimsByItsRights
reclaims_by_its_rights k = record { opens = opens; own_step = own k; sweep_step = sweep-step k; within = within; frees = λ l m none. frees-at l m.stage none; lasts = lasts k }
