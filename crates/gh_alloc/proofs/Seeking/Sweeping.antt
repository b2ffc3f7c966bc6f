-- The search runs the sweeps of its passes on until they have ended, and begins one where a pass does.
use Rattle.std.proofs.Common.{◌≡◌, ℕ, Bool, true, cond, eqb, Option, Some, None, refl, sym, ◌∙◌, arith}
use Rattle.gh_alloc.proofs.Vocabulary.{After, after_carve, after_first, after_free, after_give, after_pass, after_slots, at_stage, Carve, Ended, Finding, FindStage, First, Free, frees_at, Give, goes_at, is_busy, Layout, Lock, locked_for, Pass, Reclaiming, searched, SearchStage, Second, Slots, sweep_at, Sweeping, Unlock, unlocked, Unswept}
use Rattle.gh_cache.specs.Listing as slots
use Rattle.gh_central.specs.GiveBack as give
use Rattle.gh_central.specs.Reclaim as reclaim
use Rattle.gh_central.specs.SweptPass as pass
use Rattle.gh_central.specs.Sweeping.{BeginsSweep, RunsSweeps, SweepsOn}
use Rattle.gh_central.specs.UnsweptPass as unswept
use Rattle.gh_pages.specs.Listing as carve
use Rattle.gh_alloc.specs.Find as find
use Rattle.gh_alloc.specs.Search as search

none-some : {x : Option Sweeping} {sw : Sweeping} → x ≡ None → x ≡ Some sw → ⊥
none-some none some = cc

-- Stages that run no sweep.

unlocked-idle : (f : Finding) (after : After) → sweep_at (unlocked f after) ≡ None
unlocked-idle f after = grind arith

slots-idle : (f : Finding) (s : slots.Searching) (out : Option (Option ℕ)) → sweep_at (after_slots (searched f s) out).stage ≡ None
slots-idle f s out = grind arith

lock-idle : (f : Finding) (b : Bool) → sweep_at (cond b (locked_for f f.wanted f.cached) Lock) ≡ None
lock-idle f b = grind arith

give-idle : (f : Finding) (g : give.SpanGiving) (out : Option (Unit {0})) → sweep_at (after_give (at_stage f (Give g)) out).stage ≡ None
give-idle f g out = grind arith

pass-idle : (l : Layout) (f : Finding) (m : pass.Pass) (out : Option (Option ℕ)) → sweep_at (after_pass l (at_stage f (Pass m)) out).stage ≡ None
pass-idle l f m out = grind arith

carve-idle : (l : Layout) (f : Finding) (c : carve.Carving) (out : Option (Option ℕ)) → sweep_at (after_carve l (at_stage f (Carve c)) out).stage ≡ None
carve-idle l f c out = grind arith

-- The search of the heap.

module _ (l : Layout) (passes : RunsSweeps (unswept.asks l) (unswept.goes l) (λ _. l) (λ (m : unswept.Unswept). m.generation) unswept.sweep_in) where
  find-goes : (f : Finding) (u : unswept.Unswept) (w : ℕ) → find.sweep_in (find.goes_at l f (Unswept u) w) ≡ unswept.sweep_in (unswept.goes l u w)
  find-goes f u w = grind arith

  find-on : (f : Finding) (p : FindStage) (sw : Sweeping) → sweep_at p ≡ Some sw → is_busy sw.stage ≡ true → SweepsOn l (find.asks l) (find.goes l) find.sweep_in (at_stage f p) sw
  find-on f p sw e busy = grind arith

  find-begins : (f : Finding) (p : FindStage) (w : ℕ) (sw : Sweeping) → sweep_at p ≡ None → find.sweep_in (find.goes_at l f p w) ≡ Some sw → BeginsSweep (find.sweep_generation_at f p) (find.asks_at l f p) w sw
  find-begins f (Slots s) w sw none e = absurd (none-some (slots-idle f (slots.goes s w) (slots.given (slots.goes s w))) e)
  find-begins f Lock w sw none e = absurd (none-some (lock-idle f (eqb w 0)) e)
  find-begins f (Give g) w sw none e = absurd (none-some (give-idle f (give.goes g w) (give.given (give.goes g w))) e)
  find-begins f (Pass m) w sw none e = absurd (none-some (pass-idle l f (pass.goes l m w) (pass.given (pass.goes l m w))) e)
  find-begins f (Unswept u) w sw none e = passes.begins u w sw none (sym (find-goes f u w) ∙ e)
  find-begins f (Carve c) w sw none e = absurd (none-some (carve-idle l f (carve.goes l c w) (carve.given (carve.goes l c w))) e)
  find-begins f (Unlock after) w sw none e = absurd (none-some (unlocked-idle f after) e)
  find-begins f (Ended out) w sw none e = absurd (none-some refl e)

  -- The search where a collector runs.

  first-goes : (g : Finding) → search.sweep_at g (after_first g) ≡ find.sweep_in g
  first-goes g = grind arith

  second-goes : (g : Finding) (b : Bool) → search.sweep_at g (cond b First Second) ≡ find.sweep_in g
  second-goes g b = grind arith

  free-goes : (f : Finding) (r : Reclaiming) (out : Option (Unit {0})) → reclaim.given r ≡ out → search.sweep_in (after_free f r out) ≡ reclaim.sweep_in r
  free-goes f r out e = grind arith

  module _ (reclaims : RunsSweeps (reclaim.asks l) (reclaim.goes l) (λ _. l) (λ (m : Reclaiming). m.generation) reclaim.sweep_in) where
    on : (f : Finding) (p : SearchStage) (sw : Sweeping) → search.sweep_at f p ≡ Some sw → is_busy sw.stage ≡ true → SweepsOn l (search.asks l) (search.goes l) search.sweep_in (record { find = f; stage = p }) sw
    on f First sw e busy = let y = find-on f f.stage sw e busy in record { asks_so = y.asks_so; goes_so = λ w. first-goes (find.goes l f w) ∙ y.goes_so w }
    on f (Free r) sw e busy = let y = reclaims.on r sw e busy in record { asks_so = y.asks_so; goes_so = λ w. free-goes f (reclaim.goes l r w) (reclaim.given (reclaim.goes l r w)) refl ∙ y.goes_so w }
    on f Second sw e busy = let y = find-on f f.stage sw e busy in record { asks_so = y.asks_so; goes_so = λ w. second-goes (find.goes l f w) (frees_at f.stage) ∙ y.goes_so w }

    begins : (f : Finding) (p : SearchStage) (w : ℕ) (sw : Sweeping) → search.sweep_at f p ≡ None → search.sweep_in (goes_at l f p w) ≡ Some sw → BeginsSweep (search.sweep_generation_at f p) (search.asks_at l f p) w sw
    begins f First w sw none e = find-begins f f.stage w sw none (sym (first-goes (find.goes l f w)) ∙ e)
    begins f (Free r) w sw none e = reclaims.begins r w sw none (sym (free-goes f (reclaim.goes l r w) (reclaim.given (reclaim.goes l r w)) refl) ∙ e)
    begins f Second w sw none e = find-begins f f.stage w sw none (sym (second-goes (find.goes l f w) (frees_at f.stage)) ∙ e)

    pub runs_sweeps : RunsSweeps (search.asks l) (search.goes l) (λ _. l) search.sweep_generation search.sweep_in
    runs_sweeps = record { on = λ q. on q.find q.stage; begins = λ q. begins q.find q.stage }
