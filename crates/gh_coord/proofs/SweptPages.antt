-- The walk over the pages, step by step: of each page behind it nothing is left to sweep.
use Rattle.std.proofs.Common.{◌≡◌, ℕ, zero, suc, ◌+◌, ◌<◌, ◌≤◌, ◌==◌, Bool, true, false, cond, ltb, Option, Some, None, inl, inr, refl, sym, ap, subst, ◌∙◌, arith, ltb-true, ltb-false}
use Rattle.gh_coord.proofs.Vocabulary.{after_sweep, Ask, asks, asks_at, at_stage, Body, by_event, Cell, Close, Coordinating, CoordStage, Count, counted, Done, Event, Free, goes_at, Head, Layout, led, Load, Lost, MayCome, nat_tests, page_of, PageWord, PartsAreRoutines, Store, Sweep, sweep_at, sweep_in, SweepAllStage, SweepEnd, Swept, Tell}
use Rattle.gh_sweep.specs.Listing as sweep
use Rattle.gh_coord.specs.Counting as count
use Rattle.gh_coord.specs.SweepingAll as all
use Rattle.gh_coord.specs.Telling as tell
use Rattle.gh_coord.specs.SweptPages.{FindsBegun, FindsDone, HasPassed, HasSwept, IsNone, state, TellsOnceAllAreSwept}
use Rattle.gh_coord.proofs.PartsRoutines.{page_stays}
use Rattle.gh_coord.proofs.QuietParts.{never}
use Rattle.gh_coord.proofs.Stepping.{Run, same_ask}

module _ (run : Run) where
  abbrev now : ℕ → Coordinating
  now n = state run.layout run.seat run.gogc run.minheap run.room run.found n

  -- the step stores no sweep generation
  abbrev StoresNone : Ask → Type 0
  StoresNone step = (other : ℕ) → step ≡ Store Cell.Gen other → ⊥

  abbrev Passed : (generation n page : ℕ) → Type 0
  Passed generation n page = HasPassed run.layout run.seat run.gogc run.minheap run.room run.found n generation page

  abbrev Begins : (generation page by : ℕ) → Type 0
  Begins generation page by = FindsBegun run.layout run.seat run.gogc run.minheap run.room run.found generation page by

  abbrev Ends : (generation page by : ℕ) → Type 0
  Ends generation page by = FindsDone run.layout run.seat run.gogc run.minheap run.room run.found generation page by

  -- the pages below this are passed
  abbrev Below : (generation n pages : ℕ) → Type 0
  Below generation n pages = (page : ℕ) → page < pages → Passed generation n page

  -- no unswept span begins at the page
  record Begun (generation n page : ℕ) : Type 0 where
    first : ℕ
    is_before : first < n
    is_so : Begins generation page first
    since : (m : ℕ) → first ≤ m → m < n → StoresNone (asks run.layout (now m))

  abbrev WalkKnows : (generation n : ℕ) → SweepAllStage → Type 0
  WalkKnows generation n (SweepAllStage.LoadPage page) = Below generation n page
  WalkKnows generation n (SweepAllStage.Sweep page sw) = (sw.page ≡ page) × Below generation n page
  WalkKnows generation n (SweepAllStage.Await page) = Begun generation n page × Below generation n page
  WalkKnows generation n SweepAllStage.Ended = ⊥

  record WalkIs (generation n : ℕ) (x : all.SweepingAll) : Type 0 where
    generation_is : x.generation ≡ generation
    knows : WalkKnows generation n x.stage

  abbrev Knows : (generation n : ℕ) → CoordStage → Type 0
  Knows generation n (Sweep x) = WalkIs generation n x
  Knows generation n (Count co) = Below generation n run.layout.pages
  Knows generation n (Tell te) = Below generation n run.layout.pages
  Knows generation n _ = Unit {0}

  abbrev Has : ℕ → Coordinating → Type 0
  Has n s = Knows s.generation n s.stage

  module _ (generation n : ℕ) (none : StoresNone (asks run.layout (now n))) where
    since_on : (by : ℕ) → ((m : ℕ) → by ≤ m → m < n → StoresNone (asks run.layout (now m))) → (m : ℕ) → by ≤ m → m < suc n → StoresNone (asks run.layout (now m))
    since_on by before m from lt = so (ltb m n) refl where
      so : (b : Bool) → ltb m n ≡ b → StoresNone (asks run.layout (now m))
      so true e = before m from (ltb-true _ _ e)
      so false e = let ge : n ≤ m = ltb-false _ _ e in let is : n ≡ m = omega arith in subst (λ (x : ℕ). StoresNone (asks run.layout (now x))) is none

    -- the pages that are passed stay so
    stay : (pages : ℕ) → Below generation n pages → Below generation (suc n) pages
    stay pages k page lt =
        let h = k page lt in
        let before : h.by < n = h.is_before in
        record { first = h.first; by = h.by; is_behind = h.is_behind; is_before = omega arith; is_so = h.is_so; since = since_on h.first h.since }

    begun_on : (page : ℕ) → Begun generation n page → Begun generation (suc n) page
    begun_on page h =
        let before : h.first < n = h.is_before in
        record { first = h.first; is_before = omega arith; is_so = h.is_so; since = since_on h.first h.since }

    begun_here : (page : ℕ) → Begins generation page n → Begun generation (suc n) page
    begun_here page is = grind arith

    one_more : (pages : ℕ) → Below generation n pages → Passed generation (suc n) pages → Below generation (suc n) (pages + 1)
    one_more pages k here page lt = by (ltb page pages) refl where
      by : (b : Bool) → ltb page pages ≡ b → Passed generation (suc n) page
      by true e = stay pages k page (ltb-true _ _ e)
      by false e = let ge : pages ≤ page = ltb-false _ _ e in let is : pages ≡ page = omega arith in subst (λ (x : ℕ). Passed generation (suc n) x) is here

    swept_here : (page : ℕ) → HasSwept run.layout run.seat run.gogc run.minheap run.room run.found page n → Passed generation (suc n) page
    swept_here page is = record { first = n; by = n; is_behind = omega arith; is_before = omega arith; is_so = inl is; since = since_on n (λ m from lt. absurd (omega arith)) }

    done_here : (page : ℕ) → Begun generation (suc n) page → Ends generation page n → Passed generation (suc n) page
    done_here page h is =
        let before : h.first < suc n = h.is_before in
        record { first = h.first; by = n; is_behind = omega arith; is_before = omega arith; is_so = inr (h.is_so, is); since = h.since }

  module _ (n : ℕ) (s : Coordinating) where
    abbrev walks_to : all.SweepingAll → Coordinating
    walks_to y = after_sweep (at_stage s (Sweep y)) (all.given y)

    module _ (x : all.SweepingAll) (numbered : x.generation ≡ s.generation) (none : StoresNone (asks run.layout (now n))) where
      abbrev walked : SweepAllStage → Coordinating
      walked stage = walks_to (all.at_stage x stage)

      -- it goes on behind this page
      behind : (page : ℕ) → Below s.generation n page → Passed s.generation (suc n) page → Has (suc n) (walked (all.behind_of run.layout.pages page))
      behind page k one = by (ltb (page + 1) run.layout.pages) refl where
        most : Below s.generation (suc n) (page + 1)
        most = one_more s.generation n none page k one

        by : (b : Bool) → ltb (page + 1) run.layout.pages ≡ b → Has (suc n) (walked (cond b (SweepAllStage.LoadPage (page + 1)) SweepAllStage.Ended))
        by true e = record { generation_is = numbered; knows = most }
        by false e =
            let last : run.layout.pages ≤ page + 1 = ltb-false _ _ e in
            λ i lt. most i (omega arith)

      waits : (page : ℕ) → Begun s.generation (suc n) page → Below s.generation n page → Has (suc n) (walked (SweepAllStage.Await page))
      waits page h k = record { generation_is = numbered; knows = (h, stay s.generation n none page k) }

      -- by the page's word
      module _ (page : ℕ) (loads : asks run.layout (now n) ≡ Load (Cell.Page page)) where
        begun : (word : PageWord) → page_of (run.found n) ≡ word → IsNone 2 s.generation word → Begun s.generation (suc n) page
        begun word is so = grind arith

        done : (word : PageWord) → page_of (run.found n) ≡ word → IsNone 1 s.generation word → Begun s.generation (suc n) page → Passed s.generation (suc n) page
        done word is so h = grind (arith, done_here, so)

        load_step : (word : PageWord) → page_of (run.found n) ≡ word → Below s.generation n page → Has (suc n) (walks_to (all.after_load run.layout x page word))
        load_step (Head h) is k = by (h.number + 2 == x.generation) (h.number + 1 == x.generation) refl refl where
          by : (b d : Bool) → (h.number + 2 == x.generation) ≡ b → (h.number + 1 == x.generation) ≡ d → Has (suc n) (walked (cond b (SweepAllStage.Sweep page (sweep.opening page h)) (cond d (SweepAllStage.Await page) (all.behind_of run.layout.pages page))))
          by true d e f = record { generation_is = numbered; knows = (refl, stay s.generation n none page k) }
          by false true e f = waits page (begun (Head h) is (λ i. grind (arith, nat_tests))) k
          by false false e f = behind page k (done (Head h) is (λ i. grind (arith, nat_tests)) (begun (Head h) is (λ i. grind (arith, nat_tests))))
        load_step Free is k = behind page k (done Free is tt (begun Free is tt))
        load_step (Body b) is k = behind page k (done (Body b) is tt (begun (Body b) is tt))

        await_step : (word : PageWord) → page_of (run.found n) ≡ word → Begun s.generation n page → Below s.generation n page → Has (suc n) (walks_to (all.after_await run.layout x page word))
        await_step (Head h) is was k = by (all.is_in_sweep x.generation (Head h)) refl where
          by : (d : Bool) → all.is_in_sweep x.generation (Head h) ≡ d → Has (suc n) (walked (cond d (SweepAllStage.Await page) (all.behind_of run.layout.pages page)))
          by true f = waits page (begun_on s.generation n none page was) k
          by false f = behind page k (done (Head h) is (λ i. grind (arith, nat_tests)) (begun_on s.generation n none page was))
        await_step Free is was k = behind page k (done Free is tt (begun_on s.generation n none page was))
        await_step (Body b) is was k = behind page k (done (Body b) is tt (begun_on s.generation n none page was))

      -- by what its own sweep gives
      swept_step : (page : ℕ) (sw : sweep.Sweeping) (out : Option SweepEnd) → sweep_in (now n) ≡ Some sw → sw.page ≡ page → sweep.gives sw (run.found n) ≡ out → Below s.generation n page →
          Has (suc n) (walks_to (all.after_sweep run.layout (all.at_stage x (SweepAllStage.Sweep page (sweep.goes sw (run.found n)))) page out))
      swept_step page sw None runs at is k = record { generation_is = numbered; knows = (page_stays sw sw.stage (run.found n) ∙ at, stay s.generation n none page k) }
      swept_step page sw (Some Lost) runs at is k = waits page (begun_here s.generation n none page (inr (record { sw = sw; runs = runs; page_is = at; ends = is }))) k
      swept_step page sw (Some (Swept span)) runs at is k = behind page k (swept_here s.generation n none page (span, record { sw = sw; runs = runs; page_is = at; ends = is }))

      walk_step : (stage : SweepAllStage) → sweep_in (now n) ≡ all.sweep_at stage → asks run.layout (now n) ≡ all.asks_at run.layout stage → WalkKnows s.generation n stage → Has (suc n) (walks_to (all.goes_at run.layout x stage (run.found n)))
      walk_step stage runs asked k = grind (arith, await_step, load_step, swept_step)

    step_at : PartsAreRoutines run.layout → (stage : CoordStage) → (now n).stage ≡ stage → s.stage ≡ stage → asks run.layout (now n) ≡ asks_at run.layout s stage → Knows s.generation n stage → Has (suc n) (goes_at run.layout s stage (run.found n))
    step_at parts (Close cl) was is asked k = by_event run.layout s (run.found n) (Has (suc n)) (Close cl) (λ e may. closes e may) where
      closes : (e : Event) → MayCome run.layout s (run.found n) (Close cl) e → Has (suc n) (led run.layout s e)
      closes e may = grind arith
    step_at parts (Sweep x) was is asked k = walk_step x k.generation_is (λ v e. never all.writes _ (parts.sweep.writes x) v refl (sym asked ∙ e)) x.stage (ap sweep_at was) asked k.knows
    step_at parts (Count co) was is asked k = let on = stay s.generation n (λ v e. never count.writes _ (parts.count.writes co) v refl (sym asked ∙ e)) run.layout.pages k in by_event run.layout s (run.found n) (Has (suc n)) (Count co) (λ e may. grind (arith, on))
    step_at parts (Tell te) was is asked k = let on = stay s.generation n (λ v e. never tell.writes _ (parts.tell.writes te) v refl (sym asked ∙ e)) run.layout.pages k in by_event run.layout s (run.found n) (Has (suc n)) (Tell te) (λ e may. grind (arith, on))
    step_at parts Done was is asked k = subst (λ (stage : CoordStage). Knows s.generation (suc n) stage) (sym is) tt
    step_at parts q was is asked k = by_event run.layout s (run.found n) (Has (suc n)) q (λ e may. grind arith)

  has : ((l : Layout) → PartsAreRoutines l) → (n : ℕ) → Has n (now n)
  has parts zero = tt
  has parts (suc n) =
      let s : Coordinating = now n in
      step_at n (counted s) (parts run.layout) s.stage refl refl (sym (same_ask run.layout s s.stage)) (has parts n)

module _ (run : Run) (n v : ℕ) (s : Coordinating) where
  tells_at : (stage : CoordStage) → Knows run s.generation n stage → asks_at run.layout s stage ≡ Store Cell.Swept v → Below run s.generation n run.layout.pages
  tells_at stage k e = grind arith

pub tells_once_swept : ((l : Layout) → PartsAreRoutines l) → TellsOnceAllAreSwept
tells_once_swept parts l seat gogc minheap room found n cycle page e lt =
    let run : Run = record { layout = l; seat = seat; gogc = gogc; minheap = minheap; room = room; found = found } in
    let s : Coordinating = now run n in
    tells_at run n cycle s s.stage (has run parts n) e page lt
