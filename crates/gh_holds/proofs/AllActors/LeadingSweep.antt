-- The coordinator walks over all pages while the world runs: what holds of the walk behind each of its steps.
use Rattle.std.proofs.Common.{◌≡◌, ◌≢◌, ◌⊎◌, inl, inr, ℕ, ◌+◌, ◌<◌, ◌==◌, Bool, true, false, cond, ltb, refl, sym, ap, subst, ◌∙◌, arith, Option, None, eq-eqb}
use Rattle.gh_holds.proofs.Vocabulary.{Arena, Cell, cell_of, FactsAt, generation_of, HasNotNumber, head_word, IsBegun, Known, Layout, Load, nat_tests, page_at, page_of, PassedBefore, SpanHead, State, StateGood, SweepAllStage, SweepingAll, SweepRuns, SweepStage, Walks, WalksAt}
use Rattle.gh_coord.specs.SweepingAll as over_all
use Rattle.gh_state.specs.Moves as state
use Rattle.gh_sweep.specs.Listing as sweep
use Rattle.gh_sweep.specs.Moves as moves
use Rattle.gh_sweep.specs.Shared.{Done}
use Rattle.gh_sweep.specs.Sweepers as sweepers
use Rattle.gh_marked.proofs.Vocabulary.{Body, Free, Head, Lost, PageWord, SweepEnd, Swept}

module _ (z : Arena) (known : Known) (l : Layout) (w : SweepingAll) where
  -- a page more is passed
  one_more : (t : State) (page : ℕ) → PassedBefore t page → t.far page ≡ Done → PassedBefore t (page + 1)
  one_more t page passed this p lt = go (p == page) refl where
    go : (b : Bool) → (p == page) ≡ b → t.far p ≡ Done
    go true x = let same : p ≡ page = grind (arith, nat_tests) in ap t.far same ∙ this
    go false x = passed p (let differs : p ≢ page = (λ y. absurd (grind (arith, nat_tests))) in omega (arith, lt, differs))

  -- the page is passed, and the next one is looked at, if there is one
  next_page : (t : State) (page : ℕ) → l ≡ t.end.layout → w.generation ≡ generation_of t.end → PassedBefore t (page + 1) → Walks t (over_all.at_stage w (over_all.behind l page))
  next_page t page layout_is generation_is passed = grind arith

  module _ (s : State) (good : StateGood z s) (walks : Walks s w) (laid : l ≡ s.end.layout) where
    -- a head with neither of the two numbers before it has that of the sweep generation
    number_is : (page : ℕ) (g : SpanHead) → page_of (s.heap.words (Cell.Page page)) ≡ Head g → g.number + 2 ≢ w.generation → g.number + 1 ≢ w.generation → g.number ≡ s.heap.words Cell.Gen
    number_is page g is not_two not_one = grind arith

    -- so it is passed
    passes : (page : ℕ) → PassedBefore s page → ((g : SpanHead) → page_of (s.heap.words (Cell.Page page)) ≡ Head g → (g.number + 2 ≢ w.generation) × (g.number + 1 ≢ w.generation)) → Walks s (over_all.at_stage w (over_all.behind l page))
    passes page passed none = next_page s page laid walks.generation_is (known.walkers.passes z s page good (λ g is. number_is page g is (none g is).0 (none g is).1) passed)

    -- the word of a page is found
    module _ (page : ℕ) (found : ℕ) (found_is : found ≡ s.heap.words (Cell.Page page)) where
      no_head : (x : PageWord) → page_of (s.heap.words (Cell.Page page)) ≡ x → ((g : SpanHead) → x ≢ Head g) → (g : SpanHead) → page_of (s.heap.words (Cell.Page page)) ≡ Head g → (g.number + 2 ≢ w.generation) × (g.number + 1 ≢ w.generation)
      no_head x is other g is_g = absurd (other g (sym is ∙ is_g))

      one_head : (g h : SpanHead) → page_of (s.heap.words (Cell.Page page)) ≡ Head g → page_of (s.heap.words (Cell.Page page)) ≡ Head h → h ≡ g
      one_head g h is_g is_h = let both = sym is_h ∙ is_g in cc

      numbers_of : (g : SpanHead) → page_of (s.heap.words (Cell.Page page)) ≡ Head g → g.number + 2 ≢ w.generation → g.number + 1 ≢ w.generation → (h : SpanHead) → page_of (s.heap.words (Cell.Page page)) ≡ Head h → (h.number + 2 ≢ w.generation) × (h.number + 1 ≢ w.generation)
      numbers_of g is_g not_two not_one h is_h = let same = ap (λ (x : SpanHead). x.number) (one_head g h is_g is_h) in ((λ x. not_two (ap (λ (i : ℕ). i + 2) (sym same) ∙ x)), (λ x. not_one (ap (λ (i : ℕ). i + 1) (sym same) ∙ x)))

      -- another sweeps the span
      awaits : page < s.end.layout.pages → PassedBefore s page → (g : SpanHead) → page_of (s.heap.words (Cell.Page page)) ≡ Head g → g.number + 1 ≡ w.generation → Walks s (over_all.at_stage w (SweepAllStage.Await page))
      awaits within passed g is_g number = record {
        generation_is = walks.generation_is;
        passed = passed;
        stage_is = (within, λ n two h is_h. λ x. absurd (let same = ap (λ (y : SpanHead). y.number) (one_head g h is_g is_h) in let gen = walks.generation_is in omega (arith, same, gen, number, two, x)));
      }

      -- for the first time
      module _ (is : w.stage ≡ SweepAllStage.LoadPage page) where
        within : page < s.end.layout.pages
        within = subst (λ (p : SweepAllStage). WalksAt s p) is walks.stage_is

        passed : PassedBefore s page
        passed = subst (λ (p : SweepAllStage). PassedBefore s (page_at s p)) is walks.passed

        begins : (g : SpanHead) → Walks s (over_all.at_stage w (SweepAllStage.Sweep page (sweep.opening page g)))
        begins g = record { generation_is = walks.generation_is; passed = passed; stage_is = (within, refl) }

        at_head : (g : SpanHead) → page_of (s.heap.words (Cell.Page page)) ≡ Head g → (b d : Bool) → (g.number + 2 == w.generation) ≡ b → (g.number + 1 == w.generation) ≡ d → Walks s (over_all.at_stage w (cond b (SweepAllStage.Sweep page (sweep.opening page g)) (cond d (SweepAllStage.Await page) (over_all.behind l page))))
        at_head g is_g true d x y = begins g
        at_head g is_g false true x y = awaits within passed g is_g (grind (arith, nat_tests))
        at_head g is_g false false x y = passes page passed (numbers_of g is_g (λ n. absurd (grind (arith, nat_tests))) (λ n. absurd (grind (arith, nat_tests))))

        pub loaded : Walks s (over_all.goes_at l w (SweepAllStage.LoadPage page) found)
        loaded = go (page_of found) (ap page_of (sym found_is)) where
          go : (x : PageWord) → page_of (s.heap.words (Cell.Page page)) ≡ x → Walks s (over_all.after_load l w page x)
          go Free i = passes page passed (no_head Free i (λ g y. absurd cc))
          go (Head g) i = at_head g i (g.number + 2 == w.generation) (g.number + 1 == w.generation) refl refl
          go (Body b) i = passes page passed (no_head (Body b) i (λ g y. absurd cc))

      -- and once more, until the sweep of another has ended
      module _ (is : w.stage ≡ SweepAllStage.Await page) where
        stage_at : (page < s.end.layout.pages) × IsBegun s page
        stage_at = subst (λ (p : SweepAllStage). WalksAt s p) is walks.stage_is

        passed_below : PassedBefore s page
        passed_below = subst (λ (p : SweepAllStage). PassedBefore s (page_at s p)) is walks.passed

        not_unswept : (g : SpanHead) → page_of (s.heap.words (Cell.Page page)) ≡ Head g → g.number + 2 ≢ w.generation
        not_unswept g is_g two = stage_at.1 g.number (two ∙ walks.generation_is) g is_g refl

        by_number : (g : SpanHead) → page_of (s.heap.words (Cell.Page page)) ≡ Head g → (b : Bool) → (g.number + 1 == w.generation) ≡ b → Walks s (over_all.at_stage w (cond b (SweepAllStage.Await page) (over_all.behind l page)))
        by_number g is_g true x = awaits stage_at.0 passed_below g is_g (grind (arith, nat_tests))
        by_number g is_g false x = passes page passed_below (numbers_of g is_g (not_unswept g is_g) (λ n. absurd (grind (arith, nat_tests))))

        pub awaited : Walks s (over_all.goes_at l w (SweepAllStage.Await page) found)
        awaited = go (page_of found) (ap page_of (sym found_is)) where
          go : (x : PageWord) → page_of (s.heap.words (Cell.Page page)) ≡ x → Walks s (over_all.after_await l w page x)
          go Free i = passes page passed_below (no_head Free i (λ g y. absurd cc))
          go (Head g) i = by_number g i (g.number + 1 == w.generation) refl
          go (Body b) i = passes page passed_below (no_head (Body b) i (λ g y. absurd cc))

    -- a step of the sweep of a span that it runs
    pub record StepsInSpan (a page : ℕ) (m : sweep.Sweeping) (found : ℕ) : Type 0 where
      pub is : w.stage ≡ SweepAllStage.Sweep page m
      pub runs : SweepRuns a s m
      pub busy : sweep.is_busy m.stage ≡ true
      pub found_is : found ≡ s.heap.words (cell_of (sweep.asks l m))
      pub may : state.May z a s (state.Sweep (sweepers.move_of m found))

    module _ (a page : ℕ) (m : sweep.Sweeping) (found : ℕ) (step : StepsInSpan a page m found) where
      abbrev then : State
      then = state.moved z a s (state.Sweep (sweepers.move_of m found))

      at_page : (page < s.end.layout.pages) × (m.page ≡ page)
      at_page = subst (λ (p : SweepAllStage). WalksAt s p) step.is walks.stage_is

      passed_then : PassedBefore then page
      passed_then = known.walkers.own z a s (state.Sweep (sweepers.move_of m found)) page good step.may (subst (λ (p : SweepAllStage). PassedBefore s (page_at s p)) step.is walks.passed)

      abbrev Next : State → sweep.Sweeping → Option SweepEnd → Type 0
      Next t x out = Walks t (over_all.after_sweep l (over_all.at_stage w (SweepAllStage.Sweep page x)) page out)

      goes_on : (x : sweep.Sweeping) → x.page ≡ m.page → Next then x None
      goes_on x page_is = record { generation_is = walks.generation_is; passed = passed_then; stage_is = (at_page.0, page_is ∙ at_page.1) }

      abbrev Behind : SweepStage → Type 0
      Behind q = Next then (sweep.at_stage m q) (sweep.given_at q)

      behind : (b : Bool) (i : ℕ) → Behind (cond b (SweepStage.LoadMarks i) SweepStage.AddTally)
      behind true i = goes_on _ refl
      behind false i = goes_on _ refl

      -- the span is swept
      ended : m.stage ≡ SweepStage.Finish → Behind (SweepStage.Ended (Swept (sweep.swept_span m)))
      ended y = next_page then page laid walks.generation_is (one_more then page passed_then swept_page) where
        swept_page : then.far page ≡ Done
        swept_page = ap (λ (q : SweepStage). (state.moved z a s (state.Sweep (sweepers.move_at m q found))).far page) y ∙ rw (eq-eqb m.page page at_page.1) refl

      -- the sweep begins, or another has begun it
      begun : m.stage ≡ SweepStage.Begin → Behind (cond (sweep.wrote m found) (SweepStage.LoadMarks 0) (SweepStage.Ended Lost))
      begun y = go (sweep.wrote m found) refl where
        lost : sweep.wrote m found ≡ false → HasNotNumber m.head.number (s.heap.words (Cell.Page m.page))
        lost x = by (subst (λ (q : SweepStage). FactsAt m s.heap.words q) y step.runs.fine.facts).head_is where
          here : found ≡ s.heap.words (Cell.Page m.page)
          here = step.found_is ∙ ap (λ (q : SweepStage). s.heap.words (cell_of (sweep.asks_at l m q))) y

          by : (s.heap.words (Cell.Page m.page) ≡ head_word m.head) ⊎ HasNotNumber m.head.number (s.heap.words (Cell.Page m.page)) → HasNotNumber m.head.number (s.heap.words (Cell.Page m.page))
          by (inl same) = absurd (let yes : sweep.wrote m found ≡ true = eq-eqb found (head_word m.head) (here ∙ same) in let no : true ≡ false = sym yes ∙ x in cc)
          by (inr other) = other

        then_by : (b : Bool) → sweep.wrote m found ≡ b → then ≡ state.moved z a s (state.Sweep (cond b (moves.Starts m.page m.head) (moves.Quiet (Load (Cell.Page m.page)))))
        then_by b x = ap (λ (q : SweepStage). state.moved z a s (state.Sweep (sweepers.move_at m q found))) y ∙ ap (λ (c : Bool). state.moved z a s (state.Sweep (cond c (moves.Starts m.page m.head) (moves.Quiet (Load (Cell.Page m.page)))))) x

        go : (b : Bool) → sweep.wrote m found ≡ b → Behind (cond b (SweepStage.LoadMarks 0) (SweepStage.Ended Lost))
        go true x = goes_on _ refl
        go false x = record {
          generation_is = walks.generation_is;
          passed = passed_then;
          stage_is = (at_page.0, subst (λ (t : State). IsBegun t page) (sym (then_by false x)) begun_there);
        } where
          begun_there : IsBegun s page
          begun_there n two = subst (λ (p : ℕ). HasNotNumber n (s.heap.words (Cell.Page p))) at_page.1 (subst (λ (i : ℕ). HasNotNumber i (s.heap.words (Cell.Page m.page))) (let number = step.runs.fine.number in omega (arith, number, two)) (lost x))

      by_stage : (q : SweepStage) → m.stage ≡ q → sweep.is_busy q ≡ true → Next then (sweep.goes_at m q found) (sweep.given (sweep.goes_at m q found))
      by_stage SweepStage.Begin y b = begun y
      by_stage (SweepStage.ClearMarks i) y b = behind (ltb (i + 1) (sweep.bit_words m.head)) (i + 1)
      by_stage SweepStage.Finish y b = ended y
      by_stage (SweepStage.Ended end) y b = absurd cc
      by_stage _ y b = goes_on _ refl

      pub stepped : Walks then (over_all.goes_at l w (SweepAllStage.Sweep page m) found)
      stepped = grind (arith, by_stage)
