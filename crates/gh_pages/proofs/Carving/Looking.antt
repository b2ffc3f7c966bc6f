-- The routine finds the first fit.
use Rattle.std.proofs.Common.{◌≡◌, ◌≢◌, ℕ, zero, suc, ◌+◌, ◌-◌, ◌<◌, ◌≤◌, ◌⊎◌, inl, inr, Bool, true, false, not, cond, eqb, ltb, Some, None, refl, sym, ap, subst, ◌∙◌, arith}
use Rattle.gh_pages.proofs.Vocabulary.{after_look, asks, asks_at, at_stage, Body, CarveStage, Carving, Ended, EndsWithNone, FindsFirstFit, first_store, FitsAt, given, given_at, goes, goes_at, GoesOnWith, Head, IsFirstFit, Loads, Look, nat_tests, told}
use Rattle.gh_base.specs.declared.cell.Cell.TheVariants.{Page}
use Rattle.gh_base.specs.declared.cell.Ask.TheVariants.{Load}
use Rattle.gh_base.specs.declared.layout.Layout.{Layout}
use Rattle.gh_pages.specs.declared.carve.Span.{Span}
use Rattle.gh_pages.proofs.Carving.Rows.{LookedAt, free_at, first_is, none_more, look_on_free, look_on_taken, looked_at_none}

abbrev is_look : CarveStage → Bool
is_look (Look page run) = true
is_look _ = false

module _ (layout : Layout) (c : Carving) (found : ℕ → ℕ) where
  abbrev Looked : ℕ → ℕ → Type 0
  Looked n run = LookedAt layout.pages c.span.pages found n run

  -- what the load of page n leads to
  abbrev Taken : ℕ → Carving → Type 0
  Taken n next = (first : ℕ) × IsFirstFit layout.pages c.span.pages found first × (n + 1 ≡ first + c.span.pages) × (next ≡ at_stage c (first_store c.span first))

  abbrev Missed : ℕ → Carving → Type 0
  Missed n next = ((first : ℕ) → ¬ FitsAt layout c found first) × (n + 1 ≡ layout.pages) × (next ≡ at_stage c (Ended None))

  abbrev Looking : ℕ → Carving → Type 0
  Looking n next = (run : ℕ) × Looked (n + 1) run × (next ≡ at_stage c (Look (n + 1) run))

  abbrev Outcome : ℕ → Carving → Type 0
  Outcome n next = Taken n next ⊎ (Missed n next ⊎ Looking n next)

  missed : (n run : ℕ) → Looked n run → ((first : ℕ) → FitsAt layout c found first → n + 1 < first + c.span.pages) → ltb (n + 1) layout.pages ≡ false → Missed n (at_stage c (Ended None))
  missed n run l none last =
      let h = l.here in
      let e : n + 1 ≡ layout.pages = grind (arith, nat_tests) in
      (λ first f. let w = none first f in let v = f.within in absurd (omega arith), e, refl)

  step : (n run : ℕ) → Looked n run → 0 < c.span.pages → Outcome n (goes layout (at_stage c (Look n run)) (found n))
  step n run l some = go (free_at layout.pages c.span.pages found n) refl where
    on_free : (enough more : Bool) → free_at layout.pages c.span.pages found n ≡ true → eqb (run + 1) c.span.pages ≡ enough → ltb (n + 1) layout.pages ≡ more →
        Outcome n (at_stage c (cond enough (first_store c.span (n + 1 - c.span.pages)) (cond (not more) (Ended None) (Look (n + 1) (run + 1)))))
    on_free true more free e m =
        let is : run + 1 ≡ c.span.pages = grind (arith, nat_tests) in
        let w = l.within in
        inl (n + 1 - c.span.pages, first_is layout.pages c.span.pages found n run l free is, omega arith, refl)
    on_free false false free e m = inr (inl (missed n run l (none_more layout.pages c.span.pages found n run l some (λ f. short)) m)) where
      short : run + 1 ≢ c.span.pages
      short = grind (arith, nat_tests)
    on_free false true free e m = inr (inr (run + 1, look_on_free layout.pages c.span.pages found n run l some free (grind (arith, nat_tests)) (grind (arith, nat_tests)), refl))

    on_taken : (enough more : Bool) → free_at layout.pages c.span.pages found n ≡ false → eqb 0 c.span.pages ≡ enough → ltb (n + 1) layout.pages ≡ more →
        Outcome n (at_stage c (cond enough (first_store c.span (n + 1 - c.span.pages)) (cond (not more) (Ended None) (Look (n + 1) 0))))
    on_taken true more taken e m = absurd (grind (arith, nat_tests))
    on_taken false false taken e m = inr (inl (missed n run l (none_more layout.pages c.span.pages found n run l some (λ (f : free_at layout.pages c.span.pages found n ≡ true). absurd (cc))) m))
    on_taken false true taken e m = inr (inr (0, look_on_taken layout.pages c.span.pages found n run l some taken (grind (arith, nat_tests)), refl))

    go : (f : Bool) → free_at layout.pages c.span.pages found n ≡ f → Outcome n (at_stage c (after_look layout c n (cond f (run + 1) 0)))
    go true e = on_free (eqb (run + 1) c.span.pages) (ltb (n + 1) layout.pages) e refl refl
    go false e = on_taken (eqb 0 c.span.pages) (ltb (n + 1) layout.pages) e refl refl

  -- it does not look any more: it found the first fit, or there is none
  abbrev Over : ℕ → Carving → Type 0
  Over n m = (is_look m.stage ≡ false) × (((first : ℕ) × IsFirstFit layout.pages c.span.pages found first × (first + c.span.pages ≤ n)) ⊎ (((first : ℕ) → ¬ FitsAt layout c found first) × (layout.pages ≤ n)))

  abbrev Stands : ℕ → Carving → Type 0
  Stands n m = ((run : ℕ) × Looked n run × (m ≡ at_stage c (Look n run))) ⊎ Over n m

  stays_over : (m : Carving) (p : CarveStage) (word : ℕ) → is_look p ≡ false → is_look (goes_at layout m p word) ≡ false
  stays_over m p word e = grind arith

  store_is_no_look : (span : Span) (first : ℕ) → is_look (first_store span first) ≡ false
  store_is_no_look span first = grind arith

  moved : (n run : ℕ) (m : Carving) → m ≡ at_stage c (Look n run) → Looked n run → 0 < c.span.pages → Outcome n (goes layout m (found n))
  moved n run m e l some = subst (λ (x : Carving). Outcome n (goes layout x (found n))) (sym e) (step n run l some)

  next : (n : ℕ) (m : Carving) → 0 < c.span.pages → Stands n m → Stands (n + 1) (goes layout m (found n))
  next n m some (inl (run, l, e)) = elim (moved n run m e l some) [
    | inl (first, f, at, is) ↦ inr (ap (λ (x : Carving). is_look x.stage) is ∙ store_is_no_look c.span first, inl (first, f, omega arith))
    | inr (inl (none, at, is)) ↦ inr (ap (λ (x : Carving). is_look x.stage) is, inr (none, omega arith))
    | inr (inr (row, l, is)) ↦ inl (row, l, is)
  ]
  next n m some (inr (over, inl (first, f, le))) = inr (stays_over m m.stage (found n) over, inl (first, f, omega arith))
  next n m some (inr (over, inr (none, le))) = inr (stays_over m m.stage (found n) over, inr (none, omega arith))

  stands : 0 < layout.pages → 0 < c.span.pages → c ≡ at_stage c (Look 0 0) → (n : ℕ) → Stands n (told layout c found n)
  stands pages some opens zero = inl (0, looked_at_none layout.pages c.span.pages found pages some, opens)
  stands pages some opens (suc n) = subst (λ (x : ℕ). Stands x (told layout c found (suc n))) (omega arith) (next n (told layout c found n) some (stands pages some opens n))

  no_load : (m : Carving) (p : CarveStage) (n : ℕ) → is_look p ≡ false → asks_at m p ≢ Load (Page n)
  no_load m (Look page run) n over e = absurd (cc)
  no_load m (Body first distance) n over e = absurd (cc)
  no_load m (Head first) n over e = absurd (cc)
  no_load m (Ended taken) n over e = absurd (cc)

  store_gives_none : (span : Span) (first : ℕ) → given_at (first_store span first) ≢ Some None
  store_gives_none span first = grind arith

  same_first : (span : Span) (m n : ℕ) → first_store span m ≡ first_store span n → m ≡ n
  same_first span m n = grind arith

  pub finds : 0 < layout.pages → 0 < c.span.pages → c ≡ at_stage c (Look 0 0) → FindsFirstFit layout c found
  finds pages some opens = record {
    loads = λ n. (loads_if n (all n), loads_then n (all n));
    goes_on = λ n first. (λ h. taken n first h.1 (outcome n (all n) h.0), λ h. takes n first h.0 h.1);
    none = λ n. (λ h. misses n h.1 (outcome n (all n) h.0), λ h. missed_at n h.0 h.1);
  } where
    all : (n : ℕ) → Stands n (told layout c found n)
    all = stands pages some opens

    loads_if : (n : ℕ) → Stands n (told layout c found n) → Loads layout c found n → (n < layout.pages) × ((first : ℕ) → FitsAt layout c found first → n < first + c.span.pages)
    loads_if n (inl (run, l, e)) a = (l.here, l.none)
    loads_if n (inr (over, why)) a = absurd (no_load (told layout c found n) (told layout c found n).stage n over a)

    loads_then : (n : ℕ) → Stands n (told layout c found n) → (n < layout.pages) × ((first : ℕ) → FitsAt layout c found first → n < first + c.span.pages) → Loads layout c found n
    loads_then n (inl (run, l, e)) h = ap asks e
    loads_then n (inr (over, inl (first, f, le))) h = let low = h.1 first f.fits in absurd (omega arith)
    loads_then n (inr (over, inr (none, le))) h = let low = h.0 in absurd (omega arith)

    outcome : (n : ℕ) → Stands n (told layout c found n) → Loads layout c found n → Outcome n (goes layout (told layout c found n) (found n))
    outcome n (inl (run, l, e)) a = moved n run (told layout c found n) e l some
    outcome n (inr (over, why)) a = absurd (no_load (told layout c found n) (told layout c found n).stage n over a)

    taken : (n first : ℕ) → goes layout (told layout c found n) (found n) ≡ at_stage c (first_store c.span first) → Outcome n (goes layout (told layout c found n) (found n)) →
        IsFirstFit layout.pages c.span.pages found first × (n + 1 ≡ first + c.span.pages)
    taken n first e (inl (other, f, at, is)) =
        let same : other ≡ first = same_first c.span other first (ap (λ (x : Carving). x.stage) (sym is ∙ e)) in
        (subst (λ (x : ℕ). IsFirstFit layout.pages c.span.pages found x) same f, omega arith)
    taken n first e (inr (inl (none, at, is))) = absurd (go (ltb 1 c.span.pages) (ap (λ (x : Carving). x.stage) (sym is ∙ e))) where
      go : (more : Bool) → Ended None ≡ cond more (Body first 1) (Head first) → ⊥
      go true e = cc
      go false e = cc
    taken n first e (inr (inr (row, l, is))) = absurd (go (ltb 1 c.span.pages) (ap (λ (x : Carving). x.stage) (sym is ∙ e))) where
      go : (more : Bool) → Look (n + 1) row ≡ cond more (Body first 1) (Head first) → ⊥
      go true e = cc
      go false e = cc

    takes_by : (n first : ℕ) → IsFirstFit layout.pages c.span.pages found first → n + 1 ≡ first + c.span.pages → Outcome n (goes layout (told layout c found n) (found n)) →
        goes layout (told layout c found n) (found n) ≡ at_stage c (first_store c.span first)
    takes_by n first f e (inl (other, g, at, is)) = is ∙ ap (λ (x : ℕ). at_stage c (first_store c.span x)) (omega arith)
    takes_by n first f e (inr (inl (none, at, is))) = absurd (none first f.fits)
    takes_by n first f e (inr (inr (row, l, is))) = let low = l.none first f.fits in absurd (omega arith)

    takes : (n first : ℕ) → IsFirstFit layout.pages c.span.pages found first → n + 1 ≡ first + c.span.pages → GoesOnWith layout c found n first
    takes n first f e =
        let load : Loads layout c found n = loads_then n (all n) (let w = f.fits.within in omega arith, λ other g. let low = f.least other g in omega arith) in
        (load, takes_by n first f e (outcome n (all n) load))

    misses : (n : ℕ) → given (goes layout (told layout c found n) (found n)) ≡ Some None → Outcome n (goes layout (told layout c found n) (found n)) → ((first : ℕ) → ¬ FitsAt layout c found first) × (n + 1 ≡ layout.pages)
    misses n e (inl (other, g, at, is)) = absurd (store_gives_none c.span other (sym (ap given is) ∙ e))
    misses n e (inr (inl (none, at, is))) = (none, at)
    misses n e (inr (inr (row, l, is))) = absurd (let none = ap given is in cc)

    missed_by : (n : ℕ) → ((first : ℕ) → ¬ FitsAt layout c found first) → n + 1 ≡ layout.pages → Outcome n (goes layout (told layout c found n) (found n)) → given (goes layout (told layout c found n) (found n)) ≡ Some None
    missed_by n none e (inl (other, g, at, is)) = absurd (none other g.fits)
    missed_by n none e (inr (inl (other, at, is))) = ap given is
    missed_by n none e (inr (inr (row, l, is))) = let low = l.here in absurd (omega arith)

    missed_at : (n : ℕ) → ((first : ℕ) → ¬ FitsAt layout c found first) → n + 1 ≡ layout.pages → EndsWithNone layout c found n
    missed_at n none e =
        let load : Loads layout c found n = loads_then n (all n) (omega arith, λ other g. absurd (none other g)) in
        (load, missed_by n none e (outcome n (all n) load))
