-- A cycle begins once: from the store of its phase on the coordinator opens none before the next request is cleared.
use Rattle.std.proofs.Common.{◌≡◌, ◌⊎◌, inl, inr, ℕ, suc, ◌≤◌, ◌==◌, Bool, true, false, refl, sym, ap, subst, ◌∙◌, arith, List, [], ◌∷◌}
use Rattle.gh_holds.proofs.Vocabulary.{acks_of, Ask, BeginsCycle, by_event, compared, Coordinating, CoordStage, Done, Entry, IsBeginning, IsLed, IsStartOf, Layout, Legal, legal_start, ListsKnown, nat_tests, Op, Open, opened_after, opened_in, OpenStage, other, rises, Setup, those}
use Rattle.gh_coord.specs.Listing as coord
use Rattle.gh_coord.specs.Opening as opens_by
use Rattle.gh_holds.proofs.AllActors.LeadingNumbers.{beginning, numbers_at}
use Rattle.gh_holds.proofs.AllActors.LeadingSeat.{asked_at, busy, by_step, ByLead, goes_at as goes_by, led_then}
use Rattle.gh_lists.specs.Steps.{led_by}

-- it opens no cycle, but may be about to clear the request for one
abbrev IsToClear : OpenStage → Type 0
IsToClear OpenStage.ClearWant = Unit {0}
IsToClear _ = ⊥

abbrev IsPast : CoordStage → Type 0
IsPast (Open o) = IsToClear o.stage
IsPast _ = Unit {0}

module _ (l : Layout) (u : Coordinating) where
  -- a step that clears the request counts one cycle more
  clears : (o : opens_by.CycleOpening) (p : OpenStage) → o.stage ≡ p → IsToClear p → (before : ℕ) → opened_after (opens_by.asks_at o o.stage) before ≡ suc before
  clears o p is past before = grind arith

  stays_past : (c : Coordinating) (p : CoordStage) (found : ℕ) → coord.is_busy p ≡ true → IsPast p → IsPast (coord.goes_at l u p found).stage ⊎ ((before : ℕ) → opened_after (coord.asks_at l c p) before ≡ suc before)
  stays_past c (Open o) found b past = inr (clears o o.stage refl past)
  stays_past c Done found b past = absurd cc
  stays_past c p found b past = inl (by_event l u found (λ (to : Coordinating). IsPast to.stage) p (λ e may. grind arith))

  -- where a cycle begins
  begins_past : (p : CoordStage) (found : ℕ) → IsBeginning p → IsPast (coord.goes_at l u p found).stage
  begins_past p found is = grind arith

begins_none : (l : Layout) (c : Coordinating) (p : CoordStage) → IsBeginning p → (before : ℕ) → opened_after (coord.asks_at l c p) before ≡ before
begins_none l c p is before = grind arith

not_past : (p : CoordStage) → IsBeginning p → IsPast p → ⊥
not_past p is past = grind arith

module _ (setup : Setup) (lists : ListsKnown setup) where
  abbrev Lawful : List (Entry Op) → Type 0
  Lawful es = Legal (those setup) es

  abbrev Led : List (Entry Op) → Coordinating → Type 0
  Led es c = IsLed setup es c

  -- so many cycles were opened before, and as long as no more are the coordinator is past the opening
  record PastSince (opened : ℕ) (es : List (Entry Op)) : Type 0 where
    least : opened ≤ opened_in es
    past : opened_in es ≡ opened → (c : Coordinating) → Led es c → IsPast c.stage

  one_led : (es : List (Entry Op)) (c d : Coordinating) → Led es c → Led es d → c ≡ d
  one_led es c d x y = let both = sym x ∙ y in cc

  -- one entry more
  module _ (opened : ℕ) (e : Entry Op) (es : List (Entry Op)) (legal : Lawful (e ∷ es)) (p : PastSince opened es) where
    up : opened_in es ≤ opened_in (e ∷ es)
    up = rises e.ask (opened_in es)

    past_by_lead : ByLead setup e es → opened_in (e ∷ es) ≡ opened → (d : Coordinating) → Led (e ∷ es) d → IsPast d.stage
    past_by_lead by same d led_d =
        let then : Led (e ∷ es) (coord.goes_at setup.layout (coord.counted by.lead) by.lead.stage e.found) = subst (Led (e ∷ es)) (goes_by setup lists e es by by.lead.stage refl) (led_then setup lists e es by) in
        subst (λ (x : Coordinating). IsPast x.stage) (one_led (e ∷ es) (coord.goes_at setup.layout (coord.counted by.lead) by.lead.stage e.found) d then led_d) (go (stays_past setup.layout (coord.counted by.lead) by.lead by.lead.stage e.found (busy setup lists e es by) (p.past before by.lead by.led))) where
          before : opened_in es ≡ opened
          before = let a = up in let b = p.least in omega (arith, a, b, same)

          go : IsPast (coord.goes_at setup.layout (coord.counted by.lead) by.lead.stage e.found).stage ⊎ ((n : ℕ) → opened_after (coord.asks_at setup.layout by.lead by.lead.stage) n ≡ suc n) → IsPast (coord.goes_at setup.layout (coord.counted by.lead) by.lead.stage e.found).stage
          go (inl x) = x
          go (inr more) = absurd (let x : opened_in (e ∷ es) ≡ suc (opened_in es) = ap (λ (q : Ask). opened_after q (opened_in es)) (asked_at setup lists e es by by.lead.stage refl) ∙ more (opened_in es) in let y = before in omega (arith, x, y, same))

    past_by_other : (e.actor == acks_of setup.layout) ≡ false → opened_in (e ∷ es) ≡ opened → (d : Coordinating) → Led (e ∷ es) d → IsPast d.stage
    past_by_other x same d led_d = p.past (let a = up in let b = p.least in omega (arith, a, b, same)) d (sym (other setup e es (acks_of setup.layout) x) ∙ led_d)

    past_on : PastSince opened (e ∷ es)
    past_on = record { least = (let a = up in let b = p.least in omega (arith, a, b)); past = go (e.actor == acks_of setup.layout) refl } where
      go : (b : Bool) → (e.actor == acks_of setup.layout) ≡ b → opened_in (e ∷ es) ≡ opened → (d : Coordinating) → Led (e ∷ es) d → IsPast d.stage
      go true x = let y = led_by setup es in past_by_lead (record { legal = legal; lead = y.lead; led = y.led_by; seat = grind (arith, nat_tests) })
      go false x = past_by_other x

  past_since : (opened : ℕ) (start es : List (Entry Op)) → IsStartOf start es → Lawful es → PastSince opened start → PastSince opened es
  past_since opened start [] is legal p = subst (PastSince opened) is p
  past_since opened start (e ∷ es) (inl is) legal p = subst (PastSince opened) is p
  past_since opened start (e ∷ es) (inr is) legal p = past_on opened e es legal (past_since opened start es is legal.0 p)

  -- from where a cycle begins
  past_begun : (k : ℕ) (d : Entry Op) (ds : List (Entry Op)) → Lawful (d ∷ ds) → BeginsCycle setup k (d ∷ ds) → PastSince k (d ∷ ds)
  past_begun k d ds legal x = record { least = (let a = opened_is in omega (arith, a)); past = λ same c led. subst (λ (y : Coordinating). IsPast y.stage) (one_led (d ∷ ds) (coord.goes_at setup.layout (coord.counted x.lead) x.lead.stage d.found) c then led) (begins_past setup.layout (coord.counted x.lead) x.lead.stage d.found x.stage) } where
    then : Led (d ∷ ds) (coord.goes_at setup.layout (coord.counted x.lead) x.lead.stage d.found)
    then = subst (Led (d ∷ ds)) (goes_by setup lists d ds (by_step setup IsBeginning k d ds legal x) x.lead.stage refl) (led_then setup lists d ds (by_step setup IsBeginning k d ds legal x))

    opened_is : opened_in (d ∷ ds) ≡ k
    opened_is =
        let n = numbers_at setup lists ds x.lead x.lead.stage 1 1 0 legal.0 x.led refl (beginning x.lead.stage x.stage) in
        let a = n.0 in
        let b = n.1 in
        let c = x.cycle in
        let o : opened_in (d ∷ ds) ≡ opened_in ds = ap (λ (q : Ask). opened_after q (opened_in ds)) (asked_at setup lists d ds (by_step setup IsBeginning k d ds legal x) x.lead.stage refl) ∙ begins_none setup.layout x.lead x.lead.stage x.stage (opened_in ds) in
        omega (arith, a, b, c, o)

  begins_before : (k : ℕ) (d f : Entry Op) (ds fs : List (Entry Op)) → Lawful (f ∷ fs) → BeginsCycle setup k (d ∷ ds) → BeginsCycle setup k (f ∷ fs) → IsStartOf (d ∷ ds) fs → ⊥
  begins_before k d f ds fs legal x y start =
      let p = past_since k (d ∷ ds) fs start legal.0 (past_begun k d ds (legal_start (those setup) (d ∷ ds) fs start legal.0) x) in
      let n = numbers_at setup lists fs y.lead y.lead.stage 1 1 0 legal.0 y.led refl (beginning y.lead.stage y.stage) in
      let a = n.0 in
      let b = n.1 in
      let c = y.cycle in
      not_past y.lead.stage y.stage (p.past (omega (arith, a, b, c)) y.lead y.led)

  begins_at : (k : ℕ) (first second : List (Entry Op)) → Lawful second → BeginsCycle setup k first → BeginsCycle setup k second → IsStartOf first second → first ≡ second
  begins_at k first second legal x y start = grind (arith, begins_before)

  pub begins_once : (k : ℕ) (first second es : List (Entry Op)) → Lawful es → IsStartOf first es → IsStartOf second es → BeginsCycle setup k first → BeginsCycle setup k second → first ≡ second
  begins_once k first second es legal of_first of_second x y = go (compared first second es of_first of_second) where
    go : IsStartOf first second ⊎ IsStartOf second first → first ≡ second
    go (inl s) = begins_at k first second (legal_start (those setup) second es of_second legal) x y s
    go (inr s) = sym (begins_at k second first (legal_start (those setup) first es of_first legal) y x s)
