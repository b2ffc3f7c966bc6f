-- A cycle begins once, ends once and is swept once: by the numbers of cycles, which only rise.
use Rattle.std.proofs.Common.{◌≡◌, ◌⊎◌, inl, inr, ℕ, ◌+◌, ◌≤◌, refl, sym, ap, subst, ◌∙◌, arith, List, [], ◌∷◌}
use Rattle.gh_holds.proofs.Vocabulary.{ahead_at, Cell, compared, Coordinating, CoordStage, EndsCycle, Entry, generation_after, IsBeginning, IsEnding, IsLed, IsStartOf, IsTelling, Layout, Legal, legal_start, ListsKnown, Op, opened_in, part_of, rises, Setup, SweepsCycle, those, words}
use Rattle.gh_coord.specs.Listing as coord
use Rattle.gh_holds.proofs.AllActors.LeadingSeat.{by_step, ByLead, goes_at as goes_by, led_then}

-- The words of the generation and of the last swept cycle, by the coordinator's step: but for the two stores, they are as they were.

-- Where a cycle ends, is told and begins, and where those steps lead.

abbrev opened_of : CoordStage → ℕ
opened_of p = (ahead_at (part_of p)).opened

abbrev numbered_of : CoordStage → ℕ
numbered_of p = (ahead_at (part_of p)).numbered

abbrev ended_of : CoordStage → ℕ
ended_of p = (ahead_at (part_of p)).ended

pub record Numbered (p : CoordStage) (opened numbered ended : ℕ) : Type 0 where
  pub opened_is : opened_of p ≡ opened
  pub numbered_is : numbered_of p ≡ numbered
  pub ended_is : ended_of p ≡ ended

pub beginning : (p : CoordStage) → IsBeginning p → Numbered p 1 1 0
beginning p is = grind arith

pub record Leads (l : Layout) (u : Coordinating) (p : CoordStage) (found opened numbered ended opened_then numbered_then ended_then : ℕ) : Type 0 where
  pub now : Numbered p opened numbered ended
  pub after : Numbered (coord.goes_at l u p found).stage opened_then numbered_then ended_then
  pub begun : (coord.goes_at l u p found).begun ≡ u.begun

ending : (l : Layout) (u : Coordinating) (p : CoordStage) (found : ℕ) → IsEnding p → Leads l u p found 1 1 0 1 1 1
ending l u p found is = grind arith

telling : (l : Layout) (u : Coordinating) (p : CoordStage) (found : ℕ) → IsTelling p → Leads l u p found 1 1 1 0 0 0
telling l u p found is = grind arith

module _ (setup : Setup) (lists : ListsKnown setup) where
  abbrev Lawful : List (Entry Op) → Type 0
  Lawful es = Legal (those setup) es

  abbrev Led : List (Entry Op) → Coordinating → Type 0
  Led es c = IsLed setup es c

  abbrev swept : List (Entry Op) → ℕ
  swept es = words setup es Cell.Swept

  abbrev gen : List (Entry Op) → ℕ
  gen es = words setup es Cell.Gen

  -- the numbers at a list whose coordinator is at such a stage
  pub numbers_at : (es : List (Entry Op)) (c : Coordinating) (p : CoordStage) (opened numbered ended : ℕ) → Lawful es → Led es c → c.stage ≡ p → Numbered p opened numbered ended → (opened_in es ≡ swept es + opened) × (c.begun ≡ swept es + numbered) × (gen es ≡ generation_after (swept es + ended))
  numbers_at es c p opened numbered ended legal led is n =
      let k = lists.counts es c legal led in
      let o : opened_of c.stage ≡ opened = ap opened_of is ∙ n.opened_is in
      let m : numbered_of c.stage ≡ numbered = ap numbered_of is ∙ n.numbered_is in
      let x : ended_of c.stage ≡ ended = ap ended_of is ∙ n.ended_is in
      (k.opened ∙ ap (λ (i : ℕ). swept es + i) o, k.number ∙ ap (λ (i : ℕ). swept es + i) m, k.gen ∙ ap (λ (i : ℕ). generation_after (swept es + i)) x)

  -- the numbers that rise
  pub record Rises (es then : List (Entry Op)) : Type 0 where
    pub swept_up : swept es ≤ swept then
    pub gen_up : gen es ≤ gen then

  -- A step of the coordinator at such a stage.
  module _ (e : Entry Op) (es : List (Entry Op)) (by : ByLead setup e es) where
    abbrev u : Coordinating
    u = coord.counted by.lead

    led_at : (p : CoordStage) → by.lead.stage ≡ p → Led (e ∷ es) (coord.goes_at setup.layout u p e.found)
    led_at p is = subst (Led (e ∷ es)) (goes_by setup lists e es by p is) (led_then setup lists e es by)

    more : opened_in es ≤ opened_in (e ∷ es)
    more = rises e.ask (opened_in es)

    -- where it ends a cycle
    pub record Ended : Type 0 where
      pub gen_before : gen es + 2 ≡ generation_after by.lead.begun
      pub gen_then : gen (e ∷ es) ≡ generation_after by.lead.begun
      pub up : Rises es (e ∷ es)

    pub ends_it : IsEnding by.lead.stage → Ended
    ends_it is =
        let x = ending setup.layout u by.lead.stage e.found is in
        let a = numbers_at es by.lead by.lead.stage 1 1 0 by.legal.0 by.led refl x.now in
        let b = numbers_at (e ∷ es) (coord.goes_at setup.layout u by.lead.stage e.found) (coord.goes_at setup.layout u by.lead.stage e.found).stage 1 1 1 by.legal (led_at by.lead.stage refl) refl x.after in
        let same = x.begun in
        let m = more in
        let a0 = a.0 in
        let a1 = a.1 in
        let a2 = a.2 in
        let b0 = b.0 in
        let b1 = b.1 in
        let b2 = b.2 in
        record {
          gen_before = omega (arith, a1, a2);
          gen_then = omega (arith, b1, b2, same);
          up = record { swept_up = omega (arith, a0, b0, m); gen_up = omega (arith, a0, b0, m, a2, b2) };
        }

    -- where it tells that one is swept
    pub record Told : Type 0 where
      pub swept_then : by.lead.begun ≤ swept (e ∷ es)
      pub up : Rises es (e ∷ es)

    pub tells_it : IsTelling by.lead.stage → Told
    tells_it is =
        let x = telling setup.layout u by.lead.stage e.found is in
        let a = numbers_at es by.lead by.lead.stage 1 1 1 by.legal.0 by.led refl x.now in
        let b = numbers_at (e ∷ es) (coord.goes_at setup.layout u by.lead.stage e.found) (coord.goes_at setup.layout u by.lead.stage e.found).stage 0 0 0 by.legal (led_at by.lead.stage refl) refl x.after in
        let m = more in
        let a0 = a.0 in
        let a1 = a.1 in
        let a2 = a.2 in
        let b0 = b.0 in
        let b2 = b.2 in
        record {
          swept_then = omega (arith, a0, a1, b0, m);
          up = record { swept_up = omega (arith, a0, b0, m); gen_up = omega (arith, a0, b0, m, a2, b2) };
        }

  one_rises : (e : Entry Op) (es : List (Entry Op)) → Lawful (e ∷ es) → Rises es (e ∷ es)
  one_rises e es legal = grind arith

  same_rises : (es : List (Entry Op)) → Rises es es
  same_rises es = record { swept_up = omega arith; gen_up = omega arith }

  pub start_rises : (start es : List (Entry Op)) → IsStartOf start es → Lawful es → Rises start es
  start_rises start [] is legal = subst (λ (x : List (Entry Op)). Rises x []) (sym is) (same_rises [])
  start_rises start (e ∷ es) (inl is) legal = subst (λ (x : List (Entry Op)). Rises x (e ∷ es)) (sym is) (same_rises (e ∷ es))
  start_rises start (e ∷ es) (inr is) legal =
      let x = start_rises start es is legal.0 in
      let y = one_rises e es legal in
      let a = x.swept_up in
      let b = y.swept_up in
      let c = x.gen_up in
      let d = y.gen_up in
      record { swept_up = omega (arith, a, b); gen_up = omega (arith, c, d) }

  -- where a cycle is about to begin, none of its number is swept yet
  pub fresh : (k : ℕ) (es swept_by : List (Entry Op)) (c : Coordinating) → Lawful es → Led es c → IsBeginning c.stage → c.begun ≡ k → IsStartOf swept_by es → SweepsCycle setup k swept_by → ⊥
  fresh k es [] c legal led at is start sweeps = sweeps
  fresh k es (d ∷ ds) c legal led at is start sweeps =
      let told = tells_it d ds (by_step setup IsTelling k d ds (legal_start (those setup) (d ∷ ds) es start legal) sweeps) sweeps.stage in
      let up = (start_rises (d ∷ ds) es start legal).swept_up in
      let n = (numbers_at es c c.stage 1 1 0 legal led refl (beginning c.stage at)).1 in
      let t = told.swept_then in
      let i = sweeps.cycle in
      absurd (omega (arith, up, n, t, i, is))

  -- a cycle ends once
  ends_before : (k : ℕ) (d f : Entry Op) (ds fs : List (Entry Op)) → Lawful (f ∷ fs) → EndsCycle setup k (d ∷ ds) → EndsCycle setup k (f ∷ fs) → IsStartOf (d ∷ ds) fs → ⊥
  ends_before k d f ds fs legal x y start =
      let a = ends_it d ds (by_step setup IsEnding k d ds (legal_start (those setup) (d ∷ ds) fs start legal.0) x) x.stage in
      let b = ends_it f fs (by_step setup IsEnding k f fs legal y) y.stage in
      let up = (start_rises (d ∷ ds) fs start legal.0).gen_up in
      let a2 = a.gen_then in
      let b2 = b.gen_before in
      let i = x.cycle in
      let j = y.cycle in
      absurd (omega (arith, up, a2, b2, i, j))

  ends_at : (k : ℕ) (first second : List (Entry Op)) → Lawful second → EndsCycle setup k first → EndsCycle setup k second → IsStartOf first second → first ≡ second
  ends_at k first second legal x y start = grind (arith, ends_before)

  pub ends_once : (k : ℕ) (first second es : List (Entry Op)) → Lawful es → IsStartOf first es → IsStartOf second es → EndsCycle setup k first → EndsCycle setup k second → first ≡ second
  ends_once k first second es legal of_first of_second x y = go (compared first second es of_first of_second) where
    go : IsStartOf first second ⊎ IsStartOf second first → first ≡ second
    go (inl s) = ends_at k first second (legal_start (those setup) second es of_second legal) x y s
    go (inr s) = sym (ends_at k second first (legal_start (those setup) first es of_first legal) y x s)
