-- Where more cycles are swept than had begun behind a start of the list, one of them began behind it: by the numbers that the coordinator stores, which go up by one, and by what holds where it tells that a cycle is swept.
use Rattle.std.proofs.Common.{◌≡◌, inl, inr, ℕ, suc, ◌+◌, ◌<◌, ◌≤◌, refl, sym, ap, subst, arith, List, [], ◌∷◌}
use Rattle.gh_law.proofs.Vocabulary.{ahead_at, Ask, begins, BeginsCycle, cases_lt, Cell, Change, compared, CoordStage, effect, ends, Entry, InCycles, IsBeginning, IsStartOf, IsStepIn, Legal, legal_start, ListsKnown, Op, Rises, same, Setup, start_of_start, SweptSince, tells, those, whole, Words, words}
use Rattle.gh_lists.specs.Lists.{IsTelling}
use Rattle.gh_coord.specs.Parts.{part_of}

-- where a cycle begins its number stands, and no other has one
begins_one : (p : CoordStage) → IsBeginning p → ((ahead_at (part_of p)).begun ≡ 1) × ((ahead_at (part_of p)).numbered ≡ 1)
begins_one p is = grind arith

module _ (setup : Setup) (lists : ListsKnown setup) where
  abbrev Lawful : List (Entry Op) → Type 0
  Lawful es = Legal (those setup) es

  abbrev told : List (Entry Op) → Words
  told es = words setup es

  module _ (e : Entry Op) (es : List (Entry Op)) (legal : Lawful (e ∷ es)) where
    abbrev Changes : Type 0
    Changes = Change setup e es

    changes : Changes
    changes = lists.changes e es legal

    pub rises : Rises setup e es
    rises = lists.rises e es legal

  -- what a start of the list has begun, the list has
  begun_by : (start es : List (Entry Op)) → IsStartOf start es → Lawful es → told start Cell.Begun ≤ told es Cell.Begun
  begun_by start [] is legal = subst (λ (x : List (Entry Op)). told x Cell.Begun ≤ told [] Cell.Begun) (sym is) (omega arith)
  begun_by start (e ∷ es) (inl is) legal = subst (λ (x : List (Entry Op)). told x Cell.Begun ≤ told (e ∷ es) Cell.Begun) (sym is) (omega arith)
  begun_by start (e ∷ es) (inr is) legal = let before = begun_by start es is legal.0 in let up = (rises e es legal).begun in omega (arith, before, up)

  -- with an entry of the list the coordinator tells that cycle k is swept
  record IsTold (k : ℕ) (es : List (Entry Op)) : Type 0 where
    entry : Entry Op
    before : List (Entry Op)
    of : IsStartOf (entry ∷ before) es
    step : IsStepIn setup IsTelling k entry before

  is_told : (k : ℕ) (es : List (Entry Op)) → Lawful es → 0 < k → k ≤ told es Cell.Swept → IsTold k es
  is_told k [] legal some le = absurd (omega (arith, some, le))
  is_told k (e ∷ es) legal some le = by (changes e es legal) (λ x. is_told k es legal.0 some x) where
    older : IsTold k es → IsTold k (e ∷ es)
    older t = record { entry = t.entry; before = t.before; of = inr t.of; step = t.step }

    by : Changes e es legal → (k ≤ told es Cell.Swept → IsTold k es) → IsTold k (e ∷ es)
    by (same x) before = older (before (let is = x.swept (told es) in omega (arith, is, le)))
    by (begins is) before = older (before (let is = ap (λ (q : Ask). effect (told es) q Cell.Swept) is in omega (arith, is, le)))
    by (ends x) before = older (before (let is = ap (λ (q : Ask). effect (told es) q Cell.Swept) x.ask_is in omega (arith, is, le)))
    by (tells x) before = elim (cases_lt (told es Cell.Swept) k) [
      | inl now ↦
          let more = ap (λ (q : Ask). effect (told es) q Cell.Swept) x.ask_is in
          let number = x.number in
          record { entry = e; before = es; of = inl refl; step = record { lead = x.lead; led = x.led; by = x.actor_is; stage = x.telling_it; cycle = omega (arith, now, more, number, le) } }
      | inr was ↦ older (before was)
    ]

  module _ (in_cycles : InCycles setup) (first : Entry Op) (earlier es : List (Entry Op)) (legal : Lawful es) (start : IsStartOf (first ∷ earlier) es) (seat : first.actor < setup.layout.procs) (more : told earlier Cell.Begun < told es Cell.Swept) where
    -- of the cycles that are swept it is the first that had not begun
    abbrev k : ℕ
    k = suc (told earlier Cell.Begun)

    abbrev Since : Type 0
    Since = SweptSince setup (first ∷ earlier) es

    not_first : (d : Entry Op) (ds : List (Entry Op)) → IsStepIn setup IsBeginning k d ds → d.actor ≡ first.actor → ⊥
    not_first d ds b is = grind arith

    -- none that has its number behind fewer entries
    not_earlier : (d : Entry Op) (ds : List (Entry Op)) → IsStepIn setup IsBeginning k d ds → IsStartOf (d ∷ ds) earlier → ⊥
    not_earlier d ds b is =
        let of : IsStartOf (first ∷ earlier) es = start in
        let lawful : Lawful earlier = (legal_start (those setup) (first ∷ earlier) es of legal).0 in
        let there : IsStartOf ds earlier = start_of_start ds (d ∷ ds) earlier (inr (whole ds)) is in
        let counts = lists.counts ds b.lead (legal_start (those setup) ds earlier there lawful) b.led in
        let one = begins_one b.lead.stage b.stage in
        let begun : told ds Cell.Begun ≡ told ds Cell.Swept + (ahead_at (part_of b.lead.stage)).begun = counts.begun in
        let number : b.lead.begun ≡ told ds Cell.Swept + (ahead_at (part_of b.lead.stage)).numbered = counts.number in
        let cycle = b.cycle in
        let one_begun = one.0 in
        let one_numbered = one.1 in
        let up = begun_by ds earlier there lawful in
        omega (arith, begun, number, cycle, one_begun, one_numbered, up)

    module _ (t : IsTold k es) where
      since_begun : (begun : List (Entry Op)) → IsStartOf begun t.before → BeginsCycle setup k begun → Since
      since_begun [] of b = absurd b
      since_begun (d ∷ ds) of b = elim (compared (first ∷ earlier) (d ∷ ds) es start (start_of_start (d ∷ ds) (t.entry ∷ t.before) es (inr of) t.of)) [
        | inl x ↦ elim x [
          | inl is ↦ absurd (not_first d ds b (let both : d ∷ ds ≡ first ∷ earlier = sym is in let one : d ≡ first = cc in ap (λ (y : Entry Op). y.actor) one))
          | inr behind ↦ record { k = k; entry = d; before = ds; behind = behind; begins = b; swept = t.entry ∷ t.before; later = inr of; sweeps = t.step; within = t.of }
        ]
        | inr x ↦ elim x [
          | inl is ↦ absurd (not_first d ds b (let both : d ∷ ds ≡ first ∷ earlier = is in let one : d ≡ first = cc in ap (λ (y : Entry Op). y.actor) one))
          | inr is ↦ absurd (not_earlier d ds b is)
        ]
      ]

      is_since : Since
      is_since =
          let lawful = legal_start (those setup) (t.entry ∷ t.before) es t.of legal in
          let x = in_cycles t.before t.step.lead lawful.0 t.step.led t.step.stage in
          since_begun x.begun x.start (subst (λ (i : ℕ). BeginsCycle setup i x.begun) t.step.cycle x.begins)

    pub swept_since : Since
    swept_since = grind (arith, is_since, is_told)
