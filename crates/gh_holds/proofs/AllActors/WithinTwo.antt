-- What becomes unreachable is free once the second cycle whose marking ends after that is swept: what a script has lost it never reaches again, and a cycle begins behind the end of each one before it.
use Rattle.std.proofs.Common.{◌≡◌, ◌⊎◌, inl, inr, ℕ, suc, ◌<◌, ◌≤◌, ltb, Bool, true, false, refl, sym, ap, subst, ◌∙◌, arith, List, [], ◌∷◌, Option, Some, None}
use Rattle.gh_holds.proofs.Vocabulary.{acted, acts, Answer, Arena, arena, asks, BeginsCycle, cell_of, compared, Does, EndsCycle, Entry, Ever, ever, ever_stays, FreesTheUnreached, FreesWithinTwo, Given, Good, HasState, Heap, InCycles, IsEnding, IsHeapOf, IsMade, IsStartOf, Legal, legal_start, ListsKnown, moved, Name, name_made, nat_tests, Op, Processor, Reach, setup_for, start_of_start, State, sweep_in, Sweeping, those, view, Wanted, whole}
use Rattle.gh_heap.specs.Moves as heap
use Rattle.gh_state.specs.Moves as state
use Rattle.gh_marked.proofs.OneStep.Landing as landing
use Rattle.gh_holds.proofs.AllActors.LeadingNumbers.{beginning, ends_it, numbers_at, start_rises}
use Rattle.gh_holds.proofs.AllActors.LeadingSeat.{by_step}
use Rattle.gh_marked.proofs.OneStep.OwnStep as step

-- an object of this name was made, and no script reaches it
record IsLost (n : Name) (v : Ever) : Type 0 where
  pub made : IsMade v.made n
  pub unreached : Reach v n → ⊥

-- the name that a move makes was not made before
not_new : (v : Ever) (m : heap.Move) (n : Name) → IsMade v.made n → name_made v m ≡ Some n → ⊥
not_new v m n made is = grind arith

-- a seat is below a number, or not
below : (a n : ℕ) → ltb a n ≡ true → a < n
below a n x = grind (arith, nat_tests)

not_below : (a n : ℕ) → ltb a n ≡ false → n ≤ a
not_below a n x = grind (arith, nat_tests)

module _ (given : Given) (wanted : Wanted) (lists : ListsKnown (setup_for given)) where
  abbrev z : Arena
  z = arena (setup_for given)

  abbrev Lawful : List (Entry Op) → Type 0
  Lawful es = Legal (those (setup_for given)) es

  abbrev ever_at : List (Entry Op) → Ever
  ever_at es = ever (setup_for given) es

  -- What was lost before a move is lost behind it.

  by_move : (a : ℕ) (h : Heap) (m : heap.Move) (n : Name) → Good z (view h) → heap.May z a (view h) m → IsLost n h.ever → IsLost n (moved z a h m).ever
  by_move a h m n fine allowed lost = record {
    made = (lists.known.leaves z (suc a) a h m (λ e. omega (arith, e)) fine allowed).made n lost.made;
    unreached = λ r. elim (lists.known.reaches z a h m allowed n r) [ inl before ↦ lost.unreached before | inr new ↦ not_new h.ever m n lost.made new ];
  }

  by_state : (a : ℕ) (s : State) (m : state.Move) (n : Name) → Good z (view s.heap) → state.May z a s m → IsLost n s.heap.ever → IsLost n (state.moved z a s m).heap.ever
  by_state a s (state.Deed m) n fine allowed lost = by_move a s.heap m n fine allowed.may lost
  by_state a s (state.Sweep m) n fine allowed lost = lost
  by_state a s state.Count n fine allowed lost = lost

  -- And behind an entry.
  module _ (n : Name) (e : Entry Op) (es : List (Entry Op)) (legal : Lawful (e ∷ es)) (has : HasState (setup_for given) es) (lost : IsLost n (ever_at es)) where
    abbrev h : Heap
    h = has.state.heap

    abbrev of : IsHeapOf (setup_for given) es has.state.heap
    of = has.of_list

    lost_there : IsLost n has.state.heap.ever
    lost_there = subst (IsLost n) (sym of.ever_is) lost

    by_other : given.layout.procs ≤ e.actor → IsLost n (ever_at (e ∷ es))
    by_other ge = subst (IsLost n) (sym (ever_stays (setup_for given) lists.known.points e es legal ge)) lost

    module _ (lt : e.actor < given.layout.procs) where
      abbrev now : Processor
      now = step.now given lists.good lists.limits lists.known e es legal lt has

      abbrev found : ℕ
      found = has.state.heap.words (cell_of (asks given.layout now))

      abbrev pending : Option Answer
      pending = (step.is given lists.good lists.limits lists.known e es legal lt has).pending

      found_is : e.found ≡ found
      found_is = step.found_is given lists.good lists.limits lists.known e es legal lt has

      ever_is : (t : Heap) → Does z e.actor h t now pending found → t.ever ≡ ever_at (e ∷ es)
      ever_is t does = does.ever ∙ (ap (λ (x : ℕ). acted given.shapes h.ever (acts given.layout now x)) (sym found_is) ∙ (ap (λ (x : Ever). acted given.shapes x (acts given.layout now e.found)) of.ever_is ∙ sym ((lists.known.points given.shapes given.layout).follows es e)))

      -- by its rights, where it runs no sweep
      by_deed : sweep_in now ≡ None → IsLost n (ever_at (e ∷ es))
      by_deed none =
          let land = step.land given lists.good lists.limits lists.known e es legal lt has none in
          subst (IsLost n) (ever_is (moved z e.actor h land.move) land.after.does) (by_move e.actor h land.move n has.good.heap land.may lost_there)

      by_sweep : (sw : Sweeping) → sweep_in now ≡ Some sw → IsLost n (ever_at (e ∷ es))
      by_sweep sw is =
          let land : landing.Lands given lists.good lists.limits lists.known wanted e es legal lt has = landing.by_sweep given lists.good lists.limits lists.known wanted e es legal lt has sw is in
          subst (IsLost n) (ever_is (state.moved z e.actor has.state land.move).heap land.after.does) (by_state e.actor has.state land.move n has.good.heap land.allowed lost_there)

      by_processor : IsLost n (ever_at (e ∷ es))
      by_processor = grind (arith, by_deed, by_sweep)

    lost_then : IsLost n (ever_at (e ∷ es))
    lost_then = go (ltb e.actor given.layout.procs) refl where
      go : (b : Bool) → ltb e.actor given.layout.procs ≡ b → IsLost n (ever_at (e ∷ es))
      go true x = by_processor (below e.actor given.layout.procs x)
      go false x = by_other (not_below e.actor given.layout.procs x)

  module _ (has : (es : List (Entry Op)) → Lawful es → HasState (setup_for given) es) where
    -- so what was lost at a start of a list is lost
    lost_since : (n : Name) (start es : List (Entry Op)) → IsStartOf start es → Lawful es → IsLost n (ever_at start) → IsLost n (ever_at es)
    lost_since n start [] is legal lost = subst (λ (x : List (Entry Op)). IsLost n (ever_at x)) is lost
    lost_since n start (e ∷ es) (inl is) legal lost = subst (λ (x : List (Entry Op)). IsLost n (ever_at x)) is lost
    lost_since n start (e ∷ es) (inr is) legal lost = lost_then n e es legal (has es legal.0) (lost_since n start es is legal.0 lost)

    -- Where a cycle ends none of a higher number has begun.

    abbrev Begins : ℕ → List (Entry Op) → Type 0
    Begins k es = BeginsCycle (setup_for given) k es

    abbrev Ends : ℕ → List (Entry Op) → Type 0
    Ends j es = EndsCycle (setup_for given) j es

    before_both : (d f : Entry Op) (ds fs : List (Entry Op)) → IsStartOf (d ∷ ds) (f ∷ fs) → IsStartOf ds fs
    before_both d f ds fs (inl is) = let same : ds ≡ fs = cc in subst (IsStartOf ds) same (whole ds)
    before_both d f ds fs (inr is) = start_of_start ds (d ∷ ds) fs (inr (whole ds)) is

    not_before : (j k : ℕ) (begun ended : List (Entry Op)) → Lawful ended → IsStartOf begun ended → Begins k begun → Ends j ended → j < k → ⊥
    not_before j k [] ended legal start begins ends less = absurd begins
    not_before j k (d ∷ ds) [] legal start begins ends less = absurd ends
    not_before j k (d ∷ ds) (f ∷ fs) legal start begins ends less =
        let there = before_both d f ds fs start in
        let a = numbers_at (setup_for given) lists ds begins.lead begins.lead.stage 1 1 0 (legal_start (those (setup_for given)) ds fs there legal.0) begins.led refl (beginning begins.lead.stage begins.stage) in
        let b = ends_it (setup_for given) lists f fs (by_step (setup_for given) IsEnding j f fs legal ends) ends.stage in
        let up = (start_rises (setup_for given) lists ds fs there legal.0).gen_up in
        let number = a.1 in
        let gen = a.2 in
        let gen_then = b.gen_before in
        let first = ends.cycle in
        let second = begins.cycle in
        absurd (omega (arith, up, number, gen, gen_then, first, second, less))

    -- so it begins behind that end
    begins_behind : (j k : ℕ) (begun ended es : List (Entry Op)) → Lawful es → IsStartOf begun es → IsStartOf ended es → Begins k begun → Ends j ended → j < k → IsStartOf ended begun
    begins_behind j k begun ended es legal of_begun of_ended begins ends less = go (compared ended begun es of_ended of_begun) where
      go : IsStartOf ended begun ⊎ IsStartOf begun ended → IsStartOf ended begun
      go (inl behind) = behind
      go (inr before) = absurd (not_before j k begun ended (legal_start (those (setup_for given)) ended es of_ended legal) before begins ends less)

    pub within_two : InCycles (setup_for given) → (es : List (Entry Op)) → Lawful es → FreesTheUnreached (setup_for given) es → FreesWithinTwo (setup_for given) es
    within_two in_cycles es legal frees j k lost ended [] of_lost of_ended of_swept ends sweeps less n made unreached a placed = absurd sweeps
    within_two in_cycles es legal frees j k lost ended (t ∷ ts) of_lost of_ended of_swept ends sweeps less n made unreached a placed =
        let legal_t = legal_start (those (setup_for given)) (t ∷ ts) es of_swept legal in
        let cycle = in_cycles ts sweeps.lead legal_t.0 sweeps.led sweeps.stage in
        let begins : Begins k cycle.begun = subst (λ (i : ℕ). Begins i cycle.begun) sweeps.cycle cycle.begins in
        let of_begun : IsStartOf cycle.begun es = start_of_start cycle.begun (t ∷ ts) es (inr cycle.start) of_swept in
        let behind : IsStartOf lost cycle.begun = start_of_start lost ended cycle.begun of_lost (begins_behind j k cycle.begun ended es legal of_begun of_ended begins ends less) in
        let then = lost_since n lost cycle.begun behind (legal_start (those (setup_for given)) cycle.begun es of_begun legal) (record { made = made; unreached = unreached }) in
        frees k cycle.begun (t ∷ ts) of_begun of_swept begins sweeps n then.made then.unreached a placed
