-- What stood where a cycle began stands until its marking ends, of every list.
use Rattle.std.proofs.Common.{◌≡◌, ◌⊎◌, inl, inr, ℕ, refl, sym, subst, ◌∙◌, List, [], ◌∷◌}
use Rattle.gh_holds.proofs.Vocabulary.{arena, Ask, began_words, BeginsCycle, Cell, Coordinating, effect, EndsAllMarked, Entry, ever, HasState, IsBeginning, IsEnding, IsInCycle, IsLed, IsPlacedAt, IsStartOf, IsToBegin, Legal, legal_start, ListsKnown, MarksToTheEnd, Name, not_beginning, Op, Reach, Setup, StandsSoFar, StandsThrough, StandsUntilItsEnd, start_of_start, Store, those, Words, words}
use Rattle.gh_coord.specs.Handshake as leading
use Rattle.gh_holds.proofs.AllActors.LeadingLast.{ends_by}
use Rattle.gh_holds.proofs.AllActors.LeadingOnce.{begins_once}
use Rattle.gh_holds.proofs.AllActors.LeadingSeat.{asked_at, by_step}
use Rattle.gh_holds.specs.Standing.{stands_for}
use Rattle.gh_holds.proofs.AllActors.Stood.{Stays}

module _ (setup : Setup) (lists : ListsKnown setup)
    (es : List (Entry Op)) (legal : Legal (those setup) es) (states : (start : List (Entry Op)) → IsStartOf start es → HasState setup start) where
  -- what a script reaches is placed
  reached_there : (begun : List (Entry Op)) → IsStartOf begun es → (n : Name) → Reach (ever setup begun) n → (a : ℕ) × IsPlacedAt (words setup begun) n a
  reached_there begun of n r =
      let s = stands_for setup lists.limits lists.known begun (states begun of) in
      (s.place n, record { set = (s.placed n r).set; says = (s.placed n r).says })

  through : (begun ended : List (Entry Op)) → IsStartOf begun es → Stays (words setup begun) (words setup ended) → StandsThrough setup begun ended
  through begun ended of stays = record { placed = stays; reached = λ n r. let p = reached_there begun of n r in (p.0, p.1, stays n p.0 p.1) }

  -- the store that ends a cycle frees nothing
  store_stays : (w : Words) (ask : Ask) → (x : ℕ) × (ask ≡ Store Cell.Gen x) → Stays w (effect w ask)
  store_stays w ask is n a p = subst (λ (q : Ask). IsPlacedAt (effect w q) n a) (sym is.1) p

  pub until : EndsAllMarked setup es → StandsUntilItsEnd setup es
  until ends k begun [] of_begun of_ended begins step = absurd step
  until ends k begun (d ∷ ds) of_begun of_ended begins step =
      let legal_d = legal_start (those setup) (d ∷ ds) es of_ended legal in
      let m = ends d ds k of_ended step in
      let one : m.begun ≡ begun = begins_once setup lists k m.begun begun es legal (start_of_start m.begun (d ∷ ds) es (inr m.start) of_ended) of_begun (subst (λ (i : ℕ). BeginsCycle setup i m.begun) step.cycle m.begins) begins in
      let by = ends_by setup.layout step.lead step.lead.stage step.stage in
      let asked : d.ask ≡ Store Cell.Gen by.0 = asked_at setup lists d ds (by_step setup IsEnding k d ds legal_d step) step.lead.stage refl ∙ by.1 in
      through begun (d ∷ ds) of_begun (λ n a p. store_stays (words setup ds) d.ask (by.0, asked) n a (m.stood n a (subst (λ (ys : List (Entry Op)). IsPlacedAt (words setup ys) n a) (sym one) p)))

  pub so_far : (c : Coordinating) → IsLed setup es c → leading.Marks c.stage → MarksToTheEnd (arena setup) setup.pacing setup.may es c → StandsSoFar setup es c
  so_far c led on mark = go mark.marking.known.cycle mark.marking.known.stood where
    go : (y : IsToBegin setup es mark.marking.cycle.number ⊎ IsInCycle setup es mark.marking.cycle.number) → Stays (began_words setup es mark.marking.cycle.number y) (words setup es) → StandsSoFar setup es c
    go (inl b) so = let same : b.lead ≡ c = (let both = sym b.led ∙ led in cc) in absurd (not_beginning c.stage on (subst (λ (d : Coordinating). IsBeginning d.stage) same b.stage))
    go (inr i) so = record {
      begun = i.begun;
      start = i.start;
      begins = subst (λ (k : ℕ). BeginsCycle setup k i.begun) mark.marking.is.number_is i.begins;
      through = through i.begun es i.start so;
    }
