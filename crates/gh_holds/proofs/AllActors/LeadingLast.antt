-- Once all is over: every processor is gone, so each goroutine has ended, and the objects that stand are those that a script reaches.
use Rattle.std.proofs.Common.{◌≡◌, ◌↔◌, inl, inr, ◌⊎◌, ℕ, ◌*◌, ◌%◌, ◌^◌, ◌<◌, ◌≤◌, true, refl, sym, ap, subst, ◌∙◌, arith, List, [], ◌∷◌}
use Rattle.gh_holds.proofs.Vocabulary.{acks_of, ActorSound, acts, AllIsTold, alloc_words, Arena, arena, AreSwept, Ask, BeginsCycle, birth_words, Cell, Close, Coordinating, CoordStage, CountsAreExact, Done, effect, EndedSo, EndsAllMarked, EndsCycle, Entry, Ever, ever, ever_stays, few_there, Gone, HasState, Heap, is_last_task, IsEnding, IsLed, IsMade, IsMarkedObject, IsNewThere, IsOf, IsPlacedAt, IsStartOf, IsStepIn, IsTold, last_of, last_phase, Layout, Lead, Leads, LeavesTheReached, Legal, legal_start, ListsKnown, marks_at, mod_below, Name, Op, page_words, party_of, place_of, Placed, placed, Polling, processor_at, processor_kind, Reach, Row, row_bit, RunPhase, runs_are, same_birth_same_name, Setup, stage_at, stage_of, start_of_start, started, State, Store, Task, those, view, Words, words}
use Rattle.gh_coord.specs.Closing as close
use Rattle.gh_coord.specs.Handshake as leading
use Rattle.gh_coord.specs.Listing as coord
use Rattle.gh_marked.proofs.Vocabulary.{slot_row}
use Rattle.gh_holds.proofs.AllActors.LeadingNumbers.{ends_once}
use Rattle.gh_holds.proofs.AllActors.LeadingOnce.{begins_once}
use Rattle.gh_holds.proofs.AllActors.LeadingSeat.{asked_at, by_step, from}
use Rattle.gh_lists.specs.Made.{acted_no_fewer}

-- Who is gone has left.

has_left : (p : Polling) (q : Task) → stage_at p q ≡ Gone → is_last_task q ≡ true
has_left p q is = grind arith

-- the request that ends a cycle
pub ends_by : (l : Layout) (c : Coordinating) (p : CoordStage) → IsEnding p → (x : ℕ) × (coord.asks_at l c p ≡ Store Cell.Gen x)
ends_by l c (Close y) is = (y.generation, ap (close.asks_at y) is)
ends_by l c _ is = absurd is

module _ (setup : Setup) (lists : ListsKnown setup) where
  abbrev z : Arena
  z = arena setup

  -- no fewer objects were made behind more entries
  made_grows : (g : ℕ) (start es : List (Entry Op)) → IsStartOf start es → (ever setup start).made g ≤ (ever setup es).made g
  made_grows g start [] is = let same = ap (λ (xs : List (Entry Op)). (ever setup xs).made g) is in omega (arith, same)
  made_grows g start (e ∷ es) (inl is) = let same = ap (λ (xs : List (Entry Op)). (ever setup xs).made g) is in omega (arith, same)
  made_grows g start (e ∷ es) (inr is) =
      let before = made_grows g start es is in
      let more = acted_no_fewer setup.shapes g (ever setup es) (acts setup.layout (started (processor_kind setup.shapes setup.layout) e.begun (processor_at setup es e.actor)) e.found) in
      let follows = ap (λ (v : Ever). v.made g) ((lists.known.points setup.shapes setup.layout).follows es e) in
      omega (arith, before, more, follows)

  pub still_made : (start es : List (Entry Op)) → IsStartOf start es → (n : Name) → IsMade (ever setup start).made n → IsMade (ever setup es).made n
  still_made start es is n made = grind (arith, made_grows)

  -- the objects that are marked where a cycle ends are so behind the store that ends it
  module _ (d : Entry Op) (ds : List (Entry Op)) (legal : Legal (those setup) (d ∷ ds)) (k : ℕ) (x : IsStepIn setup IsEnding k d ds) (n : Name) where
    stores : (i : ℕ) × (d.ask ≡ Store Cell.Gen i)
    stores = let s = ends_by setup.layout x.lead x.lead.stage x.stage in (s.0, asked_at setup lists d ds (by_step setup IsEnding k d ds legal x) x.lead.stage refl ∙ s.1)

    abbrev Is : Words → Type 0
    Is w = IsMarkedObject setup w n

    marked_then : Is (words setup (d ∷ ds)) → Is (words setup ds)
    marked_then i = subst (λ (q : Ask). Is (effect (words setup ds) q)) stores.1 i

    marked_now : Is (words setup ds) → Is (words setup (d ∷ ds))
    marked_now i = subst (λ (q : Ask). Is (effect (words setup ds) q)) (sym stores.1) i

    ever_then : ever setup (d ∷ ds) ≡ ever setup ds
    ever_then = ever_stays setup lists.known.points d ds legal (from setup lists d ds (by_step setup IsEnding k d ds legal x))

  -- What stands once a cycle is swept was marked where it ended, if it had been made by then; so, if it had been made where the cycle began, a script reached it there.
  module _ (es : List (Entry Op)) (legal : Legal (those setup) es) (c : Coordinating) (j : IsTold setup es c) (ends : EndsAllMarked setup es) where
    abbrev here : State
    here = j.quiet.has.state

    abbrev so : EndedSo setup es c.begun here
    so = j.behind.ended

    pub swept : AreSwept here
    swept = lists.known.walkers.all z here j.quiet.has.good j.quiet.passed

    pub all_told : AllIsTold here
    all_told = lists.known.swept z here j.quiet.has.good j.quiet.over swept

    module _ (n : Name) (made : IsMade (ever setup so.ended).made n) (a : ℕ) (at : IsPlacedAt (words setup es) n a) where
      -- no other name stands there
      one_name : (m : Name) → m.k < 2 ^ 32 → IsPlacedAt (words setup es) m a → m ≡ n
      one_name m few there =
          let made_here : IsMade here.heap.ever.made n = subst (λ (v : Ever). IsMade v.made n) (sym j.quiet.has.of_list.ever_is) (so.made n made) in
          same_birth_same_name m n few (few_there z (view here.heap) j.quiet.has.good.heap n made_here) (sym there.says ∙ at.says)

      set_at : row_bit (marks_at here.end) a ≡ 1
      set_at = go (so.since a (all_told.objects a (subst (λ (w : Words). row_bit (alloc_words w) a ≡ 1) (sym j.quiet.has.of_list.words_are) at.set)) at.set) where
        go : (row_bit (marks_at here.end) a ≡ 1) ⊎ IsNewThere setup so.ended es a → row_bit (marks_at here.end) a ≡ 1
        go (inl x) = x
        go (inr x) = absurd (x.not_yet (subst (λ (m : Name). IsMade (ever setup so.ended).made m) (sym (one_name x.name x.few x.placed)) made))

      marked_there : IsMarkedObject setup (words setup so.ended) n
      marked_there = (a, so.stood n a made at, ap (λ (r : Row). row_bit r a) (sym so.marks) ∙ set_at)

    -- the list where it began, by that where it ended
    began_in : (ended : List (Entry Op)) → IsStartOf ended es → EndsCycle setup c.begun ended → (begun : List (Entry Op)) → IsStartOf begun es → BeginsCycle setup c.begun begun → IsStartOf begun ended
    began_in [] start step begun of_begun begins = absurd step
    began_in (d ∷ ds) start step begun of_begun begins =
        let m = ends d ds c.begun start step in
        let one : m.begun ≡ begun = begins_once setup lists c.begun m.begun begun es legal (start_of_start m.begun (d ∷ ds) es (inr m.start) start) of_begun (subst (λ (i : ℕ). BeginsCycle setup i m.begun) step.cycle m.begins) begins in
        subst (λ (ys : List (Entry Op)). IsStartOf ys (d ∷ ds)) one (inr m.start)

    by_end : (ended : List (Entry Op)) → IsStartOf ended es → EndsCycle setup c.begun ended → (begun : List (Entry Op)) → IsStartOf begun es → BeginsCycle setup c.begun begun → (n : Name) → IsMade (ever setup begun).made n → IsMarkedObject setup (words setup ended) n → Reach (ever setup begun) n
    by_end [] start step begun of_begun begins n made set = absurd step
    by_end (d ∷ ds) start step begun of_begun begins n made set =
        let legal_d = legal_start (those setup) (d ∷ ds) es start legal in
        let m = ends d ds c.begun start step in
        let one : m.begun ≡ begun = begins_once setup lists c.begun m.begun begun es legal (start_of_start m.begun (d ∷ ds) es (inr m.start) start) of_begun (subst (λ (i : ℕ). BeginsCycle setup i m.begun) step.cycle m.begins) begins in
        let there : IsMade (ever setup m.begun).made n = subst (λ (ys : List (Entry Op)). IsMade (ever setup ys).made n) (sym one) made in
        subst (λ (ys : List (Entry Op)). Reach (ever setup ys) n) one (m.marked n there (marked_then d ds legal_d c.begun step n set))

    pub marked_were : (begun : List (Entry Op)) → IsStartOf begun es → BeginsCycle setup c.begun begun → (n : Name) → IsMade (ever setup begun).made n → (a : ℕ) → IsPlacedAt (words setup es) n a → Reach (ever setup begun) n
    marked_were begun of_begun begins n made a at = by_end so.ended so.start so.ends begun of_begun begins n made (marked_there n (still_made begun so.ended (began_in so.ended so.start so.ends begun of_begun begins) n made) a at)

  -- Where the coordinator is done.
  module _ (es : List (Entry Op)) (legal : Legal (those setup) es) (c : Coordinating) (led : IsLed setup es c) (done : c.stage ≡ Done) (j : IsTold setup es c) (ends : EndsAllMarked setup es) where
    abbrev has : HasState setup es
    has = j.quiet.has

    abbrev h : Heap
    h = j.quiet.has.state.heap

    finished : last_phase es ≡ RunPhase.Finished
    finished =
        let shakes = (lists.keeps es legal).shakes in
        let led_is : Leads shakes.lead ≡ Leads (leading.lead_of c) = sym shakes.leads ∙ ap place_of led in
        let lead_is : shakes.lead ≡ leading.lead_of c = cc in
        shakes.led.last_is ∙ (ap (λ (x : Lead). last_of x.post) lead_is ∙ ap (λ (p : CoordStage). last_of (leading.post_at p)) done)

    module _ (a : ℕ) (lt : a < setup.layout.procs) where
      gone : stage_of (processor_at setup es a) ≡ Gone
      gone =
          let keeps = lists.keeps es legal in
          let there = ap place_of (runs_are setup es a lt) in
          (keeps.shakes.gone a (party_of (processor_at setup es a)) (stage_of (processor_at setup es a)) (omega (arith, lt)) there).0 (keeps.processors_left a lt finished)

      left_there : is_last_task (processor_at setup es a).task ≡ true
      left_there = grind (arith, gone, has_left)

      pub all_ended : (g : ℕ) → IsOf z a g → (ever setup es).ended g ≡ true
      all_ended g its = subst (λ (v : Ever). v.ended g ≡ true) has.of_list.ever_is ((has.of_list.processors a lt).left left_there g its)

    over : (g : ℕ) → g < setup.layout.goroutines → (ever setup es).ended g ≡ true
    over g lt = all_ended (g % setup.layout.procs) (mod_below g setup.layout.procs (let some = lists.limits.procs_fit.0 in omega (arith, some))) g (lt, refl)

    -- it was the last
    was_last : c.is_last ≡ true
    was_last =
        let sound = subst (ActorSound setup.layout) led ((lists.keeps es legal).shakes.all_sound (acks_of setup.layout) (omega arith)) in
        subst (leading.SoundAt c) done sound.1

    -- the last cycle has changed no value
    same_ever : ever setup es ≡ ever setup j.behind.cycle.begun
    same_ever = grind arith

    -- nothing has changed since its marking ended
    unchanged : (ended : List (Entry Op)) → IsStartOf ended es → EndsCycle setup c.begun ended → ever setup es ≡ ever setup ended
    unchanged ended start x =
        let one : ended ≡ j.behind.ended.ended = ends_once setup lists c.begun ended j.behind.ended.ended es legal start j.behind.ended.start x j.behind.ended.ends in
        (j.behind.ended.last c led was_last).0 ∙ sym (ap (ever setup) one)

    module _ (n : Name) (made : IsMade (ever setup es).made n) where
      made_then : IsMade (ever setup j.behind.cycle.begun).made n
      made_then = subst (λ (v : Ever). IsMade v.made n) same_ever made

      stands : ((a : ℕ) × IsPlacedAt (words setup es) n a) → Reach (ever setup es) n
      stands (a, at) = subst (λ (v : Ever). Reach v n) (sym same_ever) (marked_were es legal c j ends j.behind.cycle.begun j.behind.cycle.start j.behind.cycle.begins n made_then a at)

      is_left : Reach (ever setup es) n → ((a : ℕ) × IsPlacedAt (words setup es) n a)
      is_left r =
          let p = has.good.heap.reached n (subst (λ (v : Ever). Reach v n) (sym has.of_list.ever_is) r) in
          (h.place n, subst (λ (w : Words). Placed (alloc_words w) (birth_words w) (λ m. h.place n) n) has.of_list.words_are (record { set = p.set; says = p.says }))

      -- the last cycle's
      marked_at : (ended : List (Entry Op)) → IsStartOf ended es → EndsCycle setup c.begun ended → ever setup es ≡ ever setup ended → IsMarkedObject setup (words setup ended) n ↔ Reach (ever setup es) n
      marked_at [] start x same = absurd x
      marked_at (d ∷ ds) start x same =
          let legal_d = legal_start (those setup) (d ∷ ds) es start legal in
          let same_d = same ∙ ever_then d ds legal_d c.begun x n in (
            (λ i. subst (λ (v : Ever). Reach v n) (sym same_ever) (by_end es legal c j ends (d ∷ ds) start x j.behind.cycle.begun j.behind.cycle.start j.behind.cycle.begins n made_then i)),
            (λ r. marked_now d ds legal_d c.begun x n ((ends d ds c.begun start x).reached n (subst (λ (v : Ever). Reach v n) same_d r))),
          )

      marked : (ended : List (Entry Op)) → IsStartOf ended es → EndsCycle setup c.begun ended → IsMarkedObject setup (words setup ended) n ↔ Reach (ever setup es) n
      marked ended start x = grind (arith, marked_at, unchanged)

    -- the bytes that were counted are those of the slots that are taken
    live_is : c.live ≡ placed (alloc_words (words setup es)) (slot_row (page_words (words setup es))) (16 * setup.layout.pages)
    live_is =
        let exact : CountsAreExact has.state.end h.words = lists.known.told z has.state has.good j.quiet.over (swept es legal c j ends) (j.behind.ended.last c led was_last).1 in
        let pages : has.state.end.layout.pages ≡ setup.layout.pages = ap (λ (y : Layout). y.pages) has.good.layout in
        let told : h.words Cell.Live ≡ placed (alloc_words h.words) (slot_row (page_words h.words)) (16 * setup.layout.pages) = subst (λ (i : ℕ). h.words Cell.Live ≡ placed (alloc_words h.words) (slot_row (page_words h.words)) (16 * i)) pages exact.live in
        j.live ∙ (sym (all_told es legal c j ends).live ∙ (told ∙ ap (λ (w : Words). placed (alloc_words w) (slot_row (page_words w)) (16 * setup.layout.pages)) has.of_list.words_are))

    pub left_now : LeavesTheReached setup es c
    left_now = record {
      over = over;
      left = λ n made. (stands n made, is_left n made);
      unchanged = λ ended start x. unchanged ended start x;
      marked = λ ended start x n made. marked n made ended start x;
      live = live_is;
    }
