-- A stack is scanned at most once in a cycle. Only a processor writes the number of a cycle into a stack's word, that of the cycle which has begun last, where it has noted another number of the stack; and its notes are the words. From a scan on the word is this number, that of an end, or a later one: so a second scan in the cycle would find it.
use Rattle.std.proofs.Common.{◌≡◌, ◌≢◌, ◌⊎◌, inl, inr, ℕ, suc, ◌%◌, ◌<◌, ◌≤◌, Bool, true, cond, refl, sym, ap, subst, ◌∙◌, arith, List, [], ◌∷◌, slice_index, Option, Some, None, eq-eqb}
use Rattle.gh_law.proofs.Vocabulary.{acts, Arena, arena, Ask, asks, awake_at, Cell, Coordinating, deeds, effect, EndsStack, Entry, Ever, ever, HasState, Heap, IsAsItShould, IsAwake, IsLed, IsStartOf, IsWritten, Kind, knows_at, Legal, legal_start, ListsKnown, nat_tests, Op, Party, party_of, Processor, processor_at, processor_kind, run_is, ScansIn, ScansOnce, SeatFacts, Setup, stage_of, started, StaysThere, Store, takes, TellsScan, those, view, Words, words, WritesOf}
use Rattle.gh_base.specs.Orders.{before_step}
use Rattle.gh_coord.specs.Handshake as leading
use Rattle.gh_coord.specs.Listing as coord
use Rattle.gh_worker.specs.Listing as worker
use Rattle.gh_base.specs.declared.pack.TheConstants.{END}
use Rattle.gh_phase.specs.declared.view.View.{View}
use Rattle.gh_holds.specs.Below.{acted_stays}
use Rattle.gh_lists.specs.Steps as seats
use Rattle.gh_lists.specs.Awake.{knows_begun, was_awake}
use Rattle.gh_lists.specs.Aside.{aside as lead_aside}

module _ (setup : Setup) (lists : ListsKnown setup) (has : (es : List (Entry Op)) → Legal (those setup) es → HasState setup es) where
  abbrev kind : Kind Processor Op
  kind = processor_kind setup.shapes setup.layout

  abbrev z : Arena
  z = arena setup

  abbrev Lawful : List (Entry Op) → Type 0
  Lawful es = Legal (those setup) es

  abbrev told : List (Entry Op) → Words
  told es = words setup es

  abbrev Led : List (Entry Op) → Coordinating → Type 0
  Led es c = IsLed setup es c

  ended_on : (e : Entry Op) (es : List (Entry Op)) (g : ℕ) → (ever setup es).ended g ≡ true → (ever setup (e ∷ es)).ended g ≡ true
  ended_on e es g is = ap (λ (x : Ever). x.ended g) ((lists.known.points setup.shapes setup.layout).follows es e) ∙ acted_stays setup.layout setup.shapes (before_step kind (deeds setup.layout setup.shapes) es e) e.found (ever setup es) g (acts setup.layout (before_step kind (deeds setup.layout setup.shapes) es e) e.found) is

  -- a stack whose goroutine has ended says so still
  over_on : (e : Entry Op) (es : List (Entry Op)) (g : ℕ) → Lawful (e ∷ es) → told es (Cell.Scanned g) ≡ END → told (e ∷ es) (Cell.Scanned g) ≡ END
  over_on e es g legal is =
      let here = (has es legal.0).of_list in
      let then = (has (e ∷ es) legal).of_list in
      let over = (here.stacks g).0 (ap (λ (w : Words). w (Cell.Scanned g)) here.words_are ∙ is) in
      let over_then = ended_on e es g (ap (λ (x : Ever). x.ended g) (sym here.ever_is) ∙ over) in
      sym (ap (λ (w : Words). w (Cell.Scanned g)) then.words_are) ∙ (then.stacks g).1 (ap (λ (x : Ever). x.ended g) then.ever_is ∙ over_then)

  -- An entry that scans a stack.
  module _ (e : Entry Op) (es : List (Entry Op)) (legal : Lawful (e ∷ es)) (k g : ℕ) (scans : ScansIn k g e) where
    -- it is a processor's, which tells of the scan
    record IsByProcessor : Type 0 where
      m : Processor
      runs : seats.RunsIt setup e es m
      tells : TellsScan setup.layout (started kind e.begun m) g

    no_worker : (w : worker.Working) → seats.WorksIt setup e es w → ⊥
    no_worker w x = grind arith

    abbrev others : Words
    others c = suc k

    no_lead : (c : coord.Coordinating) → seats.LeadsIt setup e es c → ⊥
    no_lead c x =
        let left : effect others (Store (Cell.Scanned g) k) (Cell.Scanned g) ≡ suc k = subst (λ (q : Ask). effect others q (Cell.Scanned g) ≡ suc k) (sym x.asked ∙ scans.0) ((lead_aside others setup.layout c c.stage x.sound_it.1).scanned g) in
        let stored : effect others (Store (Cell.Scanned g) k) (Cell.Scanned g) ≡ k = ap (λ (b : Bool). cond b k (suc k)) (eq-eqb g g refl) in
        let no : k ≡ suc k = sym stored ∙ left in
        absurd (omega (arith, no))

    by_processor : IsByProcessor
    by_processor = by (seats.step setup e es lists.known.writes legal (lists.keeps es legal.0)) where
      tells : (m : Processor) → seats.RunsIt setup e es m → EndsStack setup.layout (started kind e.begun m) g ⊎ TellsScan setup.layout (started kind e.begun m) g → TellsScan setup.layout (started kind e.begun m) g
      tells m x (inl ends) = absurd (scans.1 (let same : Store (Cell.Scanned g) k ≡ Store (Cell.Scanned g) END = sym scans.0 ∙ (x.asked ∙ ends.tells) in cc))
      tells m x (inr y) = y

      by : seats.Step setup e es → IsByProcessor
      by (seats.by_processor m x s) = record { m = m; runs = x; tells = tells m x (subst (WritesOf (IsWritten setup.layout (started kind e.begun m))) (sym x.asked ∙ scans.0) (lists.known.writes.writes setup.layout (started kind e.begun m) x.sound_then)) }
      by (seats.by_worker w x s) = absurd (no_worker w x)
      by (seats.by_lead c x) = absurd (no_lead c x)

    abbrev m : Processor
    m = by_processor.m

    abbrev now : Processor
    now = started kind e.begun by_processor.m

    abbrev runs : seats.RunsIt setup e es by_processor.m
    runs = by_processor.runs

    abbrev tells : TellsScan setup.layout (started kind e.begun by_processor.m) g
    tells = by_processor.tells

    asked : asks setup.layout now ≡ Store (Cell.Scanned g) k
    asked = sym runs.asked ∙ scans.0

    number : k ≡ now.poll.local.view.begun
    number = grind (arith, asked, tells)

    -- it is awake, and knows the cycle that has begun last, and that it is marked
    awake : IsAwake (stage_of now)
    awake = awake_at 0 (party_of now) (stage_of now) (asks setup.layout now) (party_of (takes setup.layout setup.shapes now 0)) (stage_of (takes setup.layout setup.shapes now 0)) g k asked (lists.known.places.takes_so setup.layout setup.shapes now 0 runs.sound_then.place runs.busy)

    view_is : (party_of now).view ≡ now.poll.local.view
    view_is = knows_at setup.layout now g k now.task (sym asked)

    pub of_last : told es Cell.Begun ≡ k
    of_last = sym (number ∙ (ap (λ (v : View). v.begun) (sym view_is) ∙ knows_begun setup lists.known.places lists.known.writes lists.keeps e.actor m e.begun es legal.0 runs.seat runs.is runs.sound_it legal.1.begins awake))

    was : (party_of now ≡ party_of m) × IsAwake (stage_of m)
    was = was_awake setup lists.known.places lists.known.writes lists.keeps e.actor m e.begun es runs.is runs.sound_it legal.1.begins awake

    pub is_marked : (c : Coordinating) → Led es c → leading.Marks c.stage
    is_marked c led = ((lists.keeps es legal.0).processors_mark c e.actor m led (omega (arith, runs.seat)) runs.is was.1).0
        (ap (λ (p : Party). p.view.phase) (sym was.0) ∙ (ap (λ (v : View). v.phase) view_is ∙ tells.marking))

    -- The goroutine is its own, of which it has noted another number.

    abbrev h : Heap
    h = (has es legal.0).state.heap

    same : processor_at setup es e.actor ≡ m
    same = run_is setup es e.actor m runs.seat runs.is

    it_is : IsAsItShould setup es h e.actor (processor_at setup es e.actor)
    it_is = (has es legal.0).of_list.processors e.actor runs.seat

    sits : SeatFacts z e.actor m.poll
    sits = subst (λ (p : Processor). SeatFacts z e.actor p.poll) same (lists.known.runs.stands z e.actor (view h) (processor_at setup es e.actor) it_is.pending it_is.fine).sits

    there : (o : Option Op) → StaysThere m (started kind o m)
    there None = refl
    there (Some o) = lists.known.writes.begins_there setup.shapes setup.layout m o runs.sound_it

    notes_stay : (o : Option Op) → (started kind o m).poll.local.scanned ≡ m.poll.local.scanned
    notes_stay None = refl
    notes_stay (Some o) = lists.known.notes.begins setup.shapes setup.layout m o runs.sound_it

    pub by_its_own : g % setup.layout.procs ≡ e.actor
    by_its_own = grind (arith, sits, tells, there)

    is_there : g < setup.layout.goroutines
    is_there = grind arith

    note : slice_index now.poll.local.scanned g ≡ told es (Cell.Scanned g)
    note = grind (arith, by_its_own, is_there, it_is, notes_stay, same)

    other_noted : told es (Cell.Scanned g) ≢ k
    other_noted is = tells.unscanned (λ x. scans.1 (number ∙ x)) (note ∙ (is ∙ number))

    pub then_is : told (e ∷ es) (Cell.Scanned g) ≡ k
    then_is = ap (λ (q : Ask). effect (told es) q (Cell.Scanned g)) scans.0 ∙ ap (λ (b : Bool). cond b k (told es (Cell.Scanned g))) (eq-eqb g g refl)

    not_over : told es (Cell.Scanned g) ≢ END
    not_over is = scans.1 (sym then_is ∙ over_on e es g legal is)

    -- so before it the stack was scanned in a cycle before, if at all
    pub scanned_before : told es (Cell.Scanned g) < k
    scanned_before = elim (lists.numbers es legal.0 g) [
      | inl over ↦ absurd (not_over over)
      | inr below ↦ (let last = of_last in let other = other_noted in grind (arith, nat_tests, last, below, other))
    ]

  -- From a scan on no cycle before it has begun last, and the word is the number of an end, or none before that of the scan.
  record IsSince (k g : ℕ) (es : List (Entry Op)) : Type 0 where
    begun : k ≤ told es Cell.Begun
    word : (told es (Cell.Scanned g) ≡ END) ⊎ (k ≤ told es (Cell.Scanned g))

  module _ (e : Entry Op) (es : List (Entry Op)) (legal : Lawful (e ∷ es)) where
    rises : told es Cell.Begun ≤ told (e ∷ es) Cell.Begun
    rises = (lists.rises e es legal).begun

    since_on : (k g : ℕ) → IsSince k g es → IsSince k g (e ∷ es)
    since_on k g x = record {
      begun = let up = rises in let b = x.begun in omega (arith, up, b);
      word = elim (lists.stacks e es legal g) [
        | inl same ↦ elim x.word [ inl y ↦ inl (same ∙ y) | inr y ↦ inr (omega (arith, same, y)) ]
        | inr wrote ↦ elim wrote [ inl y ↦ inl y | inr y ↦ inr (let b = x.begun in omega (arith, y, b)) ]
      ];
    }

    at_scan : (k g : ℕ) → ScansIn k g e → IsSince k g (e ∷ es)
    at_scan k g scans = record {
      begun = let up = rises in let last = of_last e es legal k g scans in omega (arith, up, last);
      word = inr (let is = then_is e es legal k g scans in omega (arith, is));
    }

  since : (f : Entry Op) (earlier es : List (Entry Op)) (k g : ℕ) → ScansIn k g f → Lawful es → IsStartOf (f ∷ earlier) es → IsSince k g es
  since f earlier [] k g scans legal of = absurd (cc)
  since f earlier (e ∷ es) k g scans legal (inl of) = subst (IsSince k g) of (at_scan f earlier (subst Lawful (sym of) legal) k g scans)
  since f earlier (e ∷ es) k g scans legal (inr of) = since_on e es legal k g (since f earlier es k g scans legal.0 of)

  pub scans_once : (es : List (Entry Op)) → Lawful es → ScansOnce setup es
  scans_once es legal = record {
    of_cycle = λ e before k g of scans. of_last e before (at e before of) k g scans;
    marked = λ e before k g of scans c led. is_marked e before (at e before of) k g scans c led;
    its_own = λ e before k g of scans. sym (by_its_own e before (at e before of) k g scans);
    once = λ e f before earlier k g of earlier_of scans scanned. twice e f before earlier k g (at e before of) earlier_of scans scanned;
  } where
    at : (e : Entry Op) (before : List (Entry Op)) → IsStartOf (e ∷ before) es → Lawful (e ∷ before)
    at e before of = legal_start (those setup) (e ∷ before) es of legal

    twice : (e f : Entry Op) (before earlier : List (Entry Op)) (k g : ℕ) → Lawful (e ∷ before) → IsStartOf (f ∷ earlier) before → ScansIn k g e → ScansIn k g f → ⊥
    twice e f before earlier k g lawful of scans scanned = elim (since f earlier before k g scanned lawful.0 of).word [
      | inl over ↦ not_over e before lawful k g scans over
      | inr from ↦ (let below = scanned_before e before lawful k g scans in omega (arith, from, below))
    ]
