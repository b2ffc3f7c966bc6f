-- In every list each cycle was asked for, but the last: where the word of the request is set, a processor has asked for a cycle since the last was opened; and where a cycle begins it was opened, and no other since.
use Rattle.std.proofs.Common.{◌≡◌, ℕ, zero, suc, ◌≤◌, ◌⊎◌, inl, inr, Bool, true, false, cond, refl, sym, ap, subst, ◌∙◌, arith, List, [], ◌∷◌, length, bit_or}
use Rattle.gh_law.proofs.Vocabulary.{Actor, AllWereAsked, AllWereOpened, Ask, asked_after, asks, asks_for_one, AsksForCycle, before_step, BeginsCycle, BeginsToWait, Cell, Coordinating, CoordStage, CountsWants, effect, Entry, IsBeginning, IsClearing, IsStartOf, IsToOpen, IsWanting, IsWritten, KeepsIt, Layout, leaves_numbers, Legal, legal_start, NoneOpensSince, Op, opens_one, OpensCycle, Or, Processor, processor_kind, ProcessorWritesItsOwn, runs_are, SawTriggerReached, Setup, started, state_of, Store, those, WasAsked, WasOpened, Words, WorkersWriteTheirOwn, Working, WritesOf}
use Rattle.gh_coord.specs.Listing as coord
use Rattle.gh_worker.specs.Listing as worker
use Rattle.gh_law.proofs.AllActors.Triggered.{asked as trigger_asked, saw}
use Rattle.gh_lists.specs.Frames.{leaves, LeavesCycleWords}
use Rattle.gh_lists.specs.Quiet.{worker_quiet}
use Rattle.gh_law.proofs.AllActors.Opened.{clears, IsOpened, none_opened, opened}
use Rattle.gh_lists.specs.Steps as seats

-- a start of a list is no longer than it
no_longer : (start es : List (Entry Op)) → IsStartOf start es → length start ≤ length es
no_longer start [] is = subst (λ (x : List (Entry Op)). length x ≤ 0) (sym is) (omega arith)
no_longer start (e ∷ es) (inl is) = subst (λ (x : List (Entry Op)). length x ≤ length (e ∷ es)) (sym is) (omega arith)
no_longer start (e ∷ es) (inr is) = let le = no_longer start es is in omega (arith, le)

-- behind a whole list there is no entry of it
none_behind : (es : List (Entry Op)) → NoneOpensSince es es
none_behind es e before of behind = absurd (let one = no_longer (e ∷ before) es of in let other = no_longer es before behind in omega (arith, one, other))

-- it opens no cycle, and leaves the word of the request
record LeavesRequest (w : Words) (ask : Ask) : Type 0 where
  opens_none : opens_one ask ≡ false
  same : effect w ask Cell.Want ≡ w Cell.Want

-- the step that asks for a cycle
asks_by : (l : Layout) (m : Processor) (q : Ask) → asks l m ≡ q → WritesOf (IsWritten l m) q → asks_for_one q ≡ true → IsWanting m.task × (asks l m ≡ Or Cell.Want 1)
asks_by l m q is w one = grind arith

asks_one : (ask : Ask) → ((before : ℕ) → asked_after ask before ≡ suc before) → asks_for_one ask ≡ true
asks_one ask one = go (asks_for_one ask) (one 0) where
  go : (b : Bool) → cond b (suc zero) zero ≡ suc zero → b ≡ true
  go true e = refl
  go false e = absurd cc

-- where it clears the request it was about to open a cycle
to_open : (p : CoordStage) → IsClearing p → IsToOpen p
to_open p is = grind arith

-- where it is about to begin a cycle, that is open
is_open : (p : CoordStage) → IsBeginning p → IsOpened p
is_open p is = grind arith

clears_one : (l : Layout) (c : Coordinating) (p : CoordStage) → IsClearing p → opens_one (coord.asks_at l c p) ≡ true
clears_one l c p is = grind arith

module _ (setup : Setup)
    (writes : ProcessorWritesItsOwn) (works : WorkersWriteTheirOwn)
    (keeps : (es : List (Entry Op)) → Legal (those setup) es → KeepsIt (those setup) es)
    (wants : (es : List (Entry Op)) (c : Coordinating) → Legal (those setup) es → seats.at setup es (seats.n setup) ≡ Actor.Leads c → CountsWants (those setup) es c) where
  abbrev Lawful : List (Entry Op) → Type 0
  Lawful es = Legal (those setup) es

  abbrev Led : List (Entry Op) → Coordinating → Type 0
  Led es c = seats.at setup es (seats.n setup) ≡ Actor.Leads c

  abbrev told : List (Entry Op) → Words
  told es = seats.words setup es

  abbrev Asked : List (Entry Op) → Type 0
  Asked es = told es Cell.Want ≡ 1 → WasAsked setup es

  abbrev Opened : List (Entry Op) → Coordinating → Type 0
  Opened es c = IsOpened c.stage → WasOpened setup c.begun es

  module _ (e : Entry Op) (es : List (Entry Op)) where
    asked_more : opens_one e.ask ≡ false → WasAsked setup es → WasAsked setup (e ∷ es)
    asked_more none x = grind arith

    opened_more : (k : ℕ) → opens_one e.ask ≡ false → WasOpened setup k es → WasOpened setup k (e ∷ es)
    opened_more k none x = grind arith

    module _ (legal : Lawful (e ∷ es)) where
      step : seats.Step setup e es
      step = seats.step setup e es writes legal (keeps es legal.0)

      leaves_by : (m : Processor) → seats.RunsIt setup e es m → LeavesCycleWords (told es) e.ask
      leaves_by m x = subst (λ (q : Ask). LeavesCycleWords (told es) q) (sym x.asked) (leaves (told es) _ (leaves_numbers writes setup.layout (started (processor_kind setup.shapes setup.layout) e.begun m) x.sound_then))

      -- a worker opens no cycle and asks for none, sweeping or not
      working : (w : Working) → seats.WorksIt setup e es w → LeavesRequest (told es) e.ask
      working w x =
          let quiet = worker_quiet (told es) works setup.layout w x.sound_it x.busy in
          subst (λ (q : Ask). LeavesRequest (told es) q) (sym x.asked) (record { opens_none = none_opened (worker.asks setup.layout w) quiet.opens_none; same = quiet.want })

      -- a processor that asks
      asker : (m : Processor) → seats.RunsIt setup e es m → asks_for_one e.ask ≡ true → AsksForCycle setup e es
      asker m x one =
          let k = processor_kind setup.shapes setup.layout in
          let both : Actor.Runs m ≡ Actor.Runs (state_of k e.actor es) = sym x.is ∙ runs_are setup es e.actor x.seat in
          let own : m ≡ state_of k e.actor es = cc in
          let w = asks_by setup.layout (started k e.begun m) (asks setup.layout (started k e.begun m)) refl (writes.writes setup.layout (started k e.begun m) x.sound_then) (sym (ap asks_for_one x.asked) ∙ one) in
          record { by = x.seat; where_it_may = where_it_may (subst (λ (y : Processor). IsWanting (started k e.begun y).task) own w.0); asks = x.asked ∙ w.1 } where
            where_it_may : IsWanting (before_step setup.shapes setup.layout es e).task → BeginsToWait (before_step setup.shapes setup.layout es e).task ⊎ SawTriggerReached setup.shapes setup.layout e.actor es
            where_it_may (inl waits) = inl waits
            where_it_may (inr saw_it) = inr (saw setup.shapes setup.layout writes e.actor es (trigger_asked setup.shapes setup.layout writes e.actor (state_of (processor_kind setup.shapes setup.layout) e.actor es) e.begun saw_it))

      asked_by : (m : Processor) → seats.RunsIt setup e es m → Asked es → Asked (e ∷ es)
      asked_by m x before set = go y.want where
        y : LeavesCycleWords (told es) e.ask
        y = leaves_by m x

        go : (((before : ℕ) → asked_after e.ask before ≡ before) × (told (e ∷ es) Cell.Want ≡ told es Cell.Want)) ⊎ (((before : ℕ) → asked_after e.ask before ≡ suc before) × (told (e ∷ es) Cell.Want ≡ bit_or (told es Cell.Want) 1)) → WasAsked setup (e ∷ es)
        go (inl z) = asked_more (none_opened e.ask y.opens_none) (before (sym z.1 ∙ set))
        go (inr z) = record { entry = e; earlier = es; start = inl refl; asks = asker m x (asks_one e.ask z.0); since = none_behind (e ∷ es) }

      asked_working : (w : Working) → seats.WorksIt setup e es w → Asked es → Asked (e ∷ es)
      asked_working w x before set = let y = working w x in asked_more y.opens_none (before (sym y.same ∙ set))

      -- the coordinator clears the request where it opens a cycle, or leaves it
      leading : (c : Coordinating) → seats.LeadsIt setup e es c → (IsClearing c.stage × (e.ask ≡ Store Cell.Want 0)) ⊎ ((opens_one e.ask ≡ false) × (told (e ∷ es) Cell.Want ≡ told es Cell.Want))
      leading c x = elim (clears (told es) setup.layout c c.stage) [
        | inl y ↦ inl (y.0, x.asked ∙ y.1)
        | inr y ↦ inr (ap opens_one x.asked ∙ y.0, ap (λ (q : Ask). effect (told es) q Cell.Want) x.asked ∙ y.1)
      ]

      asked_leading : (c : Coordinating) → seats.LeadsIt setup e es c → Asked es → Asked (e ∷ es)
      asked_leading c x before set = elim (leading c x) [
        | inl y ↦ absurd (let cleared : told (e ∷ es) Cell.Want ≡ 0 = ap (λ (q : Ask). effect (told es) q Cell.Want) y.1 in omega (arith, cleared, set))
        | inr y ↦ asked_more y.0 (before (sym y.1 ∙ set))
      ]

      pub asked_on : Asked es → Asked (e ∷ es)
      asked_on before = go step where
        go : seats.Step setup e es → Asked (e ∷ es)
        go (seats.by_processor m x stays) = asked_by m x before
        go (seats.by_worker w x stays) = asked_working w x before
        go (seats.by_lead c x) = asked_leading c x before

      -- with this entry a cycle is opened
      opens_by_lead : (c : Coordinating) → seats.LeadsIt setup e es c → IsClearing c.stage → Asked es → OpensCycle setup c.begun e es
      opens_by_lead c x clearing asked = record {
        lead = c;
        led = x.is;
        by = x.seat;
        clears = clearing;
        cycle = refl;
        asked = elim ((wants es c legal.0 x.is).wanted (to_open c.stage clearing)) [
          | inl last ↦ inl (record { is_last = last; left = λ a lt. (keeps es legal.0).processors_gone c x.is last a lt })
          | inr set ↦ inr (asked set)
        ];
      }

      opens_here : opens_one e.ask ≡ true → Asked es → (k : ℕ) × OpensCycle setup k e es
      opens_here opens asked = go step where
        lead : (c : Coordinating) → seats.LeadsIt setup e es c → (k : ℕ) × OpensCycle setup k e es
        lead c x = elim (leading c x) [
          | inl y ↦ (c.begun, opens_by_lead c x y.0 asked)
          | inr y ↦ absurd (let both : true ≡ false = sym opens ∙ y.0 in cc)
        ]

        go : seats.Step setup e es → (k : ℕ) × OpensCycle setup k e es
        go (seats.by_processor m x stays) = absurd (let both : true ≡ false = sym opens ∙ none_opened e.ask (leaves_by m x).opens_none in cc)
        go (seats.by_worker w x stays) = absurd (let both : true ≡ false = sym opens ∙ (working w x).opens_none in cc)
        go (seats.by_lead c x) = lead c x

      -- where a cycle is open behind it
      opened_on : Asked es → ((c : Coordinating) → Led es c → Opened es c) → (c : Coordinating) → Led (e ∷ es) c → Opened (e ∷ es) c
      opened_on asked before to led = go step where
        beside : opens_one e.ask ≡ false → Led es to → Opened (e ∷ es) to
        beside none was there = opened_more to.begun none (before to was there)

        lead : (c : Coordinating) → seats.LeadsIt setup e es c → to ≡ coord.goes setup.layout c e.found → Opened (e ∷ es) to
        lead c x then there =
            let from = opened setup.layout c (coord.counted c).marks c.stage e.found x.busy (subst (λ (y : Coordinating). IsOpened y.stage) then there) in
            let same : to.begun ≡ c.begun = ap (λ (y : Coordinating). y.begun) then ∙ from.1 in
            subst (λ (k : ℕ). WasOpened setup k (e ∷ es)) (sym same) (elim (leading c x) [
              | inl y ↦ record { entry = e; earlier = es; start = inl refl; opens = opens_by_lead c x y.0 asked; since = none_behind (e ∷ es) }
              | inr y ↦ elim from.0 [
                | inl clearing ↦ absurd (let one : opens_one e.ask ≡ true = ap opens_one x.asked ∙ clears_one setup.layout c c.stage clearing in let both : true ≡ false = sym one ∙ y.0 in cc)
                | inr open_was ↦ opened_more c.begun y.0 (before c x.is open_was)
              ]
            ])

        go : seats.Step setup e es → Opened (e ∷ es) to
        go (seats.by_processor m x stays) = beside (none_opened e.ask (leaves_by m x).opens_none) (sym stays ∙ led)
        go (seats.by_worker w x stays) = beside ((working w x).opens_none) (sym stays ∙ led)
        go (seats.by_lead c x) = lead c x (let both : Actor.Leads to ≡ Actor.Leads (coord.goes setup.layout c e.found) = sym led ∙ x.then in cc)

  asked : (es : List (Entry Op)) → Lawful es → Asked es
  asked [] legal set = absurd cc
  asked (e ∷ es) legal set = asked_on e es legal (asked es legal.0) set

  open_since : (es : List (Entry Op)) → Lawful es → (c : Coordinating) → Led es c → Opened es c
  open_since [] legal c led there = absurd (subst (λ (x : Coordinating). IsOpened x.stage) (seats.first_lead setup c led) there)
  open_since (e ∷ es) legal c led there = opened_on e es legal (asked es legal.0) (λ d was. open_since es legal.0 d was) c led there

  pub all_asked : (es : List (Entry Op)) → Lawful es → AllWereAsked setup es
  all_asked es legal e before of opens = let there = legal_start (those setup) (e ∷ before) es of legal in opens_here e before there opens (asked before there.0)

  begun_opened : (k : ℕ) (begun : List (Entry Op)) → Lawful begun → BeginsCycle setup k begun → WasOpened setup k begun
  begun_opened k [] legal is = absurd is
  begun_opened k (e ∷ es) legal is =
      let there = open_since es legal.0 is.lead is.led (is_open is.lead.stage is.stage) in
      subst (λ (n : ℕ). WasOpened setup n (e ∷ es)) is.cycle (opened_more e es is.lead.begun none there)
    where
      none : opens_one e.ask ≡ false
      none = grind arith

  pub all_opened : (es : List (Entry Op)) → Lawful es → AllWereOpened setup es
  all_opened es legal k begun of begins = begun_opened k begun (legal_start (those setup) begun es of legal) begins
