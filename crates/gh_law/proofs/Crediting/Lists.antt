-- Credit balances after every legal list: by each step what is earned, what is spent, what has lapsed and what is in the bank change together; so do what is spent and what a processor has drawn; and so do what a worker has scanned and what it has still to hand over.
use Rattle.std.proofs.Common.{◌≡◌, ◌≢◌, inl, inr, ℕ, ◌+◌, ◌^◌, ◌<◌, ◌≤◌, ◌==◌, Bool, true, false, refl, sym, ap, subst, ◌∙◌, arith, List, [], ◌∷◌, Option, None}
use Rattle.gh_law.proofs.Vocabulary.{acks_of, AcksAlone, Actor, Add, Ask, asks, asks_by_sweep, at, Begins, CalmWorkersMarkNothing, Cell, cell_of, Coordinating, CreditStands, done_by, drawn_by, earned_in, effect, Entry, handed_by, IsAssisting, IsCalm, IsSettled, IsStopped, KeepsIt, lapsed_by, lapsed_in, left_among, left_at, Legal, Load, Mark, marks_or_not, nat_tests, Op, other, party_of, PhasesStand, Processor, processor_kind, ProcessorWritesItsOwn, scanned_in, seats_of, Setup, spent_among, spent_at, spent_in, started, Store, Swap, takes, those, words, WorkersWriteTheirOwn, Working}
use Rattle.gh_coord.specs.Handshake as leading
use Rattle.gh_coord.specs.Listing as coord
use Rattle.gh_mutator_writes.specs.Spending.{ProcessorsSpend}
use Rattle.gh_mutator.specs.Spending.{spent_of}
use Rattle.gh_phase.specs.declared.view.View.{View}
use Rattle.gh_sweep.specs.Listing as sweep
use Rattle.gh_phase.specs.ResumePlaces as resuming
use Rattle.gh_worker.specs.Earning.{WorkersEarn}
use Rattle.gh_worker.specs.Handshake as working
use Rattle.gh_worker.specs.Listing as worker
use Rattle.gh_worker.specs.Works.{words_done}
use Rattle.gh_lists.specs.Waits.{WorkersRest}
use Rattle.gh_law.proofs.Crediting.Assisting.{assisting_knows, marks_phase}
use Rattle.gh_law.proofs.Crediting.Bank.{draws_bank, DrawsOnBank, IsBeside, IsClearing, lead_beside, leaves_bank, LeavesBank, processor_beside, sweep_beside, worker_beside}
use Rattle.gh_law.proofs.Crediting.Lead.{asks_clearing, KnowsBank, lead_clears, lead_goes, may_add, off_marks}
use Rattle.gh_lists.specs.Steps as seats
use Rattle.gh_lists.specs.Sums.{total_at, total_has, total_none, total_same}

-- What is cited of processors and workers, and of the lists of a heap that is set up so.
pub record Cited (setup : Setup) : Type 0 where
  pub writes : ProcessorWritesItsOwn
  pub works : WorkersWriteTheirOwn
  pub calm : CalmWorkersMarkNothing
  pub earns : WorkersEarn
  pub spend : ProcessorsSpend
  pub keeps : (es : List (Entry Op)) → Legal (those setup) es → KeepsIt (those setup) es
  pub rests : (es : List (Entry Op)) → Legal (those setup) es → WorkersRest (those setup) es
  pub phases : (es : List (Entry Op)) → Legal (those setup) es → PhasesStand setup es
  pub few : (es : List (Entry Op)) → Legal (those setup) es → scanned_in setup es < 2 ^ 48

module _ (setup : Setup) (cited : Cited setup) where
  abbrev n : ℕ
  n = acks_of setup.layout

  abbrev who : List (Entry Op) → ℕ → Actor
  who es a = at setup es a

  abbrev bank : List (Entry Op) → ℕ
  bank es = words setup es Cell.Bank

  record Balanced (es : List (Entry Op)) (c : Coordinating) : Type 0 where
    earned : earned_in es ≡ spent_in es + lapsed_in es + bank es
    drawn : spent_in es ≡ spent_among (who es) (seats_of setup.layout)
    knows : KnowsBank (lapsed_in es) (bank es) c.lapsed c.stage
    scanned : scanned_in setup es ≡ earned_in es + left_among (who es) (seats_of setup.layout)
    each : (a : ℕ) (w : Working) → who es a ≡ Actor.Marks w → w.earned ≤ earned_in es

  abbrev Balance : List (Entry Op) → Type 0
  Balance es = (c : Coordinating) → who es n ≡ Actor.Leads c → Balanced es c

  -- before the first step

  first_left : (a : ℕ) → left_at (who [] a) ≡ 0
  first_left a = grind arith

  first_spent : (a : ℕ) → spent_at (who [] a) ≡ 0
  first_spent a = grind arith

  first_earned : (a : ℕ) (w : Working) → who [] a ≡ Actor.Marks w → w.earned ≤ 0
  first_earned a w is = grind arith

  first : Balance []
  first c led =
      let it = seats.first_lead setup c led in
      record {
        earned = refl;
        drawn = let none = total_none (λ a. spent_at (who [] a)) (seats_of setup.layout) (λ a lt. first_spent a) in omega (arith, none);
        knows = subst (λ (x : Coordinating). KnowsBank 0 0 x.lapsed x.stage) (sym it) (record { knows = refl; empty = λ no. refl });
        scanned = let none = total_none (λ a. left_at (who [] a)) (seats_of setup.layout) (λ a lt. first_left a) in omega (arith, none);
        each = first_earned;
      }

  module _ (e : Entry Op) (es : List (Entry Op)) (legal : Legal (those setup) (e ∷ es)) (was : Balance es) where
    -- where the step is not on the bank
    record Stays : Type 0 where
      earned : earned_in (e ∷ es) ≡ earned_in es
      spent : spent_in (e ∷ es) ≡ spent_in es
      lapsed : lapsed_in (e ∷ es) ≡ lapsed_in es
      bank_is : bank (e ∷ es) ≡ bank es

    stays_by : (q : Ask) → e.ask ≡ q → IsBeside q → Stays
    stays_by q is beside =
        let x : LeavesBank e.ask = subst LeavesBank (sym is) (leaves_bank q beside) in
        let a = x.earns in
        let b = x.spends e.found in
        let d = x.lapses e.found in
        record { earned = omega (arith, a); spent = omega (arith, b); lapsed = omega (arith, d); bank_is = x.bank _ }

    known : Stays → (c : Coordinating) → KnowsBank (lapsed_in es) (bank es) c.lapsed c.stage → KnowsBank (lapsed_in (e ∷ es)) (bank (e ∷ es)) c.lapsed c.stage
    known s c k = subst (λ (x : ℕ). KnowsBank x (bank (e ∷ es)) c.lapsed c.stage) (sym s.lapsed) (subst (λ (x : ℕ). KnowsBank (lapsed_in es) x c.lapsed c.stage) (sym s.bank_is) k)

    others : (a : ℕ) → a ≢ e.actor → who (e ∷ es) a ≡ who es a
    others a ne = grind arith

    seat_of_it : e.actor < seats_of setup.layout
    seat_of_it = legal.1.actor

    -- where the actor's count goes up by what is drawn
    drawn_then : (c : Coordinating) → Balanced es c → spent_at (who (e ∷ es) e.actor) ≡ spent_at (who es e.actor) + drawn_by e.ask e.found → spent_in (e ∷ es) ≡ spent_among (who (e ∷ es)) (seats_of setup.layout)
    drawn_then c b counts =
        let one = total_at (λ a. spent_at (who es a)) (λ a. spent_at (who (e ∷ es) a)) (seats_of setup.layout) e.actor seat_of_it (λ a lt ne. ap spent_at (others a ne)) in
        let d = b.drawn in
        omega (arith, one, d, counts)

    -- Who steps without being a worker: it has nothing left, has scanned nothing and hands nothing over, and what it spends is counted.
    record StepsWithoutWork (x y : Actor) : Type 0 where
      is : who es e.actor ≡ x
      then : who (e ∷ es) e.actor ≡ y
      none : left_at x ≡ 0
      none_then : left_at y ≡ 0
      done : done_by setup.layout x e.found ≡ 0
      not_marks : (w : Working) → y ≡ Actor.Marks w → ⊥
      counts : spent_at y ≡ spent_at x + drawn_by e.ask e.found
      earned_same : earned_in (e ∷ es) ≡ earned_in es

    module _ (x y : Actor) (step : StepsWithoutWork x y) where
      left_same : left_among (who (e ∷ es)) (seats_of setup.layout) ≡ left_among (who es) (seats_of setup.layout)
      left_same = total_same (λ a. left_at (who es a)) (λ a. left_at (who (e ∷ es) a)) (seats_of setup.layout) (λ a lt. go a (e.actor == a) refl) where
        go : (a : ℕ) (t : Bool) → (e.actor == a) ≡ t → left_at (who (e ∷ es) a) ≡ left_at (who es a)
        go a true e_is =
            let end : e.actor ≡ a = (let q = e_is in grind (arith, nat_tests)) in
            let one : left_at (who (e ∷ es) a) ≡ 0 = ap (λ (i : ℕ). left_at (who (e ∷ es) i)) (sym end) ∙ ap left_at step.then ∙ step.none_then in
            let two : left_at (who es a) ≡ 0 = ap (λ (i : ℕ). left_at (who es i)) (sym end) ∙ ap left_at step.is ∙ step.none in
            one ∙ sym two
        go a false e_is = ap left_at (other setup e es a e_is)

      scanned_same : scanned_in setup (e ∷ es) ≡ scanned_in setup es
      scanned_same = let d : done_by setup.layout (who es e.actor) e.found ≡ 0 = ap (λ (z : Actor). done_by setup.layout z e.found) step.is ∙ step.done in omega (arith, d)

      each_then : (c : Coordinating) → who es n ≡ Actor.Leads c → (a : ℕ) (w : Working) → who (e ∷ es) a ≡ Actor.Marks w → w.earned ≤ earned_in (e ∷ es)
      each_then c led a w at_a = go (e.actor == a) refl where
        go : (t : Bool) → (e.actor == a) ≡ t → w.earned ≤ earned_in (e ∷ es)
        go true e_is = absurd (step.not_marks w (sym step.then ∙ ap (who (e ∷ es)) (let q = e_is in grind (arith, nat_tests)) ∙ at_a))
        go false e_is = let le = (was c led).each a w (sym (other setup e es a e_is) ∙ at_a) in let same = step.earned_same in omega (arith, le, same)

      -- what is spent, what lapses and what is in the bank change together
      balances : (c d : Coordinating) → who es n ≡ Actor.Leads c → spent_in (e ∷ es) + lapsed_in (e ∷ es) + bank (e ∷ es) ≡ spent_in es + lapsed_in es + bank es → KnowsBank (lapsed_in (e ∷ es)) (bank (e ∷ es)) d.lapsed d.stage → Balanced (e ∷ es) d
      balances c d led all k =
          let w = was c led in
          let a = w.earned in
          let a1 = step.earned_same in
          let g = w.scanned in
          let g1 = scanned_same in
          let g2 = left_same in
          let now : spent_at (who (e ∷ es) e.actor) ≡ spent_at (who es e.actor) + drawn_by e.ask e.found = ap spent_at step.then ∙ step.counts ∙ ap (λ (z : Actor). spent_at z + drawn_by e.ask e.found) (sym step.is) in
          record {
            earned = omega (arith, a, a1, all);
            drawn = drawn_then c w now;
            knows = k;
            scanned = omega (arith, g, g1, g2, a1);
            each = each_then c led;
          }

    all_same : Stays → spent_in (e ∷ es) + lapsed_in (e ∷ es) + bank (e ∷ es) ≡ spent_in es + lapsed_in es + bank es
    all_same s = let a = s.spent in let b = s.lapsed in let d = s.bank_is in omega (arith, a, b, d)

    -- nothing is drawn where what is spent stays
    none_drawn : Stays → drawn_by e.ask e.found ≡ 0
    none_drawn s = let a = s.spent in omega (arith, a)

    -- a processor's step

    module _ (m : Processor) (x : seats.RunsIt setup e es m) (c : Coordinating) (led : who es n ≡ Actor.Leads c) where
      pb : Balanced es c
      pb = was c led

      -- the processor with what it begins, if it begins an operation
      abbrev begun : Processor
      begun = started (processor_kind setup.shapes setup.layout) e.begun m

      abbrev MayBegin : Option Op → Type 0
      MayBegin o = Begins (those setup) e.actor es o

      begun_spent : spent_of begun ≡ spent_of m
      begun_spent = grind arith

      -- no count leaves its type
      spent_few : spent_of m ≤ spent_in es
      spent_few =
          let le : spent_of m ≤ spent_among (who es) (seats_of setup.layout) = subst (λ (z : Actor). spent_at z ≤ spent_among (who es) (seats_of setup.layout)) x.is (total_has (λ a. spent_at (who es a)) (seats_of setup.layout) e.actor seat_of_it) in
          let d = pb.drawn in
          omega (arith, le, d)

      found_is : (q : Ask) → e.ask ≡ q → e.found ≡ words setup es (cell_of q)
      found_is q is = legal.1.found ∙ ap (λ (z : Ask). words setup es (cell_of z)) is

      count : drawn_by e.ask e.found ≤ bank es → spent_of (takes setup.layout setup.shapes begun e.found) ≡ spent_of m + drawn_by e.ask e.found
      count most =
          let same : drawn_by e.ask e.found ≡ drawn_by (asks setup.layout begun) e.found = ap (λ (q : Ask). drawn_by q e.found) x.asked in
          let a = pb.earned in
          let b = pb.scanned in
          let f = cited.few es legal.0 in
          let le = spent_few in
          let first = begun_spent in
          let then = cited.spend.spends setup.layout setup.shapes begun e.found x.sound_then x.busy (omega (arith, same, a, b, f, le, first, most)) in
          omega (arith, same, then, first)

      no_work : drawn_by e.ask e.found ≤ bank es → earned_in (e ∷ es) ≡ earned_in es → StepsWithoutWork (Actor.Runs m) (Actor.Runs (takes setup.layout setup.shapes begun e.found))
      no_work most same = grind (arith, count)

      runs_beside : IsBeside (asks setup.layout begun) → Balanced (e ∷ es) c
      runs_beside q =
          let s = stays_by _ x.asked q in
          let none = none_drawn s in
          balances (Actor.Runs m) (Actor.Runs (takes setup.layout setup.shapes begun e.found)) (no_work (omega (arith, none)) s.earned) c c led (all_same s) (known s c pb.knows)

      -- A draw: it assists, so the coordinator marks a cycle, and the world is not stopped.
      module _ (d : DrawsOnBank begun (asks setup.layout begun)) where
        draw_is : e.ask ≡ Swap Cell.Bank d.old d.new
        draw_is = x.asked ∙ d.is

        assists_before : (o : Option Op) → MayBegin o → IsAssisting (started (processor_kind setup.shapes setup.layout) o m).task → IsAssisting m.task
        assists_before o may_it a = grind arith

        assists : IsAssisting m.task
        assists = assists_before e.begun legal.1.begins d.assists

        runs_on : IsStopped c → ⊥
        runs_on stopped = let no : Swap Cell.Bank d.old d.new ≡ Load Cell.Phase = sym draw_is ∙ ((cited.phases (e ∷ es) legal).still e es c (inl refl) led stopped (let lt = x.seat in λ end. omega (arith, lt, end))).asks in cc

        marks_on : leading.Marks c.stage
        marks_on =
            let knows = assisting_knows m.poll m.task assists in
            let seat : e.actor < n = let lt = x.seat in omega (arith, lt) in
            let marked : (party_of m).view.phase ≡ Mark = ap (λ (v : View). v.phase) knows.1 ∙ marks_phase m.poll.local.view.phase (cited.spend.marking setup.layout m x.sound_it assists) in
            ((cited.keeps es legal.0).processors_mark c e.actor m led seat x.is knows.0).0 marked

        draws_on : Balanced (e ∷ es) c
        draws_on =
            let there : e.found ≡ bank es = found_is (Swap Cell.Bank d.old d.new) draw_is in
            let drawn_is : drawn_by e.ask e.found ≡ drawn_by (Swap Cell.Bank d.old d.new) (bank es) = ap (λ (q : Ask). drawn_by q e.found) draw_is ∙ ap (drawn_by (Swap Cell.Bank d.old d.new)) there in
            let bank_is : bank (e ∷ es) ≡ effect (words setup es) (Swap Cell.Bank d.old d.new) Cell.Bank = ap (λ (q : Ask). effect (words setup es) q Cell.Bank) draw_is in
            let falls = draws_bank (words setup es) d.old d.new d.falls in
            let handed_none : handed_by e.ask ≡ 0 = ap handed_by draw_is in
            let lapsed_none : lapsed_by e.ask e.found ≡ 0 = ap (λ (q : Ask). lapsed_by q e.found) draw_is in
            let lapsed_same : lapsed_in (e ∷ es) ≡ lapsed_in es = omega (arith, lapsed_none) in
            let k = may_add c.stage marks_on (λ phase stopped. runs_on (phase, stopped)) (lapsed_in es) (bank es) (bank (e ∷ es)) c.lapsed pb.knows in
            balances (Actor.Runs m) (Actor.Runs (takes setup.layout setup.shapes begun e.found)) (no_work (omega (arith, drawn_is, falls)) (omega (arith, handed_none))) c c led
            (omega (arith, drawn_is, bank_is, falls, lapsed_same))
            (subst (λ (i : ℕ). KnowsBank i (bank (e ∷ es)) c.lapsed c.stage) (sym lapsed_same) k)

      runs_through : Balanced (e ∷ es) c
      runs_through = elim (processor_beside setup.layout begun (asks setup.layout begun) (cited.writes.writes setup.layout begun x.sound_then) (cited.spend.draws setup.layout begun x.sound_then x.busy)) [ inl q ↦ runs_beside q | inr d ↦ draws_on d ]

    -- the coordinator's step

    by_lead : (c : Coordinating) → seats.LeadsIt setup e es c → Balance (e ∷ es)
    by_lead c x d led = subst (Balanced (e ∷ es)) then (elim (lead_beside setup.layout c c.stage) [ inl y ↦ going y | inr y ↦ clearing y ]) where
      then : coord.goes setup.layout c e.found ≡ d
      then = let both : Actor.Leads (coord.goes setup.layout c e.found) ≡ Actor.Leads d = sym x.then ∙ led in cc

      b : Balanced es c
      b = was c x.is

      fits : lapsed_in es + bank es < 2 ^ 64
      fits = let e1 = b.earned in let e2 = b.scanned in let e3 = cited.few es legal.0 in omega (arith, e1, e2, e3)

      was_at : who es e.actor ≡ Actor.Leads c
      was_at = ap (who es) x.seat ∙ x.is

      now_at : who (e ∷ es) e.actor ≡ Actor.Leads (coord.goes setup.layout c e.found)
      now_at = ap (who (e ∷ es)) x.seat ∙ x.then

      going : IsBeside (coord.asks setup.layout c) → Balanced (e ∷ es) (coord.goes setup.layout c e.found)
      going y =
          let s = stays_by (coord.asks setup.layout c) x.asked y in
          let finds : coord.asks setup.layout c ≡ Load Cell.Bank → e.found ≡ bank es = λ is. x.found ∙ ap (λ (q : Ask). words setup es (cell_of q)) is in
          let not_clearing : IsClearing c.stage → ⊥ = λ z. subst IsBeside (asks_clearing setup.layout c c.stage z) y in
          let k = lead_goes setup.layout c (lapsed_in es) (bank es) e.found fits finds not_clearing x.busy b.knows in
          let no_work : StepsWithoutWork (Actor.Leads c) (Actor.Leads (coord.goes setup.layout c e.found)) = record { is = was_at; then = now_at; none = refl; none_then = refl; done = refl; not_marks = λ w is. cc; counts = (let none = none_drawn s in omega (arith, none)); earned_same = s.earned } in
          balances (Actor.Leads c) (Actor.Leads (coord.goes setup.layout c e.found)) no_work c (coord.goes setup.layout c e.found) x.is (all_same s) (known s (coord.goes setup.layout c e.found) k)

      clearing : IsClearing c.stage → Balanced (e ∷ es) (coord.goes setup.layout c e.found)
      clearing y =
          let asks_is : e.ask ≡ Store Cell.Bank 0 = x.asked ∙ asks_clearing setup.layout c c.stage y in
          let found_is : e.found ≡ bank es = x.found ∙ ap (λ (q : Ask). words setup es (cell_of q)) (asks_clearing setup.layout c c.stage y) in
          let k = lead_clears setup.layout c (lapsed_in es) (bank es) e.found y b.knows in
          let lapsed_now : lapsed_by e.ask e.found ≡ bank es = ap (λ (q : Ask). lapsed_by q e.found) asks_is ∙ found_is in
          let bank_now : bank (e ∷ es) ≡ 0 = ap (λ (q : Ask). effect (words setup es) q Cell.Bank) asks_is in
          let earned_now : handed_by e.ask ≡ 0 = ap handed_by asks_is in
          let spent_now : drawn_by e.ask e.found ≡ 0 = ap (λ (q : Ask). drawn_by q e.found) asks_is in
          let a = b.earned in
          let drawn_none : spent_at (who (e ∷ es) e.actor) ≡ spent_at (who es e.actor) + drawn_by e.ask e.found = ap spent_at now_at ∙ sym (ap (λ (i : ℕ). 0 + i) spent_now) ∙ ap (λ (z : Actor). spent_at z + drawn_by e.ask e.found) (sym was_at) in
          let g = b.scanned in
          let left = total_same (λ i. left_at (who es i)) (λ i. left_at (who (e ∷ es) i)) (seats_of setup.layout) (λ i lt. left_by i (e.actor == i) refl) in
          let done : done_by setup.layout (who es e.actor) e.found ≡ 0 = ap (λ (z : Actor). done_by setup.layout z e.found) was_at in
          record {
            earned = omega (arith, a, spent_now, lapsed_now, bank_now, earned_now);
            drawn = drawn_then c b drawn_none;
            knows = subst (λ (i : ℕ). KnowsBank i (bank (e ∷ es)) (coord.goes setup.layout c e.found).lapsed (coord.goes setup.layout c e.found).stage) (ap (λ (i : ℕ). lapsed_in es + i) (sym lapsed_now)) (subst (λ (i : ℕ). KnowsBank (lapsed_in es + bank es) i (coord.goes setup.layout c e.found).lapsed (coord.goes setup.layout c e.found).stage) (sym bank_now) k);
            scanned = omega (arith, g, left, done, earned_now);
            each = λ i w at_i. each_by i w at_i (e.actor == i) refl;
          }
        where
          left_by : (i : ℕ) (t : Bool) → (e.actor == i) ≡ t → left_at (who (e ∷ es) i) ≡ left_at (who es i)
          left_by i true e_is =
              let end : e.actor ≡ i = (let q = e_is in grind (arith, nat_tests)) in
              ap (λ (j : ℕ). left_at (who (e ∷ es) j)) (sym end) ∙ ap left_at now_at ∙ sym (ap (λ (j : ℕ). left_at (who es j)) (sym end) ∙ ap left_at was_at)
          left_by i false e_is = ap left_at (other setup e es i e_is)

          each_by : (i : ℕ) (w : Working) → who (e ∷ es) i ≡ Actor.Marks w → (t : Bool) → (e.actor == i) ≡ t → w.earned ≤ earned_in es + handed_by e.ask
          each_by i w at_i true e_is = absurd (let end : e.actor ≡ i = (let q = e_is in grind (arith, nat_tests)) in let no : Actor.Leads (coord.goes setup.layout c e.found) ≡ Actor.Marks w = sym now_at ∙ ap (who (e ∷ es)) end ∙ at_i in cc)
          each_by i w at_i false e_is = let le = b.each i w (sym (other setup e es i e_is) ∙ at_i) in omega (arith, le)

    -- a worker's step

    module _ (w : Working) (x : seats.WorksIt setup e es w) (c : Coordinating) (led : who es n ≡ Actor.Leads c) where
      wb : Balanced es c
      wb = was c led

      scanned_now : scanned_in setup (e ∷ es) ≡ scanned_in setup es + words_done setup.layout w.stage e.found
      scanned_now = ap (λ (z : Actor). scanned_in setup es + done_by setup.layout z e.found) x.is

      left_was : w.scan_work ≤ left_among (who es) (seats_of setup.layout)
      left_was = subst (λ (z : Actor). left_at z ≤ left_among (who es) (seats_of setup.layout)) x.is (total_has (λ a. left_at (who es a)) (seats_of setup.layout) e.actor seat_of_it)

      earned_was : w.earned ≤ earned_in es
      earned_was = wb.each e.actor w x.is

      small : w.earned + w.scan_work + words_done setup.layout w.stage e.found < 2 ^ 64
      small = let a = wb.scanned in let d = scanned_now in let f = cited.few (e ∷ es) legal in let g = left_was in let h = earned_was in omega (arith, a, d, f, g, h)

      left_now : left_among (who (e ∷ es)) (seats_of setup.layout) + w.scan_work ≡ left_among (who es) (seats_of setup.layout) + (worker.goes setup.layout w e.found).scan_work
      left_now =
          let one = total_at (λ a. left_at (who es a)) (λ a. left_at (who (e ∷ es) a)) (seats_of setup.layout) e.actor seat_of_it (λ a lt ne. ap left_at (others a ne)) in
          let two : left_at (who es e.actor) ≡ w.scan_work = ap left_at x.is in
          let three : left_at (who (e ∷ es) e.actor) ≡ (worker.goes setup.layout w e.found).scan_work = ap left_at x.then in
          omega (arith, one, two, three)

      -- it draws nothing
      drawn_same : drawn_by e.ask e.found ≡ 0 → spent_in (e ∷ es) ≡ spent_among (who (e ∷ es)) (seats_of setup.layout)
      drawn_same none = drawn_then c wb (ap spent_at x.then ∙ sym (ap (λ (i : ℕ). 0 + i) none) ∙ ap (λ (z : Actor). spent_at z + drawn_by e.ask e.found) (sym x.is))

      handed : handed_by e.ask ≡ handed_by (worker.asks setup.layout w)
      handed = ap handed_by x.asked

      earns_so : (worker.goes setup.layout w e.found).earned ≡ w.earned + handed_by (worker.asks setup.layout w)
      earns_so = (cited.earns.earns setup.layout w e.found x.sound_it x.busy small).counts

      counts_so : (worker.goes setup.layout w e.found).earned + (worker.goes setup.layout w e.found).scan_work ≡ w.earned + w.scan_work + words_done setup.layout w.stage e.found
      counts_so = (cited.earns.earns setup.layout w e.found x.sound_it x.busy small).keeps

      scanned_then : scanned_in setup (e ∷ es) ≡ earned_in (e ∷ es) + left_among (who (e ∷ es)) (seats_of setup.layout)
      scanned_then =
          let a = wb.scanned in
          let b = scanned_now in
          let d = left_now in
          let f = left_was in
          let g = earns_so in
          let h = counts_so in
          let i = handed in
          omega (arith, a, b, d, f, g, h, i)

      each_worker : (a : ℕ) (v : Working) → who (e ∷ es) a ≡ Actor.Marks v → w.earned ≤ earned_in es → v.earned ≤ earned_in (e ∷ es)
      each_worker a v at_a le = go (e.actor == a) refl where
        go : (t : Bool) → (e.actor == a) ≡ t → v.earned ≤ earned_in es + handed_by e.ask
        go true e_is =
            let end : e.actor ≡ a = (let q = e_is in grind (arith, nat_tests)) in
            let both : Actor.Marks (worker.goes setup.layout w e.found) ≡ Actor.Marks v = sym x.then ∙ ap (who (e ∷ es)) end ∙ at_a in
            let is : worker.goes setup.layout w e.found ≡ v = cc in
            let same : (worker.goes setup.layout w e.found).earned ≡ v.earned = ap (λ (z : Working). z.earned) is in
            let g = earns_so in
            let i = handed in
            omega (arith, same, g, i, le)
        go false e_is = let old = wb.each a v (sym (other setup e es a e_is) ∙ at_a) in omega (arith, old)

      -- not on the bank
      off_bank : (q : Ask) → worker.asks setup.layout w ≡ q → IsBeside q → Balanced (e ∷ es) c
      off_bank q is y =
          let s = stays_by q (x.asked ∙ is) y in
          let a = wb.earned in
          let a1 = s.earned in
          let all = all_same s in
          record {
            earned = omega (arith, a, a1, all);
            drawn = drawn_same (none_drawn s);
            knows = known s c wb.knows;
            scanned = scanned_then;
            each = λ i v at_i. each_worker i v at_i earned_was;
          }

      -- A hand-over: the coordinator marks a cycle then, and the world is not stopped.
      module _ (more : ℕ) (is : worker.asks setup.layout w ≡ Add Cell.Bank more) (no_sweep : worker.sweep_in w ≡ None) where
        ask_is : e.ask ≡ Add Cell.Bank more
        ask_is = x.asked ∙ is

        runs : IsStopped c → ⊥
        runs stopped = let no : Add Cell.Bank more ≡ Load Cell.Phase = sym ask_is ∙ ((cited.phases (e ∷ es) legal).still e es c (inl refl) led stopped (let lt = x.seat in λ end. omega (arith, lt, end))).asks in cc

        marks : leading.Marks c.stage
        marks = elim (marks_or_not c.stage) [
          | inl on ↦ on
          | inr off ↦ absurd (let quiet : IsCalm w = cited.rests es legal.0 c e.actor w led off x.is in subst (AcksAlone w.seat) is (cited.calm.writes setup.layout w x.sound_it quiet no_sweep x.busy))
        ]

        hands_over : Balanced (e ∷ es) c
        hands_over =
            let k = may_add c.stage marks (λ phase stopped. runs (phase, stopped)) in
            let a = wb.earned in
            let now : handed_by e.ask ≡ more = ap handed_by ask_is in
            let f = cited.few (e ∷ es) legal in
            let g = scanned_then in
            let bank_now : bank (e ∷ es) ≡ bank es + more = ap (λ (q : Ask). effect (words setup es) q Cell.Bank) ask_is ∙ omega (arith, a, now, f, g) in
            let lapsed_now : lapsed_by e.ask e.found ≡ 0 = ap (λ (q : Ask). lapsed_by q e.found) ask_is in
            let spent_now : drawn_by e.ask e.found ≡ 0 = ap (λ (q : Ask). drawn_by q e.found) ask_is in
            let lapsed_same : lapsed_in (e ∷ es) ≡ lapsed_in es = omega (arith, lapsed_now) in
            record {
              earned = omega (arith, a, now, bank_now, lapsed_now, spent_now);
              drawn = drawn_same spent_now;
              knows = subst (λ (i : ℕ). KnowsBank i (bank (e ∷ es)) c.lapsed c.stage) (sym lapsed_same) (k (lapsed_in es) (bank es) (bank (e ∷ es)) c.lapsed wb.knows);
              scanned = scanned_then;
              each = λ i v at_i. each_worker i v at_i earned_was;
            }

      works_on : Balanced (e ∷ es) c
      works_on = elim (asks_by_sweep setup.layout w w.stage) [
        | inl none ↦ elim (worker_beside w.seat (worker.asks setup.layout w) (cited.works setup.layout w x.sound_it none x.busy)) [
          | inl y ↦ off_bank (worker.asks setup.layout w) refl y
          | inr y ↦ hands_over y.0 y.1 none
        ]
        | inr y ↦ off_bank (sweep.asks setup.layout y.0) y.1 (sweep_beside setup.layout y.0 (y.0).stage)
      ]

    by_step : seats.Step setup e es → Balance (e ∷ es)
    by_step (seats.by_processor m x same) = λ c led. runs_through m x c (sym same ∙ led)
    by_step (seats.by_worker w x same) = λ c led. works_on w x c (sym same ∙ led)
    by_step (seats.by_lead c x) = by_lead c x

  balance : (es : List (Entry Op)) → Legal (those setup) es → Balance es
  balance [] legal = first
  balance (e ∷ es) legal = by_step e es legal (balance es legal.0) (seats.step setup e es cited.writes legal (cited.keeps es legal.0))

  -- while no cycle is marked
  module _ (es : List (Entry Op)) (legal : Legal (those setup) es) (c : Coordinating) (led : who es n ≡ Actor.Leads c) (off : leading.Marks c.stage → ⊥) where
    none_at : (a : ℕ) → left_at (who es a) ≡ 0
    none_at a = grind arith

    settled : IsSettled setup es c
    settled =
        let b = balance es legal c led in
        let k = off_marks c.stage off (lapsed_in es) (bank es) c.lapsed b.knows in
        record { none_left = total_none (λ a. left_at (who es a)) (seats_of setup.layout) (λ a lt. none_at a); empty = k.0; lapsed = k.1 }

  -- in a stopped world each worker waits at the stop
  module _ (es : List (Entry Op)) (legal : Legal (those setup) es) (c : Coordinating) (led : who es n ≡ Actor.Leads c) (stop : IsStopped c) where
    abbrev phases : PhasesStand setup es
    phases = cited.phases es legal

    worker_left : (a : ℕ) (w : Working) → who es a ≡ Actor.Marks w → w.scan_work ≡ 0
    worker_left a w is =
        let waits = (phases.stopped c led stop).workers a w is in
        (phases.known.workers_resuming a w _ _ is (ap working.stands_at waits.is_at ∙ ap (resuming.stands_at waits.routine.stops) waits.loads)).none_left

    left_none : (a : ℕ) (x : Actor) → who es a ≡ x → left_at x ≡ 0
    left_none a (Actor.Marks w) is = worker_left a w is
    left_none a _ is = refl

    none_stopped : left_among (who es) (seats_of setup.layout) ≡ 0
    none_stopped = total_none (λ a. left_at (who es a)) (seats_of setup.layout) (λ a lt. left_none a (who es a) refl)

  pub stands : (es : List (Entry Op)) → Legal (those setup) es → CreditStands setup es
  stands es legal =
      let led = seats.led_by setup es in
      let b = balance es legal led.lead led.led_by in
      record {
        balanced = b.earned;
        scanned = b.scanned;
        few = cited.few es legal;
        drawn = b.drawn;
        stopped = λ c is stop. none_stopped es legal c is stop;
        settled = λ c is off. settled es legal c is off;
      }
