-- Each global is counted once in a cycle. While one is marked each that the cursor has passed in it is counted, but for those that workers have in hand; where its marking ends the cursor is past all, and nobody has one.
use Rattle.std.proofs.Common.{◌≡◌, ◌≢◌, inl, inr, ℕ, suc, ◌+◌, ◌*◌, ◌<◌, ◌≤◌, ◌==◌, min, Bool, true, false, cond, ltb, refl, sym, ap, subst, ◌∙◌, arith, List, [], ◌∷◌}
use Rattle.gh_marked.proofs.Vocabulary.{acks_of, Actor, Add, Ask, Cell, cell_of, claimed_by, Coordinating, CoordinatorGoes, CoordStage, CountsPlainly, done_by, effect, Entry, global_by, global_done, global_in_hand, globals_held, globals_in, GlobalsAreCounted, goes_on, goes_so, IsBeginning, IsEnding, IsLed, KeepsIt, Layout, leaves, leaves_numbers, Legal, mul-le-mul_right, nat_tests, objects_by, objects_in, Op, other, Processor, processor_kind, ProcessorWritesItsOwn, scanned_in, seats_of, Setup, started, stored_in, stores_cell, takes, those, words, WorkersAreRoutines, WorkersCountGlobals, Working}
use Rattle.gh_coord.specs.Handshake as leading
use Rattle.gh_coord.specs.Listing as coord
use Rattle.gh_worker.specs.Listing as worker
use Rattle.gh_marked.specs.EveryCycle.{CursorGoes}
use Rattle.gh_lists.specs.Waits.{WorkersRest}
use Rattle.gh_marked.specs.Checking.{begins}
use Rattle.gh_lists.specs.Leaving.{ends_marking, marks_or_not}
use Rattle.gh_lists.specs.Steps as seats
use Rattle.gh_lists.specs.Sums.{total_at, total_none, total_same}
use Rattle.gh_marked.proofs.Scanned.Claims.{IsClearing, leads_at, leaves_cursor, LeavesCursor, works_at}

-- the cursor moves on by one
moves_on : (cursor globals : ℕ) → min (cursor + 1) globals ≡ min cursor globals + cond (ltb cursor globals) 1 0
moves_on cursor globals = grind arith

-- The coordinator's stages.

ending_on : (p : CoordStage) → IsEnding p → leading.Marks p
ending_on p is = grind arith

beginning_off : (p : CoordStage) → IsBeginning p → leading.Marks p → ⊥
beginning_off p is on = grind arith

module _ (l : Layout) (c : Coordinating) where
  ending_asks : (p : CoordStage) → IsEnding p → stores_cell Cell.Gen (coord.asks_at l c p) ≡ true
  ending_asks p is = grind arith

  ending_off : (p : CoordStage) (found : ℕ) → IsEnding p → leading.Marks (coord.goes_at l c p found).stage → ⊥
  ending_off p found is on = grind arith

-- What is cited of processors and workers, and of the lists of a heap that is set up so.
pub record Cited (setup : Setup) : Type 0 where
  pub writes : ProcessorWritesItsOwn
  pub workers : WorkersAreRoutines
  pub globals : WorkersCountGlobals
  pub keeps : (es : List (Entry Op)) → Legal (those setup) es → KeepsIt (those setup) es
  pub rests : (es : List (Entry Op)) → Legal (those setup) es → WorkersRest (those setup) es
  pub plainly : (es : List (Entry Op)) (c : Coordinating) → Legal (those setup) es → IsLed setup es c → CountsPlainly (those setup) setup.pacing.room es c
  pub cursor : CursorGoes setup

module _ (setup : Setup) (cited : Cited setup) where
  abbrev n : ℕ
  n = acks_of setup.layout

  abbrev who : List (Entry Op) → ℕ → Actor
  who es a = seats.at setup es a

  abbrev cursor : List (Entry Op) → ℕ
  cursor es = words setup es Cell.Gcur

  abbrev ended : List (Entry Op) → ℕ
  ended es = stored_in Cell.Gen es

  abbrev counted : List (Entry Op) → ℕ
  counted es = globals_in setup es

  abbrev held : List (Entry Op) → ℕ
  held es = globals_held setup es

  record Counted (es : List (Entry Op)) (c : Coordinating) : Type 0 where
    once : (leading.Marks c.stage → ⊥) → counted es ≡ ended es * setup.layout.globals
    so_far : leading.Marks c.stage → counted es + held es ≡ ended es * setup.layout.globals + min (cursor es) setup.layout.globals
    least : ended es * setup.layout.globals ≤ counted es

  abbrev Counts : List (Entry Op) → Type 0
  Counts es = (c : Coordinating) → who es n ≡ Actor.Leads c → Counted es c

  -- while no cycle is marked nobody has a global in hand
  none_held : (es : List (Entry Op)) → Legal (those setup) es → (c : Coordinating) → who es n ≡ Actor.Leads c → (leading.Marks c.stage → ⊥) → held es ≡ 0
  none_held es legal c led off = total_none (λ a. global_in_hand (who es a)) (seats_of setup.layout) (λ a lt. go a (who es a) refl) where
    go : (a : ℕ) (y : Actor) → who es a ≡ y → global_in_hand (who es a) ≡ 0
    go a y is = grind arith

  -- before the first step
  first : Counts []
  first c led = record { once = λ off. omega arith; so_far = λ on. absurd (subst (λ (x : Coordinating). leading.Marks x.stage) (seats.first_lead setup c led) on); least = omega arith }

  module _ (e : Entry Op) (es : List (Entry Op)) (legal : Legal (those setup) (e ∷ es)) (was : Counts es) where
    -- what the step leaves
    ended_same : stores_cell Cell.Gen e.ask ≡ false → ended (e ∷ es) ≡ ended es
    ended_same is = ap (λ (b : Bool). cond b (suc (ended es)) (ended es)) is

    whole_same : stores_cell Cell.Gen e.ask ≡ false → ended (e ∷ es) * setup.layout.globals ≡ ended es * setup.layout.globals
    whole_same is = ap (λ (k : ℕ). k * setup.layout.globals) (ended_same is)

    -- who steps without being a worker has no global in hand, and is done with none
    module _ (x y : Actor) (is : who es e.actor ≡ x) (then : who (e ∷ es) e.actor ≡ y) (none : global_in_hand x ≡ 0) (none_then : global_in_hand y ≡ 0) (done : global_by x e.found ≡ 0) where
      held_same : held (e ∷ es) ≡ held es
      held_same = total_same (λ a. global_in_hand (who es a)) (λ a. global_in_hand (who (e ∷ es) a)) (seats_of setup.layout) (λ a lt. go a (e.actor == a) refl) where
        go : (a : ℕ) (t : Bool) → (e.actor == a) ≡ t → global_in_hand (who (e ∷ es) a) ≡ global_in_hand (who es a)
        go a true e_is =
            let end : e.actor ≡ a = (let q = e_is in grind (arith, nat_tests)) in
            let one : global_in_hand (who (e ∷ es) a) ≡ 0 = ap (λ (i : ℕ). global_in_hand (who (e ∷ es) i)) (sym end) ∙ ap global_in_hand then ∙ none_then in
            let two : global_in_hand (who es a) ≡ 0 = ap (λ (i : ℕ). global_in_hand (who es i)) (sym end) ∙ ap global_in_hand is ∙ none in
            one ∙ sym two
        go a false e_is = ap global_in_hand (other setup e es a e_is)

      counted_same : counted (e ∷ es) ≡ counted es
      counted_same = let d : global_by (who es e.actor) e.found ≡ 0 = ap (λ (z : Actor). global_by z e.found) is ∙ done in omega (arith, d)

    -- a processor's step
    by_processor : (m : Processor) → seats.RunsIt setup e es m → who (e ∷ es) n ≡ who es n → Counts (e ∷ es)
    by_processor m x same c led =
        let b : Counted es c = was c (sym same ∙ led) in
        let q : LeavesCursor e.ask = subst LeavesCursor (sym x.asked) (leaves_cursor _ (leaves_numbers cited.writes setup.layout (started (processor_kind setup.shapes setup.layout) e.begun m) x.sound_then)) in
        let h = held_same (Actor.Runs m) (Actor.Runs (takes setup.layout setup.shapes (started (processor_kind setup.shapes setup.layout) e.begun m) e.found)) x.is x.then refl refl refl in
        let k = counted_same (Actor.Runs m) (Actor.Runs (takes setup.layout setup.shapes (started (processor_kind setup.shapes setup.layout) e.begun m) e.found)) x.is x.then refl refl refl in
        let g = whole_same q.ends in
        let u = q.cursor (words setup es) in
        record {
          once = λ off. let o = b.once off in omega (arith, o, k, g);
          so_far = λ on. let o = b.so_far on in let same_min = ap (λ (i : ℕ). min i setup.layout.globals) u in omega (arith, o, k, g, h, same_min);
          least = let o = b.least in omega (arith, o, k, g);
        }

    -- a worker's
    module _ (w : Working) (x : seats.WorksIt setup e es w) (c : Coordinating) (led : who es n ≡ Actor.Leads c) where
      b : Counted es c
      b = was c led

      seat_in : e.actor < seats_of setup.layout
      seat_in = let lt = x.seat in omega (arith, lt)

      others : (a : ℕ) → a ≢ e.actor → who (e ∷ es) a ≡ who es a
      others a ne = grind arith

      counted_now : counted (e ∷ es) ≡ counted es + global_done w.stage e.found
      counted_now = ap (λ (z : Actor). counted es + global_by z e.found) x.is

      -- so many more are counted or in hand as the step claims
      both_now : counted (e ∷ es) + held (e ∷ es) ≡ counted es + held es + claimed_by setup.layout (worker.asks setup.layout w) e.found
      both_now =
          let one = total_at (λ a. global_in_hand (who es a)) (λ a. global_in_hand (who (e ∷ es) a)) (seats_of setup.layout) e.actor seat_in (λ a lt ne. ap global_in_hand (others a ne)) in
          let two : global_in_hand (who es e.actor) ≡ worker.global_held w.stage = ap global_in_hand x.is in
          let three : global_in_hand (who (e ∷ es) e.actor) ≡ worker.global_held (worker.goes setup.layout w e.found).stage = ap global_in_hand x.then in
          let now = counted_now in
          let four = cited.globals.holds setup.layout w e.found in
          omega (arith, one, two, three, now, four)

      stays_or_moves : (stores_cell Cell.Gen e.ask ≡ false) × (leading.Marks c.stage → min (cursor (e ∷ es)) setup.layout.globals ≡ min (cursor es) setup.layout.globals + claimed_by setup.layout (worker.asks setup.layout w) e.found)
      stays_or_moves = elim (works_at cited.workers setup.layout w x.sound_it) [
        | inl y ↦ (
            let q : LeavesCursor e.ask = subst LeavesCursor (sym x.asked) y.leaves in
            (q.ends, λ on. let u = ap (λ (i : ℕ). min i setup.layout.globals) (q.cursor (words setup es)) in let none = y.none e.found in omega (arith, u, none))
            )
        | inr is ↦ (
            let ask_is : e.ask ≡ Add Cell.Gcur 1 = x.asked ∙ is in
            let found_is : e.found ≡ cursor es = legal.1.found ∙ ap (λ (q : Ask). words setup es (cell_of q)) ask_is in
            let claimed : claimed_by setup.layout (worker.asks setup.layout w) e.found ≡ cond (ltb (cursor es) setup.layout.globals) 1 0 = ap (λ (q : Ask). claimed_by setup.layout q e.found) is ∙ ap (λ (i : ℕ). cond (ltb i setup.layout.globals) 1 0) found_is in (
              ap (stores_cell Cell.Gen) ask_is,
              λ on.
                  let few = cited.cursor.small es c legal.0 led on in
                  let now : cursor (e ∷ es) ≡ cursor es + 1 = ap (λ (q : Ask). effect (words setup es) q Cell.Gcur) ask_is ∙ omega (arith, few) in
                  let u = ap (λ (i : ℕ). min i setup.layout.globals) now in
                  let moved = moves_on (cursor es) setup.layout.globals in
                  u ∙ moved ∙ ap (λ (i : ℕ). min (cursor es) setup.layout.globals + i) (sym claimed),
            )
            )
      ]

      works_on : Counted (e ∷ es) c
      works_on =
          let g = whole_same stays_or_moves.0 in
          let now = counted_now in
          record {
            once = λ off. let o = b.once off in let none = cited.globals.rests setup.layout w e.found (cited.rests es legal.0 c e.actor w led off x.is) in let sum = cited.globals.parts setup.layout w e.found in omega (arith, o, g, now, none, sum);
            so_far = λ on. let o = b.so_far on in let u = stays_or_moves.1 on in let k = both_now in omega (arith, o, g, u, k);
            least = let o = b.least in omega (arith, o, g, now);
          }

    -- the coordinator's
    module _ (c : Coordinating) (x : seats.LeadsIt setup e es c) where
      before : Counted es c
      before = was c x.is

      abbrev to : Coordinating
      to = coord.goes setup.layout c e.found

      was_at : who es e.actor ≡ Actor.Leads c
      was_at = ap (who es) x.seat ∙ x.is

      now_at : who (e ∷ es) e.actor ≡ Actor.Leads to
      now_at = ap (who (e ∷ es)) x.seat ∙ x.then

      h : held (e ∷ es) ≡ held es
      h = grind (arith, nat_tests)

      k : counted (e ∷ es) ≡ counted es
      k = counted_same (Actor.Leads c) (Actor.Leads to) was_at now_at refl refl refl

      goes_by : CoordinatorGoes setup.layout c.begun (words setup es) c c.stage to
      goes_by = goes_so setup.layout c.begun (words setup es) c (coord.counted c).marks refl c.stage e.found x.busy x.found

      asks_is : stores_cell Cell.Gen e.ask ≡ stores_cell Cell.Gen (coord.asks setup.layout c)
      asks_is = ap (stores_cell Cell.Gen) x.asked

      -- where it is not the end of a cycle's marking
      goes_still : stores_cell Cell.Gen e.ask ≡ false → (leading.Marks to.stage → (counted es + held es ≡ ended es * setup.layout.globals + min (cursor (e ∷ es)) setup.layout.globals)) → Counted (e ∷ es) to
      goes_still none far =
          let g = whole_same none in
          let same = k in
          let held_is = h in
          record {
            once = λ off. elim (marks_or_not c.stage) [
              | inl on ↦ elim (ends_marking setup.layout c e.found on) [ inl still ↦ absurd (off still) | inr stored ↦ absurd (let both : false ≡ true = sym none ∙ asks_is ∙ stored in cc) ]
              | inr off_was ↦ (let o = before.once off_was in omega (arith, o, g, same))
            ];
            so_far = λ on. let o = far on in omega (arith, o, g, same, held_is);
            least = let o = before.least in omega (arith, o, g, same);
          }

      leaving : LeavesCursor (coord.asks setup.layout c) → Counted (e ∷ es) to
      leaving y = goes_still (asks_is ∙ y.ends) (by goes_by) where
        same : cursor (e ∷ es) ≡ cursor es
        same = ap (λ (q : Ask). effect (words setup es) q Cell.Gcur) x.asked ∙ y.cursor (words setup es)

        min_same : min (cursor (e ∷ es)) setup.layout.globals ≡ min (cursor es) setup.layout.globals
        min_same = ap (λ (i : ℕ). min i setup.layout.globals) same

        by : CoordinatorGoes setup.layout c.begun (words setup es) c c.stage to → leading.Marks to.stage → counted es + held es ≡ ended es * setup.layout.globals + min (cursor (e ∷ es)) setup.layout.globals
        by (begins at_first light begun_is checked) on =
            let off : leading.Marks c.stage → ⊥ = beginning_off c.stage at_first in
            let o = before.once off in
            let none = none_held es legal.0 c x.is off in
            let zero = cited.cursor.clear es c legal.0 x.is at_first in
            let is = same in
            omega (arith, o, none, zero, is)
        by (goes_on on_was light begun_is checked) on = let o = before.so_far on_was in let is = min_same in omega (arith, o, is)
        by (leaves off) on = absurd (off on)

      clearing : IsClearing c.stage → Counted (e ∷ es) to
      clearing y = grind arith

      ending : IsEnding c.stage → Counted (e ∷ es) to
      ending y =
          let o = before.so_far (ending_on c.stage y) in
          let off : leading.Marks to.stage → ⊥ = ending_off setup.layout (coord.counted c) c.stage e.found y in
          let none = none_held (e ∷ es) legal to x.then off in
          let past = cited.cursor.passed e es c legal x.is x.seat y in
          let one : ended (e ∷ es) ≡ suc (ended es) = ap (λ (t : Bool). cond t (suc (ended es)) (ended es)) (asks_is ∙ ending_asks setup.layout c c.stage y) in
          let more = ap (λ (i : ℕ). i * setup.layout.globals) one in
          let same = k in
          let held_is = h in
          let now : counted (e ∷ es) ≡ ended (e ∷ es) * setup.layout.globals = omega (arith, o, none, past, more, same, held_is) in
          record { once = λ _. now; so_far = λ on. absurd (off on); least = omega (arith, now) }

      leads_on : Counted (e ∷ es) to
      leads_on = elim (leads_at setup.layout c c.stage) [ inl y ↦ leaving y | inr y ↦ elim y [ inl q ↦ clearing q | inr q ↦ ending q ] ]

    by_lead : (c : Coordinating) → seats.LeadsIt setup e es c → Counts (e ∷ es)
    by_lead c x d led = subst (Counted (e ∷ es)) (let both : Actor.Leads (coord.goes setup.layout c e.found) ≡ Actor.Leads d = sym x.then ∙ led in cc) (leads_on c x)

    by_step : seats.Step setup e es → Counts (e ∷ es)
    by_step (seats.by_processor m x same) = by_processor m x same
    by_step (seats.by_worker w x same) = λ c led. works_on w x c (sym same ∙ led)
    by_step (seats.by_lead c x) = by_lead c x

  counts : (es : List (Entry Op)) → Legal (those setup) es → Counts es
  counts [] legal = first
  counts (e ∷ es) legal = by_step e es legal (counts es legal.0) (seats.step setup e es cited.writes legal (cited.keeps es legal.0))

  parts : (es : List (Entry Op)) → scanned_in setup es ≡ globals_in setup es + objects_in setup es
  parts [] = refl
  parts (e ∷ es) = let rest = parts es in let now = parts_by (who es e.actor) in omega (arith, rest, now) where
    parts_by : (m : Actor) → done_by setup.layout m e.found ≡ global_by m e.found + objects_by setup.layout m e.found
    parts_by (Actor.Marks w) = cited.globals.parts setup.layout w e.found
    parts_by (Actor.Runs m) = refl
    parts_by (Actor.Leads c) = refl

  pub globals_are_counted : (es : List (Entry Op)) (c : Coordinating) → Legal (those setup) es → IsLed setup es c → GlobalsAreCounted setup es c
  globals_are_counted es c legal led =
      let b : Counted es c = counts es legal c led in
      let plain : CountsPlainly (those setup) setup.pacing.room es c = cited.plainly es c legal led in
      record {
        parts = parts es;
        once = b.once;
        so_far = b.so_far;
        least = b.least;
        most = elim (marks_or_not c.stage) [
          | inl on ↦ (let o = b.so_far on in let is = ap (λ (i : ℕ). i * setup.layout.globals) (plain.marks.1 (inl on)) in omega (arith, o, is))
          | inr off ↦ (let o = b.once off in let le = mul-le-mul_right setup.layout.globals plain.begun_then in omega (arith, o, le))
        ];
      }
