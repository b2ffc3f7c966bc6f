-- What holds while a cycle is marked, after every legal list; and what holds behind the coordinator's check.
use Rattle.std.proofs.Common.{◌≡◌, ℕ, ◌<◌, ◌≤◌, Bool, true, false, ltb, refl, sym, ap, subst, ◌∙◌, arith, inl, inr, Some, None, List, [], ◌∷◌}
use Rattle.std.proofs.lemmas.Bool.{ltb-false, ltb-true}
use Rattle.gh_marked.proofs.Vocabulary.{acks_of, Actor, actors_after, Arena, Ask, begins_cycle, Black, buffer_of, Buffered, buffers_of, Cell, ChangesOneCell, checked_lasts, CheckedAt, Colour, CoordinatorGoes, CoordStage, Cycle, effect, EndsClean, Entry, Found, goes_on, goes_so, Hands, holder_in, IsChecked, IsInLimits, IsInMarking, IsLedBy, IsSeated, IsShaded, IsStartOf, KeepsIt, Layout, leaves, Legal, mark_of, mark_words, MarkingEndsClean, MarksToTheEnd, nothing, Op, Pacing, Pending, place_of, Placing, row_bit, RunPhase, seated, setting, Setup, setup_in, Shared, StepKeepsIt, Stopped, Taken, WaitsWithNone, WasMarked, WhatIsFoundIsDone, White, Words}
use Rattle.gh_marks.specs.Ends.{IsDone, IsFoundAtTheEnd}
use Rattle.gh_coord.specs.Handshake as leading
use Rattle.gh_coord.specs.Listing as coord
use Rattle.gh_worker.specs.Listing as worker
use Rattle.gh_worker.specs.MarkFacts as marks
use Rattle.gh_lists.specs.Marking.{words}
use Rattle.gh_lists.specs.Starts.{legal_start, whole}
use Rattle.gh_marked.proofs.CycleMarking.Apart.{stays_clear}
use Rattle.gh_marked.proofs.CycleMarking.Looking.{none_sweeps}
use Rattle.gh_marked.proofs.CycleMarking.Moving as moving
use Rattle.gh_lists.specs.Steps as seats

-- What is cited of steps and of lists.
pub record Cited (arena : Arena) (pacing : Pacing) (may : ℕ → List (Entry Op) → Op → Bool) : Type 0 where
  pub limits : IsInLimits arena.layout
  pub moves : moving.Moves arena pacing may
  pub keeps : (es : List (Entry Op)) → Legal (setting arena pacing may) es → KeepsIt (setting arena pacing may) es
  pub step_keeps : (e : Entry Op) (es : List (Entry Op)) → Legal (setting arena pacing may) (e ∷ es) → StepKeepsIt (setting arena pacing may) e es
  pub one : ChangesOneCell
  pub done : WhatIsFoundIsDone
  pub clean : MarkingEndsClean

module _ (arena : Arena) (pacing : Pacing) (may : ℕ → List (Entry Op) → Op → Bool) (cited : Cited arena pacing may) where
  abbrev n : ℕ
  n = acks_of arena.layout

  abbrev it : Setup
  it = setup_in arena pacing may

  abbrev at : List (Entry Op) → ℕ → Actor
  at = actors_after arena pacing may

  abbrev told : List (Entry Op) → Words
  told = words arena pacing may

  abbrev Led : List (Entry Op) → coord.Coordinating → Type 0
  Led = IsLedBy arena pacing may

  abbrev In : List (Entry Op) → coord.Coordinating → Type 0
  In = IsInMarking arena pacing may

  abbrev Lawful : List (Entry Op) → Type 0
  Lawful = Legal (setting arena pacing may)

  record Holds (es : List (Entry Op)) (c : coord.Coordinating) : Type 0 where
    marking : In es c
    checked : CheckedAt arena.layout c.begun (told es) c.stage

  seat_of : (es : List (Entry Op)) (a : ℕ) (m : Actor) → at es a ≡ m → IsSeated arena.layout a m
  seat_of es a m is = subst (IsSeated arena.layout a) is (seated it es a)

  -- before the first step nothing is marked
  none_at_first : (c : coord.Coordinating) → Led [] c → leading.Marks c.stage → ⊥
  none_at_first c led on = grind arith

  -- Where the coordinator has checked it.
  module _ (es : List (Entry Op)) (legal : Lawful es) (c : coord.Coordinating) (led : Led es c) (i : In es c) (f : Found arena.layout c.begun (told es)) (post : leading.post_at c.stage ≡ Stopped RunPhase.Mark) where
    abbrev z : Cycle
    z = i.cycle

    abbrev s : Shared
    s = i.shared

    kept : KeepsIt (setting arena pacing may) es
    kept = cited.keeps es legal

    -- nobody has anything in hand
    empty_handed : (a : ℕ) → Hands a s nothing
    empty_handed a = go (at es a) refl where
      among : (b : Bool) → ltb a n ≡ b → (a < n → Hands a s nothing) → Hands a s nothing
      among true x f = f (ltb-true _ _ x)
      among false x f = i.coordinator a (ltb-false _ _ x)

      worker_has : (w : worker.Working) → WaitsWithNone (leading.lead_of c).stops w → marks.Facts z a s w → Hands a s nothing
      worker_has w waits facts = (subst (marks.StageFacts z a s w.held) waits.is_at facts.stage_is).0

      go : (m : Actor) → at es a ≡ m → Hands a s nothing
      go (Actor.Runs m) is =
          let lt : a < arena.layout.procs = seat_of es a (Actor.Runs m) is in
          (cited.moves.known.processors.waits z a s m (leading.lead_of c).stops (kept.processors_wait c RunPhase.Mark a m led post (omega (arith, lt)) is) (i.processors a m lt is)).nothing_in_hand
      go (Actor.Marks w) is =
          let lt : a < n = (seat_of es a (Actor.Marks w) is).1 in
          worker_has w (kept.workers_wait c RunPhase.Mark a w led post lt is) (i.workers a w lt is)
      go (Actor.Leads x) is = i.coordinator a (seat_of es a (Actor.Leads x) is)

    empty : (b : ℕ) → holder_in (told es (Cell.Buffer b)) ≡ 0 → (buffer_of (told es (Cell.Buffer b))).count ≡ 0
    empty b free = go (ltb b (buffers_of arena.layout)) refl where
      go : (x : Bool) → ltb b (buffers_of arena.layout) ≡ x → (buffer_of (told es (Cell.Buffer b))).count ≡ 0
      go true x = f.empty b (ltb-true _ _ x) free
      go false x = ap (λ (v : ℕ). (buffer_of v).count) (stays_clear (setting arena pacing may) cited.one b (ltb-false _ _ x) refl es legal)

    is_found : IsFoundAtTheEnd z s
    is_found = record {
      seats = empty_handed;
      empty = λ b. subst (λ (w : Words). holder_in (w (Cell.Buffer b)) ≡ 0 → (buffer_of (w (Cell.Buffer b))).count ≡ 0) (sym i.is.words_are) (empty b);
      cursor = subst (λ (x : Arena). x.layout.globals ≤ s.words Cell.Gcur) (sym i.is.arena_is) (subst (λ (w : Words). arena.layout.globals ≤ w Cell.Gcur) (sym i.is.words_are) f.cursor);
      stacks = λ g m. subst (λ (w : Words). z.number ≤ w (Cell.Scanned g)) (sym i.is.words_are) (subst (λ (x : ℕ). x ≤ told es (Cell.Scanned g)) (sym i.is.number_is) (f.stacks g (subst (λ (x : Arena). g < x.layout.goroutines) i.is.arena_is m)));
    }

    is_done : IsDone z s
    is_done = grind (arith, is_found)

    -- what is not of the cycle is not shaded, and nobody is placing
    dead : (o : ℕ) → s.since o ≡ false → row_bit (mark_words s.words) o ≡ 0
    dead o other_than = go (s.colour o) refl where
      clash : {A : Type 0} (x : Colour) → s.colour o ≡ x → IsShaded x → A
      clash x e y = absurd (let yes : s.since o ≡ true = i.good.objects.shaded o (rw e y) in let both : true ≡ false = sym yes ∙ other_than in cc)

      go : (x : Colour) → s.colour o ≡ x → row_bit (mark_words s.words) o ≡ 0
      go White e = i.good.marks o ∙ ap mark_of e
      go (Placing b) e = absurd (let none : None ≡ Some o = ((empty_handed b).has.is_reserved o).1 e in cc)
      go (Pending b) e = clash (Pending b) e tt
      go (Buffered b j) e = clash (Buffered b j) e tt
      go (Taken b) e = clash (Taken b) e tt
      go Black e = clash Black e tt

    ends : EndsClean z s
    ends = record { done = is_done; reached = cited.clean z s i.good is_done; dead = dead }

  -- behind the check all is found, in a stopped world
  behind : (l : Layout) (number : ℕ) (w : Words) (p : CoordStage) → leading.Marks p → IsChecked p → CheckedAt l number w p → Found l number w × (leading.post_at p ≡ Stopped RunPhase.Mark)
  behind l number w p on y h = grind arith

  to_the_end : (es : List (Entry Op)) (c : coord.Coordinating) → Lawful es → Led es c → leading.Marks c.stage → Holds es c → MarksToTheEnd arena pacing may es c
  to_the_end es c legal led on h = record {
    marking = h.marking;
    ends = λ x. let y = behind arena.layout c.begun (told es) c.stage on x h.checked in ends es legal c led h.marking y.0 y.1;
  }

  -- The list as it was.
  abbrev HeldBefore : List (Entry Op) → Type 0
  HeldBefore es = (start : List (Entry Op)) (c : coord.Coordinating) → IsStartOf start es → Led start c → leading.Marks c.stage → Holds start c

  was_marked : (es : List (Entry Op)) → Lawful es → HeldBefore es → WasMarked arena pacing may es
  was_marked es legal before start c of led on = to_the_end start c (legal_start (setting arena pacing may) start es of legal) led on (before start c of led on)

  module _ (e : Entry Op) (es : List (Entry Op)) (legal : Lawful (e ∷ es)) (before : HeldBefore es) (c : coord.Coordinating) (led : Led (e ∷ es) c) (on : leading.Marks c.stage) where
    -- a step of a processor or a worker: the coordinator stays as it is
    module _ (stays : at (e ∷ es) n ≡ at es n) (among : e.actor < n) where
      was : Led es c
      was = sym stays ∙ led

      holds : Holds es c
      holds = before es c (whole es) was on

      -- where the world is stopped it changes no word
      still : (phase : RunPhase) → leading.post_at c.stage ≡ Stopped phase → told (e ∷ es) ≡ told es
      still phase post = ap (effect (told es)) ((cited.step_keeps e es legal).still (leading.lead_of c) phase (ap place_of was) post among).0

      marks_on : moving.MarksOn arena pacing may cited.moves e es c c
      marks_on = record { legal = legal; led = was; led_then = led; on_then = on; begun_is = refl; i = holds.marking }

      by_others : In (e ∷ es) c → Holds (e ∷ es) c
      by_others marking = record { marking = marking; checked = checked_lasts arena.layout c.begun (told es) (told (e ∷ es)) c.stage on still holds.checked }

    -- a step of the coordinator
    module _ (b : coord.Coordinating) (x : seats.LeadsIt it e es b) (then : c ≡ coord.goes arena.layout b e.found) where
      goes_by : CoordinatorGoes arena.layout b.begun (told es) b b.stage c
      goes_by = subst (λ (y : coord.Coordinating). CoordinatorGoes arena.layout b.begun (told es) b b.stage y) (sym then) (goes_so arena.layout b.begun (told es) b (coord.counted b).marks refl b.stage e.found x.busy x.found)

      checked_then : c.begun ≡ b.begun → CheckedAt arena.layout b.begun (effect (told es) (coord.asks arena.layout b)) c.stage → CheckedAt arena.layout c.begun (told (e ∷ es)) c.stage
      checked_then same y = subst (λ (k : ℕ). CheckedAt arena.layout k (told (e ∷ es)) c.stage) (sym same) (subst (λ (q : Ask). CheckedAt arena.layout b.begun (effect (told es) q) c.stage) (sym x.asked) y)

      by_lead : CoordinatorGoes arena.layout b.begun (told es) b b.stage c → Holds (e ∷ es) c
      by_lead (begins_cycle first quiet same y) = record {
        marking = moving.by_coordinator arena pacing may cited.moves e es b c (record { legal = legal; led = x.is; led_then = led; on_then = on; begun_is = same; i = moving.begins arena pacing may cited.moves es b legal.0 x.is first (was_marked es legal.0 before) (cited.keeps es legal.0) }) x quiet;
        checked = checked_then same y;
      }
      by_lead (goes_on on_was quiet same y) = record {
        marking = moving.by_coordinator arena pacing may cited.moves e es b c (record { legal = legal; led = x.is; led_then = led; on_then = on; begun_is = same; i = (before es b (whole es) x.is on_was).marking }) x quiet;
        checked = checked_then same (y (before es b (whole es) x.is on_was).checked);
      }
      by_lead (leaves off) = absurd (off on)

    by_step : seats.Step it e es → Holds (e ∷ es) c
    by_step (seats.by_processor m x stays) =
        let among : e.actor < n = let lt = x.seat in omega (arith, lt) in
        by_others stays among (moving.by_processor arena pacing may cited.moves e es c c (marks_on stays among) m on x)
    by_step (seats.by_worker w x stays) =
        let none = none_sweeps it cited.moves.known.read cited.moves.known.writes cited.moves.known.places cited.keeps es c legal.0 (was stays x.seat) on e.actor w x.seat x.is in
        by_others stays x.seat (moving.by_worker arena pacing may cited.moves e es c c (marks_on stays x.seat) w none x)
    by_step (seats.by_lead b x) =
        let then : c ≡ coord.goes arena.layout b e.found = let both : Actor.Leads c ≡ Actor.Leads (coord.goes arena.layout b e.found) = sym led ∙ x.then in cc in
        by_lead b x then (goes_by b x then)

    follows : Holds (e ∷ es) c
    follows = by_step (seats.step it e es cited.moves.known.writes legal (cited.keeps es legal.0))

  held : (es : List (Entry Op)) → Lawful es → HeldBefore es
  held [] legal start c of led on = absurd (none_at_first c (subst (λ (x : List (Entry Op)). Led x c) of led) on)
  held (e ∷ es) legal start c (inl of) led on =
      subst (λ (x : List (Entry Op)). Holds x c) (sym of) (follows e es legal (held es legal.0) c (subst (λ (x : List (Entry Op)). Led x c) of led) on)
  held (e ∷ es) legal start c (inr of) led on = held es legal.0 start c of led on

  pub marks_to_the_end : (es : List (Entry Op)) (c : coord.Coordinating) → Lawful es → Led es c → leading.Marks c.stage → MarksToTheEnd arena pacing may es c
  marks_to_the_end es c legal led on = was_marked es legal (held es legal) es c (whole es) led on
