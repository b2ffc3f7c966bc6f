-- The coordinator sweeps all spans: over lists, what holds behind each of its steps. And a step of it in a stopped world, which leaves what is known of the heap.
use Rattle.std.proofs.Common.{◌≡◌, ◌⊎◌, ℕ, ◌<◌, ◌≤◌, ◌==◌, true, false, refl, sym, ap, subst, ◌∙◌, arith, List, ◌∷◌, ◌++◌, Some, None}
use Rattle.gh_holds.proofs.Vocabulary.{acks_of, actors_after, ActorSound, Answer, answers_stay, Arena, arena, Ask, by, Cell, cell_of, Coordinating, CoordStage, effect, END, ended_in, Entry, ever_stays, given_stay, Heap, HoldsAt, IsAsItShould, IsHeapOf, IsInSweep, IsSweeping, Layout, Legal, ListsKnown, Load, MarksNothing, nat_tests, NobodyMarks, NotAcks, on_from, Op, option_to_list, own_stay, page_at, PassedBefore, Processor, processor_at, Quiet, Right, RunPhase, Setup, State, state_stays, Stopped, Sweep, sweep_of, SweepAllStage, SweepingAll, those, view, Walks, Words, words}
use Rattle.gh_coord.specs.Handshake as leading
use Rattle.gh_coord.specs.Listing as coord
use Rattle.gh_coord.specs.SweepingAll as over
use Rattle.gh_state.specs.Moves as state
use Rattle.gh_sweep.specs.Listing as sweep
use Rattle.gh_holds.proofs.AllActors.Aside as aside_of
use Rattle.gh_holds.proofs.AllActors.Aside.{beside_of, IsBeside, IsOfSpans, keeps_buffers, Lands, spans_rows, TellsNothing}
use Rattle.gh_holds.proofs.AllActors.LeadingAside.{goes_on, IsBehind}
use Rattle.gh_holds.proofs.AllActors.LeadingSeat.{asked_at, busy, ByLead, from, parked, sweeps_before, sweeps_then}
use Rattle.gh_holds.proofs.AllActors.LeadingSweep.{awaited, loaded, stepped}
use Rattle.gh_holds.proofs.AllActors.SinceEnd.{quiet_keeps_end, sweep_keeps_end}
use Rattle.gh_marked.proofs.OneStep.Sweepers as sweepers

-- the heap with other words
abbrev pub with_words : Heap → Words → Heap
with_words h words = record h { words = words }

module _ (setup : Setup) (lists : ListsKnown setup) where
  abbrev z : Arena
  z = arena setup

  module _ (e : Entry Op) (es : List (Entry Op)) (legal : Legal (those setup) (e ∷ es)) (ge : setup.layout.procs ≤ e.actor) where
    pub apart : (a : ℕ) → a < setup.layout.procs → (e.actor == a) ≡ false
    apart a lt = grind arith

  -- A stopped world, and a step of the coordinator on words of spans and counts.
  module _ (e : Entry Op) (es : List (Entry Op)) (by_it : ByLead setup e es) (post : leading.post_at by_it.lead.stage ≡ Stopped RunPhase.Mark) (h : Heap) (of : IsHeapOf setup es h) (w : Words) (words_are : w ≡ effect h.words e.ask) (only : IsOfSpans e.ask) where
    ge : setup.layout.procs ≤ e.actor
    ge = from setup lists e es by_it

    abbrev then : Heap
    then = with_words h w

    pub scanned : (g : ℕ) → w (Cell.Scanned g) ≡ h.words (Cell.Scanned g)
    scanned g = ap (λ (x : Words). x (Cell.Scanned g)) words_are ∙ lists.known.footprints.leaves spans_rows e.ask h.words (Cell.Scanned g) only refl

    pub buffer : (b : ℕ) → w (Cell.Buffer b) ≡ h.words (Cell.Buffer b)
    buffer b = ap (λ (x : Words). x (Cell.Buffer b)) words_are ∙ lists.known.footprints.leaves spans_rows e.ask h.words (Cell.Buffer b) only refl

    -- nobody marks still
    pub nobody_on : (cycle later : ℕ) → later ≡ cycle → NobodyMarks setup es cycle h.words → NobodyMarks setup (e ∷ es) later w
    nobody_on cycle later same n = subst (λ (k : ℕ). NobodyMarks setup (e ∷ es) k w) (sym same) (record {
      buffers = λ b. buffer b ∙ n.buffers b;
      stacks = λ g. subst (λ (i : ℕ). (i < cycle) ⊎ (i ≡ END)) (sym (scanned g)) (n.stacks g);
      processors = λ a lt. subst MarksNothing (sym (state_stays setup e es a (apart e es by_it.legal ge a lt))) (n.processors a lt);
    })

    right : (a : ℕ) → Right a (view h) false (λ p. false) None → Right a (view then) false (λ p. false) None
    right a r = record { locked = r.locked; holds = r.holds; laying = r.laying; freeing = r.freeing }

    module _ (a : ℕ) (lt : a < setup.layout.procs) where
      m : Processor
      m = processor_at setup es a

      it : IsAsItShould setup es h a (processor_at setup es a)
      it = of.processors a lt

      aside : (e.actor == a) ≡ false
      aside = grind arith

      own_same : (g : ℕ) → ended_in (by a (e ∷ es)) g ≡ ended_in (by a es) g
      own_same g = ap (λ (ys : List (Entry Op)). ended_in ys g) (own_stay setup e es a aside)

      same : IsAsItShould setup (e ∷ es) then a (processor_at setup es a)
      same = record {
        sound = it.sound;
        pending = it.pending;
        fine = lists.known.runs.stopped z a (view h) (view then) (processor_at setup es a) it.pending _ (parked setup lists es by_it.legal.0 by_it.lead by_it.led RunPhase.Mark post a lt) (record { locked = refl; holds = λ p. refl; laying = refl; freeing = refl; place = refl; ever = refl }) it.fine;
        answers = answers_stay setup e es a aside ∙ (it.answers ∙ ap (λ (y : List Answer). option_to_list it.pending ++ y) (sym (given_stay setup e es a aside)));
        notes = λ g its. it.notes g its ∙ sym (scanned g);
        ended = λ g its y. own_same g ∙ it.ended g its y;
        ends = λ g its y. it.ends g its (sym (own_same g) ∙ y);
        left = λ last g its. it.left last g its;
      }

      pub stands : IsAsItShould setup (e ∷ es) then a (processor_at setup (e ∷ es) a)
      stands = grind (arith, aside, same)

    pub heap_on : IsHeapOf setup (e ∷ es) then
    heap_on = record {
      words_are = words_are ∙ ap (λ (x : Words). effect x e.ask) of.words_are;
      ever_is = of.ever_is ∙ sym (ever_stays setup lists.known.points e es by_it.legal ge);
      bounded = of.bounded;
      processors = stands;
      others = λ a le. right a (of.others a le);
      stacks = λ g. ((λ x. (of.stacks g).0 (sym (scanned g) ∙ x)), (λ x. scanned g ∙ (of.stacks g).1 x));
      globals = λ i le. (ap (λ (x : Words). x (Cell.Global i)) words_are ∙ lists.known.footprints.leaves spans_rows e.ask h.words (Cell.Global i) only refl) ∙ of.globals i le;
    }

  -- What holds while it is swept, as what is behind its page and the walk.

  abbrev pub Behind : List (Entry Op) → Coordinating → ℕ → Type 0
  Behind es c page = IsBehind setup lists es c page

  abbrev pub behind_of : (es : List (Entry Op)) (c : Coordinating) (w : SweepingAll) (s : IsSweeping setup es c w) → Behind es c (page_at s.has.state w.stage)
  behind_of es c w s = record { off = record { has = s.has; over = s.over; passed = s.walks.passed; nobody = s.nobody }; behind = s.behind }

  abbrev pub sweeping_of : (es : List (Entry Op)) (c : Coordinating) (w : SweepingAll) (page : ℕ) (b : Behind es c page) → Walks b.off.has.state w → IsSweeping setup es c w
  sweeping_of es c w page b walks = record { has = b.off.has; over = b.off.over; walks = walks; behind = b.behind; nobody = b.off.nobody }

  -- The entry.
  module _ (e : Entry Op) (es : List (Entry Op)) (by_it : ByLead setup e es) (w : SweepingAll) (is : by_it.lead.stage ≡ Sweep w) (s : IsSweeping setup es by_it.lead w) where
    abbrev u : Coordinating
    u = coord.counted by_it.lead

    abbrev To : Coordinating → Type 0
    To d = HoldsAt setup (e ∷ es) d d.stage

    abbrev now : State
    now = s.has.state

    abbrev page : ℕ
    page = page_at now w.stage

    abbrev before : Behind es by_it.lead page
    before = behind_of es by_it.lead w s

    abbrev seat_from : setup.layout.procs ≤ e.actor
    seat_from = from setup lists e es by_it

    other : NotAcks by_it.lead.stage
    other = subst NotAcks (sym is) tt

    abbrev Step : Type 0
    Step = Lands setup lists.known e es by_it.legal seat_from s.has

    abbrev Still : SweepingAll → Type 0
    Still x = (d : Coordinating) → d.begun ≡ by_it.lead.begun → IsSweeping setup (e ∷ es) d x

    asks_so : (p : SweepAllStage) → w.stage ≡ p → e.ask ≡ over.asks_at setup.layout p
    asks_so p x = asked_at setup lists e es by_it (Sweep w) is ∙ ap (over.asks_at setup.layout) x

    found_so : (p : SweepAllStage) → w.stage ≡ p → e.found ≡ now.heap.words (cell_of (over.asks_at setup.layout p))
    found_so p x =
        let here : e.found ≡ words setup es (cell_of e.ask) = by_it.legal.1.found in
        (here ∙ ap (λ (y : Words). y (cell_of e.ask)) (sym s.has.of_list.words_are)) ∙ ap (λ (q : Ask). now.heap.words (cell_of q)) (asks_so p x)

    -- the sweep that it runs
    swept_before : (p : SweepAllStage) → w.stage ≡ p → sweep_of (actors_after z setup.pacing setup.may es e.actor) ≡ over.sweep_at p
    swept_before p x = sweeps_before setup lists e es by_it (Sweep w) is ∙ ap over.sweep_at x

    swept_in : (p : SweepAllStage) → w.stage ≡ p → coord.sweep_in by_it.lead ≡ over.sweep_at p
    swept_in p x = ap coord.sweep_at is ∙ ap over.sweep_at x

    swept_then : sweep_of (actors_after z setup.pacing setup.may (e ∷ es) e.actor) ≡ coord.sweep_in (coord.goes setup.layout by_it.lead e.found)
    swept_then = sweeps_then setup lists e es by_it by_it.lead.stage refl

    sound : leading.Sound by_it.lead
    sound = subst (ActorSound setup.layout) by_it.led ((lists.keeps es by_it.legal.0).shakes.all_sound (acks_of setup.layout) (omega arith))

    here : setup.layout ≡ now.end.layout
    here = sym s.has.good.layout

    generation : by_it.lead.generation ≡ now.heap.words Cell.Gen
    generation =
        let own : w.generation ≡ by_it.lead.generation = subst (leading.SoundAt by_it.lead) is sound.1 in
        sym own ∙ (s.walks.generation_is ∙ sym s.has.good.sweep.generation)

    -- A load: the sweep of a span may begin with it.
    module _ (at : ℕ) (asks : e.ask ≡ Load (Cell.Page at)) (none : sweep_of (actors_after z setup.pacing setup.may es e.actor) ≡ None) (runs_none : coord.sweep_in by_it.lead ≡ None) where
      tells : TellsNothing e.ask
      tells = subst TellsNothing (sym asks) refl

      abbrev beside : IsBeside e.ask
      beside = beside_of lists.known.footprints e.ask tells

      abbrev loaded_state : State
      loaded_state = aside_of.quiet_state setup lists.known e es by_it.legal seat_from s.has none beside (λ over. tells)

      same_words : (x : _) → loaded_state.heap.words x ≡ now.heap.words x
      same_words x = ap (λ (q : Ask). effect now.heap.words q x) asks

      begins_then : IsInSweep e.actor loaded_state (sweep_of (actors_after z setup.pacing setup.may (e ∷ es) e.actor))
      begins_then = sweepers.begins_or_rests lists.known z e.actor loaded_state
          (aside_of.quiet_good setup lists.known e es by_it.legal seat_from s.has none beside (λ over. tells))
          (aside_of.quiet_rests setup lists.known e es by_it.legal seat_from s.has none beside (λ over. tells))
          by_it.lead.generation (coord.asks setup.layout by_it.lead) e.found (sweep_of (actors_after z setup.pacing setup.may (e ∷ es) e.actor))
          (generation ∙ sym (same_words Cell.Gen))
          (by_it.legal.1.found ∙ (ap (λ (y : Words). y (cell_of e.ask)) (sym s.has.of_list.words_are) ∙ (sym (same_words (cell_of e.ask)) ∙ ap (λ (q : Ask). loaded_state.heap.words (cell_of q)) (asked_at setup lists e es by_it by_it.lead.stage refl))))
          (λ m same. lists.known.coordinator_sweeps.begins setup.layout by_it.lead e.found m sound runs_none (sym swept_then ∙ same))

      abbrev load : Step
      load = aside_of.by_quiet setup lists.known e es by_it.legal seat_from s.has none beside (λ over. tells) begins_then

      abbrev loads_on : (d : Coordinating) → d.begun ≡ by_it.lead.begun → Behind (e ∷ es) d page
      loads_on d same = goes_on setup lists e es by_it other page before load (keeps_buffers lists.known.footprints e.ask tells now.heap.words) (quiet_keeps_end z e.actor now e.ask) d same

      -- the walk behind it
      walks_then : (x : SweepingAll) → Walks now x → Walks loaded_state x
      walks_then x y = subst (λ (q : Ask). Walks (state.moved z e.actor now (state.Deed (Quiet q))) x) (sym asks) (record { generation_is = y.generation_is; passed = y.passed; stage_is = y.stage_is })

      loads_still : (x : SweepingAll) → Walks now x → Still x
      loads_still x y d same = record { has = aside_of.has_then setup lists.known e es by_it.legal seat_from s.has load; over = (loads_on d same).off.over; walks = walks_then x y; behind = (loads_on d same).behind; nobody = (loads_on d same).off.nobody }

    -- A step of the sweep that it runs.
    module _ (at : ℕ) (m : sweep.Sweeping) (x : w.stage ≡ SweepAllStage.Sweep at m) where
      asks_m : e.ask ≡ sweep.asks setup.layout m
      asks_m = asks_so (SweepAllStage.Sweep at m) x

      runs_m : IsInSweep e.actor now (Some m)
      runs_m = subst (IsInSweep e.actor now) (swept_before (SweepAllStage.Sweep at m) x) (s.has.sweeps e.actor by_it.legal.1.actor)

      then_m : sweep_of (actors_after z setup.pacing setup.may (e ∷ es) e.actor) ≡ on_from m e.found
      then_m = grind (arith, nat_tests)

      abbrev step : Step
      step = aside_of.by_sweep setup lists.known e es by_it.legal seat_from s.has m (swept_before (SweepAllStage.Sweep at m) x) asks_m then_m

      abbrev sweeps_on : (d : Coordinating) → d.begun ≡ by_it.lead.begun → Behind (e ∷ es) d page
      sweeps_on d same = goes_on setup lists e es by_it other page before step
          (aside_of.sweep_buffers setup lists.known e es by_it.legal seat_from s.has m (swept_before (SweepAllStage.Sweep at m) x) asks_m then_m)
          (sweep_keeps_end z e.actor now _ step.allowed.of_sweep) d same

      walks_m : Walks (state.moved z e.actor now step.move) (over.goes_at setup.layout w (SweepAllStage.Sweep at m) e.found)
      walks_m = stepped z lists.known setup.layout w now s.has.good s.walks here e.actor at m e.found (record { is = x; runs = runs_m.0; busy = runs_m.1; found_is = found_so (SweepAllStage.Sweep at m) x; may = step.allowed })

      sweeps_still : Still (over.goes_at setup.layout w (SweepAllStage.Sweep at m) e.found)
      sweeps_still d same = record { has = aside_of.has_then setup lists.known e es by_it.legal seat_from s.has step; over = (sweeps_on d same).off.over; walks = walks_m; behind = (sweeps_on d same).behind; nobody = (sweeps_on d same).off.nobody }

    goes_so : (p : SweepAllStage) → w.stage ≡ p → over.is_busy p ≡ true → Still (over.goes_at setup.layout w p e.found)
    goes_so (SweepAllStage.LoadPage at) x b = loads_still at (asks_so (SweepAllStage.LoadPage at) x) (swept_before (SweepAllStage.LoadPage at) x) (swept_in (SweepAllStage.LoadPage at) x) _ (loaded z lists.known setup.layout w now s.has.good s.walks here at e.found (found_so (SweepAllStage.LoadPage at) x) x)
    goes_so (SweepAllStage.Sweep at m) x b = sweeps_still at m x
    goes_so (SweepAllStage.Await at) x b = loads_still at (asks_so (SweepAllStage.Await at) x) (swept_before (SweepAllStage.Await at) x) (swept_in (SweepAllStage.Await at) x) _ (awaited z lists.known setup.layout w now s.has.good s.walks here at e.found (found_so (SweepAllStage.Await at) x) x)
    goes_so SweepAllStage.Ended x b = absurd cc

    abbrev After : SweepingAll → SweepAllStage → Coordinating
    After x p = coord.after_sweep (coord.at_stage u (Sweep x)) (over.given_at p)

    -- all pages are passed: it goes on to count
    counts : (x : SweepingAll) → x.stage ≡ SweepAllStage.Ended → Still x → To (After x SweepAllStage.Ended)
    counts x at still =
        let k : IsSweeping setup (e ∷ es) by_it.lead x = still by_it.lead refl in
        let passed : PassedBefore k.has.state k.has.state.end.layout.pages = subst (λ (q : SweepAllStage). PassedBefore k.has.state (page_at k.has.state q)) at k.walks.passed in
        record {
          quiet = record { has = k.has; over = k.over; passed = subst (PassedBefore k.has.state) (ap (λ (y : Layout). y.pages) k.has.good.layout) passed; nobody = k.nobody };
          behind = k.behind;
          read = tt;
        }

    finish : (x : SweepingAll) (p : SweepAllStage) → x.stage ≡ p → Still x → To (After x p)
    finish x SweepAllStage.Ended at still = counts x at still
    finish x _ at still = still _ refl

    busy_so : over.is_busy w.stage ≡ true
    busy_so = subst (λ (p : CoordStage). coord.is_busy p ≡ true) is (busy setup lists e es by_it)

    pub sweeps : To (coord.goes_at setup.layout u (Sweep w) e.found)
    sweeps = finish (over.goes setup.layout w e.found) (over.goes setup.layout w e.found).stage refl (goes_so w.stage refl busy_so)
