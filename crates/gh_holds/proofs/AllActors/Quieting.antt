-- One entry more of a processor while no cycle is under way: what is swept stays so, and nobody marks.
use Rattle.std.proofs.Common.{◌≡◌, ◌≢◌, ℕ, ◌<◌, ◌==◌, ◌⊎◌, inl, inr, Bool, true, false, cond, refl, sym, ap, subst, ◌∙◌, Some, arith, List, ◌∷◌}
use Rattle.gh_holds.proofs.Vocabulary.{Arena, arena, Ask, asks, Cell, cell_of, Coordinating, CoordStage, Count, Done, END, Entry, FindsNoMarking, Given, Heap, is_busy_at, is_stop, IsLed, IsOff, IsSound, KeepsIt, last_of, last_phase, Lead, Leads, Legal, ListsKnown, LoadAck, LoadWant, MarksNothing, nat_tests, Op, place_of, Processor, processor_at, processor_kind, run_word, RunPhase, setup_for, started, state_stays, Stop, stop_word, StopStage, Sweep, Task, Tell, TellsStacks, TellStage, those, Wanted, Words}
use Rattle.gh_coord.specs.Handshake as leading
use Rattle.gh_marked.specs.Endings.{is_its_end}
use Rattle.gh_marked.proofs.OneStep.Landing as landing
use Rattle.gh_marked.proofs.OneStep.OwnSide as own_side
use Rattle.gh_marked.proofs.OneStep.Ranging.{begins_so}
use Rattle.gh_marked.specs.StackWords as stacks
use Rattle.gh_marked.proofs.OneStep.Stepping as stepping
use Rattle.gh_marked.proofs.OneStep.Sweepers as sweepers
use Rattle.gh_lists.specs.Phase.{is_last}

-- no cycle is under way, and the world may run
abbrev pub IsCalmStage : CoordStage → Type 0
IsCalmStage (LoadAck i) = Unit {0}
IsCalmStage LoadWant = Unit {0}
IsCalmStage (Stop st) = Unit {0}
IsCalmStage (Sweep w) = Unit {0}
IsCalmStage (Count x) = Unit {0}
IsCalmStage (Tell t) = Unit {0}
IsCalmStage Done = Unit {0}
IsCalmStage _ = ⊥

stop_off : (p : StopStage) → last_of (leading.stop_post RunPhase.Off p) ≡ RunPhase.Off
stop_off p = grind arith

told_off : (last : Bool) → leading.told_phase last ≢ RunPhase.Mark
told_off true is = cc
told_off false is = cc

tell_off : (last : Bool) (p : TellStage) → last_of (leading.tell_post last p) ≢ RunPhase.Mark
tell_off last TellStage.Ended is = told_off last is
tell_off last _ is = absurd cc

not_marking : (p : CoordStage) → IsCalmStage p → last_of (leading.post_at p) ≢ RunPhase.Mark
not_marking (LoadAck i) calm is = absurd (cc)
not_marking LoadWant calm is = absurd (cc)
not_marking (Stop st) calm is = absurd (let no : RunPhase.Off ≡ RunPhase.Mark = sym (stop_off st.stage) ∙ is in cc)
not_marking (Sweep w) calm is = absurd (cc)
not_marking (Count x) calm is = absurd (cc)
not_marking (Tell t) calm is = tell_off t.is_last t.stage is
not_marking Done calm is = absurd (cc)
not_marking _ calm is = calm

same : (a b : ℕ) → (a == b) ≡ true → a ≡ b
same a b x = grind (arith, nat_tests)

module _ (given : Given) (wanted : Wanted) (lists : ListsKnown (setup_for given))
    (e : Entry Op) (es : List (Entry Op)) (legal : Legal (those (setup_for given)) (e ∷ es)) (lt : e.actor < given.layout.procs) (c : Coordinating) (led : IsLed (setup_for given) es c) (calm_stage : IsCalmStage c.stage)
    (cycle page : ℕ) (q : IsOff (setup_for given) es cycle page) where
  abbrev z : Arena
  z = arena (setup_for given)

  abbrev a : ℕ
  a = e.actor

  abbrev m : Processor
  m = processor_at (setup_for given) es a

  abbrev calm : MarksNothing m
  calm = q.nobody.processors a lt

  sound : IsSound given.layout m
  sound = (q.has.of_list.processors a lt).sound

  idle : (o : Op) → e.begun ≡ Some o → is_busy_at m.task ≡ false
  idle o x = (begins_so given lists.known e es legal lt o x).idle

  pub tells : TellsStacks given.layout q.has.state.heap.words (started (processor_kind given.shapes given.layout) e.begun m)
  tells = stacks.calm_tells given.shapes given.layout lists.known e.begun m sound idle calm q.has.state.heap.words

  pub calm_now : MarksNothing (started (processor_kind given.shapes given.layout) e.begun m)
  calm_now = stacks.calm_now given.shapes given.layout lists.known e.begun m sound idle calm

  abbrev pub land : landing.Lands given lists.good lists.limits lists.known wanted e es legal lt q.has
  land = landing.lands given lists.good lists.limits lists.known wanted e es legal lt q.has (λ over. calm_now)

  abbrev now : Processor
  now = own_side.now given lists.good lists.limits lists.known wanted e es legal lt q.has land tells

  abbrev h : Heap
  h = q.has.state.heap

  abbrev t : Heap
  t = own_side.t given lists.good lists.limits lists.known wanted e es legal lt q.has land tells

  abbrev found : ℕ
  found = h.words (cell_of (asks given.layout now))

  abbrev then : Processor
  then = own_side.then given lists.good lists.limits lists.known wanted e es legal lt q.has land tells

  -- It finds no marking.

  keeps : KeepsIt (those (setup_for given)) es
  keeps = lists.keeps es legal.0

  lead_is : keeps.shakes.lead ≡ leading.lead_of c
  lead_is = let both : Leads keeps.shakes.lead ≡ Leads (leading.lead_of c) = sym keeps.shakes.leads ∙ ap place_of led in cc

  last_is : last_phase es ≢ RunPhase.Mark
  last_is x = not_marking c.stage calm_stage (sym (keeps.shakes.led.last_is ∙ ap (λ (y : Lead). last_of y.post) lead_is) ∙ x)

  finds : FindsNoMarking (asks given.layout now) found
  finds loads marks = last_is (is_last wanted.read.phase (is_stop keeps.shakes.lead.post) keeps.shakes.lead.stops (last_phase es) RunPhase.Mark found word marks) where
    word : found ≡ cond (is_stop keeps.shakes.lead.post) (stop_word keeps.shakes.lead.stops) (run_word keeps.shakes.lead.stops (last_phase es))
    word = ap (λ (x : Ask). h.words (cell_of x)) loads ∙ (ap (λ (w : Words). w Cell.Phase) q.has.of_list.words_are ∙ keeps.shakes.led.phase_is)

  calm_then : MarksNothing then
  calm_then = lists.known.calm.lasts given.layout given.shapes now found (own_side.sound_now given lists.good lists.limits lists.known wanted e es legal lt q.has land tells).place (own_side.busy given lists.good lists.limits lists.known wanted e es legal lt q.has land tells) calm_now finds

  pub processors : (b : ℕ) → b < given.layout.procs → MarksNothing (processor_at (setup_for given) (e ∷ es) b)
  processors b less = go (a == b) refl where
    go : (x : Bool) → (a == b) ≡ x → MarksNothing (processor_at (setup_for given) (e ∷ es) b)
    go true x = subst (λ (n : ℕ). MarksNothing (processor_at (setup_for given) (e ∷ es) n)) (same a b x) (subst MarksNothing (sym (own_side.then_is given lists.good lists.limits lists.known wanted e es legal lt q.has land tells)) calm_then)
    go false x = subst MarksNothing (sym (state_stays (setup_for given) e es b x)) (q.nobody.processors b less)

  -- Stacks and buffers.

  word_stays : (g : ℕ) → (now.task ≡ Task.End g → ⊥) → t.words (Cell.Scanned g) ≡ h.words (Cell.Scanned g)
  word_stays g other = ap (λ (w : Words). w (Cell.Scanned g)) land.words_are ∙ stacks.calm_word given.shapes given.layout lists.known e.begun m sound idle calm h.words g other

  pub old : (g : ℕ) → (t.words (Cell.Scanned g) < cycle) ⊎ (t.words (Cell.Scanned g) ≡ END)
  old g = elim (is_its_end now.task g) [
    | inl x ↦ inr (own_side.word_ends given lists.good lists.limits lists.known wanted e es legal lt q.has land tells g x)
    | inr other ↦ subst (λ (n : ℕ). (n < cycle) ⊎ (n ≡ END)) (sym (word_stays g other)) (q.nobody.stacks g)
  ]

  pub buffers : (b : ℕ) → t.words (Cell.Buffer b) ≡ 0
  buffers b = ap (λ (w : Words). w (Cell.Buffer b)) land.words_are ∙ (lists.known.calm.leaves given.layout now h.words (Cell.Buffer b) calm_now (λ w. w) ∙ q.nobody.buffers b)

  abbrev pub off_then : IsOff (setup_for given) (e ∷ es) cycle page
  off_then = record {
    has = stepping.has_then given lists.good lists.limits lists.known wanted e es legal lt q.has land tells;
    over = (sweepers.end_stays lists.known z a q.has.state land.move).1 ∙ q.over;
    passed = lists.known.walkers.own z a q.has.state land.move page q.has.good land.allowed q.passed;
    nobody = record { buffers = buffers; stacks = old; processors = processors };
  }
