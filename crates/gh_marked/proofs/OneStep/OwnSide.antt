-- A processor's step, by its rights or of the sweep that it runs: what is said of the processor, of its stacks and of the globals holds behind it. So it is while spans are swept, between two cycles, and while one is marked.
use Rattle.std.proofs.Common.{◌≡◌, ◌≢◌, ◌↔◌, ℕ, ◌<◌, ◌≤◌, ◌⊎◌, inl, inr, Bool, true, false, cond, refl, sym, ap, subst, ◌∙◌, arith, List, ◌∷◌, ◌++◌, append_assoc, map, slice_index, length, Option, Some, None, eq-eqb, ◌||◌}
use Rattle.gh_marked.proofs.Vocabulary.{Act, acted, acts, all_ended_at, Answer, answered, answered_at, answered_by, AnsweredDeed, answers_of, Arena, arena, Ask, asks, began_end, begins, by, Cell, cell_of, deeds, DeedsFit, Does, effect, END, ended_in, ends, Entry, Ever, ever, FactsAt, first_words, Given, given_at, given_of, gives, Good, has_left_at, has_point, HasState, Heap, InRange, is_busy_at, is_last_task, IsAsItShould, IsBounded, IsHeapOf, IsInLimits, IsOf, IsSound, Kind, Known, KnowsAtAnyTime, left_by, Legal, may_leave, may_of, may_parts, meaning, Op, op_at, option_to_list, or-true, or_cases, or_left, point_of, pointed, Processor, processor_at, processor_kind, ProcessorFacts, setup_for, ShapesAreGood, started, State, state_of, takes, Task, TellsScan, TellsStacks, those, view, Words, words}
use Rattle.gh_state.specs.Moves as state
use Rattle.gh_marked.specs.Endings.{acted_stays, acts_end, end_ends, ended_by, is_its_end, last_before, last_begun}
use Rattle.gh_marked.proofs.OneStep.Globals.{no_global}
use Rattle.gh_marked.proofs.OneStep.Landing as landing
use Rattle.gh_marked.proofs.OneStep.OwnStep as step
use Rattle.gh_marked.proofs.OneStep.Moves.{moves_on, OwnSide}
use Rattle.gh_marked.proofs.OneStep.Ranging.{bounded_then, unacted_begun}
use Rattle.gh_marked.proofs.OneStep.Refusals.{point_is}
use Rattle.gh_marked.proofs.OneStep.Wanted.{Wanted}

module _ (given : Given) (good : ShapesAreGood given.shapes) (limits : IsInLimits given.layout) (known : Known) (wanted : Wanted) where
  abbrev may : ℕ → List (Entry Op) → Op → Bool
  may = may_of given.shapes given.layout given.counts

  abbrev z : Arena
  z = arena (setup_for given)

  abbrev k : Kind Processor Op
  k = processor_kind given.shapes given.layout

  module _ (e : Entry Op) (es : List (Entry Op)) (legal : Legal (those (setup_for given)) (e ∷ es)) (lt : e.actor < given.layout.procs) (has : HasState (setup_for given) es) (land : landing.Lands given good limits known wanted e es legal lt has) (tells : TellsStacks given.layout has.state.heap.words (started k e.begun (processor_at (setup_for given) es e.actor))) where
    -- The heap behind the list.

    abbrev h : Heap
    h = has.state.heap

    abbrev of : IsHeapOf (setup_for given) es has.state.heap
    of = has.of_list

    abbrev gh : Good z (view has.state.heap)
    gh = has.good.heap

    abbrev pub a : ℕ
    a = e.actor

    abbrev m : Processor
    m = processor_at (setup_for given) es a

    abbrev pub now : Processor
    now = started k e.begun m

    abbrev pub is : IsAsItShould (setup_for given) es h a m
    is = step.is given good limits known e es legal lt has

    abbrev pub begins_with : (P : Processor → Type 0) → P m → ((o : Op) → e.begun ≡ Some o → P (k.begins m o)) → P now
    begins_with = step.begins_with given good limits known e es legal lt has

    abbrev pub idle : (o : Op) → e.begun ≡ Some o → is_busy_at m.task ≡ false
    idle = step.idle given good limits known e es legal lt has

    abbrev may_now : (o : Op) → e.begun ≡ Some o → may a (by a es) o ≡ true
    may_now = step.may_now given good limits known e es legal lt has

    abbrev pub sound_now : IsSound given.layout now
    sound_now = step.sound_now given good limits known e es legal lt has

    abbrev pub fine_now : ProcessorFacts z a (view h) now is.pending
    fine_now = step.fine_now given good limits known e es legal lt has

    abbrev pub busy : is_busy_at now.task ≡ true
    busy = step.busy given good limits known e es legal lt has

    abbrev pub asked : e.ask ≡ asks given.layout now
    asked = step.asked given good limits known e es legal lt has

    abbrev found : ℕ
    found = h.words (cell_of (asks given.layout now))

    abbrev pub found_is : e.found ≡ found
    found_is = step.found_is given good limits known e es legal lt has

    abbrev pub state_then : State
    state_then = state.moved z a has.state land.move

    abbrev pub t : Heap
    t = state_then.heap

    abbrev does : Does z a h t now is.pending found
    does = land.after.does

    abbrev pub then : Processor
    then = takes given.layout given.shapes now found

    pub then_is : processor_at (setup_for given) (e ∷ es) a ≡ then
    then_is = rw (eq-eqb e.actor e.actor refl) (ap (takes given.layout given.shapes now) found_is)

    pub words_are : t.words ≡ words (setup_for given) (e ∷ es)
    words_are = land.words_are ∙ (ap (effect h.words) (sym asked) ∙ ap (λ (w : Words). effect w e.ask) of.words_are)

    pub ever_is : t.ever ≡ ever (setup_for given) (e ∷ es)
    ever_is = does.ever ∙ (ap (λ (n : ℕ). acted given.shapes h.ever (acts given.layout now n)) (sym found_is) ∙ (ap (λ (x : Ever). acted given.shapes x (acts given.layout now e.found)) of.ever_is ∙ sym ((known.points given.shapes given.layout).follows es e)))

    pub bounded : IsBounded z t.ever
    bounded = subst (IsBounded z) (ap (λ (n : ℕ). acted given.shapes h.ever (acts given.layout now n)) found_is ∙ sym does.ever) (bounded_then given known e es legal lt h.ever of.bounded)

    -- Who has ended.

    ended_on : (g : ℕ) → h.ever.ended g ≡ true → t.ever.ended g ≡ true
    ended_on g x = ap (λ (y : Ever). y.ended g) does.ever ∙ acted_stays given.layout given.shapes now found h.ever g (acts given.layout now found) x

    ended_was : (g : ℕ) → t.ever.ended g ≡ true → (h.ever.ended g ≡ true) ⊎ (now.task ≡ Task.End g)
    ended_was g x = ended_by given.layout given.shapes now found h.ever g (ap (λ (y : Ever). y.ended g) (sym does.ever) ∙ x)

    ends_it : (g : ℕ) → now.task ≡ Task.End g → t.ever.ended g ≡ true
    ends_it g x = ap (λ (y : Ever). y.ended g) does.ever ∙ end_ends given.layout given.shapes now found h.ever g x

    pub word_ends : (g : ℕ) → now.task ≡ Task.End g → t.words (Cell.Scanned g) ≡ END
    word_ends g x = ap (λ (w : Words). w (Cell.Scanned g)) (land.words_are ∙ ap (effect h.words) (known.notes.ends given.layout now g x)) ∙ ap (λ (b : Bool). cond b END (h.words (Cell.Scanned g))) (eq-eqb g g refl)

    -- The words of stacks.

    then_word : (g : ℕ) → t.words (Cell.Scanned g) ≡ effect h.words (asks given.layout now) (Cell.Scanned g)
    then_word g = ap (λ (w : Words). w (Cell.Scanned g)) land.words_are

    word_is : (g : ℕ) → TellsScan given.layout now g → t.words (Cell.Scanned g) ≡ now.poll.local.view.begun
    word_is g x = then_word g ∙ (ap (λ (q : Ask). effect h.words q (Cell.Scanned g)) x.tells ∙ ap (λ (b : Bool). cond b now.poll.local.view.begun (h.words (Cell.Scanned g))) (eq-eqb g g refl))

    goes_on : (g : ℕ) → (now.task ≡ Task.End g → ⊥) → t.ever.ended g ≡ true → h.ever.ended g ≡ true
    goes_on g other y = elim (ended_was g y) [ inl x ↦ x | inr x ↦ absurd (other x) ]

    pub stacks : (g : ℕ) → (t.words (Cell.Scanned g) ≡ END) ↔ (t.ever.ended g ≡ true)
    stacks g = elim (is_its_end now.task g) [
      | inl x ↦ (λ y. ends_it g x, λ y. word_ends g x)
      | inr other ↦ elim (tells g other) [
        | inl x ↦ (λ y. ended_on g ((of.stacks g).0 (sym (then_word g ∙ x.same) ∙ y)), λ y. then_word g ∙ (x.same ∙ (of.stacks g).1 (goes_on g other y)))
        | inr x ↦ (λ y. absurd (x.number (sym (word_is g x.tells) ∙ y)), λ y. absurd (x.goes_on ((of.stacks g).1 (goes_on g other y))))
      ]
    ]

    stands : KnowsAtAnyTime z a (view h) now.poll
    stands = known.runs.stands z a (view h) now is.pending fine_now

    own_goroutine : (g : ℕ) → TellsScan given.layout now g → z.seat_of g ≡ a
    own_goroutine g x = x.own ∙ stands.sits.seat

    pub others_stacks : (b g : ℕ) → b ≢ a → IsOf z b g → t.words (Cell.Scanned g) ≡ h.words (Cell.Scanned g)
    others_stacks b g apart its = elim (is_its_end now.task g) [
      | inl x ↦ absurd (let f = subst (FactsAt z a (view h) now is.pending) x fine_now.task in apart (sym its.1 ∙ f.0.of.1))
      | inr other ↦ elim (tells g other) [
        | inl x ↦ then_word g ∙ x.same
        | inr x ↦ absurd (apart (sym its.1 ∙ own_goroutine g x.tells))
      ]
    ]

    -- What it has noted, begun and ended.

    fit : DeedsFit k (deeds given.layout given.shapes)
    fit = known.fit given.shapes given.layout

    noted_before : now.poll.local.scanned ≡ m.poll.local.scanned
    noted_before = begins_with (λ p. p.poll.local.scanned ≡ m.poll.local.scanned) refl (λ o x. known.notes.begins given.shapes given.layout m o is.sound)

    there : (g : ℕ) → IsOf z a g → g < length now.poll.local.scanned
    there g its =
        let long = stands.sits.scanned in
        let few = limits.goroutines_fit.1 in
        let below = its.0 in
        omega (arith, long, few, below)

    notes : (g : ℕ) → IsOf z a g → slice_index then.poll.local.scanned g ≡ t.words (Cell.Scanned g)
    notes g its = elim (is_its_end now.task g) [
      | inl x ↦ known.notes.notes given.layout given.shapes now found g END sound_now (known.notes.ends given.layout now g x) (there g its) ∙ sym (word_ends g x)
      | inr other ↦ elim (tells g other) [
        | inl x ↦ known.notes.keeps given.layout given.shapes now found g sound_now x.untold ∙ (ap (λ (xs : List ℕ). slice_index xs g) noted_before ∙ (is.notes g its ∙ sym (then_word g ∙ x.same)))
        | inr x ↦ known.notes.notes given.layout given.shapes now found g now.poll.local.view.begun sound_now x.tells.tells (there g its) ∙ sym (word_is g x.tells)
      ]
    ]

    abbrev unacted : Processor → Option Op
    unacted p = (deeds given.layout given.shapes).unacted p

    -- what was still to act, is still to act or acts now
    acts_or_waits : (g : ℕ) → unacted now ≡ Some (Op.End g) → (unacted then ≡ Some (Op.End g)) ⊎ (t.ever.ended g ≡ true)
    acts_or_waits g x = go ((deeds given.layout given.shapes).acts now found) refl where
      go : (p : Option Act) → (deeds given.layout given.shapes).acts now found ≡ p → (unacted then ≡ Some (Op.End g)) ⊎ (t.ever.ended g ≡ true)
      go None none = inl (fit.goes_on now found busy none ∙ x)
      go (Some p) some =
          let same : Some p.op ≡ Some (Op.End g) = sym (fit.acts_for now found p busy some) ∙ x in
          let one : p.op ≡ Op.End g = cc in
          inr (ends_it g (acts_end given.layout now now.task found p g (point_is (acts given.layout now found) p some) one))

    -- and nothing else is to act behind the step
    was_waiting : (g : ℕ) → unacted then ≡ Some (Op.End g) → unacted now ≡ Some (Op.End g)
    was_waiting g x = go ((deeds given.layout given.shapes).acts now found) refl where
      go : (p : Option Act) → (deeds given.layout given.shapes).acts now found ≡ p → unacted now ≡ Some (Op.End g)
      go None none = sym (fit.goes_on now found busy none) ∙ x
      go (Some p) some = absurd (let no : None ≡ Some (Op.End g) = sym (fit.acts_once now found p busy some) ∙ x in cc)

    -- what is to act now was so, or begins
    waits_or_begins : (g : ℕ) → unacted now ≡ Some (Op.End g) → (unacted m ≡ Some (Op.End g)) ⊎ (e.begun ≡ Some (Op.End g))
    waits_or_begins g x = go e.begun refl where
      by_point : (o : Op) → e.begun ≡ Some o → (b : Bool) → has_point o ≡ b → cond b (Some o) None ≡ Some (Op.End g) → e.begun ≡ Some (Op.End g)
      by_point o begun true y same = let one : Some o ≡ Some (Op.End g) = same in begun ∙ one
      by_point o begun false y same = absurd (cc)

      go : (o : Option Op) → e.begun ≡ o → (unacted m ≡ Some (Op.End g)) ⊎ (e.begun ≡ Some (Op.End g))
      go None none = inl (sym (ap (λ (y : Option Op). unacted (started k y m)) none) ∙ x)
      go (Some o) some = inr (by_point o some (has_point o) refl (sym (unacted_begun given known e es legal lt o some) ∙ x))

    begins_end : (g : ℕ) → e.begun ≡ Some (Op.End g) → unacted now ≡ Some (Op.End g)
    begins_end g x = unacted_begun given known e es legal lt (Op.End g) x

    own_entries : by a (e ∷ es) ≡ e ∷ by a es
    own_entries = ap (λ (b : Bool). cond b (e ∷ by a es) (by a es)) (eq-eqb e.actor e.actor refl)

    ended_here : (g : ℕ) → ended_in (by a (e ∷ es)) g ≡ (ends e.begun g || ended_in (by a es) g)
    ended_here g = ap (λ (ys : List (Entry Op)). ended_in ys g) own_entries

    ended_there : (g : ℕ) → IsOf z a g → unacted now ≡ Some (Op.End g) → ended_in (by a (e ∷ es)) g ≡ true
    ended_there g its x = ended_here g ∙ elim (waits_or_begins g x) [
      | inl y ↦ or-true (ends e.begun g) (ended_in (by a es) g) (is.ended g its (inl y))
      | inr y ↦ or_left (ends e.begun g) (ended_in (by a es) g) (ap (λ (o : Option Op). ends o g) y ∙ eq-eqb g g refl)
    ]

    end_acts : (g : ℕ) → now.task ≡ Task.End g → unacted now ≡ Some (Op.End g)
    end_acts g x = ap (λ (q : Task). pointed (op_at q)) x

    ended : (g : ℕ) → IsOf z a g → (unacted then ≡ Some (Op.End g)) ⊎ (t.ever.ended g ≡ true) → ended_in (by a (e ∷ es)) g ≡ true
    ended g its (inl x) = ended_there g its (was_waiting g x)
    ended g its (inr x) = elim (ended_was g x) [
      | inl y ↦ ended_here g ∙ or-true (ends e.begun g) (ended_in (by a es) g) (is.ended g its (inr y))
      | inr y ↦ ended_there g its (end_acts g y)
    ]

    -- where none begins, what is still to act is as it was
    still_waits : (g : ℕ) → unacted m ≡ Some (Op.End g) → unacted now ≡ Some (Op.End g)
    still_waits g x = begins_with (λ p. unacted p ≡ Some (Op.End g)) x (λ o y. absurd (let no : None ≡ Some (Op.End g) = sym (fit.idle m (idle o y)) ∙ x in cc))

    ends_here : (g : ℕ) → IsOf z a g → ended_in (by a (e ∷ es)) g ≡ true → (unacted then ≡ Some (Op.End g)) ⊎ (t.ever.ended g ≡ true)
    ends_here g its x = elim (or_cases (ends e.begun g) (ended_in (by a es) g) (sym (ended_here g) ∙ x)) [
      | inl y ↦ acts_or_waits g (begins_end g (began_end e.begun g y))
      | inr y ↦ elim (is.ends g its y) [
        | inl w ↦ acts_or_waits g (still_waits g w)
        | inr w ↦ inr (ended_on g w)
      ]
    ]

    -- One that leaves has begun to do so where all its goroutines had ended.

    left_now : is_last_task now.task ≡ true → (g : ℕ) → IsOf z a g → h.ever.ended g ≡ true
    left_now last g its = go e.begun refl where
      left_begun : (o : Op) → e.begun ≡ Some o → (b : Bool) → has_left_at m.task ≡ b → is_last_task (cond b m (begins given.shapes m o)).task ≡ true → h.ever.ended g ≡ true
      left_begun o some true x last = is.left last g its
      left_begun o some false x last =
          let leave : o ≡ Op.Leave = last_begun given.shapes m o last in
          let m_may = may_parts z given.counts a (state_of k a (by a es)) (by a es) o (may_now o some) in
          let leaves = subst (λ (y : Op). may_leave z a (by a es) y ≡ true) leave m_may.leaves in
          let said = all_ended_at z a (by a es) given.layout.goroutines g its.0 (eq-eqb (z.seat_of g) a its.1) leaves in
          elim (is.ends g its said) [ inl w ↦ absurd (let no : None ≡ Some (Op.End g) = sym (fit.idle m (idle o some)) ∙ w in cc) | inr w ↦ w ]

      go : (o : Option Op) → e.begun ≡ o → h.ever.ended g ≡ true
      go None none = is.left (sym (ap (λ (y : Option Op). is_last_task (started k y m).task) none) ∙ last) g its
      go (Some o) some = left_begun o some (has_left_at m.task) refl (sym (ap (λ (y : Option Op). is_last_task (started k y m).task) some) ∙ last)

    left : is_last_task then.task ≡ true → (g : ℕ) → IsOf z a g → t.ever.ended g ≡ true
    left last g its = ended_on g (left_now (last_before given.layout given.shapes now found now.task busy last) g its)

    -- What it was answered.

    abbrev first : Words
    first = first_words (setup_for given)

    abbrev answer_of_act : AnsweredDeed Act Answer → Answer
    answer_of_act x = x.answer

    answered_first : (x : Ever) (p : Option Act) (xs : List (AnsweredDeed Act Answer)) → map answer_of_act (option_to_list (answered (meaning given.shapes) x p) ++ xs) ≡ option_to_list (answered_at given.shapes x p) ++ map answer_of_act xs
    answered_first x None xs = refl
    answered_first x (Some p) xs = refl

    answers_here : answers_of z first a (e ∷ es) ≡ option_to_list (answered_at given.shapes h.ever (point_of (acts given.layout now found))) ++ answers_of z first a es
    answers_here =
        ap (λ (b : Bool). map answer_of_act (cond b (option_to_list (answered (meaning given.shapes) (ever (setup_for given) es) (point_of (acts given.layout now e.found))) ++ answered_by k (deeds given.layout given.shapes) (meaning given.shapes) a es) (answered_by k (deeds given.layout given.shapes) (meaning given.shapes) a es))) (eq-eqb e.actor e.actor refl)
        ∙ (answered_first (ever (setup_for given) es) (point_of (acts given.layout now e.found)) (answered_by k (deeds given.layout given.shapes) (meaning given.shapes) a es)
        ∙ (ap (λ (x : Ever). option_to_list (answered_at given.shapes x (point_of (acts given.layout now e.found))) ++ answers_of z first a es) (sym of.ever_is)
        ∙ ap (λ (n : ℕ). option_to_list (answered_at given.shapes h.ever (point_of (acts given.layout now n))) ++ answers_of z first a es) found_is))

    given_here : given_of z first a (e ∷ es) ≡ option_to_list (given_at now.task (gives given.layout now found)) ++ given_of z first a es
    given_here =
        ap (λ (b : Bool). cond b (option_to_list (given_at now.task (gives given.layout now e.found)) ++ given_of z first a es) (given_of z first a es)) (eq-eqb e.actor e.actor refl)
        ∙ ap (λ (n : ℕ). option_to_list (given_at now.task (gives given.layout now n)) ++ given_of z first a es) found_is

    answers : answers_of z first a (e ∷ es) ≡ option_to_list does.after ++ given_of z first a (e ∷ es)
    answers =
        let x = option_to_list (answered_at given.shapes h.ever (point_of (acts given.layout now found))) in
        let y = option_to_list (given_at now.task (gives given.layout now found)) in
        answers_here ∙ (ap (λ (ys : List Answer). x ++ ys) is.answers
        ∙ (sym (append_assoc x (option_to_list is.pending) (given_of z first a es))
        ∙ (ap (λ (ys : List Answer). ys ++ given_of z first a es) land.after.answers
        ∙ (append_assoc (option_to_list does.after) y (given_of z first a es)
        ∙ ap (λ (ys : List Answer). option_to_list does.after ++ ys) (sym given_here)))))

    -- The globals, and all together.

    pub globals : (i : ℕ) → given.layout.globals ≤ i → t.words (Cell.Global i) ≡ 0
    globals i le =
        let within : InRange given.layout (cell_of (asks given.layout now)) = subst (λ (q : Ask). InRange given.layout (cell_of q)) asked legal.1.within in
        ap (λ (w : Words). w (Cell.Global i)) land.words_are ∙ (known.one h.words (asks given.layout now) (Cell.Global i)
        ∙ (ap (λ (b : Bool). cond b (left_by (asks given.layout now) found) (h.words (Cell.Global i))) (no_global given.layout i le (cell_of (asks given.layout now)) within) ∙ of.globals i le))

    as_it_should : IsAsItShould (setup_for given) (e ∷ es) t a then
    as_it_should = record {
      sound = known.writes.sound_takes given.layout given.shapes now found sound_now busy;
      pending = does.after;
      fine = does.fine;
      answers = answers;
      notes = notes;
      ended = ended;
      ends = ends_here;
      left = left;
    }

    pub side : OwnSide (setup_for given) known e es h of gh t
    side = record {
      words_are = words_are;
      ever_is = ever_is;
      bounded = bounded;
      stacks = stacks;
      others_stacks = others_stacks;
      globals = globals;
      own = λ less. subst (IsAsItShould (setup_for given) (e ∷ es) t a) (sym then_is) as_it_should;
      right = λ le. absurd (omega (arith, le, lt));
    }

    -- the heap of the list with the entry
    pub heap_then : IsHeapOf (setup_for given) (e ∷ es) t
    heap_then = moves_on (setup_for given) known e es h of gh t (landing.others_leave given good limits known wanted e es legal lt has land) side
