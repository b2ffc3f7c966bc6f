-- A step of the code, from what its parts did.
use Rattle.std.proofs.Common.{◌≡◌, ℕ, ◌+◌, ◌-◌, ◌<◌, ◌≤◌, Bool, true, false, not, List, ◌∷◌, ◌++◌, length, length-set, refl, sym, ◌∙◌, ap, subst, Option, Some, arith, slice_get}
use Rattle.gh_world.proofs.Vocabulary.{acts, AllDone, answered_by, answered_in, answered_of, Appends, asks, begun_as, bit, by, cell_of, changed, Entry, Event, event_at, found_by, goes, has_ended, has_left_at, InRange, is_busy_at, is_done, is_last, is_point, IsAfter, IsStepOfCoordinator, IsStepOfProcessor, IsStepOfWorker, Layout, Mutating, Next, next_point, now_of, Op, PollsMakeRoom, processor_kind, Program, progress_after, Ran, request, Runner, set, Shape, slice_get_past, slice_get_within, SoundMutating, SoundRunners, SoundState, SoundTurns, SoundWords, started, State, state_of, statement_answer, StepsAreShown, takes, total_of, worker_or}
use Rattle.gh_coord.specs.Listing as coord
use Rattle.gh_worker.specs.Listing as worker
use Rattle.gh_coord.specs.declared.coord.CoordStage.{CoordStage}
use Rattle.gh_world.specs.World.{Begins}
use Rattle.gh_world.proofs.Fitting.{answered_all, busy_begun, due_room, fits_again, marks_few, marks_more, point_room, ran}
use Rattle.gh_world.proofs.Parts.{After, in_parts, of_parts, other_here, parts_of, runner_here}
use Rattle.gh_world.proofs.Turning.{total_by-le}
use Rattle.gh_world.proofs.OtherSteps.{lead_entry, lead_says, lead_tells, led, work_entry, work_says, work_tells, worked}
use Rattle.gh_world.proofs.WorldFacts.{due_at, follows, says, tells, entry_of, Knows, runner_of}

-- what a world keeps, with so many points noted and room for so many
pub record Kept (w : State) : Type 0 where
  pub noted : ℕ
  pub room : ℕ
  pub fit : SoundState w noted room

-- the machine once an operation is begun, or none
mutator_is : (m : Mutating) (shapes : List Shape) (l : Layout) (b : Option Op) → m.shapes ≡ shapes → has_left_at m.processor.task ≡ false → begun_as m b ≡ record { shapes = shapes; processor = started (processor_kind shapes l) b m.processor; marks = m.marks }
mutator_is m shapes l b same going = grind arith

-- a processor that is not done has not left
pub runner_going : (w : State) (a : ℕ) (x : Runner) → slice_get w.runners a ≡ Some x → is_done w a ≡ false → has_left_at x.mutator.processor.task ≡ false
runner_going w a x is going = ap has_ended (sym (runner_here w a x is)) ∙ going

-- ---- a step of a processor

-- the world behind a step of the processor at seat a on what it has begun, and what that step says
abbrev stepped : State → (a : ℕ) → Runner → State
stepped w a y = record w {
  words = changed (request w.layout (asks w.layout y.mutator)) w.words;
  runners = set w.runners a (record { mutator = goes w.layout y.mutator (found_by w (asks w.layout y.mutator)); progress = y.progress });
  points = w.points ++ next_point (is_point (acts w.layout y.mutator.processor (found_by w (asks w.layout y.mutator)))) (now_of y.progress);
}

abbrev told : State → Runner → Event
told w y = event_at (now_of y.progress) (is_last y.mutator.processor.task) (statement_answer w.layout y.mutator.processor (found_by w (asks w.layout y.mutator)))

module _ (w : State) (f : Kept w) (a : ℕ) (x : Runner) (is : slice_get w.runners a ≡ Some x) where
  abbrev p : Program
  p = w.script

  abbrev l : Layout
  l = w.layout

  fits : SoundTurns p a x.mutator x.progress
  fits = f.fit.running.each a x is

  seat : a < l.procs
  seat = let low = slice_get_within w.runners a x is in let many = f.fit.running.many in omega (arith, low, many)

  going_on : is_done w a ≡ false → has_left_at x.mutator.processor.task ≡ false
  going_on = runner_going w a x is

  -- the processor once an operation is begun, or none
  abbrev with_begun : Option Op → Next → Runner
  with_begun b new = runner_of p.shapes (started (processor_kind p.shapes l) b x.mutator.processor) x.mutator.marks (progress_after x.progress b new)

  begun_is : (y : Runner) (k : Begins p a x y) → is_done w a ≡ false → y ≡ with_begun k.o y.progress.next
  begun_is y k going = grind (arith, fits, going_on, mutator_is)

  knows : PollsMakeRoom → (y : Runner) (k : Begins p a x y) → is_done w a ≡ false → InRange l (cell_of (asks l y.mutator)) → Knows p l f.fit.base.script f.fit.base.layout a seat x.mutator.processor x.progress k.o y.progress.next
  knows polls y k going within = record {
    is = k.is;
    goes = k.goes;
    busy = subst (λ (m : Mutating). is_busy_at m.processor.task ≡ true) (mutator_is x.mutator p.shapes l k.o fits.shapes (going_on going)) (busy_begun p l f.fit.base.script f.fit.base.layout a x.mutator x.progress fits k.o (going_on going) k.is);
    within = subst (λ (z : Runner). InRange l (cell_of (asks l z.mutator))) (begun_is y k going) within;
    made = fits.made;
    stands = fits.turns.stands;
    all = let all = fits.turns.all in let few = total_by-le p a in omega (arith, all, few);
    columns = fits.turns.columns;
    room = λ o some. let due = due_at p l f.fit.base.script f.fit.base.layout a seat x.mutator.processor x.progress.next k.o o k.is some in due_room polls p x.mutator.processor x.progress.next o due.0 due.1 fits.polled;
  }

  abbrev OwnEntries : Type 0
  OwnEntries = (es : List (Entry Op)) → state_of (processor_kind p.shapes l) a es ≡ state_of (processor_kind p.shapes l) a (by a es)

  appends_begun : (b : Option Op) (new : Next) (v : State) (es : List (Entry Op)) (happened : Event) → OwnEntries → StepsAreShown l → Knows p l f.fit.base.script f.fit.base.layout a seat x.mutator.processor x.progress b new →
      v ≡ stepped w a (with_begun b new) → happened ≡ told w (with_begun b new) → IsAfter w es → Appends v a es happened
  appends_begun b new v es happened own shown k is_so says_so after =
      let parts = in_parts w es after in
      let r = parts.running a x is in
      let e = entry_of p l f.fit.base.script f.fit.base.layout a seat w.words x.mutator.processor b in
      let few = marks_few p l f.fit.base.script f.fit.base.layout a x.mutator x.progress fits in
      let said = says_so ∙ says p l f.fit.base.script f.fit.base.layout a seat w.words es x.mutator.shapes x.mutator.processor x.mutator.marks x.progress b new r k in
      let marks = marks_more x.mutator.marks (statement_answer l (with_begun b new).mutator.processor (found_by w (asks l (with_begun b new).mutator))) few in
      subst (λ (z : State). Appends z a es happened) (sym is_so) (record {
        e = e;
        by = refl;
        after = of_parts (stepped w a (with_begun b new)) (e ∷ es) (subst (λ (n : ℕ). After p l (record (parts_of (stepped w a (with_begun b new))) { runners = set w.runners a (runner_of p.shapes (takes l p.shapes (with_begun b new).mutator.processor (found_by w (asks l (with_begun b new).mutator))) n (progress_after x.progress b new)) }) (e ∷ es)) (sym marks)
            (follows p l f.fit.base.script f.fit.base.layout a seat own shown (parts_of w) es parts x.mutator.shapes x.mutator.processor x.mutator.marks x.progress b new is k)) f.fit.others.many;
        says = said;
        answers = ap answered_in said ∙ tells p l f.fit.base.script f.fit.base.layout a seat w.words x.mutator.processor es b r.processor;
      })

pub appends : PollsMakeRoom → (w v : State) (a : ℕ) (es : List (Entry Op)) (happened : Event) → ((es : List (Entry Op)) → state_of (processor_kind w.script.shapes w.layout) a es ≡ state_of (processor_kind w.script.shapes w.layout) a (by a es)) → StepsAreShown w.layout → Kept w → is_done w a ≡ false → IsStepOfProcessor w v a happened → IsAfter w es → Appends v a es happened
appends polls w v a es happened own shown f going st after =
    let same = begun_is w f a st.before_it st.is st.begun st.begins going in
    appends_begun w f a st.before_it st.is st.begins.o st.begun.progress.next v es happened own shown (knows w f a st.before_it st.is polls st.begun st.begins going st.within) (st.others ∙ ap (stepped w a) same) (st.says ∙ ap (told w) same) after

-- ---- what the code's step of a processor has done

module _ (polls : PollsMakeRoom) (w : State) (points room : ℕ) (f : SoundState w points room) (a : ℕ) (x z : Runner) (is : slice_get w.runners a ≡ Some x) (list : List ℕ) (happened : Event) (b : Bool) (r : Ran w.script w.layout a w.words list x z happened b) (sound : SoundMutating w.layout z.mutator.shapes z.mutator.processor) where
  abbrev pub found_there : ℕ
  found_there = found_by w (asks w.layout r.begun.mutator)

  sound_there : SoundMutating w.layout r.begun.mutator.shapes (goes w.layout r.begun.mutator found_there).processor
  sound_there = subst (λ (y : Runner). SoundMutating w.layout y.mutator.shapes y.mutator.processor) r.goes sound

  pub room_there : b ≡ true → points < room
  room_there = point_room polls w points room f a x r.begun is r.begins r.fits r.busy found_there sound_there b r.point

  pub ran_there : SoundRunners w.script w.layout (set w.runners a z) (points + bit b) room
  ran_there = rw (r.goes, r.point) (ran polls w points room f a x r.begun is r.begins r.fits r.busy found_there sound_there)

  pub words_there : SoundWords w.script w.layout list
  words_there = fits_again _ _ _ _ (request w.layout (asks w.layout r.begun.mutator)) r.words f.base

  -- and so the world is sound again, with so many points more
  pub fit_there : (items : List (ℕ × ℕ)) → SoundState (record w { words = list; runners = set w.runners a z; points = items }) (points + bit b) room
  fit_there items = record { base = words_there; running = ran_there; others = f.others }

  -- with as many as before, where the step is the point of no statement
  pub fit_still : b ≡ false → (items : List (ℕ × ℕ)) → SoundState (record w { words = list; runners = set w.runners a z; points = items }) points room
  fit_still none items =
      let no_more : bit b ≡ 0 = ap bit none in
      let same : points + bit b ≡ points = omega (arith, no_more) in
      subst (λ (n : ℕ). SoundState (record w { words = list; runners = set w.runners a z; points = items }) n room) same (fit_there items)

  -- and has no more answers than statements
  pub few_there : answered_by (set w.runners a z) ≤ total_of w.script
  few_there = answered_all _ _ _ _ _ ran_there

  pub run_is : (items : List (ℕ × ℕ)) (now : ℕ × ℕ) → now ≡ now_of z.progress → items ≡ w.points ++ next_point b now → IsStepOfProcessor w (record w { words = list; runners = set w.runners a z; points = items }) a happened
  run_is items now noted items_are =
      let now_is : now ≡ now_of r.begun.progress = noted ∙ ap (λ (y : Runner). now_of y.progress) r.goes in
      let points_are : items ≡ w.points ++ next_point (is_point (acts w.layout r.begun.mutator.processor found_there)) (now_of r.begun.progress) =
      items_are ∙ ap (λ (t : ℕ × ℕ). w.points ++ next_point b t) now_is ∙ ap (λ (c : Bool). w.points ++ next_point c (now_of r.begun.progress)) r.point in
      record {
        before_it = x;
        is = is;
        begun = r.begun;
        begins = r.begins;
        within = r.within;
        others = rw (r.words, r.goes, points_are) refl;
        says = r.says;
      }

-- ---- a step of another actor

not_false : (b : Bool) → not b ≡ false → b ≡ true
not_false b e = grind arith

-- a worker that is not done has a step to make
pub busy_worker : (w : State) (a i : ℕ) (x : worker.Working) → a ≡ length w.runners + i → slice_get w.workers i ≡ Some x → is_done w a ≡ false → worker.is_busy x.stage ≡ true
busy_worker w a i x at is going = not_false (worker.is_busy x.stage) (ap has_ended (sym (other_here w a i at ∙ ap (worker_or w.coord) is)) ∙ going)

-- a step of a worker
pub appends_work : (w v : State) (a i : ℕ) (es : List (Entry Op)) (happened : Event) → StepsAreShown w.layout → Kept w → a ≡ length w.runners + i → is_done w a ≡ false → IsStepOfWorker w v i happened → IsAfter w es → Appends v a es happened
appends_work w v a i es happened shown f at going st after =
    let few : i < w.layout.workers = let low = slice_get_within w.workers i st.before_it st.is in let many = f.fit.others.many in omega (arith, low, many) in
    let busy = busy_worker w a i st.before_it at st.is going in
    let procs = f.fit.running.many in
    let parts = in_parts w es after in
    let next = worker.goes w.layout st.before_it (found_by w (worker.asks w.layout st.before_it)) in
    let workers : length (set w.workers i next) ≡ w.layout.workers = length-set w.workers i next ∙ f.fit.others.many in
    subst (λ (y : State). Appends y a es happened) (sym st.others) (record {
      e = work_entry w.script w.layout shown (parts_of w) es parts i st.before_it st.is few busy st.within;
      by = omega (arith, at, procs);
      after = of_parts _ _ (worked w.script w.layout shown (parts_of w) es parts i st.before_it st.is few busy st.within) workers;
      says = st.says ∙ work_says w.script w.layout shown (parts_of w) es parts i st.before_it st.is few busy st.within;
      answers = work_tells w.script w.layout shown (parts_of w) es parts i st.before_it st.is few busy st.within happened st.says;
    })

-- it answers no statement
pub few_work : (w v : State) (i : ℕ) (happened : Event) → Kept w → IsStepOfWorker w v i happened → answered_of v ≤ total_of v.script
few_work w v i happened f st = rw st.others (answered_all w.script w.layout w.runners f.noted f.room f.fit.running)

-- behind the workers it is the coordinator that is done, or is not
lead_done : (w : State) (a : ℕ) → length w.runners + length w.workers ≤ a → coord.is_done_at w.coord.stage ≡ is_done w a
lead_done w a high =
    let at : a ≡ length w.runners + (a - length w.runners) = omega (arith, high) in
    let none = slice_get_past w.workers (a - length w.runners) (omega (arith, high)) in
    ap has_ended (sym (other_here w a (a - length w.runners) at ∙ ap (worker_or w.coord) none))

-- a coordinator that is not done has a step to make
pub busy_lead : (w : State) (a : ℕ) → Kept w → length w.runners + length w.workers ≤ a → is_done w a ≡ false → coord.is_busy w.coord.stage ≡ true
busy_lead w a f high going = grind (arith, lead_done)

-- one that is done has no credit that is about to lapse
pub lapsed_at_end : (lapsed : ℕ) (stage : CoordStage) → coord.is_done_at stage ≡ true → coord.lapsed_at lapsed stage ≡ lapsed
lapsed_at_end lapsed stage done = grind arith

pub lapsed_last : (w : State) → AllDone w → coord.lapsed_at w.coord.lapsed w.coord.stage ≡ w.coord.lapsed
lapsed_last w all = grind (arith, lapsed_at_end, lead_done)

-- a step of the coordinator
pub appends_lead : (w v : State) (a : ℕ) (es : List (Entry Op)) (happened : Event) → StepsAreShown w.layout → Kept w → a ≡ length w.runners + length w.workers → is_done w a ≡ false → IsStepOfCoordinator w v happened → IsAfter w es → Appends v a es happened
appends_lead w v a es happened shown f at going st after =
    let busy = busy_lead w a f (omega (arith, at)) going in
    let procs = f.fit.running.many in
    let many = f.fit.others.many in
    let parts = in_parts w es after in
    subst (λ (y : State). Appends y a es happened) (sym st.others) (record {
      e = lead_entry w.script w.layout shown (parts_of w) es parts busy st.within;
      by = omega (arith, at, procs, many);
      after = of_parts _ _ (led w.script w.layout shown (parts_of w) es parts busy st.within many) many;
      says = st.says ∙ lead_says w.script w.layout shown (parts_of w) es parts busy st.within;
      answers = lead_tells w.script w.layout shown (parts_of w) es parts busy st.within happened st.says;
    })

pub few_lead : (w v : State) (happened : Event) → Kept w → IsStepOfCoordinator w v happened → answered_of v ≤ total_of v.script
few_lead w v happened f st = rw st.others (answered_all w.script w.layout w.runners f.noted f.room f.fit.running)
