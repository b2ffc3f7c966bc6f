-- What jobs have come to is what a whole run of the script comes to.
use Rattle.std.proofs.Common.{◌≡◌, ℕ, ◌%◌, ◌<◌, nat_lt, Bool, true, false, cond, eqb, eq-eqb, List, [], ◌∷◌, ◌++◌, reverse, Option, Some, None, refl, sym, ap, subst, ◌∙◌, arith, slice_get}
use Rattle.std.proofs.lemmas.Bool.{eqb-true}
use Rattle.gh_run.proofs.Vocabulary.{acks_of, Actor, Answer, answers_at, answers_by, answers_given, answers_in, AreDoneOf, begun_in, by, Coordinating, deeds, ended_at, ended_of, Entry, EveryRunIsExplained, filter, given_at, given_by, gives_at, Handle, has_left_at, has_point, Heap, HeapActor, HeapJob, is_busy_at, is_leaving, is_of_seat, is_processor, IsAtEnd, IsClosedAfter, IsDoneOf, IsHeapOf, IsRun, IsRunByThreads, LaysOut, Leads, Legal, machine_actor, machine_of, Marks, mod_below, most_cycles, number_of, OfItsOwn, Op, option_to_list, outcome_by, own_of, pacing_of, plan_of, Planned, Processor, processor_kind, Program, Runs, seats_of, setting, spent_after, started, state_of, Task, told, told_in_order, turns_of, View, view_of, WellFormed, WhichJob}
use Rattle.gh_coord.specs.Listing as coord
use Rattle.gh_coord.specs.Stays.{cycle_room_stays}
use Rattle.gh_mutator.specs.Processor.{opening_processor}
use Rattle.gh_run.proofs.Places.{each_first, there}
use Rattle.gh_worker.specs.Listing as worker
use Rattle.gh_lists.specs.Handshake.{actor_takes, start}
use Rattle.gh_world.specs.Schedule.{has_ended}
use Rattle.gh_world.proofs.OneStep.{lapsed_at_end}
use Rattle.gh_explained.proofs.Explained.Told.{rests_told, told_of}

-- ---- who has ended

left_then : (t : Task) → is_busy_at t ≡ false → is_leaving t ≡ true → has_left_at t ≡ true
left_then Task.Left idle e = refl
left_then (Task.Leave x) idle e = absurd cc
left_then _ idle e = absurd cc

left_idle : (t : Task) → has_left_at t ≡ true → is_busy_at t ≡ false
left_idle Task.Left e = refl
left_idle Task.Idle e = refl
left_idle _ e = absurd cc

ended_has : (h : Handle) → ended_of h ≡ true → has_ended (machine_actor (machine_of h)) ≡ true
ended_has h over = go (machine_of h) refl over where
  go : (x : HeapActor) → machine_of h ≡ x → ended_at x (own_of h) ≡ true → has_ended (machine_actor x) ≡ true
  go (Runs m) is e = let rests = h.kept.rests m is in left_then m.processor.task rests.idle (rests.leaves ∙ e)
  go (Marks w) is e = e
  go (Leads c) is e = e

-- ---- the answers of one goroutine

-- they are among those of its processor's goroutines
by_seat : (p : Program) (a g : ℕ) → is_of_seat p a g ≡ true → (xs : List (ℕ × Answer)) → answers_by g (answers_at p a xs) ≡ answers_by g xs
by_seat p a g its [] = refl
by_seat p a g its (x ∷ xs) = go (is_of_seat p a x.0) refl (by_seat p a g its xs) where
  apart : is_of_seat p a x.0 ≡ false → (b : Bool) → eqb x.0 g ≡ b → eqb x.0 g ≡ false
  apart e false ne = ne
  apart e true same = absurd (let no : true ≡ false = sym its ∙ ap (is_of_seat p a) (sym (eqb-true x.0 g same)) ∙ e in cc)

  go : (b : Bool) → is_of_seat p a x.0 ≡ b → answers_by g (answers_at p a xs) ≡ answers_by g xs → answers_by g (cond b (x ∷ answers_at p a xs) (answers_at p a xs)) ≡ cond (eqb x.0 g) (x.1 ∷ []) [] ++ answers_by g xs
  go true e ih = ap (λ (ys : List Answer). cond (eqb x.0 g) (x.1 ∷ []) [] ++ ys) ih
  go false e ih = ih ∙ sym (ap (λ (b : Bool). cond b (x.1 ∷ []) [] ++ answers_by g xs) (apart e (eqb x.0 g) refl))

-- ---- what one processor was given

told_same : (os : List Op) (xs : List Answer) → told_of os xs ≡ told_in_order os xs
told_same [] xs = refl
told_same (o ∷ os) [] = refl
told_same (o ∷ os) (x ∷ xs) = ap (λ (ys : List (ℕ × Answer)). ys ++ told o x) (told_same os xs)

module _ (q : Planned) (law : OfItsOwn) (a : ℕ) (lt : a < q.layout.procs) where
  abbrev at : List (Entry Op) → Processor
  at es = state_of (processor_kind q.script.shapes q.layout) a es

  abbrev given : List (Entry Op) → List Answer
  given es = given_by (processor_kind q.script.shapes q.layout) (deeds q.layout q.script.shapes) a es

  at_own : (es : List (Entry Op)) → at es ≡ at (by a es)
  at_own es =
      let same : Actor.Runs (at es) ≡ Actor.Runs (at (by a es)) = sym (is_processor q.script q.layout a lt es) ∙ law (setting q).kind a es ∙ is_processor q.script q.layout a lt (by a es) in
      cc

  -- what an entry gives, whose processor is this before it
  abbrev gave : Entry Op → Processor → Option Answer
  gave e m = given_at (started (processor_kind q.script.shapes q.layout) e.begun m).task (gives_at q.layout (started (processor_kind q.script.shapes q.layout) e.begun m) (started (processor_kind q.script.shapes q.layout) e.begun m).task e.found)

  -- what it was given is said by its own entries
  given_own : (es : List (Entry Op)) → given es ≡ given (by a es)
  given_own [] = refl
  given_own (e ∷ es) = go (eqb e.actor a) refl (given_own es) where
    before : e.actor ≡ a → state_of (processor_kind q.script.shapes q.layout) e.actor es ≡ state_of (processor_kind q.script.shapes q.layout) e.actor (by a es)
    before its = subst (λ (n : ℕ). state_of (processor_kind q.script.shapes q.layout) n es ≡ state_of (processor_kind q.script.shapes q.layout) n (by a es)) (sym its) (at_own es)

    go : (b : Bool) → eqb e.actor a ≡ b → given es ≡ given (by a es) → cond b (option_to_list (gave e (state_of (processor_kind q.script.shapes q.layout) e.actor es)) ++ given es) (given es) ≡ given (cond b (e ∷ by a es) (by a es))
    go false e ih = ih
    go true its ih =
        ap (λ (m : Processor). option_to_list (gave e m) ++ given es) (before (eqb-true e.actor a its))
        ∙ ap (λ (xs : List Answer). option_to_list (gave e (state_of (processor_kind q.script.shapes q.layout) e.actor (by a es))) ++ xs) ih
        ∙ sym (ap (λ (b : Bool). cond b (option_to_list (gave e (state_of (processor_kind q.script.shapes q.layout) e.actor (by a es))) ++ given (by a es)) (given (by a es))) its)

  -- and so is what its goroutines were answered, once it has left
  pub given_at_end : (es : List (Entry Op)) → q.layout.procs ≡ q.script.settings.procs → Legal (setting q) es → has_left_at (at es).task ≡ true → answers_at q.script a (answers_given q.script q.layout es) ≡ answers_in q a (by a es)
  given_at_end es procs legal left =
      (rests_told q.script q.layout procs es legal a lt (left_idle (at es).task left)).answers
      ∙ told_same (filter has_point (begun_in (by a es))) (given es)
      ∙ ap (told_in_order (filter has_point (begun_in (by a es)))) (given_own es)

-- ---- the room of the coordinator's list

module _ (q : Planned) where
  abbrev Roomy : Actor → Type 0
  Roomy x = (c : Coordinating) → x ≡ Actor.Leads c → c.cycles.room ≡ most_cycles q.script

  abbrev opening : ℕ → Coordinating
  opening a = coord.opening q.layout a q.script.settings.gogc q.script.settings.minheap (most_cycles q.script)

  opens_roomy : (a : ℕ) → Roomy (start q.layout (pacing_of q.script) a)
  opens_roomy a = go (nat_lt a q.layout.procs) (nat_lt a (acks_of q.layout)) where
    go : (b c : Bool) → Roomy (cond b (Actor.Runs (opening_processor a)) (cond c (Actor.Marks (worker.opening a)) (Actor.Leads (opening a))))
    go true c d e = absurd cc
    go false true d e = absurd cc
    go false false d e = let same : opening a ≡ d = cc in ap (λ (x : Coordinating). x.cycles.room) (sym same)

  takes_roomy : (x : Actor) (o : Option Op) (found : ℕ) → Roomy x → Roomy (actor_takes q.script.shapes q.layout (started (setting q).kind o x) found)
  takes_roomy (Actor.Runs m) None found is c e = absurd cc
  takes_roomy (Actor.Runs m) (Some o) found is c e = absurd cc
  takes_roomy (Actor.Marks w) None found is c e = absurd cc
  takes_roomy (Actor.Marks w) (Some o) found is c e = absurd cc
  takes_roomy (Actor.Leads d) None found is c e = let same : coord.goes q.layout d found ≡ c = cc in ap (λ (x : Coordinating). x.cycles.room) (sym same) ∙ cycle_room_stays q.layout d found ∙ is d refl
  takes_roomy (Actor.Leads d) (Some o) found is c e = let same : coord.goes q.layout d found ≡ c = cc in ap (λ (x : Coordinating). x.cycles.room) (sym same) ∙ cycle_room_stays q.layout d found ∙ is d refl

  roomy_after : (a : ℕ) (es : List (Entry Op)) → Roomy (state_of (setting q).kind a es)
  roomy_after a [] = opens_roomy a
  roomy_after a (e ∷ es) = go (eqb e.actor a) (roomy_after a es) where
    go : (b : Bool) → Roomy (state_of (setting q).kind a es) → Roomy (cond b (actor_takes q.script.shapes q.layout (started (setting q).kind e.begun (state_of (setting q).kind a es)) e.found) (state_of (setting q).kind a es))
    go true is = takes_roomy (state_of (setting q).kind a es) e.begun e.found is
    go false is = is

  pub few_cycles : (v : View Planned Op) (c : Coordinating) (drawn : ℕ) (ws : List ℕ) → IsClosedAfter q v c drawn ws → c.cycles.room ≡ most_cycles q.script
  few_cycles v c drawn ws closed = roomy_after (acks_of q.layout) closed.list c (sym closed.coordinator)

-- ---- the run

-- what the processors of a heap have drawn after the list
abbrev pub drawn_after : Heap → List (Entry Op) → ℕ
drawn_after heap list = spent_after (plan_of heap).script (plan_of heap).layout list

module _ {G : Type 0} (heap : Heap) (law : OfItsOwn) (done : List (HeapJob G)) (all : AreDoneOf (plan_of heap).script heap done) (v : View Planned Op) (c : Coordinating) (drawn : ℕ) (ws : List ℕ) (closed : IsClosedAfter (plan_of heap) v c drawn ws) (own : (a : ℕ) (j : HeapJob G) → slice_get done a ≡ Some j → by a v.log ≡ own_of j.handle) where
  abbrev q : Planned
  q = plan_of heap

  abbrev list : List (Entry Op)
  list = closed.list

  -- the job of an actor, and its entries in the list
  record Its (a : ℕ) : Type 0 where
    job : HeapJob G
    at : slice_get done a ≡ Some job
    which : number_of job.handle ≡ a
    end : IsAtEnd q.script heap job.handle job.answers.items
    entries : by a list ≡ own_of job.handle

  its : (a : ℕ) → a < seats_of q.layout → Its a
  its a lt =
      let many = all.many in
      let j = there done a (omega (arith, many, lt)) in
      let is = each_first (IsDoneOf q.script heap) a done j.0 all.each j.1 in
      record {
        job = j.0;
        at = j.1;
        which = ap (λ (w : WhichJob). w.actor) is.which;
        end = is.end;
        entries = closed.entries a lt ∙ own a j.0 j.1;
      }

  -- it has ended
  over : (a : ℕ) → a < seats_of q.layout → has_ended (state_of (setting q).kind a list) ≡ true
  over a lt =
      let i = its a lt in
      let h = i.job.handle in
      let same : state_of (setting q).kind a list ≡ machine_actor (machine_of h) =
      law (setting q).kind a list
      ∙ ap (state_of (setting q).kind a) (i.entries ∙ ap (λ (n : ℕ). by n (view_of h).log) i.which)
      ∙ sym (law (setting q).kind a (view_of h).log)
      ∙ ap (λ (n : ℕ). state_of (setting q).kind n (view_of h).log) (sym i.which)
      ∙ ap (λ (p : Planned). state_of (setting p).kind (number_of h) (view_of h).log) (sym i.end.of.plan)
      ∙ sym h.hand.state in
      ap has_ended same ∙ ended_has h i.end.over

  run : IsRun q.script q.layout list
  run = record {
    legal = closed.legal;
    turns = λ a lt.
        let i = its a (omega (arith, lt)) in
        ap (λ (es : List (Entry Op)). reverse (begun_in es)) i.entries ∙ i.end.turns (subst (λ (n : ℕ). n < q.layout.procs) (sym i.which) lt) ∙ ap (turns_of q.script) i.which;
    done = over;
  }

  -- no credit is about to lapse
  none_lapses : coord.lapsed_at c.lapsed c.stage ≡ c.lapsed
  none_lapses = lapsed_at_end c.lapsed c.stage (ap has_ended closed.coordinator ∙ over (acks_of q.layout) (omega arith))

  -- the answers of a goroutine in the list are those that its processor's job has kept
  record Kept (g : ℕ) : Type 0 where
    job : HeapJob G
    at : slice_get done (g % q.script.settings.procs) ≡ Some job
    same : answers_by g job.answers.items ≡ answers_by g (answers_given q.script q.layout list)

  kept : (g : ℕ) → q.layout.procs ≡ q.script.settings.procs → Kept g
  kept g procs =
      let a = g % q.script.settings.procs in
      let some = q.layout.limits.procs_fit.0 in
      let below = mod_below g q.script.settings.procs (omega (arith, procs, some)) in
      let lt : a < q.layout.procs = omega (arith, procs, below) in
      let i = its a (omega (arith, lt)) in
      let left : has_left_at (state_of (processor_kind q.script.shapes q.layout) a list).task ≡ true = sym (ap has_ended (is_processor q.script q.layout a lt list)) ∙ over a (omega (arith, lt)) in
      record {
        job = i.job;
        at = i.at;
        same = ap (answers_by g) (
            i.end.kept (subst (λ (n : ℕ). n < q.layout.procs) (sym i.which) lt)
            ∙ ap (λ (n : ℕ). answers_in q n (own_of i.job.handle)) i.which
            ∙ ap (answers_in q a) (sym i.entries)
            ∙ sym (given_at_end q law a lt list procs closed.legal left)
            )
            ∙ by_seat q.script a g (eq-eqb a a refl) (answers_given q.script q.layout list);
      }

  told_so : (answers : List (ℕ × Answer)) → EveryRunIsExplained → WellFormed q.script → LaysOut q.script q.layout → ((g : ℕ) (j : HeapJob G) → slice_get done (g % q.script.settings.procs) ≡ Some j → answers_by g answers ≡ answers_by g j.answers.items) → IsRunByThreads q.script (outcome_by answers (drawn_after heap list) c)
  told_so answers explained formed out told = record {
    layout = q.layout;
    lays_out = out;
    steps = list;
    outcome = outcome_by (answers_given q.script q.layout list) (drawn_after heap list) c;
    explained = explained q.script q.layout list c formed out run (sym closed.coordinator);
    answers = λ g. let k = kept g out.procs_are in told g k.job k.at ∙ k.same;
    cycles = refl;
    credit = (refl, refl, refl);
    live = (refl, refl);
  }

-- so it is of the script of the heap
pub told_by_jobs : {G : Type 0} (p : Program) (heap : Heap) (law : OfItsOwn) (done : List (HeapJob G)) (v : View Planned Op) (c : Coordinating) (drawn : ℕ) (ws : List ℕ) (answers : List (ℕ × Answer)) → EveryRunIsExplained → WellFormed p → IsHeapOf p heap → AreDoneOf p heap done → (closed : IsClosedAfter (plan_of heap) v c drawn ws) →
    ((a : ℕ) (j : HeapJob G) → slice_get done a ≡ Some j → by a v.log ≡ own_of j.handle) → ((g : ℕ) (j : HeapJob G) → slice_get done (g % p.settings.procs) ≡ Some j → answers_by g answers ≡ answers_by g j.answers.items) → IsRunByThreads p (outcome_by answers (drawn_after heap closed.list) c)
told_by_jobs {G = G} p heap law done v c drawn ws answers explained formed is all closed own told =
    subst (λ (x : Program). WellFormed x → LaysOut x (plan_of heap).layout → AreDoneOf x heap done → ((g : ℕ) (j : HeapJob G) → slice_get done (g % x.settings.procs) ≡ Some j → answers_by g answers ≡ answers_by g j.answers.items) → IsRunByThreads x (outcome_by answers (drawn_after heap closed.list) c)) is.script
    (λ formed out all told. told_so heap law done all v c drawn ws closed own answers explained formed out told) formed is.layout all told

pub lapsed_by_jobs : {G : Type 0} (p : Program) (heap : Heap) (law : OfItsOwn) (done : List (HeapJob G)) (v : View Planned Op) (c : Coordinating) (drawn : ℕ) (ws : List ℕ) → IsHeapOf p heap → AreDoneOf p heap done → IsClosedAfter (plan_of heap) v c drawn ws → ((a : ℕ) (j : HeapJob G) → slice_get done a ≡ Some j → by a v.log ≡ own_of j.handle) → coord.lapsed_at c.lapsed c.stage ≡ c.lapsed
lapsed_by_jobs p heap law done v c drawn ws is all closed own = none_lapses heap law done (subst (λ (x : Program). AreDoneOf x heap done) (sym is.script) all) v c drawn ws closed own
