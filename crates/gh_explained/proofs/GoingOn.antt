-- A run of a script so far goes on by a step of any actor that has not ended: a processor's next step is that of its turns, and each step is on a word that there is. It is whole when all have ended.
use Rattle.std.proofs.Common.{◌≡◌, ℕ, ◌+◌, ◌<◌, ◌≤◌, Bool, true, false, cond, eqb, not, ◌||◌, List, [], ◌∷◌, ◌++◌, length, reverse, refl, sym, ap, subst, ◌∙◌, Option, Some, None, arith, eqb-true}
use Rattle.std.proofs.lemmas.List.{append_cancel_left, append-nil}
use Rattle.gh_explained.proofs.Vocabulary.{acks_of, Actor, actor_after, actor_takes, acts, AllStands, before, begin_facts, BeginFacts, Begins, begins_at, begins_busy, begins_now, begun_in, begun_is, bit, by, cell_of, ended_at, ended_in, Entry, gives_at, GoesOnBy, has_ended, has_ended_in, has_left, has_left_at, is_busy_at, is_leaving, is_processor, is_run_due, is_statement, IsRun, IsRunSoFar, Kind, Layout, LaysOut, leave_is_begun, leaves, Legal, MadeAtMost, MayBeOver, Next, one_more, Op, op_due, opens_at, option_to_list, Polled, Processor, processor_kind, Program, setting_of, setup_of, Stands, started, state_of, statements_among, step_facts, StepFacts, takes, Task, to_come, total_by-le, total_of, turns_of, turns_say, WellFormed, words_after}
use Rattle.gh_coord.specs.GoingOn.{HasNext}
use Rattle.gh_mutator.specs.PollRoom.{PollsMakeRoom}
use Rattle.gh_worker.specs.Listing as worker
use Rattle.gh_world.proofs.Vocabulary.{begins, ends, GoesOnUntilDone, made_by, opening_processor, read_replicate}
use Rattle.gh_world.proofs.MayBegin.{due_begins, ended_then, left_then}
use Rattle.gh_lists.specs.Seats.{IsSeated, seated}
use Rattle.gh_world.proofs.Due.{due_runs, false_unless, has_due, idle_not_leaving, none_to_come, not_over}
use Rattle.gh_world.proofs.Fitting.{due_room, polled_begun, polled_stepped}
use Rattle.gh_explained.proofs.Following.{coming, due_first, Following, following}

left_leaves : (t : Task) → has_left_at t ≡ true → is_leaving t ≡ true
left_leaves t e = grind arith

not_false : (b : Bool) → not b ≡ false → b ≡ true
not_false b e = grind arith

module _ (p : Program) (l : Layout) where
  abbrev one : Kind Processor Op
  one = processor_kind p.shapes l

  abbrev all : Kind Actor Op
  all = (setting_of p l).kind

  abbrev Lawful : List (Entry Op) → Type 0
  Lawful es = Legal (setting_of p l) es

  -- what is needed of lower laws
  pub record Laws : Type 0 where
    pub own : (a : ℕ) (es : List (Entry Op)) → state_of one a es ≡ state_of one a (by a es)
    pub on : GoesOnUntilDone
    pub polls : PollsMakeRoom
    pub stands : (es : List (Entry Op)) → IsRunSoFar p l es → AllStands (setup_of p l) es

  -- ---- the coordinator has a further step as long as it is not done

  module _ (on : GoesOnUntilDone) where
    abbrev HasNextAt : Actor → Type 0
    HasNextAt (Actor.Runs m) = Unit {0}
    HasNextAt (Actor.Marks w) = Unit {0}
    HasNextAt (Actor.Leads c) = HasNext c

    next_first : (a : ℕ) → HasNextAt (actor_after p l [] a)
    next_first a = grind arith

    next_then : (o : Option Op) (x : Actor) (found : ℕ) → all.busy (started all o x) ≡ true → HasNextAt x → HasNextAt (actor_takes p.shapes l (started all o x) found)
    next_then o x found busy h = grind arith

    next_at : (es : List (Entry Op)) → Lawful es → (a : ℕ) → HasNextAt (actor_after p l es a)
    next_at [] legal a = next_first a
    next_at (e ∷ es) legal a = go (eqb e.actor a) refl (next_at es legal.0 a) where
      go : (b : Bool) → eqb e.actor a ≡ b → HasNextAt (actor_after p l es a) → HasNextAt (cond b (actor_takes p.shapes l (started all e.begun (actor_after p l es a)) e.found) (actor_after p l es a))
      go false x h = h
      go true x h =
          let same : e.actor ≡ a = eqb-true e.actor a x in
          next_then e.begun (actor_after p l es a) e.found (subst (λ (b : ℕ). all.busy (started all e.begun (actor_after p l es b)) ≡ true) same legal.1.runs) h

-- only what a turn has behind its poll rests on that poll
polled_unless : (t : Next) (m : Processor) → is_run_due t ≡ false → Polled t m
polled_unless t m e = grind arith

-- before its first step a processor has made nothing
made_none : (a : ℕ) → MadeAtMost 0 (opening_processor a)
made_none a g = let none : made_by (opening_processor a) g ≡ 0 = read_replicate {A = ℕ} 32 g 0 in omega (arith, none)

module _ (p : Program) (l : Layout) (formed : WellFormed p) (lays : LaysOut p l) (laws : Laws p l) where
  -- ---- what a run has begun of a processor

  module _ (a : ℕ) where
    abbrev after_list : List (Entry Op) → Processor
    after_list es = state_of (one p l) a es

    -- what a list of a run keeps of the processor, which is m, where these operations have begun
    record Keeps (m : Processor) (bs : List Op) (over : ℕ → Bool) (gone : Bool) : Type 0 where
      turn : Next
      stated : ℕ
      made : MadeAtMost stated m
      stands : Stands p a turn
      all : stated + statements_among (to_come p a turn) ≤ total_of p
      leaves : is_leaving m.task ≡ leave_is_begun turn
      polled : Polled turn m
      turns : turns_of p a ≡ reverse bs ++ to_come p a turn
      ended : (g : ℕ) → over g ≡ true → MayBeOver p turn g
      left : gone ≡ true → leave_is_begun turn ≡ true

    -- behind a list, and where this is begun behind it
    abbrev Behind : List (Entry Op) → Type 0
    Behind es = Keeps (after_list es) (begun_in (by a es)) (ended_in (by a es)) (has_left (by a es))

    record Begun (es : List (Entry Op)) (o : Option Op) : Type 0 where
      keeps : Keeps (started (one p l) o (after_list es)) (option_to_list o ++ begun_in (by a es)) (λ g. ends o g || ended_in (by a es) g) (leaves o || has_left (by a es))
      busy : is_busy_at (started (one p l) o (after_list es)).task ≡ true

    opens : Behind []
    opens =
        let c = coming p a 0 0 (omega arith) in
        let turns : turns_of p a ≡ to_come p a c.turn = opens_at p a ∙ sym c.come in
        let say = turns_say p a in
        let few = total_by-le p a in
        let same : statements_among (turns_of p a) ≡ statements_among (to_come p a c.turn) = ap statements_among turns in
        record {
          turn = c.turn;
          stated = 0;
          made = made_none a;
          stands = c.stands;
          all = omega (arith, say, few, same);
          leaves = sym c.going;
          polled = polled_unless c.turn (opening_processor a) c.no_run;
          turns = turns;
          ended = λ g e. absurd cc;
          left = λ e. absurd cc;
        }

    begin_none : (es : List (Entry Op)) → Behind es → is_busy_at (after_list es).task ≡ true → Begun es None
    begin_none es k busy = record {
      keeps = record { turn = k.turn; stated = k.stated; made = k.made; stands = k.stands; all = k.all; leaves = k.leaves; polled = k.polled; turns = k.turns; ended = k.ended; left = k.left };
      busy = busy;
    }

    -- a processor that has an operation due has not left
    not_left : (es : List (Entry Op)) (o : Op) (k : Behind es) → op_due p k.turn ≡ Some o → has_left_at (after_list es).task ≡ false
    not_left es o k due = false_unless (has_left_at (after_list es).task) (λ e. not_over p k.turn o due (sym k.leaves ∙ left_leaves (after_list es).task e))

    begin_some : (es : List (Entry Op)) (o : Op) (k : Behind es) → op_due p k.turn ≡ Some o → Begun es (Some o)
    begin_some es o k due = record { keeps = subst Kept is kept; busy = subst (λ (n : Processor). is_busy_at n.task ≡ true) is busy } where
      m : Processor
      m = after_list es

      new : Processor
      new = begins p.shapes m o

      f : Following p a k.turn o
      f = following p a k.turn o k.stands due

      busy : is_busy_at (begins_at p.shapes m o) ≡ true
      busy = begins_busy p.shapes m l.goroutines l.globals (length p.shapes) o (due_runs p l formed lays a k.turn o k.stands due).ranged

      facts : BeginFacts o (begins_at p.shapes m o)
      facts = begin_facts p.shapes m o busy

      Kept : Processor → Type 0
      Kept n = Keeps n (o ∷ begun_in (by a es)) (λ g. ends (Some o) g || ended_in (by a es) g) (leaves (Some o) || has_left (by a es))

      come : statements_among (to_come p a k.turn) ≡ bit (is_statement o) + statements_among (to_come p a f.turn)
      come = ap statements_among f.follows.come

      kept : Kept new
      kept = record {
        turn = f.turn;
        stated = k.stated + bit (is_statement o);
        made = λ g. omega (arith, k.made g, facts.made);
        stands = f.follows.stands;
        all = omega (arith, k.all, come);
        leaves = facts.leaves ∙ sym f.follows.leaves;
        polled = polled_begun laws.polls p p.shapes m k.turn f.turn o due f.polled;
        turns = k.turns ∙ ap (λ (xs : List Op). reverse (begun_in (by a es)) ++ xs) f.follows.come ∙ sym (one_more o (begun_in (by a es)) (to_come p a f.turn));
        ended = ended_then p a k.turn o f.turn (ended_in (by a es)) f.follows k.ended;
        left = left_then p a k.turn o f.turn (has_left (by a es)) f.follows due k.left;
      }

      is : new ≡ started (one p l) (Some o) m
      is = ap (λ (b : Bool). cond b m new) (sym (not_left es o k due))

    -- a step of what is begun
    stepped : (es : List (Entry Op)) (e : Entry Op) → eqb e.actor a ≡ true → Begun es e.begun → Behind (e ∷ es)
    stepped es e own b =
        let k = b.keeps in
        let m = started (one p l) e.begun (after_list es) in
        let s : StepFacts m m.task (takes l p.shapes m e.found) (acts l m e.found) (gives_at l m m.task e.found) = step_facts l p.shapes m m.task e.found b.busy in
        rw own (record {
          turn = k.turn;
          stated = k.stated;
          made = λ g. omega (arith, k.made g, s.counted g);
          stands = k.stands;
          all = k.all;
          leaves = s.leaves ∙ k.leaves;
          polled = polled_stepped laws.polls l p.shapes m k.turn e.found k.polled;
          turns = k.turns;
          ended = k.ended;
          left = k.left;
        })

    -- a step of another actor
    passed_by : (es : List (Entry Op)) (e : Entry Op) → eqb e.actor a ≡ false → Behind es → Behind (e ∷ es)
    passed_by es e other k = rw other (record { turn = k.turn; stated = k.stated; made = k.made; stands = k.stands; all = k.all; leaves = k.leaves; polled = k.polled; turns = k.turns; ended = k.ended; left = k.left })

    busy_is : a < l.procs → (es : List (Entry Op)) → (all p l).busy (actor_after p l es a) ≡ is_busy_at (after_list es).task
    busy_is seat es = ap (λ (x : Actor). (all p l).busy x) (is_processor p l a seat es)

    -- what begins behind a list is what is due
    begun_as_due : a < l.procs → (es : List (Entry Op)) (o : Option Op) (rest : List Op) → Behind es → Begins (setting_of p l) a es o → turns_of p a ≡ reverse (begun_in (by a es)) ++ (option_to_list o ++ rest) → Begun es o
    begun_as_due seat es None rest k begins turns = begin_none es k (sym (busy_is seat es) ∙ begins)
    begun_as_due seat es (Some o) rest k begins turns = begin_some es o k (due_first p a k.turn o rest (append_cancel_left (reverse (begun_in (by a es))) (to_come p a k.turn) (o ∷ rest) (sym k.turns ∙ turns)))

    behind : a < l.procs → (es : List (Entry Op)) → IsRunSoFar p l es → Behind es
    behind seat [] r = opens
    behind seat (e ∷ es) r = go (eqb e.actor a) refl (behind seat es (before p l e es r)) where
      go : (b : Bool) → eqb e.actor a ≡ b → Behind es → Behind (e ∷ es)
      go true own k =
          let same : e.actor ≡ a = eqb-true e.actor a own in
          let begins : Begins (setting_of p l) a es e.begun = subst (λ (n : ℕ). Begins (setting_of p l) n es e.begun) same r.legal.1.begins in
          stepped es e own (begun_as_due seat es e.begun (r.to_come a) k begins (begins_now p l a e es (r.to_come a) same (r.turns a seat)))
      go false other k = passed_by es e other k

  -- ---- the entry that follows

  -- what an actor is where this begins
  abbrev now : List (Entry Op) → ℕ → Option Op → Actor
  now es a o = started (all p l) o (actor_after p l es a)

  abbrev entry : List (Entry Op) → ℕ → Option Op → Entry Op
  entry es a o = record { actor = a; begun = o; ask = (all p l).asks (now es a o); found = words_after (setting_of p l).opening es (cell_of ((all p l).asks (now es a o))) }

  -- what is to come of each processor behind it
  turns_on : (es : List (Entry Op)) (r : IsRunSoFar p l es) (a : ℕ) (o : Option Op) (rest : List Op) → (a < l.procs → turns_of p a ≡ reverse (option_to_list o ++ begun_in (by a es)) ++ rest) → (b : ℕ) → b < l.procs → turns_of p b ≡ reverse (begun_in (by b (entry es a o ∷ es))) ++ cond (eqb a b) rest (r.to_come b)
  turns_on es r a o rest turns b lt = grind arith

  follows_so : (es : List (Entry Op)) (a : ℕ) (o : Option Op) (rest : List Op) → IsRunSoFar p l es → a < (setting_of p l).actors → Begins (setting_of p l) a es o → (all p l).busy (now es a o) ≡ true → (a < l.procs → turns_of p a ≡ reverse (option_to_list o ++ begun_in (by a es)) ++ rest) → GoesOnBy p l es a
  follows_so es a o rest r lt begins runs turns = record {
    e = entry es a o;
    by = refl;
    more = record { legal = (r.legal, record { actor = lt; begins = begins; runs = runs; asks = refl; within = (laws.stands es r).within a o (record { seat = lt; begins = begins; runs = runs }); found = refl }); to_come = λ b. cond (eqb a b) rest (r.to_come b); turns = turns_on es r a o rest turns };
  }

  -- a processor's
  module _ (es : List (Entry Op)) (r : IsRunSoFar p l es) where
    by_processor : (a : ℕ) (seat : a < l.procs) (o : Option Op) → Begins (setting_of p l) a es o → Begun a es o → GoesOnBy p l es a
    by_processor a seat o begins b =
        let is : now es a o ≡ Actor.Runs (started (one p l) o (after_list a es)) = begun_is p l a seat es o in
        follows_so es a o (to_come p a b.keeps.turn) r (omega (arith, seat)) begins (ap (λ (x : Actor). (all p l).busy x) is ∙ b.busy) (λ lt. b.keeps.turns)

    of_processor : (a : ℕ) (seat : a < l.procs) → has_left_at (after_list a es).task ≡ false → GoesOnBy p l es a
    of_processor a seat going = go (is_busy_at (after_list a es).task) refl (behind a seat es r) where
      go : (b : Bool) → is_busy_at (after_list a es).task ≡ b → Behind a es → GoesOnBy p l es a
      go true busy k = by_processor a seat None (busy_is a seat es ∙ busy) (begin_none a es k busy)
      go false idle k =
          let due = has_due p k.turn (sym k.leaves ∙ idle_not_leaving (after_list a es).task idle going) in
          by_processor a seat (Some due.0)
          (due_begins p l formed lays a seat (laws.own a) es k.turn due.0 k.stated idle due.1 k.made k.stands k.all k.turns k.ended k.left (due_room laws.polls p (after_list a es) k.turn due.0 idle due.1 k.polled))
          (begin_some a es due.0 k due.1)

    -- an actor's that begins nothing
    of_other : (a : ℕ) (x : Actor) → actor_after p l es a ≡ x → l.procs ≤ a → a < (setting_of p l).actors → (all p l).busy x ≡ true → GoesOnBy p l es a
    of_other a x is high lt busy =
        let runs = ap (λ (y : Actor). (all p l).busy y) is ∙ busy in
        follows_so es a None [] r lt runs runs (λ low. absurd (omega (arith, low, high)))

    pub goes_on : (a : ℕ) → a < (setting_of p l).actors → ended_at (setting_of p l) es a ≡ false → GoesOnBy p l es a
    goes_on a lt going = go (actor_after p l es a) refl where
      go : (x : Actor) → actor_after p l es a ≡ x → GoesOnBy p l es a
      go (Actor.Runs m) is =
          let low : a < l.procs = subst (IsSeated l a) is (seated (setup_of p l) es a) in
          of_processor a low (sym (ap has_ended (is_processor p l a low es)) ∙ going)
      go (Actor.Marks w) is =
          let high : l.procs ≤ a = (subst (IsSeated l a) is (seated (setup_of p l) es a)).0 in
          of_other a (Actor.Marks w) is high lt (not_false (worker.is_busy w.stage) (sym (ap has_ended is) ∙ going))
      go (Actor.Leads c) is =
          let next : HasNext c = subst (HasNextAt p l laws.on) is (next_at p l laws.on es r.legal a) in
          let high : acks_of l ≤ a = subst (IsSeated l a) is (seated (setup_of p l) es a) in
          of_other a (Actor.Leads c) is (omega (arith, high)) lt (next ∙ ap not (sym (ap has_ended is) ∙ going))

    pub ends_whole : ((a : ℕ) → a < (setting_of p l).actors → has_ended_in p l es a) → IsRun p l es
    ends_whole done = record { legal = r.legal; turns = all_begun; done = done } where
      all_begun : (a : ℕ) → a < l.procs → reverse (begun_in (by a es)) ≡ turns_of p a
      all_begun a seat =
          let k = behind a seat es r in
          let left : has_left_at (after_list a es).task ≡ true = sym (ap has_ended (is_processor p l a seat es)) ∙ done a (omega (arith, seat)) in
          let none = none_to_come p a k.turn (sym k.leaves ∙ left_leaves (after_list a es).task left) in
          sym (k.turns ∙ ap (λ (xs : List Op). reverse (begun_in (by a es)) ++ xs) none ∙ append-nil (reverse (begun_in (by a es))))
