-- What a run has so far, and what it has when the world is done.
use Rattle.std.proofs.Common.{◌≡◌, ℕ, ◌+◌, ◌%◌, ◌^◌, ◌<◌, ◌≤◌, true, false, List, [], ◌∷◌, ◌++◌, length, map, refl, sym, ◌∙◌, ap, subst, Some, arith, length-append}
use Rattle.gh_replay.proofs.Vocabulary.{actor_after, actor_of, actors_of, AllDone, Answer, answer_in, answered_in, answered_of, answers_given, Appends, Coordinating, drawn_of, ended_after, Entry, Event, event_of, EveryRunIsExplained, is_done, IsAfter, IsExplained, IsReplayed, IsRun, IsScheduled, IsUnfinished, Layout, layout_of, LaysOut, marked_by, marks_at, moved, now_in, Op, opening, Outcome, outcome_by, Plan, points_of, PointsAreStatements, Program, RanWithinBudget, reached_in, script_of, seats_of, seen_of, setting_of, spent_after, Standing, stands_in, State, StatementsAreEnough, swept_cycle, total_of, WellFormed, who, with_goroutine}
use Rattle.gh_coord.specs.Keeping.{last_kept}
use Rattle.gh_world.specs.Below.{spent_at}
use Rattle.gh_lists.specs.Wants.{total}
use Rattle.gh_lists.specs.Sums.{total_same}
use Rattle.gh_replay.proofs.Along.{are_along, comes_to, RunsBeside}
use Rattle.gh_replay.proofs.Answering.{none_answered, one_answered}
use Rattle.gh_replay.proofs.Choosing.{Agree, same_moved, same_who, who_there}
use Rattle.gh_replay.proofs.Seen.{agree, is_led, marked, quiet}

-- so far the world has taken turns of the budget as the schedule says and answered so, and the schedule stands so
pub record Midway (w : State) (plan : Plan) (budget left : ℕ) (s : Standing) (answers : List (ℕ × Answer)) : Type 0 where
  pub turns : List (Entry Op)
  pub after : IsAfter w turns
  pub long : length turns + left ≡ budget
  pub scheduled : IsScheduled (script_of w) (layout_of w) plan turns
  pub stands : s ≡ stands_in (script_of w) (layout_of w) plan turns
  pub given : answers ≡ answers_given (script_of w) (layout_of w) turns
  pub counted : length answers ≡ answered_of w

-- what one turn more is: of this actor, whose turn it is
pub record Turn (w v : State) (actor : ℕ) (happened : Event) : Type 0 where
  pub appended : (es : List (Entry Op)) → IsAfter w es → Appends v actor es happened
  pub script : script_of v ≡ script_of w
  pub layout : layout_of v ≡ layout_of w

given_more : (p q : Program) (l k : Layout) (es : List (Entry Op)) (e : Entry Op) (told : List (ℕ × Answer)) (answers : List (ℕ × Answer)) → q ≡ p → k ≡ l → told ≡ with_goroutine (now_in (e ∷ es)).0 (answer_in q.shapes k es e) → answers ≡ answers_given p l es →
    answers ++ told ≡ answers_given q k (e ∷ es)
given_more p q l k es e told answers script layout says given =
    let before = given ∙ ap (λ (r : Program). answers_given r l es) (sym script) ∙ ap (λ (j : Layout). answers_given q j es) (sym layout) in
    ap (λ (xs : List (ℕ × Answer)). xs ++ told) before ∙ ap (λ (xs : List (ℕ × Answer)). answers_given q k es ++ xs) says

-- and as many answers more as statements were answered
counted_more : (w v : State) (e : Entry Op) (es : List (Entry Op)) (told : List (ℕ × Answer)) → script_of v ≡ script_of w → layout_of v ≡ layout_of w → IsAfter w es → IsAfter v (e ∷ es) → told ≡ with_goroutine (now_in (e ∷ es)).0 (answer_in (script_of v).shapes (layout_of v) es e)
    → ((layout_of w).procs ≤ e.actor → told ≡ []) → answered_of v ≡ answered_of w + length told
counted_more w v e es told script layout before after says silent =
    let was = before.keeps.processors in
    let is = after.keeps.processors in
    let procs : (layout_of v).procs ≡ (layout_of w).procs = ap (λ (l : Layout). l.procs) layout in
    one_answered (script_of v).shapes (layout_of v) w.runners v.runners e es told (now_in (e ∷ es)).0
    (λ i x at. marked w es before i x at ∙ ap (λ (q : Program). marks_at q.shapes (layout_of w) i es) (sym script) ∙ ap (λ (l : Layout). marks_at (script_of v).shapes l i es) (sym layout))
    (λ i x at. marked v (e ∷ es) after i x at) (omega (arith, was, is, procs)) says (λ le. silent (omega (arith, was, le)))

-- one turn more
pub more : (w v : State) (happened : Event) (plan : Plan) (budget left rest actor : ℕ) (s after : Standing) (answers : List (ℕ × Answer)) → Midway w plan budget left s answers → left ≡ rest + 1 → Turn w v actor happened →
    s.next < actors_of w → actors_of w ≡ seats_of (layout_of w) → Some actor ≡ who (seen_of w) s → after ≡ moved (seen_of w) actor s → Midway v plan budget rest after (answers ++ answered_in happened)
more w v happened plan budget left rest actor s after answers m one t low seats whose moves =
    let a = t.appended m.turns m.after in
    let same : Agree (seen_of w) (reached_in (script_of w) (layout_of w) m.turns) = agree w m.turns m.after seats in
    let here : who (reached_in (script_of w) (layout_of w) m.turns) (stands_in (script_of w) (layout_of w) plan m.turns) ≡ Some a.e.actor =
    ap (who (reached_in (script_of w) (layout_of w) m.turns)) (sym m.stands) ∙ sym (same_who (seen_of w) (reached_in (script_of w) (layout_of w) m.turns) same s low) ∙ sym whose ∙ ap Some (sym a.by) in
    let there = who_there (seen_of w) s actor low (sym whose) in
    let silent : (layout_of w).procs ≤ a.e.actor → answered_in happened ≡ [] = λ le.
    ap answered_in a.says ∙ ap (λ (q : Program). answered_in (event_of q (layout_of v) m.turns a.e)) t.script ∙ ap (λ (k : Layout). answered_in (event_of (script_of w) k m.turns a.e)) t.layout
    ∙ quiet w m.turns m.after seats a.e.actor (rw a.by there.0) le a.e.begun a.e.found (now_in (a.e ∷ m.turns)) in
    let more_answers = counted_more w v a.e m.turns (answered_in happened) t.script t.layout m.after a.after a.answers silent in
    let long = length-append answers (answered_in happened) in
    let before = m.counted in
    let grown : IsScheduled (script_of w) (layout_of w) plan (a.e ∷ m.turns) = (m.scheduled, here) in
    let then' : after ≡ stands_in (script_of w) (layout_of w) plan (a.e ∷ m.turns) =
    moves ∙ same_moved (seen_of w) (reached_in (script_of w) (layout_of w) m.turns) same actor s ∙ ap (λ (b : ℕ). moved (reached_in (script_of w) (layout_of w) m.turns) b s) (sym a.by) ∙ ap (moved (reached_in (script_of w) (layout_of w) m.turns) a.e.actor) m.stands in
    record {
      turns = a.e ∷ m.turns;
      after = a.after;
      long = omega (arith, m.long, one);
      scheduled = subst (λ (q : Program). IsScheduled q (layout_of v) plan (a.e ∷ m.turns)) (sym t.script) (subst (λ (k : Layout). IsScheduled (script_of w) k plan (a.e ∷ m.turns)) (sym t.layout) grown);
      stands = then' ∙ ap (λ (k : Layout). stands_in (script_of w) k plan (a.e ∷ m.turns)) (sym t.layout) ∙ ap (λ (q : Program). stands_in q (layout_of v) plan (a.e ∷ m.turns)) (sym t.script);
      given = given_more (script_of w) (script_of v) (layout_of w) (layout_of v) m.turns a.e (answered_in happened) answers t.script t.layout a.answers m.given;
      counted = omega (arith, long, before, more_answers);
    }

-- no more answers than statements
pub roomy : (w : State) (plan : Plan) (budget left : ℕ) (s : Standing) (answers : List (ℕ × Answer)) → answered_of w ≤ total_of (script_of w) → Midway w plan budget left s answers → length answers ≤ total_of (script_of w)
roomy w plan budget left s answers few m =
    let many = m.counted in
    omega (arith, many, few)

-- one answer more has room
pub room_for : (v : State) (happened : Event) (plan : Plan) (budget rest : ℕ) (after : Standing) (answers : List (ℕ × Answer)) (room total g n : ℕ) (a : Answer) → Midway v plan budget rest after (answers ++ answered_in happened) → answered_of v ≤ total_of (script_of v) → happened ≡ Event.Answered g n a → total_of (script_of v) ≡ total → total ≤ room → length answers < room
room_for v happened plan budget rest after answers room total g n a m sound is same few =
    let within : length (answers ++ answered_in happened) ≤ total_of (script_of v) = roomy v plan budget rest after (answers ++ answered_in happened) sound m in
    let grown : length (answers ++ answered_in happened) ≡ length answers + 1 = ap (λ (e : Event). length (answers ++ answered_in e)) is ∙ length-append answers ((g, a) ∷ []) in
    omega (arith, within, grown, same, few)

pub opens : (w : State) (plan : Plan) (budget : ℕ) (s : Standing) (answers : List (ℕ × Answer)) → IsAfter w [] → s ≡ opening plan → answers ≡ [] → Midway w plan budget budget s answers
opens w plan budget s answers after stands empty =
    let none = none_answered (script_of w).shapes (layout_of w) w.runners (λ i x at. marked w [] after i x at) in
    let no_answers : length answers ≡ 0 = ap (λ (xs : List (ℕ × Answer)). length xs) empty in
    record { turns = []; after = after; long = omega arith; scheduled = tt; stands = stands; given = empty; counted = omega (arith, none, no_answers) }

pub ran : (w : State) (plan : Plan) (budget left : ℕ) (s : Standing) (answers : List (ℕ × Answer)) → Midway w plan budget left s answers → (¬ AllDone w → left ≡ 0) → RanWithinBudget w plan budget answers
ran w plan budget left s answers m none = record {
  turns = m.turns;
  after = m.after;
  few = omega (arith, m.long);
  scheduled = m.scheduled;
  all = λ going. let z = none going in omega (arith, m.long, z);
  given = m.given;
}

-- what the world's processors have drawn is so by the list that it is the state of
drawn_is : (w : State) (es : List (Entry Op)) → IsAfter w es → spent_after (script_of w) (layout_of w) es ≡ drawn_of w
drawn_is w es after =
    let procs = after.keeps.processors in
    let workers = after.keeps.workers in
    let seats : seats_of (layout_of w) ≡ actors_of w = omega (arith, procs, workers) in
    ap (total (λ (a : ℕ). spent_at (actor_after (script_of w) (layout_of w) es a))) seats
    ∙ total_same (λ (a : ℕ). spent_at (actor_of w a)) (λ (a : ℕ). spent_at (actor_after (script_of w) (layout_of w) es a)) (actors_of w) (λ a lt. ap spent_at (sym (after.actors a lt)))

module _ (law : EveryRunIsExplained) (w : State) (plan : Plan) (budget : ℕ) (answers : List (ℕ × Answer)) (r : RanWithinBudget w plan budget answers) (whole : (es : List (Entry Op)) → IsAfter w es → IsRun (script_of w) (layout_of w) es) where
  -- of the world's own script
  replayed : LaysOut (script_of w) (layout_of w) → WellFormed (script_of w) → IsReplayed (script_of w) plan budget (outcome_by answers (drawn_of w) w.coord)
  replayed lays formed = record {
    layout = layout_of w;
    lays_out = lays;
    turns = r.turns;
    few = r.few;
    scheduled = r.scheduled;
    explained = subst (λ (xs : List (ℕ × Answer)). IsExplained (script_of w) (layout_of w) r.turns (outcome_by xs (drawn_of w) w.coord)) (sym r.given)
        (subst (λ (n : ℕ). IsExplained (script_of w) (layout_of w) r.turns (outcome_by (answers_given (script_of w) (layout_of w) r.turns) n w.coord)) (drawn_is w r.turns r.after)
        (law (script_of w) (layout_of w) r.turns w.coord formed lays (whole r.turns r.after) (is_led w r.turns r.after)));
  }

  -- the statements at the world's points, and their answers
  beside_own : PointsAreStatements → StatementsAreEnough → LaysOut (script_of w) (layout_of w) → WellFormed (script_of w) → RunsBeside (script_of w) plan budget (outcome_by answers (drawn_of w) w.coord) (points_of w) answers
  unfolding replayed
  beside_own points enough lays formed =
      let x = replayed lays formed in
      record {
        replayed = x;
        along = are_along points enough (script_of w) (layout_of w) formed lays r.turns (outcome_by answers (drawn_of w) w.coord) x.explained (points_of w) answers r.after.points refl;
        comes_to = comes_to points enough (script_of w) (layout_of w) formed lays r.turns (outcome_by answers (drawn_of w) w.coord) x.explained;
      }

-- the world's script and layout, where they are these
pub finished : EveryRunIsExplained → (w : State) (p : Program) (plan : Plan) (budget : ℕ) (answers : List (ℕ × Answer)) → WellFormed p → script_of w ≡ p → LaysOut p (layout_of w) → RanWithinBudget w plan budget answers → ((es : List (Entry Op)) → IsAfter w es → IsRun (script_of w) (layout_of w) es) → IsReplayed p plan budget (outcome_by answers (drawn_of w) w.coord)
finished law w p plan budget answers formed script lays r whole = subst Goal script (replayed law w plan budget answers r whole) lays formed where
  Goal : Program → Type 0
  Goal q = LaysOut q (layout_of w) → WellFormed q → IsReplayed q plan budget (outcome_by answers (drawn_of w) w.coord)

pub beside : PointsAreStatements → StatementsAreEnough → EveryRunIsExplained → (w : State) (p : Program) (plan : Plan) (budget : ℕ) (answers : List (ℕ × Answer)) → WellFormed p → script_of w ≡ p → LaysOut p (layout_of w) → RanWithinBudget w plan budget answers → ((es : List (Entry Op)) → IsAfter w es → IsRun (script_of w) (layout_of w) es) →
    RunsBeside p plan budget (outcome_by answers (drawn_of w) w.coord) (points_of w) answers
beside points enough law w p plan budget answers formed script lays r whole = subst Goal script (beside_own law w plan budget answers r whole points enough) lays formed where
  Goal : Program → Type 0
  Goal q = LaysOut q (layout_of w) → WellFormed q → RunsBeside q plan budget (outcome_by answers (drawn_of w) w.coord) (points_of w) answers

-- an actor that is not done, by the lists that the world is the state of
pub record Going (w : State) : Type 0 where
  pub who : ℕ
  pub there : who < seats_of (layout_of w)
  pub going : (es : List (Entry Op)) → IsAfter w es → ended_after (setting_of (script_of w) (layout_of w)) es who ≡ false

pub unfinished : (w : State) (p : Program) (plan : Plan) (budget : ℕ) (answers : List (ℕ × Answer)) → WellFormed p → script_of w ≡ p → LaysOut p (layout_of w) → RanWithinBudget w plan budget answers → ¬ AllDone w → Going w → IsUnfinished p plan budget
unfinished w p plan budget answers formed script lays r going g = subst Goal script here lays formed where
  Goal : Program → Type 0
  Goal q = LaysOut q (layout_of w) → WellFormed q → IsUnfinished q plan budget

  here : LaysOut (script_of w) (layout_of w) → WellFormed (script_of w) → IsUnfinished (script_of w) plan budget
  here lays formed = record {
    layout = layout_of w;
    lays_out = lays;
    turns = r.turns;
    so_far = r.after.run;
    scheduled = r.scheduled;
    long = r.all going;
    who = g.who;
    there = g.there;
    going = g.going r.turns r.after;
  }

-- the outcome, by its numbers
pub outcome_is : (o : Outcome) (answers : List (ℕ × Answer)) (drawn : ℕ) (c : Coordinating) → o.answers ≡ answers → o.cycles ≡ map swept_cycle c.cycles.items → (o.earned ≡ (drawn + c.lapsed) % 2 ^ 64) × (o.spent ≡ drawn % 2 ^ 64) × (o.lapsed ≡ c.lapsed) → o.objects ≡ marked_by (last_kept c.cycles) → o.bytes ≡ c.live → o ≡ outcome_by answers drawn c
outcome_is o answers drawn c a b credit d e = grind arith

-- an actor that is not done is one that is not
pub not_all : (w : State) (a : ℕ) → a < actors_of w → is_done w a ≡ false → ¬ AllDone w
not_all w a lt going all = let no : true ≡ false = sym (all a lt) ∙ going in absurd cc
