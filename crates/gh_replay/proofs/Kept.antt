-- Who goes on behind a step: whoever did, but for its actor where the step says that this is done.
use Rattle.std.proofs.Common.{◌≡◌, ◌≢◌, ℕ, zero, suc, ◌+◌, ◌<◌, Bool, true, false, cond, eqb, eq-eqb, not, List, ◌∷◌, Option, refl, sym, ap, ◌∙◌, arith, ◌↔◌, IfSome, is_some, IsNone}
use Rattle.std.proofs.lemmas.Bool.{eqb-true}
use Rattle.gh_replay.proofs.Vocabulary.{Actor, actor_after, actors_of, AllGoOn, Answer, Appends, Cycle, done_or, Entry, Event, event_at, event_by, event_of, filter, going, has_ended, has_left_at, is_done, is_last, IsAfter, KnowsThoseGoing, Layout, layout_of, Name, Op, Program, range_with_len, script_of, seats_of, seen_of, setting_of, Shape, started, State, told_event}
use Rattle.gh_coord.specs.declared.coord.CoordStage.{CoordStage}
use Rattle.gh_coord.specs.Listing as coord
use Rattle.gh_poll.specs.declared.leave.LeaveStage.{LeaveStage}
use Rattle.gh_mutator.specs.declared.new.NewStage.{NewStage}
use Rattle.gh_mutator.specs.declared.new.Wanted.{Wanted}
use Rattle.gh_mutator.specs.Processing.{Processor}
use Rattle.gh_mutator.specs.declared.step.Then.{Then}
use Rattle.gh_mutator.specs.declared.task.Task.{Task}
use Rattle.gh_poll.specs.Leave.{says_gone}
use Rattle.gh_poll.specs.Leave as leave
use Rattle.gh_mutator.specs.Listing.{after_gc, after_leave, after_poll, follows, takes_at}
use Rattle.gh_mutator.specs.New.{after_assist, after_search, after_wait, made_task}
use Rattle.gh_mutator.specs.New as new
use Rattle.gh_mutator.specs.Vocabulary.{Assisting, Found, Leaving, Placing, Polling, Seeking, Waiting}
use Rattle.gh_lists.specs.Handshake.{actor_takes}
use Rattle.gh_replay.specs.declared.place.Place as place

-- ---- a step says that its actor is done exactly where it is then

abbrev pub is_finished : Event → Bool
is_finished (Event.Answered g n a) = false
is_finished Event.Moved = false
is_finished (Event.Swept k marked freed) = false
is_finished Event.Finished = true

-- what a step says of a processor, and of another actor
of_last : (now : ℕ × ℕ) (last : Bool) (a : Option Answer) → is_finished (event_at now last a) ≡ last
of_last now last a = grind arith

of_out : (out : Option (Unit {0})) (other : Event) → is_finished other ≡ false → is_finished (done_or out other) ≡ is_some out
of_out out other e = grind arith

of_told : (told : Option Cycle) → is_finished (told_event told) ≡ false
of_told told = grind arith

-- a processor has left by its last step, and by no other
follow_on : {S : Type 0} (goes : S → Task) (t : Then S) → ((s : S) → has_left_at (goes s) ≡ false) → has_left_at (follows goes t) ≡ false
follow_on goes t on = grind arith

search_on : (shapes : List Shape) (m : Processor) (w : Wanted) (waited : Bool) (s : Seeking) (out : Option Found) → has_left_at (after_search shapes m w waited s out).task ≡ false
search_on shapes m w waited s out = grind arith

wait_on : (m : Processor) (w : Wanted) (x : Waiting) (out : Option (Unit {0})) → has_left_at (after_wait m w x out).task ≡ false
wait_on m w x out = grind arith

place_on : (poll : Polling) (w : Wanted) (p : Placing) (asks : Option Bool) → has_left_at (made_task poll w p asks) ≡ false
place_on poll w p asks = grind arith

assist_on : (m : Processor) (w : Wanted) (n : Name) (x : Assisting) (out : Option (Unit {0})) → has_left_at (after_assist m w n x out).task ≡ false
assist_on m w n x out = grind arith

new_on : (l : Layout) (shapes : List Shape) (m : Processor) (w : Wanted) (s : NewStage) (found : ℕ) → has_left_at (new.takes_at l shapes m w s found).task ≡ false
new_on l shapes m w s found = grind (arith, assist_on, place_on, search_on, wait_on)

gc_on : (m : Processor) (g : ℕ) (x : Waiting) (out : Option (Unit {0})) → has_left_at (after_gc m g x out).task ≡ false
gc_on m g x out = grind arith

poll_on : (m : Processor) (p : Polling) (out : Option (Unit {0})) → has_left_at (after_poll m p out).task ≡ false
poll_on m p out = grind arith

leave_last : (m : Processor) (x : Leaving) (stage : LeaveStage) (found : ℕ) → has_left_at (after_leave m (leave.goes_at x stage found) (leave.given (leave.goes_at x stage found).stage)).task ≡ says_gone stage
leave_last m x stage found = grind arith

left_by : (l : Layout) (shapes : List Shape) (m : Processor) (t : Task) (found : ℕ) → m.task ≡ t → has_left_at t ≡ false → has_left_at (takes_at l shapes m t found).task ≡ is_last t
left_by l shapes m t found is on = grind (arith, follow_on, gc_on, leave_last, new_on, poll_on)

-- the others by what they give
none_busy : (out : Option (Unit {0})) (busy : Bool) → (IsNone out ↔ (busy ≡ true)) → is_some out ≡ not busy
none_busy out busy h = grind arith

not_false : (b : Bool) → not b ≡ false → b ≡ true
not_false b e = grind arith

given_done : (stage : CoordStage) → is_some (coord.given_at stage) ≡ coord.is_done_at stage
given_done stage = grind arith

finished_by : (shapes : List Shape) (l : Layout) (now : ℕ × ℕ) (x : Actor) (found : ℕ) → has_ended x ≡ false → is_finished (event_by l now x found) ≡ has_ended (actor_takes shapes l x found)
finished_by shapes l now x found on = grind (arith, given_done, left_by, none_busy, not_false, of_last, of_out, of_told)

module _ (p : Program) (l : Layout) where
  started_on : (o : Option Op) (x : Actor) → has_ended x ≡ false → has_ended (started (setting_of p l).kind o x) ≡ false
  started_on o x on = grind arith

  finished_in : (es : List (Entry Op)) (e : Entry Op) → has_ended (actor_after p l es e.actor) ≡ false → is_finished (event_of p l es e) ≡ has_ended (actor_takes p.shapes l (started (setting_of p l).kind e.begun (actor_after p l es e.actor)) e.found)
  finished_in es e on = grind (arith, finished_by, started_on)

-- ---- who has ended after a step, and who goes on

-- those that go on, where this one has ended or nobody has
module _ (f g : ℕ → Bool) (actor : ℕ) where
  taken_out : (b m : ℕ) → ((x : ℕ) → x < b + m → f x ≡ cond (eqb actor x) true (g x)) → filter (λ x. not (f x)) (range_with_len b m) ≡ filter (λ x. not (eqb actor x)) (filter (λ x. not (g x)) (range_with_len b m))
  taken_out b zero h = refl
  taken_out b (suc m) h = go (eqb actor b) (g b) refl (f b) (h b (omega arith)) _ _ (taken_out (b + 1) m (λ x lt. h x (omega (arith, lt)))) where
    go : (c d : Bool) → eqb actor b ≡ c → (e : Bool) → e ≡ cond c true d → (F G : List ℕ) → F ≡ filter (λ x. not (eqb actor x)) G → cond (not e) (b ∷ F) F ≡ filter (λ x. not (eqb actor x)) (cond (not d) (b ∷ G) G)
    go c d is e ended F G ih = grind arith

  alike : (b m : ℕ) → ((x : ℕ) → x < b + m → f x ≡ g x) → filter (λ x. not (f x)) (range_with_len b m) ≡ filter (λ x. not (g x)) (range_with_len b m)
  alike b zero h = refl
  alike b (suc m) h = rw (h b (omega arith), alike (b + 1) m (λ x lt. h x (omega (arith, lt)))) refl

-- a step of this actor, which is not done, from the world after the list, and what the world keeps in it
pub record Stepped (w v : State) (actor : ℕ) (happened : Event) (es : List (Entry Op)) : Type 0 where
  pub before : IsAfter w es
  pub appends : Appends v actor es happened
  pub script : script_of v ≡ script_of w
  pub layout : layout_of v ≡ layout_of w
  pub count : actors_of v ≡ actors_of w
  pub there : actor < actors_of w
  pub on : is_done w actor ≡ false

module _ (w v : State) (actor : ℕ) (happened : Event) (es : List (Entry Op)) (s : Stepped w v actor happened es) where
  -- what it has come to by the list
  after_it : (b : ℕ) → b < actors_of w → is_done v b ≡ has_ended (actor_after (script_of w) (layout_of w) (s.appends.e ∷ es) b)
  after_it b lt = ap has_ended (s.appends.after.actors b (omega (arith, s.count, lt))) ∙ ap (λ (q : Program). has_ended (actor_after q (layout_of v) (s.appends.e ∷ es) b)) s.script ∙ ap (λ (k : Layout). has_ended (actor_after (script_of w) k (s.appends.e ∷ es) b)) s.layout

  says : happened ≡ event_of (script_of w) (layout_of w) es s.appends.e
  says = s.appends.says ∙ ap (λ (q : Program). event_of q (layout_of v) es s.appends.e) s.script ∙ ap (λ (k : Layout). event_of (script_of w) k es s.appends.e) s.layout

  own : is_finished happened ≡ has_ended (actor_takes (script_of w).shapes (layout_of w) (started (setting_of (script_of w) (layout_of w)).kind s.appends.e.begun (actor_after (script_of w) (layout_of w) es s.appends.e.actor)) s.appends.e.found)
  own = ap is_finished says ∙ finished_in (script_of w) (layout_of w) es s.appends.e (ap (λ (b : ℕ). has_ended (actor_after (script_of w) (layout_of w) es b)) s.appends.by ∙ sym (ap has_ended (s.before.actors actor s.there)) ∙ s.on)

  ended_then : (b : ℕ) → b < actors_of w → is_done v b ≡ cond (eqb actor b) (is_finished happened) (is_done w b)
  ended_then b lt = after_it b lt ∙ go (eqb s.appends.e.actor b) refl ∙ ap (λ (c : ℕ). cond (eqb c b) (is_finished happened) (is_done w b)) s.appends.by where
    go : (c : Bool) → eqb s.appends.e.actor b ≡ c → has_ended (cond c (actor_takes (script_of w).shapes (layout_of w) (started (setting_of (script_of w) (layout_of w)).kind s.appends.e.begun (actor_after (script_of w) (layout_of w) es b)) s.appends.e.found) (actor_after (script_of w) (layout_of w) es b)) ≡ cond c (is_finished happened) (is_done w b)
    go true same = sym (own ∙ ap (λ (d : ℕ). has_ended (actor_takes (script_of w).shapes (layout_of w) (started (setting_of (script_of w) (layout_of w)).kind s.appends.e.begun (actor_after (script_of w) (layout_of w) es d)) s.appends.e.found)) (eqb-true s.appends.e.actor b same))
    go false other = sym (ap has_ended (s.before.actors b lt))

  then' : (b : ℕ) → b < 0 + actors_of w → is_done v b ≡ cond (eqb actor b) (is_finished happened) (is_done w b)
  then' b lt = grind (arith, ended_then)

  same_range : going (seen_of v) ≡ filter (λ b. not (is_done v b)) (range_with_len 0 (actors_of w))
  same_range = ap (λ (n : ℕ). filter (λ b. not (is_done v b)) (range_with_len 0 n)) s.count

  -- its actor is done
  pub going_less : is_finished happened ≡ true → going (seen_of v) ≡ filter (λ b. not (eqb actor b)) (going (seen_of w))
  going_less is = same_range ∙ taken_out (is_done v) (is_done w) actor 0 (actors_of w) (λ b lt. then' b lt ∙ ap (λ (c : Bool). cond (eqb actor b) c (is_done w b)) is)

  -- nobody is
  pub going_same : is_finished happened ≡ false → going (seen_of v) ≡ going (seen_of w)
  going_same is = same_range ∙ alike (is_done v) (is_done w) actor 0 (actors_of w) (λ b lt. then' b lt ∙ ap (λ (c : Bool). cond (eqb actor b) c (is_done w b)) is ∙ go b (eqb actor b) refl) where
    go : (b : ℕ) (c : Bool) → eqb actor b ≡ c → cond c false (is_done w b) ≡ is_done w b
    go b true same = sym s.on ∙ ap (is_done w) (eqb-true actor b same)
    go b false other = refl

-- ---- what a place knows of those that go on

pub goes_on_to : (f : ℕ → Bool) (a : ℕ) → ((b : ℕ) → b < a → f b ≡ false) → f a ≡ false → (b : ℕ) → b < a + 1 → f b ≡ false
goes_on_to f a before here b lt = go (eqb b a) refl where
  go : (same : Bool) → eqb b a ≡ same → f b ≡ false
  go true is = ap f (eqb-true b a is) ∙ here
  go false other = before b (let apart : b ≢ a = λ is. absurd (cc (other, eq-eqb b a is)) in omega (arith, lt, apart))

keep_by : {A B : Type 0} (o : Option ℕ) → IfSome o (λ x. A) → (A → B) → IfSome o (λ x. B)
keep_by o h f = grind arith

module _ (w v : State) (actor : ℕ) (happened : Event) (es : List (Entry Op)) (s : Stepped w v actor happened es) (c : place.Place) (kept : List ℕ) (known : KnowsThoseGoing c kept w) where
  on_too : is_finished happened ≡ false → AllGoOn w → AllGoOn v
  on_too is all b lt = ended_then w v actor happened es s b there ∙ go (eqb actor b) where
    there : b < actors_of w
    there = omega (arith, s.count, lt)

    go : (same : Bool) → cond same (is_finished happened) (is_done w b) ≡ false
    go true = is
    go false = all b there

  seats_then : actors_of v ≡ seats_of (layout_of v)
  seats_then = s.count ∙ known.seats ∙ ap seats_of (sym s.layout)

  pub knows_on : is_finished happened ≡ false → KnowsThoseGoing c kept v
  knows_on is = record { actors = known.actors ∙ sym s.count; seats = seats_then; rounds = λ e. let r = known.rounds e in record { items = r.items; drawn = r.drawn; all = on_too is r.all }; some = keep_by c.drawn known.some (λ h. h ∙ sym (going_same w v actor happened es s is)) }

  pub knows_less : (less : List ℕ) → less ≡ filter (λ b. not (eqb actor b)) kept → is_finished happened ≡ true → KnowsThoseGoing (record c { in_rounds = false }) less v
  knows_less less items is = record { actors = known.actors ∙ sym s.count; seats = seats_then; rounds = λ e. absurd (cc e); some = keep_by c.drawn known.some (λ h. items ∙ ap (filter (λ b. not (eqb actor b))) h ∙ sym (going_less w v actor happened es s is)) }
