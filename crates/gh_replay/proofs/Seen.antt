-- What a world shows of its actors is what they have come to in whatever list the world is the state of.
use Rattle.std.proofs.Common.{◌≡◌, ℕ, ◌+◌, ◌-◌, ◌<◌, ◌≤◌, List, [], length, Option, Some, None, sym, ap, ◌∙◌, arith, slice_get, sum_by}
use Rattle.gh_replay.proofs.Vocabulary.{Actor, actor_after, actors_of, answered_in, Cycle, done_or, Entry, event_by, has_ended, IsAfter, Layout, layout_of, Leads, marks_at, marks_by, marks_of, Op, option_to_list, Program, reached_in, Runner, runner_or, script_of, seats_of, seen_of, setting_of, slice_get_past, slice_get_within, started, State, told_event, worker_or}
use Rattle.gh_coord.specs.Listing as coord
use Rattle.gh_coord.specs.Stopping.{acks_of}
use Rattle.gh_worker.specs.Listing as worker
use Rattle.gh_replay.proofs.Choosing.{Agree}

-- ---- each actor is as it is after the list

-- an actor that is no processor answers no statement
done_quiet : (out : Option (Unit {0})) (told : Option Cycle) → answered_in (done_or out (told_event told)) ≡ []
done_quiet out told = grind arith

others_quiet : (p : Program) (l : Layout) (now : ℕ × ℕ) (found : ℕ) (c : coord.Coordinating) (begun : Option Op) (o : Option worker.Working) → answered_in (event_by l now (started (setting_of p l).kind begun (worker_or c o)) found) ≡ []
others_quiet p l now found c begun o = grind (arith, done_quiet)

module _ (w : State) (es : List (Entry Op)) (after : IsAfter w es) where
  -- its processor, or who is behind the processors
  among : (a : ℕ) → a < actors_of w → (o : Option Runner) → slice_get w.runners a ≡ o → runner_or (worker_or w.coord (slice_get w.workers (a - length w.runners))) o ≡ actor_after (script_of w) (layout_of w) es a
  among a lt o is = ap (runner_or (worker_or w.coord (slice_get w.workers (a - length w.runners)))) (sym is) ∙ after.actors a lt

  behind_runners : (a : ℕ) → a < actors_of w → length w.runners ≤ a → worker_or w.coord (slice_get w.workers (a - length w.runners)) ≡ actor_after (script_of w) (layout_of w) es a
  behind_runners a lt le = among a lt None (slice_get_past w.runners a le)

  -- who leads it
  pub is_led : actor_after (script_of w) (layout_of w) es (acks_of (layout_of w)) ≡ Leads w.coord
  is_led =
      let procs = after.keeps.processors in
      let workers = after.keeps.workers in
      let behind : acks_of (layout_of w) - length w.runners ≡ length w.workers = omega (arith, procs, workers) in
      sym (behind_runners (acks_of (layout_of w)) (omega (arith, procs, workers)) (omega (arith, procs, workers)))
      ∙ ap (λ (i : ℕ). worker_or w.coord (slice_get w.workers i)) behind ∙ ap (worker_or w.coord) (slice_get_past w.workers (length w.workers) (omega arith))

  -- the marks of a processor are its answers
  pub marked : (a : ℕ) (x : Runner) → slice_get w.runners a ≡ Some x → x.mutator.marks ≡ marks_at (script_of w).shapes (layout_of w) a es
  marked a x is =
      let low : a < length w.runners = slice_get_within w.runners a x is in
      let here : marks_of w a ≡ 0 + x.mutator.marks = ap (λ (o : Option Runner). marks_by (sum_by (λ (y : Runner). y.mutator.marks) (option_to_list o)) (runner_or (worker_or w.coord (slice_get w.workers (a - length w.runners))) o)) is in
      let there = after.marks a (omega (arith, low)) ∙ ap (marks_by (marks_at (script_of w).shapes (layout_of w) a es)) (sym (among a (omega (arith, low)) (Some x) is)) in
      omega (arith, here, there)

module _ (w : State) (es : List (Entry Op)) (after : IsAfter w es) (seats : actors_of w ≡ seats_of (layout_of w)) where
  pub agree : Agree (seen_of w) (reached_in (script_of w) (layout_of w) es)
  agree = record {
    actors = seats;
    ended = λ a lt. ap has_ended (after.actors a lt);
    marks = λ a lt. after.marks a lt;
  }

  -- a step of an actor that is no processor answers no statement
  pub quiet : (a : ℕ) → a < actors_of w → (layout_of w).procs ≤ a → (begun : Option Op) (found : ℕ) (now : ℕ × ℕ) → answered_in (event_by (layout_of w) now (started (setting_of (script_of w) (layout_of w)).kind begun (actor_after (script_of w) (layout_of w) es a)) found) ≡ []
  quiet a lt le begun found now =
      let many = after.keeps.processors in
      ap (λ (m : Actor). answered_in (event_by (layout_of w) now (started (setting_of (script_of w) (layout_of w)).kind begun m) found)) (sym (behind_runners w es after a lt (omega (arith, many, le))))
      ∙ others_quiet (script_of w) (layout_of w) now found w.coord begun (slice_get w.workers (a - length w.runners))
