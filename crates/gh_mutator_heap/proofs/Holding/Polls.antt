-- Each step of a poll is a move that its seat may make, and what is known at each stage holds then and lasts.
use Rattle.std.proofs.Common.{◌≡◌, ℕ, ◌%◌, ◌^◌, ◌<◌, Bool, false, [], Option, Some, None, refl, sym, subst, ◌∙◌, arith, slice_index_or}
use Rattle.std.proofs.lemmas.List.{length-set}
use Rattle.gh_mutator_heap.proofs.Vocabulary.{Arena, CachesAll, Cell, cell_of, effect, Good, Has, HasLoaded, Held, InRange, IsBetweenOperations, IsHeld, IsParked, KeepsGhosts, KeepsObjects, KnowsAtAnyTime, KnowsSpans, landing, lists, no_page, none_cached, Others, phase_of, poll_held_at, poll_locked_at, poll_stage_of, PollFacts, Polling, Polls, PollsByRights, PollStage, Resumed, ResumeFacts, RunPhase, ScansWithin, seats_of, Shared, SoundRoomFinding, Steps, View, view}
use Rattle.gh_base.specs.declared.cell.Ask.TheVariants.{Load, Store}
use Rattle.gh_phase.specs.Listing as resume
use Rattle.gh_phase.specs.Waiting.{phase_on}
use Rattle.gh_wbuf.specs.RoomFinding as room
use Rattle.gh_poll.specs.declared.poll.PollStage.TheVariants.{LoadPhase, Giving, Resuming, Marking, FindRoom, Ended}
use Rattle.gh_poll.specs.Give as give
use Rattle.gh_poll.specs.MarkStack as mark
use Rattle.gh_poll.specs.Poll.{after_mark, after_resume, after_room, asks, asks_at, at_stage, begins, by_phase, counted, due, giving, goes, goes_at, is_busy, marks_then, resumed, scanned, scans, stops_then}
use Rattle.gh_poll.specs.Due.{due_scans}
use Rattle.gh_mutator_heap.proofs.Holding.Gives.{Gives, gives_begin, gives_last, gives_on, gives_within}
use Rattle.gh_mutator_heap.proofs.Holding.Known.{HoldsSwept, Kept, Known, by_quiet, holds_swept, knows_kept, knows_last, knows_to, stands_kept, stands_last, stands_to}
use Rattle.gh_mutator_heap.proofs.Holding.Lists.{none_cached_all}
use Rattle.gh_mutator_heap.proofs.Holding.Ranges.{room_gives, room_goes, room_quiet, room_within}
use Rattle.gh_mutator_heap.proofs.Holding.Scans.{scan_begins, scan_goes, scan_quiet, scan_within}
use Rattle.gh_mutator_heap.proofs.Holding.Vocabulary.{PhaseView, PollStageFacts, ResumeStage, run_phase}

module _ (z : Arena) (a : ℕ) (v : View) where
  -- another stage
  stands_at : (p : Polling) (q : PollStage) → KnowsAtAnyTime z a v p → KnowsAtAnyTime z a v (at_stage p q)
  stands_at p q s = stands_to z a v p (at_stage p q) refl refl s.sits.scanned s.sits.cache s.sits.held s

  knows_at : (p : Polling) (q : PollStage) → KnowsSpans a v p → KnowsSpans a v (at_stage p q)
  knows_at p q x = knows_to a v p (at_stage p q) refl refl x

  seat_below : (p : Polling) → KnowsAtAnyTime z a v p → p.seat < seats_of z.layout
  seat_below p s = (subst (λ (b : ℕ). b < seats_of z.layout) (sym s.sits.seat) (let few = s.sits.few in omega arith))

  own_held : (p : Polling) → KnowsAtAnyTime z a v p → IsHeld z.layout p.local.held
  own_held p s = s.sits.held

  -- where the world runs
  ends_now : (p : Polling) → IsBetweenOperations z a v p → Polls z a v (at_stage p Ended)
  ends_now p r = (r.0, record { stands = stands_at p Ended r.1.stands; stage_is = knows_at p Ended r.1.knows })

  finds_now : (p : Polling) (r : room.RoomFinding) → IsBetweenOperations z a v p → SoundRoomFinding z.layout r → Polls z a v (at_stage p (FindRoom r))
  finds_now p r rest f = (rest.0, record { stands = stands_at p (FindRoom r) rest.1.stands; stage_is = (knows_at p (FindRoom r) rest.1.knows, f) })

  counted_polls : (p : Polling) → IsBetweenOperations z a v p → Polls z a v (counted p)
  counted_polls p r = grind arith

  scan_polls : (p : Polling) → IsBetweenOperations z a v p → p.local.view.phase ≡ RunPhase.Mark → (out : Option ℕ) → due z.layout p ≡ out → Polls z a v (scans z.layout p out)
  scan_polls p r on None e = counted_polls p r
  scan_polls p r on (Some g) e =
      let m : mark.StackMarking = mark.opening z.layout p.seat g p.local.view.begun (slice_index_or p.local.stacks g []) p.local.held in
      let there : g < z.layout.goroutines = (due_scans z.layout p.seat p.waits p.local g e).there in
      let within : ScansWithin z.layout m = scan_begins z.layout p.seat g p.local.view.begun (slice_index_or p.local.stacks g []) p.local.held (seat_below p r.1.stands) there (own_held p r.1.stands) in
      (r.0, record { stands = stands_at p (Marking g m) r.1.stands; stage_is = (knows_at p (Marking g m) r.1.knows, within) })

  marks_polls : (p : Polling) → IsBetweenOperations z a v p → (phase : RunPhase) → p.local.view.phase ≡ phase → Polls z a v (marks_then z.layout p phase)
  marks_polls p r RunPhase.Off e = ends_now p r
  marks_polls p r RunPhase.Mark e = scan_polls p r e (due z.layout p) refl
  marks_polls p r RunPhase.Finished e = ends_now p r

  stops_polls : (p : Polling) (g : give.Giving) (stops : ℕ) → KnowsAtAnyTime z a v p → Gives z a v g → Polls z a v (stops_then p g stops)
  stops_polls p g stops s x = grind arith

  phase_polls : (p : Polling) (stops : ℕ) → IsBetweenOperations z a v p → (phase : Option RunPhase) → Polls z a v (by_phase z.layout p stops phase)
  phase_polls p stops r None = stops_polls p (giving p) stops r.1.stands
      (gives_begin z a v p.seat p.local.view.generation p.local.cache p.local.held r.1.stands.sits.seat r.1.knows.generation r.1.stands.sits.cache r.1.stands.sits.held r.1.knows.caches r.0)
  phase_polls p stops r (Some phase) = marks_polls p r p.local.view.phase refl

  -- after a stop
  resumes_on : (p : Polling) (r : resume.Resuming) → Has a v false (lists p.local.cache) → KnowsAtAnyTime z a v p → ResumeFacts a v p r → Polls z a v (at_stage p (Resuming r))
  resumes_on p r has s f = (has, record { stands = stands_at p (Resuming r) s; stage_is = record { seat_is = f.seat_is; no_span = f.no_span; no_buffer = f.no_buffer; loaded = f.loaded } })

  resumed_polls : (p : Polling) (out : Resumed) → Has a v false (lists p.local.cache) → KnowsAtAnyTime z a v p → p.local.cache ≡ none_cached → out.view.generation ≡ v.generation → Polls z a v (marks_then z.layout (resumed p out) out.view.phase)
  resumed_polls p out has s none known = marks_polls (resumed p out) (
    has,
    record {
      stands = stands_to z a v p (resumed p out) refl refl s.sits.scanned s.sits.cache s.sits.held s;
      knows = record { generation = known; caches = subst (CachesAll a v) (sym none) (none_cached_all a v) };
    },
  ) out.view.phase refl

  phase_resumed : (p : Polling) (r : resume.Resuming) (number : ℕ) (phase : Option RunPhase) → ResumeFacts a v p (resume.at_stage r ResumeStage.LoadPhase) → ResumeFacts a v p (resume.after_phase r number phase)
  phase_resumed p r number phase f = grind arith

  -- the scan of a stack, and the search for room
  marked_polls : (p : Polling) (g : ℕ) (m : mark.StackMarking) (out : Option (Unit {0})) → IsBetweenOperations z a v p → ScansWithin z.layout m → Polls z a v (after_mark p g m out)
  marked_polls p g m None r f = (r.0, record { stands = stands_at p (Marking g m) r.1.stands; stage_is = (knows_at p (Marking g m) r.1.knows, f) })
  marked_polls p g m (Some x) r f = counted_polls (scanned p g m.held) (
    r.0,
    record {
      stands = stands_to z a v p (scanned p g m.held) refl refl (length-set p.local.scanned g p.local.view.begun ∙ r.1.stands.sits.scanned) r.1.stands.sits.cache f.held r.1.stands;
      knows = knows_to a v p (scanned p g m.held) refl refl r.1.knows;
    },
  )

  found_polls : (p : Polling) (r : room.RoomFinding) (found : ℕ) (out : Option Held) → room.gives z.layout r found ≡ out → IsBetweenOperations z a v p → SoundRoomFinding z.layout r → Polls z a v (after_room p (room.goes z.layout r found) out)
  found_polls p r found None e rest f = finds_now p (room.goes z.layout r found) rest (room_goes z.layout r found f)
  found_polls p r found (Some h) e rest f =
      let to : Polling = record p { local = record (p.local) { held = Some h }; stage = Ended } in (
        rest.0,
        record {
          stands = stands_to z a v p to refl refl rest.1.stands.sits.scanned rest.1.stands.sits.cache (room_gives z.layout r found h f e).fits rest.1.stands;
          stage_is = knows_to a v p to refl refl rest.1.knows;
        },
      )

-- what it has loaded it knows while the sweep generation stays
loaded_on : (v w : View) (known : PhaseView) (q : ResumeStage) → w.generation ≡ v.generation → HasLoaded v known q → HasLoaded w known q
loaded_on v w known q o x = grind arith

module _ (k : Known) (z : Arena) (a : ℕ) (s : Shared) (good : Good z (view s)) (p : Polling) (stands : KnowsAtAnyTime z a (view s) p) where
  abbrev Leads : PollStage → Type 0
  Leads q = Steps z a s (asks_at q) (λ t. KeepsObjects (view s) (view t) × Polls z a (view t) (goes_at z.layout p q (s.words (cell_of (asks_at q)))))

  stands_then : (t : Shared) → Kept a (view s) (view t) → KnowsAtAnyTime z a (view t) p
  stands_then t kept = stands_kept z a (view s) (view t) p kept.objects stands

  rests_then : (t : Shared) → Kept a (view s) (view t) → Has a (view t) false (lists p.local.cache) → KnowsSpans a (view s) p → IsBetweenOperations z a (view t) p
  rests_then t kept has x = (has, record { stands = stands_then t kept; knows = knows_kept a (view s) (view t) (holds_swept z a (view s) good) kept.own p false has x })

  loads_phase : Has a (view s) false (lists p.local.cache) → KnowsSpans a (view s) p → Leads LoadPhase
  loads_phase has x =
      let found = phase_of (s.words Cell.Phase) in
      by_quiet k z a s good (Load Cell.Phase) false (lists p.local.cache) (λ t. KeepsObjects (view s) (view t) × Polls z a (view t) (goes_at z.layout p LoadPhase (s.words Cell.Phase))) tt has
      (λ t kept r. (kept.objects, phase_polls z a (view t) p found.stops (rests_then t kept r x) (run_phase found.phase)))

  gives_next : (g : give.Giving) (stops : ℕ) → Gives z a (view s) g → Leads (Giving g stops)
  gives_next g stops x =
      let n : ℕ = s.words (cell_of (give.asks g)) in
      landing z a s (effect s.words (give.asks g)) (λ t. Kept a (view s) (view t) × Gives z a (view t) (give.goes g n)) (λ t. KeepsObjects (view s) (view t) × Polls z a (view t) (stops_then p (give.goes g n) stops))
      (λ t h. (h.0.objects, stops_polls z a (view t) p (give.goes g n) stops (stands_then t h.0) h.1))
      (gives_on k z a s good g x)

  module _ (r : resume.Resuming) (has : Has a (view s) false (lists p.local.cache)) (f : ResumeFacts a (view s) p r) where
    abbrev Resumes : ResumeStage → Type 0
    Resumes q = Steps z a s (resume.asks_at r q) (λ t. KeepsObjects (view s) (view t) × Polls z a (view t) (after_resume z.layout p (resume.goes_at r q (s.words (cell_of (resume.asks_at r q)))) (resume.given (resume.goes_at r q (s.words (cell_of (resume.asks_at r q)))))))

    -- it goes on
    goes_on : (t : Shared) (to : resume.Resuming) → to.seat ≡ r.seat → HasLoaded (view t) to.view to.stage → Kept a (view s) (view t) → Has a (view t) false (lists p.local.cache) → Polls z a (view t) (at_stage p (Resuming to))
    goes_on t to same loaded kept has = resumes_on z a (view t) p to has (stands_then t kept) (record { seat_is = same ∙ f.seat_is; no_span = f.no_span; no_buffer = f.no_buffer; loaded = loaded })

    whole : s.words Cell.Gen % 2 ^ 34 ≡ s.words Cell.Gen
    whole = let few : s.words Cell.Gen < 2 ^ 34 = good.generation in omega (arith, few)

    resumes_at : (q : ResumeStage) → HasLoaded (view s) r.view q → Resumes q
    resumes_at ResumeStage.Acknowledge x = by_quiet k z a s good (Store (Cell.Ack r.seat) r.stops) false (lists p.local.cache) (λ t. KeepsObjects (view s) (view t) × Polls z a (view t) (at_stage p (Resuming (resume.at_stage r ResumeStage.LoadPhase)))) tt has
        (λ t kept h. (kept.objects, goes_on t (resume.at_stage r ResumeStage.LoadPhase) refl tt kept h))
    resumes_at ResumeStage.LoadPhase x =
        let found = phase_of (s.words Cell.Phase) in
        let to : resume.Resuming = resume.after_phase r found.stops (run_phase found.phase) in
        subst (λ (out : Option Resumed). Steps z a s (Load Cell.Phase) (λ t. KeepsObjects (view s) (view t) × Polls z a (view t) (after_resume z.layout p to out))) (sym (phase_on r found.stops (run_phase found.phase)))
        (by_quiet k z a s good (Load Cell.Phase) false (lists p.local.cache) (λ t. KeepsObjects (view s) (view t) × Polls z a (view t) (at_stage p (Resuming to))) tt has
        (λ t kept h. (kept.objects, resumes_on z a (view t) p to h (stands_then t kept) (phase_resumed z a (view t) p r found.stops (run_phase found.phase) (record { seat_is = f.seat_is; no_span = f.no_span; no_buffer = f.no_buffer; loaded = tt })))))
    resumes_at ResumeStage.LoadGeneration x =
        let to : resume.Resuming = resume.goes_at r ResumeStage.LoadGeneration (s.words Cell.Gen) in
        by_quiet k z a s good (Load Cell.Gen) false (lists p.local.cache) (λ t. KeepsObjects (view s) (view t) × Polls z a (view t) (at_stage p (Resuming to))) tt has
        (λ t kept h. (kept.objects, goes_on t to refl (whole ∙ sym kept.own.generation) kept h))
    resumes_at ResumeStage.LoadBegun x =
        let out : Resumed = resume.resumed_with r.view (s.words Cell.Begun) in
        by_quiet k z a s good (Load Cell.Begun) false (lists p.local.cache) (λ t. KeepsObjects (view s) (view t) × Polls z a (view t) (marks_then z.layout (resumed p out) out.view.phase)) tt has
        (λ t kept h. (kept.objects, resumed_polls z a (view t) p out h (stands_then t kept) f.no_span (x ∙ sym kept.own.generation)))
    resumes_at (ResumeStage.Ended another) x =
        let out : Resumed = record { view = r.view; another_cycle = another } in
        by_quiet k z a s good (Load Cell.Touch) false (lists p.local.cache) (λ t. KeepsObjects (view s) (view t) × Polls z a (view t) (marks_then z.layout (resumed p out) out.view.phase)) tt has
        (λ t kept h. (kept.objects, resumed_polls z a (view t) p out h (stands_then t kept) f.no_span (x ∙ sym kept.own.generation)))

  marks_next : (g : ℕ) (m : mark.StackMarking) → Has a (view s) false (lists p.local.cache) → KnowsSpans a (view s) p → ScansWithin z.layout m → Leads (Marking g m)
  marks_next g m has x f =
      let n : ℕ = s.words (cell_of (mark.asks m)) in
      by_quiet k z a s good (mark.asks m) false (lists p.local.cache) (λ t. KeepsObjects (view s) (view t) × Polls z a (view t) (after_mark p g (mark.goes z.layout m n) (mark.gives z.layout m n))) (scan_quiet m) has
      (λ t kept r. (kept.objects, marked_polls z a (view t) p g (mark.goes z.layout m n) (mark.gives z.layout m n) (rests_then t kept r x) (scan_goes z.layout m n f)))

  finds_next : (r : room.RoomFinding) → Has a (view s) false (lists p.local.cache) → KnowsSpans a (view s) p → SoundRoomFinding z.layout r → Leads (FindRoom r)
  finds_next r has x f =
      let n : ℕ = s.words (cell_of (room.asks r)) in
      by_quiet k z a s good (room.asks r) false (lists p.local.cache) (λ t. KeepsObjects (view s) (view t) × Polls z a (view t) (after_room p (room.goes z.layout r n) (room.gives z.layout r n))) (room_quiet r) has
      (λ t kept h. (kept.objects, (found_polls z a (view t) p r n (room.gives z.layout r n) refl (rests_then t kept h x) f)))

  polls_at_stage : (q : PollStage) → Has a (view s) (poll_locked_at q) (poll_held_at p.local.cache q) → PollStageFacts z a (view s) p q → Leads q
  polls_at_stage LoadPhase has x = loads_phase has x
  polls_at_stage (Giving g stops) has x = gives_next g stops (record { has = has; facts = x })
  polls_at_stage (Resuming r) has x = resumes_at r has x r.stage x.loaded
  polls_at_stage (Marking g m) has x = marks_next g m has x.0 x.1
  polls_at_stage (FindRoom r) has x = finds_next r has x.0 x.1
  polls_at_stage Ended has x = by_quiet k z a s good (Load Cell.Touch) false (lists p.local.cache) (λ t. KeepsObjects (view s) (view t) × Polls z a (view t) (at_stage p Ended)) tt has
      (λ t kept r. (kept.objects, ends_now z a (view t) p (rests_then t kept r x)))

pub polls_on : (k : Known) (z : Arena) (a : ℕ) (s : Shared) (p : Polling) → Good z (view s) → Polls z a (view s) p → Steps z a s (asks p) (λ t. KeepsObjects (view s) (view t) × Polls z a (view t) (goes z.layout p (s.words (cell_of (asks p)))))
polls_on k z a s p good f = polls_at_stage k z a s good p f.1.stands p.stage f.0 f.1.stage_is

-- Between two steps of its own.

stage_lasts : (z : Arena) (a : ℕ) (v w : View) (p : Polling) (q : PollStage) → HoldsSwept a v → Others z a v w → PollStageFacts z a v p q → PollStageFacts z a w p q
stage_lasts z a v w p LoadPhase swept o x = knows_last z a v w o swept p x
stage_lasts z a v w p (Giving g stops) swept o x = gives_last z a v w o swept g x
stage_lasts z a v w p (Resuming r) swept o x = record { seat_is = x.seat_is; no_span = x.no_span; no_buffer = x.no_buffer; loaded = loaded_on v w r.view r.stage o.generation x.loaded }
stage_lasts z a v w p (Marking g m) swept o x = (knows_last z a v w o swept p x.0, x.1)
stage_lasts z a v w p (FindRoom r) swept o x = (knows_last z a v w o swept p x.0, x.1)
stage_lasts z a v w p Ended swept o x = knows_last z a v w o swept p x

pub polls_last : (z : Arena) (a : ℕ) (v w : View) (p : Polling) → Good z v → Others z a v w → PollFacts z a v p → PollFacts z a w p
polls_last z a v w p good o f = record { stands = stands_last z a v w o p f.stands; stage_is = stage_lasts z a v w p p.stage (holds_swept z a v good) o f.stage_is }

resume_within : (z : Arena) (a : ℕ) (r : resume.Resuming) (q : ResumeStage) → a < z.layout.procs → r.seat ≡ a → InRange z.layout (cell_of (resume.asks_at r q))
resume_within z a r q few e = grind arith

within_at : (z : Arena) (a : ℕ) (v : View) (p : Polling) (q : PollStage) → Good z v → a < z.layout.procs → PollStageFacts z a v p q → InRange z.layout (cell_of (asks_at q))
within_at z a v p LoadPhase good few x = tt
within_at z a v p (Giving g stops) good few x = gives_within z a v g good x
within_at z a v p (Resuming r) good few x = resume_within z a r r.stage few x.seat_is
within_at z a v p (Marking g m) good few x = scan_within z.layout m x.1
within_at z a v p (FindRoom r) good few x = room_within z.layout r x.1
within_at z a v p Ended good few x = tt

pub polls_within : (z : Arena) (a : ℕ) (v : View) (p : Polling) → Good z v → PollFacts z a v p → InRange z.layout (cell_of (asks p))
polls_within z a v p good f = grind (arith, within_at)

-- Where it is parked it holds nothing, and knows nothing that a sweep changes.

pub polls_parked : (z : Arena) (a stops : ℕ) (v : View) (p : Polling) → IsParked stops (poll_stage_of p) → Polls z a v p → Has a v false no_page
polls_parked z a stops v p e f = grind arith

pub polls_stopped : (z : Arena) (a stops : ℕ) (v w : View) (p : Polling) → IsParked stops (poll_stage_of p) → KeepsGhosts a v w → PollFacts z a v p → PollFacts z a w p
polls_stopped z a stops v w p e k f = grind arith

pub polls_end : (z : Arena) (a : ℕ) (v : View) (p : Polling) → is_busy p.stage ≡ false → Polls z a v p → IsBetweenOperations z a v p
polls_end z a v p e f = grind arith

pub polls_begin : (z : Arena) (a : ℕ) (v : View) (p : Polling) (waits : Bool) → IsBetweenOperations z a v p → Polls z a v (begins p waits)
polls_begin z a v p waits r = (r.0, record { stands = stands_to z a v p (begins p waits) refl refl r.1.stands.sits.scanned r.1.stands.sits.cache r.1.stands.sits.held r.1.stands; stage_is = knows_to a v p (begins p waits) refl refl r.1.knows })

pub polls_by_rights : Known → PollsByRights
polls_by_rights k = record {
  begins = polls_begin;
  own_step = polls_on k;
  within = λ z a v p good f. polls_within z a v p good f.1;
  lasts = polls_last;
  parked = λ z a v p stops e f. polls_parked z a stops v p e f;
  stopped = λ z a v w p stops e kept f. polls_stopped z a stops v w p e kept f;
  ends = polls_end;
}
