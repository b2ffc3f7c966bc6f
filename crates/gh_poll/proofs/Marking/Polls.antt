-- While marking is on, each step of a poll is made of moves that its seat may make.
use Rattle.std.proofs.Common.{◌≡◌, ◌≢◌, ℕ, Bool, true, false, Option, Some, None, refl, ap, sym, subst, ◌∙◌, arith, [], is_none, slice_index_or, slice_set}
use Rattle.gh_poll.proofs.Vocabulary.{after_mark, after_resume, after_room, asks_at, by_phase, Cell, cell_of, counted, Cycle, due, due_scans, effect, END, FindRoom, GiveFacts, giving, Good, Hands, Held, holding_only, is_busy, IsBetween, IsOf, IsUnscanned, Keeps, KnowsCycle, KnowsNumber, KnowsObjects, KnowsStacks, landing, Load, LoadPhase, Local, Marking, MarkingIsQuiet, marks_then, moved, nothing, Others, phase_of, PollEndsWithRoom, PollFacts, Polling, PollsByMoves, PollStage, PollStageFacts, Resumed, resumed, Resuming, run_phase, RunPhase, ScanFacts, scanned, scans, ScanStack, Shared, stacks_last, Steps, stops_then, Store, WhatPollsRunIsQuiet}
use Rattle.gh_phase.specs.Listing as resume
use Rattle.gh_phase.specs.Waiting.{phase_on}
use Rattle.gh_wbuf.specs.Facts as buffer_facts
use Rattle.gh_wbuf.specs.RoomFinding as room
use Rattle.gh_poll.specs.declared.poll.PollStage.TheVariants.{Giving, Ended}
use Rattle.gh_poll.specs.Give as give
use Rattle.gh_poll.specs.MarkStack as mark
use Rattle.gh_poll.specs.Poll.{at_stage, goes_at}
use Rattle.gh_poll.specs.Collecting.{ResumeStage}
use Rattle.gh_poll.proofs.Marking.Gives.{gives_begin, gives_last, gives_on}
use Rattle.gh_poll.proofs.Marking.Known.{by_load, by_quiet, Known, stacks_scanned}
use Rattle.gh_poll.proofs.Marking.Scans.{Comes, scan_begins, scans_last, scans_on}

module _ (k : Known) (z : Cycle) (a : ℕ) where
  -- what it does at its end: it is counted, and a buffer with room is looked for
  counted_facts : (t : Shared) (p : Polling) → p.seat ≡ a → IsBetween z a t p.local → PollFacts z a t (counted p)
  counted_facts t p f b = grind arith

  -- at a stop
  stops_facts : (t : Shared) (p : Polling) (g : give.Giving) (stops : ℕ) → p.seat ≡ a → KnowsStacks z a t p.local.stacks p.local.scanned → GiveFacts z a t g → PollFacts z a t (stops_then p g stops)
  stops_facts t p g stops f stacks x = grind arith

  module _ (s : Shared) (good : Good z s) (objects : KnowsObjects z s) where
    -- where the world runs
    scan_facts : (p : Polling) → p.seat ≡ a → IsBetween z a s p.local → p.local.view.phase ≡ RunPhase.Mark → (out : Option ℕ) → due z.arena.layout p ≡ out → PollFacts z a s (scans z.arena.layout p out)
    scan_facts p f b on None is = counted_facts s p f b
    scan_facts p f b on (Some g) is = record {
      seat_is = f;
      stacks = b.stacks;
      stage_is = (b.number on, scan_begins k z a s good objects p.seat g p.local.view.begun (slice_index_or p.local.stacks g []) p.local.held f (b.number on) (record { own = own; goes_on = goes_on }) (b.stacks.registers g own goes_on) b.hands);
    } where
      scan : IsUnscanned z.arena.layout p.seat p.local g
      scan = due_scans z.arena.layout p.seat p.waits p.local g is

      own : IsOf z.arena a g
      own = b.stacks.own g scan.there (scan.own ∙ f)

      goes_on : s.words (Cell.Scanned g) ≢ END
      goes_on w = scan.going (b.stacks.noted g own ∙ w)

    marks_facts : (p : Polling) → p.seat ≡ a → IsBetween z a s p.local → (phase : RunPhase) → p.local.view.phase ≡ phase → PollFacts z a s (marks_then z.arena.layout p phase)
    marks_facts p f b phase on = grind (arith, scan_facts)

    module _ (p : Polling) (seat_is : p.seat ≡ a) (stacks : KnowsStacks z a s p.local.stacks p.local.scanned) where
      abbrev Leads : PollStage → Type 0
      Leads q = Steps z a s (asks_at q) (λ t. PollFacts z a t (goes_at z.arena.layout p q (s.words (cell_of (asks_at q)))))

      phase_facts : (stops : ℕ) → IsBetween z a s p.local → (phase : Option RunPhase) → PollFacts z a s (by_phase z.arena.layout p stops phase)
      phase_facts stops b None = stops_facts s p (giving p) stops seat_is stacks (gives_begin k z a s p.seat p.local.view.generation p.local.cache p.local.held b.hands)
      phase_facts stops b (Some phase) = marks_facts p seat_is b p.local.view.phase refl

      loads_phase : KnowsNumber z p.local.view → Hands a s (holding_only p.local.held) → Leads LoadPhase
      loads_phase number x =
          let found = phase_of (s.words Cell.Phase) in
          by_load k z a s good Cell.Phase (λ t. PollFacts z a t (goes_at z.arena.layout p LoadPhase (s.words Cell.Phase))) (phase_facts found.stops (record { stacks = stacks; number = number; hands = x }) (run_phase found.phase))

      gives : (g : give.Giving) (stops : ℕ) → GiveFacts z a s g → Leads (Giving g stops)
      gives g stops x =
          let n : ℕ = s.words (cell_of (give.asks g)) in
          landing z a s (effect s.words (give.asks g)) (λ t. Keeps z a s t × GiveFacts z a t (give.goes g n)) (λ t. PollFacts z a t (stops_then p (give.goes g n) stops))
          (λ t went h. stops_facts t p (give.goes g n) stops seat_is (stacks_last z a s t p.local.stacks p.local.scanned h.0 stacks) h.1)
          (gives_on k z a s good objects g x)

      -- after a stop
      stays : (t : Shared) (r : resume.Resuming) → Keeps z a s t → Hands a t nothing → p.local.held ≡ None → resume.is_busy r ≡ true → PollFacts z a t (at_stage p (Resuming r))
      stays t r kept x none busy = record { seat_is = seat_is; stacks = stacks_last z a s t p.local.stacks p.local.scanned kept stacks; stage_is = (x, none, busy) }

      still : (r : resume.Resuming) → Hands a s nothing → p.local.held ≡ None → resume.is_busy r ≡ true → PollFacts z a s (at_stage p (Resuming r))
      still r x none busy = stays s r ((k.go_on z a).stays s) x none busy

      resumes : KnowsCycle z s → (r : resume.Resuming) (stage : ResumeStage) → Hands a s nothing → p.local.held ≡ None → is_none (resume.given_at r.view stage) ≡ true → Steps z a s (resume.asks_at r stage) (λ t. PollFacts z a t (after_resume z.arena.layout p (resume.goes_at r stage (s.words (cell_of (resume.asks_at r stage)))) (resume.given (resume.goes_at r stage (s.words (cell_of (resume.asks_at r stage)))))))
      resumes now r ResumeStage.Acknowledge x none busy = by_quiet k z a s good (Store (Cell.Ack r.seat) r.stops) nothing (λ t. PollFacts z a t (at_stage p (Resuming (resume.at_stage r ResumeStage.LoadPhase)))) tt x (λ t kept h. stays t (resume.at_stage r ResumeStage.LoadPhase) kept h none refl)
      resumes now r ResumeStage.LoadPhase x none busy =
          let to : resume.Resuming = resume.goes_at r ResumeStage.LoadPhase (s.words Cell.Phase) in
          let on : resume.given to ≡ None = phase_on r (phase_of (s.words Cell.Phase)).stops (run_phase (phase_of (s.words Cell.Phase)).phase) in
          subst (λ (out : Option Resumed). Steps z a s (Load Cell.Phase) (λ t. PollFacts z a t (after_resume z.arena.layout p to out))) (sym on) (by_load k z a s good Cell.Phase (λ t. PollFacts z a t (at_stage p (Resuming to))) (still to x none (ap is_none on)))
      resumes now r ResumeStage.LoadGeneration x none busy =
          let n : ℕ = s.words Cell.Gen in
          by_load k z a s good Cell.Gen (λ t. PollFacts z a t (at_stage p (Resuming (resume.goes_at r ResumeStage.LoadGeneration n)))) (still (resume.goes_at r ResumeStage.LoadGeneration n) x none refl)
      resumes now r ResumeStage.LoadBegun x none busy =
          let out : Resumed = resume.resumed_with r.view (s.words Cell.Begun) in
          by_load k z a s good Cell.Begun (λ t. PollFacts z a t (marks_then z.arena.layout (resumed p out) out.view.phase))
          (marks_facts (resumed p out) seat_is (record { stacks = stacks; number = λ on. now; hands = subst (λ (held : Option Held). Hands a s (holding_only held)) (sym none) x }) out.view.phase refl)
      resumes now r (ResumeStage.Ended another) x none busy = absurd cc

      -- a stack is scanned
      scanned_then : (t : Shared) (g : ℕ) (m : mark.StackMarking) (out : Option (Unit {0})) → p.local.view.begun ≡ z.number → Comes z a s t g m out → PollFacts z a t (after_mark p g m out)
      scanned_then t g m None number h = record { seat_is = seat_is; stacks = stacks_last z a s t p.local.stacks p.local.scanned h.0 stacks; stage_is = (number, h.1) }
      scanned_then t g m (Some x) number h = counted_facts t (scanned p g m.held) seat_is (record {
        stacks = subst (λ (u : Shared). KnowsStacks z a u p.local.stacks (slice_set p.local.scanned g p.local.view.begun)) (sym h.then)
            (subst (λ (n : ℕ). KnowsStacks z a (moved z a s (ScanStack g)) p.local.stacks (slice_set p.local.scanned g n)) (sym number) (stacks_scanned z a s g p.local.stacks p.local.scanned h.own h.goes_on stacks));
        number = λ on. number;
        hands = h.hands;
      })

      -- a buffer with room is looked for
      found_then : (t : Shared) (r : room.RoomFinding) (n : ℕ) (out : Option Held) → room.gives z.arena.layout r n ≡ out → Keeps z a s t → KnowsNumber z p.local.view → buffer_facts.RoomFacts z a s nothing r → buffer_facts.RoomFacts z a t nothing (room.goes z.arena.layout r n) → PollFacts z a t (after_room p (room.goes z.arena.layout r n) out)
      found_then t r n out e kept number was f = record { seat_is = grind arith; stacks = grind arith; stage_is = grind arith }

      finds : (r : room.RoomFinding) → KnowsNumber z p.local.view → buffer_facts.RoomFacts z a s nothing r → Leads (FindRoom r)
      finds r number f =
          let n : ℕ = s.words (cell_of (room.asks r)) in
          landing z a s (effect s.words (room.asks r)) (λ t. Keeps z a s t × buffer_facts.RoomFacts z a t nothing (room.goes z.arena.layout r n)) (λ t. PollFacts z a t (after_room p (room.goes z.arena.layout r n) (room.gives z.arena.layout r n)))
          (λ t went h. found_then t r n (room.gives z.arena.layout r n) refl h.0 number f h.1)
          (k.buffers.finds.own_step z a s nothing r good objects f)

      marks : (g : ℕ) (m : mark.StackMarking) → p.local.view.begun ≡ z.number → ScanFacts z a s g m → Leads (Marking g m)
      marks g m number f =
          let n : ℕ = s.words (cell_of (mark.asks m)) in
          landing z a s (effect s.words (mark.asks m)) (λ t. Comes z a s t g (mark.goes z.arena.layout m n) (mark.gives z.arena.layout m n)) (λ t. PollFacts z a t (after_mark p g (mark.goes z.arena.layout m n) (mark.gives z.arena.layout m n)))
          (λ t went h. scanned_then t g (mark.goes z.arena.layout m n) (mark.gives z.arena.layout m n) number h)
          (scans_on k z a s good objects g m f)

      pub polls_at : KnowsCycle z s → (q : PollStage) → PollStageFacts z a s p.waits p.local q → Leads q
      polls_at now LoadPhase x = loads_phase x.0 x.1
      polls_at now (Giving g stops) x = gives g stops x
      polls_at now (Resuming r) x = resumes now r r.stage x.0 x.1 x.2
      polls_at now (Marking g m) x = marks g m x.0 x.1
      polls_at now (FindRoom r) x = finds r x.0 x.1
      polls_at now Ended x = by_load k z a s good Cell.Touch (λ t. PollFacts z a t (at_stage p Ended)) (record { seat_is = seat_is; stacks = stacks; stage_is = x })

  stage_lasts : (s t : Shared) (waits : Bool) (local : Local) (q : PollStage) → Others z a s t → PollStageFacts z a s waits local q → PollStageFacts z a t waits local q
  stage_lasts s t waits local LoadPhase o x = (x.0, k.last z a s t (holding_only local.held) o x.1)
  stage_lasts s t waits local (Giving g stops) o x = gives_last k z a s t g o x
  stage_lasts s t waits local (Resuming r) o x = (k.last z a s t nothing o x.0, x.1, x.2)
  stage_lasts s t waits local (Marking g m) o x = (x.0, scans_last k z a s t g m o x.1)
  stage_lasts s t waits local (FindRoom r) o x = (x.0, k.buffers.finds.lasts z a s t nothing r o x.1)
  stage_lasts s t waits local Ended o x = (x.0, x.1, k.last z a s t (holding_only local.held) o x.2)

  ended_at : (s : Shared) (waits : Bool) (local : Local) (q : PollStage) → is_busy q ≡ false → KnowsStacks z a s local.stacks local.scanned → PollStageFacts z a s waits local q → IsBetween z a s local × PollEndsWithRoom waits local
  ended_at s waits local q e stacks x = grind arith

module _ (q : WhatPollsRunIsQuiet) (m : MarkingIsQuiet) (z : Cycle) (a i number : ℕ) (s : Shared) where
  stops_at : (waits : Bool) (local : Local) (p : PollStage) → asks_at p ≡ Store (Cell.Ack i) number → PollStageFacts z a s waits local p → Hands a s nothing
  stops_at waits local p e x = grind arith

pub polls_by_moves : Known → WhatPollsRunIsQuiet → MarkingIsQuiet → PollsByMoves
polls_by_moves k q m = record {
  begins = λ z a s p waits r. record { seat_is = r.seat_is; stacks = r.between.stacks; stage_is = (r.between.number, r.between.hands) };
  own_step = λ z a s p good objects now f. polls_at k z a s good objects p f.seat_is f.stacks now p.stage f.stage_is;
  lasts = λ z a s t p o f. record { seat_is = f.seat_is; stacks = stacks_last z a s t p.local.stacks p.local.scanned o.keeps f.stacks; stage_is = stage_lasts k z a s t p.waits p.local p.stage o f.stage_is };
  ends = λ z a s p over f. let e = ended_at k z a s p.waits p.local p.stage over f.stacks f.stage_is in (record { seat_is = f.seat_is; between = e.0 }, e.1);
  stops = λ z a i number s p e f. stops_at q m z a i number s p.waits p.local p.stage e f.stage_is;
}
