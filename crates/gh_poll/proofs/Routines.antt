-- The scan of a stack, a poll and a wait are routines: by their stages. Of what they run it is known that it is one.
use Rattle.std.proofs.Common.{◌≡◌, ℕ, ◌+◌, ◌^◌, ◌<◌, ◌≤◌, Bool, true, false, cond, List, [], ◌∷◌, drop, length, Option, Some, None, refl, ap, mod-lt, arith, is_none, slice_index_or}
use Rattle.std.proofs.lemmas.List.{length-drop, length-set}
use Rattle.gh_poll.proofs.Vocabulary.{cell_of, due_scans, GiveStage, Held, IsHeld, IsRoutine, Layout, MarkStackStage, nat_tests, phase_of, Polling, PollsOn, PollStage, reference_in, REGISTERS, Resumed, run_phase, RunPhase, Runs, Shaded, SoundGiving, SoundPolling, SoundRoomFinding, StackMarking, StackStage, Value, Waiting, WaitStage}
use Rattle.gh_base.specs.Blind.{is_store}
use Rattle.gh_base.specs.Cells.{InRange}
use Rattle.gh_base.specs.Footprints.{FootprintsHold, Writes}
use Rattle.gh_phase.specs.Listing as resume
use Rattle.gh_phase.specs.Sound.{SoundResuming}
use Rattle.gh_shade.specs.declared.shade.ShadeStage.TheVariants.{WaitForRoom}
use Rattle.gh_shade.specs.Listing as shade
use Rattle.gh_shade.specs.Sound.{IsReference, SoundShading}
use Rattle.gh_stack.specs.Listing as stack
use Rattle.gh_stack.specs.Sound as stack_sound
use Rattle.gh_wbuf.specs.RoomFinding as room
use Rattle.gh_poll.specs.Give as give
use Rattle.gh_poll.specs.GiveSound as gives
use Rattle.gh_poll.specs.MarkStack as mark
use Rattle.gh_poll.specs.MarkStackSound as marks
use Rattle.gh_poll.specs.MarkStackSound.{SoundStackMarking}
use Rattle.gh_poll.specs.Poll as poll
use Rattle.gh_poll.specs.PollSound as polls
use Rattle.gh_poll.specs.Wait as wait
use Rattle.gh_poll.proofs.Sound.{buffer_opens}
use Rattle.gh_poll.proofs.StackMarking.{begins_going, stores_then, told_going, waits_then}

-- what a register names, of those behind this one
first_below : (i : ℕ) (values : List Value) → i + length values ≤ REGISTERS → stack_sound.SoundStage (stack.first_reference i values)
first_below i [] few = tt
first_below i (Value.Ref r ∷ values) few = omega arith
first_below i (Value.Nil ∷ values) few = first_below (i + 1) values (omega arith)
first_below i (Value.Int n ∷ values) few = first_below (i + 1) values (omega arith)

told_sound : (registers : List Value) (stage : StackStage) → length registers ≡ REGISTERS → stack_sound.SoundStage stage → stack_sound.SoundStage (stack.after_shade registers stage)
told_sound registers (StackStage.Shade register r) whole h = first_below (register + 1) (drop (register + 1) registers) (omega (arith, length-drop (register + 1) registers, whole, h))
told_sound registers stage whole h = grind arith

reference_near : (l : Layout) (r : ℕ) → IsReference l (reference_in l r)
reference_near l r = let fit = l.limits.pages_fit.0 in grind (arith, mod-lt)

-- the laws of what these routines run
pub record Known (l : Layout) : Type 0 where
  pub footprints : FootprintsHold
  pub gives : IsRoutine l (give.listing l)
  pub resumes : IsRoutine l (resume.listing l)
  pub rooms : IsRoutine l (room.listing l)
  pub shades : IsRoutine l (shade.listing l)

module _ (l : Layout) (k : Known l) where
  -- ---- the scan of a stack

  scan_sound : (s : stack.StackScan) → stack_sound.SoundStackScan l s → stack_sound.SoundStackScan l (stack.told_shaded s)
  scan_sound s h = record { goroutine = h.goroutine; registers = h.registers; stage = told_sound s.registers s.stage h.registers h.stage }

  stage_sound : (held : Option Held) (scan : stack.StackScan) (wish : Option ℕ) → IsHeld l held → mark.goes_on scan.stage ≡ true → stack.wish_of scan.stage ≡ wish → marks.SoundStage l scan (mark.by_wish l held wish)
  stage_sound held scan None fits on e = stores_then scan.stage on e
  stage_sound held scan (Some r) fits on e = record { runs = record { sound = record { reference = reference_near l r; held = fits; stage = tt }; busy = refl }; scan_waits = waits_then scan.stage r e }

  shade_sound : (m : StackMarking) (sh : shade.Shading) (out : Option Shaded) → SoundStackMarking l m → SoundShading l sh → stack.is_waiting m.scan.stage ≡ true → shade.given sh ≡ out → SoundStackMarking l (mark.after_shade l m sh out)
  shade_sound m sh (Some Shaded.Done) s h waits e = record {
    seat = s.seat;
    held = h.held;
    scan = scan_sound m.scan s.scan;
    stage = stage_sound sh.held (stack.told_shaded m.scan) (stack.wish_of (stack.told_shaded m.scan).stage) h.held (told_going m.scan waits) refl;
  }
  shade_sound m sh out s h waits e = grind (arith, nat_tests)

  find_sound : (m : StackMarking) (sh : shade.Shading) (r : room.RoomFinding) (out : Option Held) → SoundStackMarking l m → SoundShading l sh → sh.stage ≡ WaitForRoom → SoundRoomFinding l r → stack.is_waiting m.scan.stage ≡ true → room.given r ≡ out → SoundStackMarking l (mark.after_room m sh r out)
  find_sound m sh r out s h at f waits e = grind (arith, nat_tests)

  marks_at : (m : StackMarking) (p : MarkStackStage) (found : ℕ) → found < 2 ^ 64 → SoundStackMarking l m → marks.SoundStage l m.scan p → SoundStackMarking l (mark.goes_at l m p found)
  marks_at m (MarkStackStage.Shading sh) found few s h = shade_sound m (shade.goes sh found) (shade.gives sh found) s (k.shades.keeps sh found few h.runs.sound h.runs.busy) h.scan_waits refl
  marks_at m (MarkStackStage.FindRoom sh r) found few s h = find_sound m sh (room.goes l r found) (room.gives l r found) s h.shade h.waits (k.rooms.keeps r found few h.runs.sound h.runs.busy) h.scan_waits refl
  marks_at m MarkStackStage.Store found few s h = record { seat = s.seat; held = s.held; scan = s.scan; stage = tt }
  marks_at m MarkStackStage.Ended found few s h = record { seat = s.seat; held = s.held; scan = s.scan; stage = tt }

  mark_writes : (m : StackMarking) → Writes mark.writes (mark.asks m)
  mark_writes m =
      let shades : (sh : shade.Shading) → Writes mark.writes (shade.asks sh) = λ sh. k.footprints.among shade.writes mark.writes _ refl (k.shades.writes sh) in
      let rooms : (r : room.RoomFinding) → Writes mark.writes (room.asks r) = λ r. k.footprints.among (room.listing l).writes mark.writes _ refl (k.rooms.writes r) in
      grind arith

  pub marking_is_a_routine : IsRoutine l (mark.listing l)
  marking_is_a_routine = record {
    keeps = λ m found few s busy. marks_at m m.stage found few s s.stage;
    within = λ m s busy. let shades = k.shades.within in let rooms = k.rooms.within in grind (arith, nat_tests);
    writes = mark_writes;
    blind = λ m found other store. grind (arith, nat_tests);
  }

  -- ---- a poll

  at : (p : Polling) (q : PollStage) → SoundPolling l p → polls.SoundStage l q → SoundPolling l (poll.at_stage p q)
  at p q s h = record { seat = s.seat; local = s.local; stage = h }

  room_opens : (seat : ℕ) (held : Option Held) → seat < l.procs → IsHeld l held → Runs (room.listing l) (room.opening seat held)
  room_opens seat held there fits = grind (arith, nat_tests)

  counted_stage : (seat : ℕ) (waits : Bool) (held : Option Held) → seat < l.procs → IsHeld l held → polls.SoundStage l (poll.room_stage seat waits held)
  counted_stage seat waits held there fits = grind (arith, room_opens)

  counted_sound : (p : Polling) → SoundPolling l p → SoundPolling l (poll.counted p)
  counted_sound p s = let stage = counted_stage p.seat p.waits p.local.held s.seat s.local.held in grind arith

  stack_opens : (seat g cycle : ℕ) (registers : List Value) (held : Option Held) → seat < l.procs → g < l.goroutines → length registers ≡ REGISTERS → IsHeld l held → Runs (mark.listing l) (mark.opening l seat g cycle registers held)
  stack_opens seat g cycle registers held there mine whole fits = record {
    sound = record {
      seat = omega (arith, there);
      held = fits;
      scan = record { goroutine = mine; registers = whole; stage = first_below 0 registers (omega (arith, whole)) };
      stage = stage_sound held (stack.opening g cycle registers) (stack.wish_of (stack.opening g cycle registers).stage) fits (begins_going g cycle registers) refl;
    };
    busy = grind arith;
  }

  scans_sound : (p : Polling) (out : Option ℕ) → SoundPolling l p → poll.due l p ≡ out → SoundPolling l (poll.scans l p out)
  scans_sound p None s e = counted_sound p s
  scans_sound p (Some g) s e =
      let there : g < l.goroutines = (due_scans l p.seat p.waits p.local g e).there in
      at p _ s (record { there = there; runs = stack_opens p.seat g p.local.view.begun (slice_index_or p.local.stacks g []) p.local.held s.seat there (s.local.rows g (omega (arith, there, l.limits.goroutines_fit.1))) s.local.held })

  marks_sound : (p : Polling) (phase : RunPhase) → SoundPolling l p → SoundPolling l (poll.marks_then l p phase)
  marks_sound p RunPhase.Mark s = scans_sound p (poll.due l p) s refl
  marks_sound p RunPhase.Off s = at p PollStage.Ended s tt
  marks_sound p RunPhase.Finished s = at p PollStage.Ended s tt

  stops_sound : (p : Polling) (g : give.Giving) (stops : ℕ) (busy : Bool) → SoundPolling l p → SoundGiving l g → stops < 2 ^ 62 → give.is_busy g.stage ≡ busy →
      SoundPolling l (cond busy (poll.at_stage p (PollStage.Giving g stops)) (record p { local = record (p.local) { cache = g.cache; held = g.held }; stage = PollStage.Resuming (resume.opening p.seat stops p.local.view) }))
  stops_sound p g stops true s h few e = at p (PollStage.Giving g stops) s (record { runs = record { sound = h; busy = e }; number = few })
  stops_sound p g stops false s h few e = let room = h.room in let cache = h.cache in let held = h.held in grind arith

  giving_stage : (held : Option Held) (q : GiveStage) → IsHeld l held → gives.SoundStage l (give.begins held q)
  giving_stage held q fits = let opens = buffer_opens l held fits in grind arith

  phase_sound : (p : Polling) (stops : ℕ) (phase : Option RunPhase) → SoundPolling l p → stops < 2 ^ 62 → SoundPolling l (poll.by_phase l p stops phase)
  phase_sound p stops (Some phase) s few = marks_sound p p.local.view.phase s
  phase_sound p stops None s few =
      let g : give.Giving = poll.giving p in
      let h : SoundGiving l g = record { seat = s.seat; generation = s.local.view.generation; room = s.local.room; cache = s.local.cache; held = s.local.held; stage = giving_stage p.local.held (give.stage_from p.local.cache 0) s.local.held } in
      stops_sound p g stops (give.is_busy g.stage) s h few refl

  resume_sound : (p : Polling) (r : resume.Resuming) (out : Option Resumed) → SoundPolling l p → SoundResuming l r → resume.given r ≡ out → SoundPolling l (poll.after_resume l p r out)
  resume_sound p r None s h e = at p (PollStage.Resuming r) s (record { sound = h; busy = ap is_none e })
  resume_sound p r (Some out) s h e = let fits = h.view in marks_sound (poll.resumed p out) out.view.phase (grind arith)

  mark_sound : (p : Polling) (g : ℕ) (m : StackMarking) (out : Option (Unit {0})) → SoundPolling l p → g < l.goroutines → SoundStackMarking l m → mark.given m.stage ≡ out → SoundPolling l (poll.after_mark p g m out)
  mark_sound p g m None s there h e = at p (PollStage.Marking g m) s (record { there = there; runs = record { sound = h; busy = ap is_none e } })
  mark_sound p g m (Some x) s there h e = let held = h.held in let many = length-set p.local.scanned g p.local.view.begun in counted_sound (poll.scanned p g m.held) (grind arith)

  room_sound : (p : Polling) (r : room.RoomFinding) (out : Option Held) → SoundPolling l p → SoundRoomFinding l r → room.given r ≡ out → SoundPolling l (poll.after_room p r out)
  room_sound p r out s f e = let stage = f.stage in grind (arith, nat_tests)

  polls_at : (p : Polling) (q : PollStage) (found : ℕ) → found < 2 ^ 64 → SoundPolling l p → polls.SoundStage l q → SoundPolling l (poll.goes_at l p q found)
  polls_at p PollStage.LoadPhase found few s h = phase_sound p (phase_of found).stops (run_phase (phase_of found).phase) s (omega arith)
  polls_at p (PollStage.Giving g stops) found few s h = stops_sound p (give.goes g found) stops (give.is_busy (give.goes g found).stage) s (k.gives.keeps g found few h.runs.sound h.runs.busy) h.number refl
  polls_at p (PollStage.Resuming r) found few s h = resume_sound p (resume.goes r found) (resume.gives r found) s (k.resumes.keeps r found few h.sound h.busy) refl
  polls_at p (PollStage.Marking g m) found few s h = mark_sound p g (mark.goes l m found) (mark.gives l m found) s h.there (marking_is_a_routine.keeps m found few h.runs.sound h.runs.busy) refl
  polls_at p (PollStage.FindRoom r) found few s h = room_sound p (room.goes l r found) (room.gives l r found) s (k.rooms.keeps r found few h.sound h.busy) refl
  polls_at p PollStage.Ended found few s h = at p PollStage.Ended s tt

  poll_writes : (p : Polling) → Writes poll.writes (poll.asks p)
  poll_writes p =
      let gives : (g : give.Giving) → Writes poll.writes (give.asks g) = λ g. k.footprints.among give.writes poll.writes _ refl (k.gives.writes g) in
      let resumes : (r : resume.Resuming) → Writes poll.writes (resume.asks r) = λ r. k.footprints.among resume.writes poll.writes _ refl (k.resumes.writes r) in
      let marks : (m : StackMarking) → Writes poll.writes (mark.asks m) = λ m. k.footprints.among mark.writes poll.writes _ refl (mark_writes m) in
      let rooms : (r : room.RoomFinding) → Writes poll.writes (room.asks r) = λ r. k.footprints.among (room.listing l).writes poll.writes _ refl (k.rooms.writes r) in
      grind arith

  poll_within : (p : Polling) → SoundPolling l p → InRange l (cell_of (poll.asks p))
  poll_within p s = let gives = k.gives.within in let resumes = k.resumes.within in let marks = marking_is_a_routine.within in let rooms = k.rooms.within in grind arith

  poll_blind : (p : Polling) (found other : ℕ) → is_store (poll.asks p) ≡ true → poll.goes l p found ≡ poll.goes l p other
  poll_blind p found other store = grind (arith, nat_tests)

  pub polling_is_a_routine : IsRoutine l (poll.listing l)
  polling_is_a_routine = record {
    keeps = λ p found few s busy. polls_at p p.stage found few s s.stage;
    within = λ p s busy. poll_within p s;
    writes = poll_writes;
    blind = poll_blind;
  }

  -- ---- a wait

  abbrev SoundWait : Waiting → Type 0
  SoundWait w = SoundPolling l w.poll × PollsOn w.poll w.wait.stage

  polled_sound : (w : Waiting) (p : Polling) (out : Option (Unit {0})) → SoundPolling l p → poll.given p.stage ≡ out → SoundWait (wait.after_poll w p out)
  polled_sound w p out s e = grind arith

  polling_sound : (w : Waiting) → SoundPolling l w.poll → SoundWait (wait.polling w)
  polling_sound w s = grind arith

  waits_at : (w : Waiting) (q : WaitStage) (found : ℕ) → found < 2 ^ 64 → SoundPolling l w.poll → PollsOn w.poll q → SoundWait (wait.goes_at l w q found)
  waits_at w WaitStage.Want found few s on = polling_sound w s
  waits_at w WaitStage.Polling found few s on = polled_sound w (poll.goes l w.poll found) (poll.gives l w.poll found) (polling_is_a_routine.keeps w.poll found few s on) refl
  waits_at w WaitStage.LoadSwept found few s on = let again = polling_sound w s in grind arith
  waits_at w WaitStage.Ended found few s on = polling_sound w s

  pub waiting_is_a_routine : IsRoutine l (wait.listing l)
  waiting_is_a_routine = record {
    keeps = λ w found few s busy. waits_at w w.wait.stage found few s.0 s.1;
    within = λ w s busy. grind (arith, poll_within);
    writes = λ w. let polls : (p : Polling) → Writes wait.writes (poll.asks p) = λ p. k.footprints.among poll.writes wait.writes _ refl (poll_writes p) in grind arith;
    blind = λ w found other store. grind (arith, poll_blind);
  }
