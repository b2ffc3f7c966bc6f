use Rattle.std.proofs.Common.{◌≡◌, ◌<◌, ℕ, false, true, length, refl, sym, subst, ◌∙◌, Some, arith, slice_get}
use Rattle.gh_world.proofs.Vocabulary.{Done, has_left_at, is_done, IsStepOfProcessor, now_of, Ran, set, slice_get_read, SoundTurns, State}
use Rattle.gh_world.specs.declared.event.Event.TheVariants.{Answered}
use Rattle.gh_world.proofs.OneStep.{few_there, fit_there, room_there, run_is, runner_going}
use Rattle.gh_world.proofs.world.World.run_on.Goals as goal
use Rattle.gh_world.proofs.world.World.run_on.Goals.{After-from-seat, After-now, After-run-event, After-sets, in-Some+else-sets+in-GetGlobal+in_default-directs, in-Some+else-sets+in_default-op, in_default}

-- the runner that is lent is the one at the seat
there : (c : After-from-seat) → slice_get c.self.inside.runners.items c.args.seat ≡ Some c.index_mut-runner.result.now
there c =
    let at : c.from.result ≡ c.args.seat = omega (arith, c.from.ensures) in
    let low : c.args.seat < length c.self.inside.runners.items = subst (λ (w : State). c.args.seat < length w.runners) (sym c.self.view_is) c.requires.there in
    subst (λ (i : ℕ). slice_get c.self.inside.runners.items i ≡ Some c.index_mut-runner.result.now) at
    (slice_get_read c.self.inside.runners.items (length c.self.inside.runners.items) c.from.result c.index_mut-runner.result.now refl (omega (arith, low, at)) c.index_mut-runner.ensures.value)

-- what is kept of it
fits : (c : After-from-seat) → SoundTurns c.self.inside.script.now c.from-seat.result c.index_mut-runner.result.now.mutator c.index_mut-runner.result.now.progress
fits c =
    let seat : c.from-seat.result ≡ c.args.seat = omega (arith, c.from-seat.ensures) in
    rw seat (c.self.invariant.running.each c.args.seat c.index_mut-runner.result.now (there c))

-- and it has not left
going : (c : After-from-seat) → has_left_at c.index_mut-runner.result.now.mutator.processor.task ≡ false
going c =
    let going = subst (λ (w : State). is_done w c.args.seat ≡ false) (sym c.self.view_is) c.requires.going in
    let w : State = record { script = c.self.inside.script.now; layout = c.self.inside.layout; words = c.self.inside.words; runners = c.self.inside.runners.items; workers = c.self.inside.workers.items; coord = c.self.inside.coord; points = c.self.inside.points.items } in
    runner_going w c.args.seat c.index_mut-runner.result.now (there c) going

-- where nothing was made at once, all is as it was
same_runner : (c : After-run-event) → c.match-due.runner ≡ c.index_mut-runner.result.now
same_runner c = elim c.match-due.branch [
  | in-Some+else-sets+in-GetGlobal+in_default-directs w ↦ w.runner-is ∙ (w.directs.ensures.stays w.in_default-directs.is).0 ∙ (w.sets.ensures.stays w.if-sets.false).0
  | in-Some+else-sets+in_default-op w ↦ w.runner-is ∙ (w.sets.ensures.stays w.if-sets.false).0
  | in_default w ↦ w.runner-is
]

same_layout : (c : After-run-event) → c.match-due.self-inside.1.1.0 ≡ c.self.inside.layout
same_layout c = elim c.match-due.branch [
  | in-Some+else-sets+in-GetGlobal+in_default-directs w ↦ rw w.self-inside-is refl
  | in-Some+else-sets+in_default-op w ↦ rw w.self-inside-is refl
  | in_default w ↦ rw w.self-inside-is refl
]

same_words : (c : After-run-event) → c.match-due.self-inside.1.1.1.0 ≡ c.self.inside.words
same_words c = elim c.match-due.branch [
  | in-Some+else-sets+in-GetGlobal+in_default-directs w ↦ rw w.self-inside-is ((w.directs.ensures.stays w.in_default-directs.is).1 ∙ (w.sets.ensures.stays w.if-sets.false).1)
  | in-Some+else-sets+in_default-op w ↦ rw w.self-inside-is (w.sets.ensures.stays w.if-sets.false).1
  | in_default w ↦ rw w.self-inside-is refl
]

-- ---- each of the three ways is a step at that seat

by_sets : (c : After-sets) → c.sets.result ≡ true → (now : ℕ × ℕ) → now ≡ now_of c.sets.new.self.progress → Ran c.self.inside.script.now c.self.inside.layout c.args.seat c.self.inside.words c.sets.new.words c.index_mut-runner.result.now c.sets.new.self (Answered now.0 now.1 Done) true
by_sets c sets now is =
    let seat : c.from-seat.result ≡ c.args.seat = omega (arith, c.from-seat.ensures) in
    rw (sym seat, is) (c.sets.ensures.ran sets)

by_directs : (c : After-now) → Ran c.self.inside.script.now c.self.inside.layout c.args.seat c.self.inside.words c.directs.new.words c.index_mut-runner.result.now c.directs.new.self c.in-Some-directs.event true
by_directs c =
    let seat : c.from-seat.result ≡ c.args.seat = omega (arith, c.from-seat.ensures) in
    let stays = c.sets.ensures.stays c.if-sets.false in
    rw (sym seat, sym stays.0, sym stays.1) c.in-Some-directs.ensures.ran

by_run : (c : After-run-event) → Ran c.self.inside.script.now c.self.inside.layout c.args.seat c.self.inside.words c.run-event.new.words c.index_mut-runner.result.now c.run-event.new.self c.run-event.result.0 c.run-event.result.1
by_run c =
    let seat : c.from-seat.result ≡ c.args.seat = omega (arith, c.from-seat.ensures) in
    rw (sym seat, sym (same_runner c), sym (same_layout c), sym (same_words c)) c.run-event.ensures.ran

-- ---- what the calls want

pub due-requires : goal.due-requires
due-requires c = (c.args.seat, c.self.invariant.running.each c.args.seat c.index_mut-runner.result.now (there (goal.at.due-requires c).After-from-seat))

pub sets-requires-clause-fits : goal.sets-requires-clause-fits
sets-requires-clause-fits c = fits (goal.at.sets-requires-clause-fits c).After-from-seat

pub sets-requires-clause-sound : goal.sets-requires-clause-sound
sets-requires-clause-sound c = c.self.invariant.running.sound c.args.seat c.index_mut-runner.result.now (there (goal.at.sets-requires-clause-sound c).After-from-seat)

pub sets-requires-clause-going : goal.sets-requires-clause-going
sets-requires-clause-going c = going (goal.at.sets-requires-clause-going c).After-from-seat

pub directs-requires-clause-fits : goal.directs-requires-clause-fits
directs-requires-clause-fits c = rw (c.sets.ensures.stays c.if-sets.false).0 (fits (goal.at.directs-requires-clause-fits c).After-from-seat)

pub directs-requires-clause-going : goal.directs-requires-clause-going
directs-requires-clause-going c = rw (c.sets.ensures.stays c.if-sets.false).0 (going (goal.at.directs-requires-clause-going c).After-from-seat)

pub run-event-requires-clause-fits : goal.run-event-requires-clause-fits
run-event-requires-clause-fits c =
    let here = fits (goal.at.run-event-requires-clause-fits c).After-from-seat in
    elim c.match-due.branch [
      | in-Some+else-sets+in-GetGlobal+in_default-directs w ↦ rw (w.runner-is, (w.directs.ensures.stays w.in_default-directs.is).0, (w.sets.ensures.stays w.if-sets.false).0) here
      | in-Some+else-sets+in_default-op w ↦ rw (w.runner-is, (w.sets.ensures.stays w.if-sets.false).0) here
      | in_default w ↦ rw w.runner-is here
    ]

pub run-event-requires-clause-sound : goal.run-event-requires-clause-sound
run-event-requires-clause-sound c =
    let here = c.self.invariant.running.sound c.args.seat c.index_mut-runner.result.now (there (goal.at.run-event-requires-clause-sound c).After-from-seat) in
    elim c.match-due.branch [
      | in-Some+else-sets+in-GetGlobal+in_default-directs w ↦ rw (w.self-inside-is, w.runner-is, (w.directs.ensures.stays w.in_default-directs.is).0, (w.sets.ensures.stays w.if-sets.false).0) here
      | in-Some+else-sets+in_default-op w ↦ rw (w.self-inside-is, w.runner-is, (w.sets.ensures.stays w.if-sets.false).0) here
      | in_default w ↦ rw (w.self-inside-is, w.runner-is) here
    ]

pub run-event-requires-clause-going : goal.run-event-requires-clause-going
run-event-requires-clause-going c =
    let here = going (goal.at.run-event-requires-clause-going c).After-from-seat in
    elim c.match-due.branch [
      | in-Some+else-sets+in-GetGlobal+in_default-directs w ↦ rw (w.runner-is, (w.directs.ensures.stays w.in_default-directs.is).0, (w.sets.ensures.stays w.if-sets.false).0) here
      | in-Some+else-sets+in_default-op w ↦ rw (w.runner-is, (w.sets.ensures.stays w.if-sets.false).0) here
      | in_default w ↦ rw w.runner-is here
    ]

-- ---- where it sets registers

pub note-requires : goal.note-requires
note-requires c =
    let k = goal.at.note-requires c in
    room_there c.polls_make_room.ensures _ _ _ c.self.invariant c.args.seat _ _ (there k.After-from-seat) _ _ _ (by_sets k.After-sets c.if-sets.true c.now-g.result c.now-g.ensures) c.sets.ensures.sound

pub invariant_of-self : goal.invariant_of-self
invariant_of-self c =
    let k = goal.at.invariant_of-self c in
    let at : c.from.result ≡ c.args.seat = omega (arith, c.from.ensures) in
    rw (at, c.note.ensures.count, c.note.ensures.reserved)
    (fit_there c.polls_make_room.ensures _ _ _ c.self.invariant c.args.seat _ _ (there k.After-from-seat) _ _ _ (by_sets k.After-sets c.if-sets.true c.now-g.result c.now-g.ensures) c.sets.ensures.sound c.note.new.points.items)

pub returns-then-sets-clause-steps : goal.returns-then-sets-clause-steps
returns-then-sets-clause-steps c =
    let k = goal.at.returns-then-sets-clause-steps c in
    let at : c.from.result ≡ c.args.seat = omega (arith, c.from.ensures) in
    rw at (subst (λ (w : State). IsStepOfProcessor w (record { script = c.self.inside.script.now; layout = c.self.inside.layout; words = c.sets.new.words; runners = set c.self.inside.runners.items c.args.seat c.sets.new.self; workers = c.self.inside.workers.items; coord = c.self.inside.coord; points = c.note.new.points.items }) c.args.seat (Answered c.now-g.result.0 c.now-g.result.1 Done)) c.self.view_is
    (run_is c.polls_make_room.ensures _ _ _ c.self.invariant c.args.seat _ _ (there k.After-from-seat) _ _ _ (by_sets k.After-sets c.if-sets.true c.now-g.result c.now-g.ensures) c.sets.ensures.sound c.note.new.points.items c.now-g.result c.now-g.ensures c.note.ensures.points))

pub returns-then-sets-clause-few : goal.returns-then-sets-clause-few
returns-then-sets-clause-few c =
    let k = goal.at.returns-then-sets-clause-few c in
    let at : c.from.result ≡ c.args.seat = omega (arith, c.from.ensures) in
    rw at (few_there c.polls_make_room.ensures _ _ _ c.self.invariant c.args.seat _ _ (there k.After-from-seat) _ _ _ (by_sets k.After-sets c.if-sets.true c.now-g.result c.now-g.ensures) c.sets.ensures.sound)

-- ---- where it begins at a global

pub note-requires-in-Some-directs : goal.note-requires-in-Some-directs
note-requires-in-Some-directs c =
    let k = goal.at.note-requires-in-Some-directs c in
    room_there c.polls_make_room.ensures _ _ _ c.self.invariant c.args.seat _ _ (there k.After-from-seat) _ _ _ (by_directs k.After-now) c.directs.ensures.sound

pub invariant_of-self-in-Some-directs : goal.invariant_of-self-in-Some-directs
invariant_of-self-in-Some-directs c =
    let k = goal.at.invariant_of-self-in-Some-directs c in
    let at : c.from.result ≡ c.args.seat = omega (arith, c.from.ensures) in
    rw (at, c.note-in-Some-directs.ensures.count, c.note-in-Some-directs.ensures.reserved)
    (fit_there c.polls_make_room.ensures _ _ _ c.self.invariant c.args.seat _ _ (there k.After-from-seat) _ _ _ (by_directs k.After-now) c.directs.ensures.sound c.note-in-Some-directs.new.points.items)

pub returns-in-Some-directs-clause-steps : goal.returns-in-Some-directs-clause-steps
returns-in-Some-directs-clause-steps c =
    let k = goal.at.returns-in-Some-directs-clause-steps c in
    let at : c.from.result ≡ c.args.seat = omega (arith, c.from.ensures) in
    rw at (subst (λ (w : State). IsStepOfProcessor w (record { script = c.self.inside.script.now; layout = c.self.inside.layout; words = c.directs.new.words; runners = set c.self.inside.runners.items c.args.seat c.directs.new.self; workers = c.self.inside.workers.items; coord = c.self.inside.coord; points = c.note-in-Some-directs.new.points.items }) c.args.seat c.in-Some-directs.event) c.self.view_is
    (run_is c.polls_make_room.ensures _ _ _ c.self.invariant c.args.seat _ _ (there k.After-from-seat) _ _ _ (by_directs k.After-now) c.directs.ensures.sound c.note-in-Some-directs.new.points.items c.now.result c.now.ensures c.note-in-Some-directs.ensures.points))

pub returns-in-Some-directs-clause-few : goal.returns-in-Some-directs-clause-few
returns-in-Some-directs-clause-few c =
    let k = goal.at.returns-in-Some-directs-clause-few c in
    let at : c.from.result ≡ c.args.seat = omega (arith, c.from.ensures) in
    rw at (few_there c.polls_make_room.ensures _ _ _ c.self.invariant c.args.seat _ _ (there k.After-from-seat) _ _ _ (by_directs k.After-now) c.directs.ensures.sound)

-- ---- where its step is any other

pub note-requires-2 : goal.note-requires-2
note-requires-2 c =
    let k = goal.at.note-requires-2 c in
    room_there c.polls_make_room.ensures _ _ _ c.self.invariant c.args.seat _ _ (there k.After-from-seat) _ _ _ (by_run k.After-run-event) (rw (sym (same_layout k.After-run-event)) c.run-event.ensures.sound)

pub invariant_of-self-2 : goal.invariant_of-self-2
invariant_of-self-2 c =
    let k = goal.at.invariant_of-self-2 c in
    let at : c.from.result ≡ c.args.seat = omega (arith, c.from.ensures) in
    rw (at, c.note-2.ensures.count, c.note-2.ensures.reserved, same_layout k.After-run-event)
    (fit_there c.polls_make_room.ensures _ _ _ c.self.invariant c.args.seat _ _ (there k.After-from-seat) _ _ _ (by_run k.After-run-event) (rw (sym (same_layout k.After-run-event)) c.run-event.ensures.sound) c.note-2.new.points.items)

pub returns-clause-steps : goal.returns-clause-steps
returns-clause-steps c =
    let k = goal.at.returns-clause-steps c in
    let at : c.from.result ≡ c.args.seat = omega (arith, c.from.ensures) in
    rw (at, same_layout k.After-run-event) (subst (λ (w : State). IsStepOfProcessor w (record { script = c.self.inside.script.now; layout = c.self.inside.layout; words = c.run-event.new.words; runners = set c.self.inside.runners.items c.args.seat c.run-event.new.self; workers = c.self.inside.workers.items; coord = c.self.inside.coord; points = c.note-2.new.points.items }) c.args.seat c.run-event.result.0) c.self.view_is
    (run_is c.polls_make_room.ensures _ _ _ c.self.invariant c.args.seat _ _ (there k.After-from-seat) _ _ _ (by_run k.After-run-event) (rw (sym (same_layout k.After-run-event)) c.run-event.ensures.sound) c.note-2.new.points.items c.now-now.result c.now-now.ensures c.note-2.ensures.points))

pub returns-clause-few : goal.returns-clause-few
returns-clause-few c =
    let k = goal.at.returns-clause-few c in
    let at : c.from.result ≡ c.args.seat = omega (arith, c.from.ensures) in
    rw at (few_there c.polls_make_room.ensures _ _ _ c.self.invariant c.args.seat _ _ (there k.After-from-seat) _ _ _ (by_run k.After-run-event) (rw (sym (same_layout k.After-run-event)) c.run-event.ensures.sound))
