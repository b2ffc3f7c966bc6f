use Rattle.std.proofs.Common.{◌≡◌, ◌<◌, ℕ, Bool, true, false, length, refl, sym, subst, ap, ◌∙◌, Option, Some, arith, IfSome, slice_get}
use Rattle.std.proofs.lemmas.List.{append-nil}
use Rattle.gh_world.proofs.Vocabulary.{is_done, IsStepOfProcessor, Moved, now_of, Ran, set, slice_get_read, State}
use Rattle.gh_world.proofs.OneStep.{few_there, fit_still, fit_there, room_there, run_is, runner_going}
use Rattle.gh_world.proofs.world.World.run.Goals as goal
use Rattle.gh_world.proofs.world.World.run.Goals.{After-from-2, After-moves}

-- the runner that is lent is the one at the seat
there : (c : After-from-2) → slice_get c.self.inside.runners.items c.args.seat ≡ Some c.index_mut-runner.result.now
there c =
    let at : c.from.result ≡ c.args.seat = omega (arith, c.from.ensures) in
    let low : c.args.seat < length c.self.inside.runners.items = subst (λ (w : State). c.args.seat < length w.runners) (sym c.self.view_is) c.requires.there in
    subst (λ (i : ℕ). slice_get c.self.inside.runners.items i ≡ Some c.index_mut-runner.result.now) at
    (slice_get_read c.self.inside.runners.items (length c.self.inside.runners.items) c.from.result c.index_mut-runner.result.now refl (omega (arith, low, at)) c.index_mut-runner.ensures.value)

-- a step that is made at once is one at that seat
by_moves : (c : After-moves) (b : Bool) → c.moves.result ≡ Some b → Ran c.self.inside.script.now c.self.inside.layout c.args.seat c.self.inside.words c.moves.new.words c.index_mut-runner.result.now c.moves.new.self Moved b
by_moves c b is =
    let seat : c.from-2.result ≡ c.args.seat = omega (arith, c.from-2.ensures) in
    subst (λ (o : Option Bool). IfSome o (λ (p : Bool). Ran c.self.inside.script.now c.self.inside.layout c.args.seat c.self.inside.words c.moves.new.words c.index_mut-runner.result.now c.moves.new.self Moved p)) is (rw (sym seat) c.moves.ensures.ran)

pub moves-requires-clause-fits : goal.moves-requires-clause-fits
moves-requires-clause-fits c =
    let seat : c.from-2.result ≡ c.args.seat = omega (arith, c.from-2.ensures) in
    rw seat (c.self.invariant.running.each c.args.seat c.index_mut-runner.result.now (there (goal.at.moves-requires-clause-fits c).After-from-2))

pub moves-requires-clause-sound : goal.moves-requires-clause-sound
moves-requires-clause-sound c = c.self.invariant.running.sound c.args.seat c.index_mut-runner.result.now (there (goal.at.moves-requires-clause-sound c).After-from-2)

pub moves-requires-clause-going : goal.moves-requires-clause-going
moves-requires-clause-going c =
    let going = subst (λ (w : State). is_done w c.args.seat ≡ false) (sym c.self.view_is) c.requires.going in
    let w : State = record { script = c.self.inside.script.now; layout = c.self.inside.layout; words = c.self.inside.words; runners = c.self.inside.runners.items; workers = c.self.inside.workers.items; coord = c.self.inside.coord; points = c.self.inside.points.items } in
    runner_going w c.args.seat c.index_mut-runner.result.now (there (goal.at.moves-requires-clause-going c).After-from-2) going

-- ---- where it is the point of no statement

pub invariant_of-self : goal.invariant_of-self
invariant_of-self c =
    let k = goal.at.invariant_of-self c in
    let at : c.from.result ≡ c.args.seat = omega (arith, c.from.ensures) in
    rw at (fit_still c.polls_make_room.ensures _ _ _ c.self.invariant c.args.seat _ _ (there k.After-from-2) _ _ _ (by_moves k.After-moves false (c.in-Some.is ∙ ap Some c.if-not-is_point.true)) c.moves.ensures.sound refl c.self.inside.points.items)

pub returns-then-not-is_point-clause-steps : goal.returns-then-not-is_point-clause-steps
returns-then-not-is_point-clause-steps c =
    let k = goal.at.returns-then-not-is_point-clause-steps c in
    let at : c.from.result ≡ c.args.seat = omega (arith, c.from.ensures) in
    rw at (subst (λ (w : State). IsStepOfProcessor w (record { script = c.self.inside.script.now; layout = c.self.inside.layout; words = c.moves.new.words; runners = set c.self.inside.runners.items c.args.seat c.moves.new.self; workers = c.self.inside.workers.items; coord = c.self.inside.coord; points = c.self.inside.points.items }) c.args.seat Moved) c.self.view_is
    (run_is c.polls_make_room.ensures _ _ _ c.self.invariant c.args.seat _ _ (there k.After-from-2) _ _ _ (by_moves k.After-moves false (c.in-Some.is ∙ ap Some c.if-not-is_point.true)) c.moves.ensures.sound c.self.inside.points.items (now_of c.moves.new.self.progress) refl (sym (append-nil c.self.inside.points.items))))

pub returns-then-not-is_point-clause-few : goal.returns-then-not-is_point-clause-few
returns-then-not-is_point-clause-few c =
    let k = goal.at.returns-then-not-is_point-clause-few c in
    let at : c.from.result ≡ c.args.seat = omega (arith, c.from.ensures) in
    rw at (few_there c.polls_make_room.ensures _ _ _ c.self.invariant c.args.seat _ _ (there k.After-from-2) _ _ _ (by_moves k.After-moves false (c.in-Some.is ∙ ap Some c.if-not-is_point.true)) c.moves.ensures.sound)

-- ---- where it is the point of one

pub note-requires : goal.note-requires
note-requires c =
    let k = goal.at.note-requires c in
    room_there c.polls_make_room.ensures _ _ _ c.self.invariant c.args.seat _ _ (there k.After-from-2) _ _ _ (by_moves k.After-moves true (c.in-Some.is ∙ ap Some c.if-not-is_point.false)) c.moves.ensures.sound

pub invariant_of-self-in-Some : goal.invariant_of-self-in-Some
invariant_of-self-in-Some c =
    let k = goal.at.invariant_of-self-in-Some c in
    let at : c.from.result ≡ c.args.seat = omega (arith, c.from.ensures) in
    rw (at, c.note.ensures.count, c.note.ensures.reserved) (fit_there c.polls_make_room.ensures _ _ _ c.self.invariant c.args.seat _ _ (there k.After-from-2) _ _ _ (by_moves k.After-moves true (c.in-Some.is ∙ ap Some c.if-not-is_point.false)) c.moves.ensures.sound c.note.new.points.items)

pub returns-in-Some-clause-steps : goal.returns-in-Some-clause-steps
returns-in-Some-clause-steps c =
    let k = goal.at.returns-in-Some-clause-steps c in
    let at : c.from.result ≡ c.args.seat = omega (arith, c.from.ensures) in
    rw at (subst (λ (w : State). IsStepOfProcessor w (record { script = c.self.inside.script.now; layout = c.self.inside.layout; words = c.moves.new.words; runners = set c.self.inside.runners.items c.args.seat c.moves.new.self; workers = c.self.inside.workers.items; coord = c.self.inside.coord; points = c.note.new.points.items }) c.args.seat Moved) c.self.view_is
    (run_is c.polls_make_room.ensures _ _ _ c.self.invariant c.args.seat _ _ (there k.After-from-2) _ _ _ (by_moves k.After-moves true (c.in-Some.is ∙ ap Some c.if-not-is_point.false)) c.moves.ensures.sound c.note.new.points.items c.now.result c.now.ensures c.note.ensures.points))

pub returns-in-Some-clause-few : goal.returns-in-Some-clause-few
returns-in-Some-clause-few c =
    let k = goal.at.returns-in-Some-clause-few c in
    let at : c.from.result ≡ c.args.seat = omega (arith, c.from.ensures) in
    rw at (few_there c.polls_make_room.ensures _ _ _ c.self.invariant c.args.seat _ _ (there k.After-from-2) _ _ _ (by_moves k.After-moves true (c.in-Some.is ∙ ap Some c.if-not-is_point.false)) c.moves.ensures.sound)
