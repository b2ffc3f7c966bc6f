use Rattle.std.proofs.Common.{◌≡◌, ◌*◌, ◌^◌, ◌≤◌, List, ap, subst, rules}
use Rattle.gh_mutator.proofs.Vocabulary.{Layout, New, NewStage, Place, Placing, Processor, Shape, Sound, SoundTask, takes, Task, Wait, WaitState}
use Rattle.gh_mutator.proofs.ClassFacts.{ClassLaws}
use Rattle.gh_mutator.proofs.NewSteps.{NewLaws, slot_bytes, take_sound}
use Rattle.gh_mutator.proofs.Tasks.{new_is}
use Rattle.gh_mutator.proofs.processor.Processor.take_new.Goals as goal

places : (q : NewStage) (p : Placing) (x : WaitState) → q ≡ Place p → q ≡ Wait x → ⊥
places q p x is e = cc

pub returns-in-None-clause-sound : goal.returns-in-None-clause-sound
returns-in-None-clause-sound c =
    let laws : NewLaws = record { classes = search rules; searches = c.searching_is_a_routine.ensures; makes = c.making_is_a_routine.ensures; assists = c.assist_is_a_routine.ensures } in
    let is : c.args.self.now.task ≡ Task.New c.in-New.new = new_is c.args.self.now c.self.inside.at c.self.inside.large c.in-New.new (ap (λ (p : Processor). p.task) c.self.view_is) c.requires.making c.in-New.is in
    take_sound c.args.layout.now laws c.args.shapes.now c.args.self.now c.in-New.new c.args.found _ c.ranges.found.fits c.requires.polls (λ x e. absurd (cc (c.in-Search.is, e))) c.requires.sound is (search rules)

pub returns-in-Some-clause-sound : goal.returns-in-Some-clause-sound
returns-in-Some-clause-sound c =
    let laws : NewLaws = record { classes = search rules; searches = c.searching_is_a_routine.ensures; makes = c.making_is_a_routine.ensures; assists = c.assist_is_a_routine.ensures } in
    let is : c.args.self.now.task ≡ Task.New c.in-New.new = new_is c.args.self.now c.self.inside.at c.self.inside.large c.in-New.new (ap (λ (p : Processor). p.task) c.self.view_is) c.requires.making c.in-New.is in
    take_sound c.args.layout.now laws c.args.shapes.now c.args.self.now c.in-New.new c.args.found _ c.ranges.found.fits c.requires.polls (λ x e. absurd (cc (c.in-Search.is, e))) c.requires.sound is (search rules)

pub returns-in_err-take-in-Assist-clause-sound : goal.returns-in_err-take-in-Assist-clause-sound
returns-in_err-take-in-Assist-clause-sound c =
    let laws : NewLaws = record { classes = search rules; searches = c.searching_is_a_routine.ensures; makes = c.making_is_a_routine.ensures; assists = c.assist_is_a_routine.ensures } in
    let is : c.args.self.now.task ≡ Task.New c.in-New.new = new_is c.args.self.now c.self.inside.at c.self.inside.large c.in-New.new (ap (λ (p : Processor). p.task) c.self.view_is) c.requires.making c.in-New.is in
    take_sound c.args.layout.now laws c.args.shapes.now c.args.self.now c.in-New.new c.args.found _ c.ranges.found.fits c.requires.polls (λ x e. absurd (cc (c.in-Assist.is, e))) c.requires.sound is (search rules)

pub returns-in_ok-take-in-Assist-clause-sound : goal.returns-in_ok-take-in-Assist-clause-sound
returns-in_ok-take-in-Assist-clause-sound c =
    let laws : NewLaws = record { classes = search rules; searches = c.searching_is_a_routine.ensures; makes = c.making_is_a_routine.ensures; assists = c.assist_is_a_routine.ensures } in
    let is : c.args.self.now.task ≡ Task.New c.in-New.new = new_is c.args.self.now c.self.inside.at c.self.inside.large c.in-New.new (ap (λ (p : Processor). p.task) c.self.view_is) c.requires.making c.in-New.is in
    take_sound c.args.layout.now laws c.args.shapes.now c.args.self.now c.in-New.new c.args.found _ c.ranges.found.fits c.requires.polls (λ x e. absurd (cc (c.in-Assist.is, e))) c.requires.sound is (search rules)

pub returns-in-Want-clause-sound : goal.returns-in-Want-clause-sound
returns-in-Want-clause-sound c =
    let laws : NewLaws = record { classes = search rules; searches = c.searching_is_a_routine.ensures; makes = c.making_is_a_routine.ensures; assists = c.assist_is_a_routine.ensures } in
    let is : c.args.self.now.task ≡ Task.New c.in-New.new = new_is c.args.self.now c.self.inside.at c.self.inside.large c.in-New.new (ap (λ (p : Processor). p.task) c.self.view_is) c.requires.making c.in-New.is in
    take_sound c.args.layout.now laws c.args.shapes.now c.args.self.now c.in-New.new c.args.found _ c.ranges.found.fits c.requires.polls (λ x e. absurd (cc (c.in-Want.is, e))) c.requires.sound is (search rules)

pub returns-in-Place-clause-sound : goal.returns-in-Place-clause-sound
returns-in-Place-clause-sound c =
    let goes : c.after_place.new.self ≡ takes c.args.layout.now c.args.shapes.now c.args.self.now c.args.found = search rules in
    let laws : NewLaws = record { classes = search rules; searches = c.searching_is_a_routine.ensures; makes = c.making_is_a_routine.ensures; assists = c.assist_is_a_routine.ensures } in
    let is : c.args.self.now.task ≡ Task.New c.in-New.new = new_is c.args.self.now c.self.inside.at c.self.inside.large c.in-New.new (ap (λ (p : Processor). p.task) c.self.view_is) c.requires.making c.in-New.is in
    take_sound c.args.layout.now laws c.args.shapes.now c.args.self.now c.in-New.new c.args.found _ c.ranges.found.fits c.requires.polls (λ x e. absurd (places c.in-New.new.stage c.in-Place.place x c.in-Place.is e)) c.requires.sound is goes

pub returns-then-ended-clause-sound : goal.returns-then-ended-clause-sound
returns-then-ended-clause-sound c =
    let laws : NewLaws = record { classes = search rules; searches = c.searching_is_a_routine.ensures; makes = c.making_is_a_routine.ensures; assists = c.assist_is_a_routine.ensures } in
    let is : c.args.self.now.task ≡ Task.New c.in-New.new = new_is c.args.self.now c.self.inside.at c.self.inside.large c.in-New.new (ap (λ (p : Processor). p.task) c.self.view_is) c.requires.making c.in-New.is in
    take_sound c.args.layout.now laws c.args.shapes.now c.args.self.now c.in-New.new c.args.found _ c.ranges.found.fits c.requires.polls (λ x e. search rules) c.requires.sound is (search rules)

pub returns-else-ended-clause-sound : goal.returns-else-ended-clause-sound
returns-else-ended-clause-sound c =
    let laws : NewLaws = record { classes = search rules; searches = c.searching_is_a_routine.ensures; makes = c.making_is_a_routine.ensures; assists = c.assist_is_a_routine.ensures } in
    let is : c.args.self.now.task ≡ Task.New c.in-New.new = new_is c.args.self.now c.self.inside.at c.self.inside.large c.in-New.new (ap (λ (p : Processor). p.task) c.self.view_is) c.requires.making c.in-New.is in
    take_sound c.args.layout.now laws c.args.shapes.now c.args.self.now c.in-New.new c.args.found _ c.ranges.found.fits c.requires.polls (λ x e. search rules) c.requires.sound is (search rules)

-- the slot is one of what is sought
wanted_small : (l : Layout) (shapes : List Shape) (m : Processor) (n : New) → ClassLaws → m.task ≡ Task.New n → Sound l shapes m → 8 * n.wanted.slot ≤ 2 ^ 31
wanted_small l shapes m n laws is s = slot_bytes laws shapes n.wanted (subst (λ (t : Task). SoundTask l shapes m.poll m.made t) is s.task).0

pub after_place-requires-clause-slot : goal.after_place-requires-clause-slot
after_place-requires-clause-slot c =
    let laws : ClassLaws = search rules in
    wanted_small c.args.layout.now c.args.shapes.now c.args.self.now c.in-New.new laws (new_is c.args.self.now c.self.inside.at c.self.inside.large c.in-New.new (ap (λ (p : Processor). p.task) c.self.view_is) c.requires.making c.in-New.is) c.requires.sound
