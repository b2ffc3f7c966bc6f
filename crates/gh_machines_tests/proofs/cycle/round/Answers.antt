use Rattle.std.proofs.Common.{rules, arith, ◌≡◌, ℕ, true, sym, ap, ◌∙◌, Option}
use Rattle.std.specs.Prelude.{is_some, IsNone}
use Rattle.gh_base.specs.declared.layout.Layout.{Layout}
use Rattle.gh_base.specs.declared.value.Answer.{Answer}
use Rattle.gh_mutator.specs.Stays.{ends}
use Rattle.gh_mutator.specs.Listing.{takes}
use Rattle.gh_mutator.specs.Mutating.{Mutating, gives, goes, is_busy}
use Rattle.gh_world.specs.Vocabulary.{acts, gives_at}
use Rattle.gh_world.specs.World.{MadeAtMost}
use Rattle.gh_world.proofs.StepFacts.{step_facts, StepFacts}
use Rattle.gh_machines_tests.proofs.cycle.round.Goals as goal

-- it goes on where it has answered nothing
on : (l : Layout) (m : Mutating) (found : ℕ) (told : Option Answer) → is_busy m ≡ true → told ≡ gives l m found → IsNone told → is_busy (goes l m found) ≡ true
on l m found told busy is none = let no : IsNone (gives l m found) = sym (ap is_some is) ∙ none in (ends l m found busy).0 no

few : (l : Layout) (m : Mutating) (n found : ℕ) → is_busy m ≡ true → MadeAtMost n m.processor → MadeAtMost n (goes l m found).processor
few l m n found busy before =
    let s : StepFacts m.processor m.processor.task (takes l m.shapes m.processor found) (acts l m.processor found) (gives_at l m.processor m.processor.task found) = step_facts l m.shapes m.processor m.processor.task found busy in
    λ g. omega (arith, before g, s.counted g)

pub returns-clause-busy : goal.returns-clause-busy
returns-clause-busy c =
    let after : c.others.new.actors.processor ≡ goes c.args.actors.now.layout c.args.actors.now.processor c.step-found.result = search rules in
    λ none. ap is_busy after ∙ on c.args.actors.now.layout c.args.actors.now.processor c.step-found.result c.take-answer.result c.requires.busy c.take-answer.ensures.out none

pub returns-clause-made : goal.returns-clause-made
returns-clause-made c =
    let after : c.others.new.actors.processor ≡ goes c.args.actors.now.layout c.args.actors.now.processor c.step-found.result = search rules in
    let many : c.others.new.actors.begun ≡ c.args.actors.now.begun = search rules in
    rw (after, many) (few c.args.actors.now.layout c.args.actors.now.processor c.args.actors.now.begun c.step-found.result c.requires.busy c.requires.made)
