use Rattle.std.proofs.Common.{arith, ◌≡◌, ℕ, List, ap}
use Rattle.gh_base.specs.Reading.{read_replicate}
use Rattle.gh_mutator.specs.Mutating.{Mutating, opening}
use Rattle.gh_world.specs.Vocabulary.{made_by, Shape}
use Rattle.gh_world.specs.World.{MadeAtMost}
use Rattle.gh_machines_tests.proofs.cycle.a_cycle_keeps_and_frees.Goals as goal

none_made : (seat : ℕ) (shapes : List Shape) → MadeAtMost 0 (opening seat shapes).processor
none_made seat shapes = λ g. let none : made_by (opening seat shapes).processor g ≡ 0 = read_replicate {A = ℕ} 32 g 0 in omega (arith, none)

pub turn-requires-clause-made : goal.turn-requires-clause-made
turn-requires-clause-made g c = rw c.new-3.ensures.is (none_made 0 c.shapes-2.result.now)

pub turn-requires-clause-processor : goal.turn-requires-clause-processor
turn-requires-clause-processor g c = rw (ap (λ (m : Mutating). m.shapes) c.new-3.ensures.is) (c.new-3.ensures.sound c.in_ok-layout.layout (omega (arith, c.in_ok-layout.ensures.numbers.procs_are)))
