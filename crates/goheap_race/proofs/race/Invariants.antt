use Rattle.std.proofs.Common.{◌≡◌, true}
use Rattle.gh_shared.specs.Calls.{IsGoing}
use Rattle.gh_shared.specs.Handles.{runs_in}
use Rattle.goheap_race.proofs.race.Given as goal

abbrev pub invariant-loop : goal.invariant-loop
invariant-loop g l = IsGoing l.heap l.h × (runs_in l.h l.g ≡ true)
