-- What a call leaves that answers a fault.
use Rattle.std.specs.Prelude.{◌≡◌, true, All, List, ◌++◌}
use Rattle.gh_shared.specs.Vocabulary.{Answer, Entry, is_load, machine_actor, Op}
use Rattle.gh_base.specs.declared.value.Fault.{Fault}
use Rattle.gh_shared.specs.declared.handle.Handle.{Handle}
use Rattle.gh_shared.specs.Handles.{machine_of, own_of, room_of}

-- Each entry that the call added to its actor's own is a load, so no word changed; and the processor is what it was, with all registers and what it knows.
pub record LeavesAll (h h' : Handle) : Type 0 where
  pub added : List (Entry Op)
  pub own : own_of h' ≡ added ++ own_of h
  pub loads : All (λ (e : Entry Op). is_load e.ask ≡ true) added
  pub stays : machine_actor (machine_of h') ≡ machine_actor (machine_of h)
  pub room : room_of h' ≡ room_of h

-- so it is where the answer is a fault
abbrev pub FaultLeavesAll : (h h' : Handle) → Answer → Type 0
FaultLeavesAll h h' given = (cause : Fault) → given ≡ Answer.Fault cause → LeavesAll h h'
