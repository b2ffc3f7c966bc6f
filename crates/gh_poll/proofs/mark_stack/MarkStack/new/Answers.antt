use Rattle.std.proofs.Common.{◌≡◌, true, sym, subst}
use Rattle.gh_poll.proofs.Vocabulary.{goes_on, StackScan}
use Rattle.gh_poll.proofs.StackMarking.{begins_going}
use Rattle.gh_poll.proofs.mark_stack.MarkStack.new.Goals as goal

pub stage_of-requires-clause-going : goal.stage_of-requires-clause-going
stage_of-requires-clause-going c =
    subst (λ (s : StackScan). goes_on s.stage ≡ true) (sym c.new-scan.ensures.opening) (begins_going c.args.goroutine c.args.cycle c.args.registers)
