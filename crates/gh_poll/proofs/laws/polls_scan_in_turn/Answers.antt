use Rattle.gh_poll.proofs.laws.polls_scan_in_turn.Goals as goal
use Rattle.gh_poll.proofs.Turning.{polls_scan_in_turn}

pub returns : goal.returns
returns c = polls_scan_in_turn
