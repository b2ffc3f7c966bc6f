use Rattle.std.proofs.Common.{arith}
use Rattle.gh_worker.proofs.worker.Worker.new.Goals as goal

pub returns-clause-sound : goal.returns-clause-sound
returns-clause-sound c = λ l is. record { seat = is; held = tt; view = record { generation = omega arith; begun = omega arith }; page = omega (arith, l.limits.pages_fit.0); stage = tt }
