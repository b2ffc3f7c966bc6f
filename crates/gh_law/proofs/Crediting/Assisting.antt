-- A processor that assists is awake and knows that marking is on; and no operation begins with an assist.
use Rattle.std.proofs.Common.{◌≡◌, true, arith}
use Rattle.gh_law.proofs.Vocabulary.{is_mark, IsAssisting, IsAwake, party_at, Polling, RunPhase, stage_at, Task}

pub assisting_knows : (p : Polling) (t : Task) → IsAssisting t → IsAwake (stage_at p t) × ((party_at p t).view ≡ p.local.view)
assisting_knows p t h = grind arith

pub marks_phase : (phase : RunPhase) → is_mark phase ≡ true → phase ≡ RunPhase.Mark
marks_phase phase is = grind arith
