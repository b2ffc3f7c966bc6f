-- What holds of an assist that has ended, and of one that draws, holds of the one that it goes on as where the debt is known.
use Rattle.std.proofs.Common.{◌≡◌, arith}
use Rattle.gh_assist.proofs.Vocabulary.{Assisting, at_stage, draws_if_owed}
use Rattle.gh_credit.specs.Drawing as draw
use Rattle.gh_assist.specs.declared.assist.AssistStage.TheVariants.{Drawing, Ended}

pub by_owes : (P : Assisting → Type 0) (x : Assisting) → (x.owed ≡ 0 → P (at_stage x Ended)) → P (at_stage x (Drawing (draw.opening x.owed))) → P (draws_if_owed x)
by_owes P x ended draws = grind arith
