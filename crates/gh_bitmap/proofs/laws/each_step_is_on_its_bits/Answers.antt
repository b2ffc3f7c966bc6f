use Rattle.gh_bitmap.proofs.PointerSetting.Steps.{steps_on}
use Rattle.gh_bitmap.proofs.laws.each_step_is_on_its_bits.Goals as goal

pub returns : goal.returns
returns c = steps_on c.rows_are_written.ensures
