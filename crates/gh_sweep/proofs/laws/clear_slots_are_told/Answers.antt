use Rattle.gh_sweep.proofs.Sweeping.Slots.{clear_is_true}
use Rattle.gh_sweep.proofs.laws.clear_slots_are_told.Goals as goal

pub returns : goal.returns
returns g s words span c among class pages fits swept =
    let laws = g.size_class_laws.ensures in
    clear_is_true g.rows_are_written.ensures s words span c (record { fit = laws.fit c among; least = laws.least_slot c among; whole_words = laws.whole_words c among }) class pages fits swept
