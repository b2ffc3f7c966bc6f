use Rattle.gh_cache.proofs.Finding.{finds}
use Rattle.gh_cache.proofs.laws.next_clear_slot.Goals as goal

pub returns : goal.returns
returns c l span found within below =
    let laws = c.size_class_laws.ensures in
    finds l span found (record { fit = laws.fit span.class within.class; full = laws.full span.class within.class; whole_words = laws.whole_words span.class within.class }) within below
