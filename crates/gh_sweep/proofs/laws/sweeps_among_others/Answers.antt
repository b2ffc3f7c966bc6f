use Rattle.gh_sweep.proofs.Sharing.Lasts.{among_others}
use Rattle.gh_sweep.proofs.laws.sweeps_among_others.Goals as goal

pub returns : goal.returns
returns c = among_others (record { packed = c.packed_words_are_read_back.ensures; slots = c.size_class_laws.ensures.greatest_slot }) c.sweep_keeps_its_facts.ensures
