use Rattle.std.proofs.Common.{subst}
use Rattle.gh_alloc.proofs.Vocabulary.{IsStage}
use Rattle.gh_alloc.proofs.Finding.Within.{slot_found_fits}
use Rattle.gh_alloc.proofs.find.Find.finds.Goals as goal

pub returns-in-Slots-clause-within : goal.returns-in-Slots-clause-within
returns-in-Slots-clause-within c = slot_found_fits c.size_class_laws.ensures.fit c.args.layout.now c.args.self.now.wanted c.in-Slots.search c.finds.result (subst (IsStage c.args.layout.now c.args.self.now.wanted) c.in-Slots.is c.requires.stage) c.finds.ensures.at
