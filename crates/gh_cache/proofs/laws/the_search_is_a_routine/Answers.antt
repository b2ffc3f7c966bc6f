use Rattle.std.proofs.Common.{arith}
use Rattle.gh_cache.proofs.Vocabulary.{mod-lt, nat_tests}
use Rattle.gh_cache.proofs.laws.the_search_is_a_routine.Goals as goal

pub returns : goal.returns
returns c = λ l. let fit = l.limits.pages_fit.0 in grind (arith, nat_tests, mod-lt, c.size_class_laws.ensures.few_slots)
