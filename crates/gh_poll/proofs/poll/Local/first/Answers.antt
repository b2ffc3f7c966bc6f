use Rattle.std.proofs.Common.{[], length, replicate, refl, ap}
use Rattle.std.proofs.lemmas.List.{get_or-replicate}
use Rattle.gh_base.specs.declared.value.Value.TheVariants.{Nil}
use Rattle.gh_poll.proofs.poll.Local.first.Goals as goal

pub returns-clause-fits : goal.returns-clause-fits
returns-clause-fits c l = record {
  view = c.first-view.ensures.fits;
  room = c.no_spans-cache.ensures.room;
  cache = c.no_spans-cache.ensures.fits l;
  held = tt;
  scanned = refl;
  stacks = refl;
  rows = λ g low. ap length (get_or-replicate 32 g (replicate 16 Nil) [] low);
}
