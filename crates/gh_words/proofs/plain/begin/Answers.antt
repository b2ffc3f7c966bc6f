use Rattle.gh_words.proofs.Spread.{begun}
use Rattle.gh_words.proofs.plain.begin.Goals as goal

pub returns-clause-stands : goal.returns-clause-stands
returns-clause-stands c =
    rw (c.push_reserved.ensures.items, c.len-place.ensures, c.args.used.now.ok.0) (begun c.args.used.now.items c.args.places.now.items _ c.args.block c.requires.fits c.requires.there c.requires.unused)
