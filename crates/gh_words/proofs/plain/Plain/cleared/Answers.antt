use Rattle.std.proofs.Common.{replicate, sym}
use Rattle.std.proofs.lemmas.List.{length-replicate}
use Rattle.gh_base.specs.Reading.{read_replicate}
use Rattle.gh_words.proofs.Spread.{shows}
use Rattle.gh_words.proofs.plain.Plain.cleared.Goals as goal

pub returns : goal.returns
returns c = shows c.in_ok-used.used.items c.in_ok-places.places.items c.args.length (replicate c.args.length 0) (length-replicate c.args.length 0) (λ i lt. rw c.in_ok-used.ensures.items (sym (read_replicate c.args.length i 0)))
