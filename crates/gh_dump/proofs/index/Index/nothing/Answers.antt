use Rattle.std.proofs.Common.{refl}
use Rattle.gh_dump.specs.Kept.{first_of, is_open}
use Rattle.gh_dump.specs.Listing.{field_of}
use Rattle.gh_dump.proofs.index.Index.nothing.Goals as goal

pub returns-clause-lists : goal.returns-clause-lists
unfolding first_of is_open field_of
returns-clause-lists c = record {
  firsts = λ o. rw c.new.ensures.empty refl;
  fields = λ p i. rw c.new-2.ensures.empty refl;
  globals = λ k o. rw c.new-3.ensures.empty refl;
  owner = λ o. refl;
  lines = refl;
  objects = refl;
  bytes = refl;
}
