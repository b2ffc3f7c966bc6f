-- What stands in a `Kept`.
use Rattle.std.specs.Prelude.{◌+◌, ◌≤◌, sum, vec_len, vec_capacity}
use Rattle.gh_ever.specs.Vocabulary.{spare}
use Rattle.gh_ever.specs.Found.{FindsCells, FindsKinds}
use Rattle.gh_ever.specs.Lists.{Lists}
use Rattle.gh_ever.specs.Sound.{Sound}
use Rattle.gh_ever.specs.declared.kept.Kept.TheInside.{Inside}

abbrev pub lists_of : Inside → Lists
lists_of a = record {
  shapes = a.shapes;
  left = a.left.items;
  made = a.made.items;
  ended = a.ended.items;
  objects = a.objects.items;
  cells = a.cells.items;
}

-- the maps find what stands in the lists, and each statement to come has room for an object and a cell in all of them
pub record IsSound (a : Inside) : Type 0 where
  pub sound : Sound (lists_of a)
  pub objects : vec_len a.objects + sum a.left.items ≤ vec_capacity a.objects
  pub cells : vec_len a.cells + sum a.left.items ≤ vec_capacity a.cells
  pub kinds : FindsKinds a.kinds a.objects.items
  pub places : FindsCells a.places a.cells.items
  pub more_kinds : sum a.left.items ≤ spare a.kinds
  pub more_places : sum a.left.items ≤ spare a.places
