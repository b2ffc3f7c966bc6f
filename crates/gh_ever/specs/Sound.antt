-- What the lists keep to.
use Rattle.std.specs.Prelude.{◌≡◌, ℕ, ◌+◌, ◌<◌, ◌≤◌, ◌^◌, List, length, slice_index, Some}
use Rattle.gh_ever.specs.Vocabulary.{EverValue, Name, Place, Shape, shape_at}
use Rattle.gh_class.specs.declared.class.TheConstants.{MOST_TYPE_WORDS}
use Rattle.gh_ever.specs.Cells.{IsDistinct, stored_value}
use Rattle.gh_ever.specs.Objects.{kind_of, IsKnown, IsInKnown}
use Rattle.gh_ever.specs.Lists.{Lists}

-- each type has 1 to MOST_TYPE_WORDS words
abbrev pub AreSized : List Shape → Type 0
AreSized shapes = (t : ℕ) → t < length shapes → (1 ≤ (shape_at shapes t).words) × ((shape_at shapes t).words ≤ MOST_TYPE_WORDS)

pub record Sound (lists : Lists) : Type 0 where
  pub sized : AreSized lists.shapes
  pub counted : length lists.made ≡ length lists.left
  pub told : length lists.ended ≡ length lists.left
  pub fits : (g : ℕ) → slice_index lists.made g + slice_index lists.left g < 2 ^ 32
  pub numbered : (n : Name) (kind : ℕ) → kind_of lists.objects n ≡ Some kind → n.k < slice_index lists.made n.g
  pub typed : (n : Name) (kind : ℕ) → kind_of lists.objects n ≡ Some kind → kind < length lists.shapes
  pub values : (place : Place) (value : EverValue) → stored_value lists.cells place ≡ Some value → IsKnown lists.objects value
  pub places : (place : Place) (value : EverValue) → stored_value lists.cells place ≡ Some value → IsInKnown lists.objects place
  pub distinct : IsDistinct lists.cells
