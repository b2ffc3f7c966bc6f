-- The code's items of a shape.
use Rattle.std.specs.Prelude.{◌≡◌, ℕ, ◌≤◌, false, List, ◌∷◌, Option, Some, None}
use Rattle.gh_script.specs.Vocabulary.{MOST_TYPE_WORDS}
use Rattle.gh_script.specs.declared.shape_text.Item as code
use Rattle.gh_script.specs.ShapeText.{Item, fits_behind}

abbrev pub item_seen : code.Item → Item
item_seen item = record { pointer = item.pointer; tail = item.tail.now }

-- an item before others, where there is one
abbrev pub with_item : Option code.Item → List Item → List Item
with_item None others = others
with_item (Some item) others = item_seen item ∷ others

-- with so many fields before them, items fit exactly where the others do with so many before them; None: they don't
abbrev pub PassesLimits : ℕ → Option ℕ → List Item → List Item → Type 0
PassesLimits before None items others = fits_behind before items ≡ false
PassesLimits before (Some more) items others = (more ≤ MOST_TYPE_WORDS) × (fits_behind before items ≡ fits_behind more others)
