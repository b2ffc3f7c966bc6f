-- The lists that stand for a heap that never frees.
use Rattle.std.specs.Prelude.{ℕ, Bool, false, List, [], length, map, replicate, unwrap_or, slice_index, slice_index_or, Option, Some, None}
use Rattle.gh_ever.specs.Vocabulary.{Cell, Ever, EverValue, first_value, is_pointer, Object, Place, Shape, shape_at}
use Rattle.gh_script.specs.Program.{Program}
use Rattle.gh_ever.specs.Cells.{stored_value}
use Rattle.gh_ever.specs.Objects.{kind_of}

pub record Lists : Type 0 where
  pub shapes : List Shape  -- of the script's types
  pub left : List ℕ  -- how many statements of each goroutine have not been applied yet
  pub made : List ℕ  -- how many objects each goroutine has made
  pub ended : List Bool  -- which goroutines have ended
  pub objects : List Object  -- in the order in which they were made
  pub cells : List Cell  -- one for each place where something was stored

-- a field where nothing was stored, by its object's type
abbrev pub unstored : List Shape → Option ℕ → ℕ → EverValue
unstored shapes None k = EverValue.Nil
unstored shapes (Some kind) k = first_value (is_pointer (shape_at shapes kind) k)

-- the heap that the lists stand for
unfoldable pub ever_of : Lists → Ever
ever_of lists = record {
  made = λ g. slice_index lists.made g;
  type_of = λ n. unwrap_or (kind_of lists.objects n) 0;
  field = λ n k. unwrap_or (stored_value lists.cells (Place.Field n k)) (unstored lists.shapes (kind_of lists.objects n) k);
  global = λ k. unwrap_or (stored_value lists.cells (Place.Global k)) EverValue.Nil;
  register = λ g d. unwrap_or (stored_value lists.cells (Place.Register g d)) EverValue.Nil;
  ended = λ g. slice_index_or lists.ended g false;
}

-- how many statements each goroutine has
abbrev pub counts_of : Program → List ℕ
counts_of program = map (λ goroutine. length goroutine.statements) program.goroutines

-- before any statement, with so many of each goroutine to come
abbrev pub opening_lists : List Shape → List ℕ → Lists
opening_lists shapes left = record {
  shapes = shapes;
  left = left;
  made = replicate (length left) 0;
  ended = replicate (length left) false;
  objects = [];
  cells = [];
}
