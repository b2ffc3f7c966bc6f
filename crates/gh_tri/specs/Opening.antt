-- The picture as at a cycle's begin, from lists of what stands in the fields and in the registers.
use Rattle.std.specs.Prelude.{ℕ, ◌+◌, true, false, nat_lt, ◌&&◌, if◌then◌else◌, IsTrue, List, [], ◌∷◌, Option, Some, None}
use Rattle.std.specs.List.{list_all}
use Rattle.gh_tri.specs.declared.Colour.TheVariants.{White, Grey}
use Rattle.gh_tri.specs.Tricolour.{Tricolour, put1, put2}

-- each triple names a row and a column of a table of this size
abbrev pub AreCells : ℕ → ℕ → List (ℕ × ℕ × ℕ) → Type 0
AreCells rows columns entries = IsTrue (list_all (λ e. nat_lt e.0 rows && nat_lt e.1 columns) entries)

-- each triple ends in an object below n
abbrev pub AreObjects : ℕ → List (ℕ × ℕ × ℕ) → Type 0
AreObjects n entries = IsTrue (list_all (λ e. nat_lt e.2 n) entries)

-- a table once each triple's object is put into its row and column, in order
abbrev pub put_in_table : (ℕ → ℕ → Option ℕ) → List (ℕ × ℕ × ℕ) → ℕ → ℕ → Option ℕ
put_in_table table [] = table
put_in_table table (e ∷ es) = put_in_table (put2 table e.0 e.1 (Some e.2)) es

-- Object 0 is grey and all others are white; all stacks are grey; no store is under way. A field is not scanned, but for
-- what is outside of the objects that are made now.
abbrev pub opened_picture : ℕ → ℕ → ℕ → ℕ → List (ℕ × ℕ × ℕ) → List (ℕ × ℕ × ℕ) → Tricolour
opened_picture objects room fields stacks edges held =
    record {
      objects = objects;
      limit = objects + room;
      fields = fields;
      stacks = stacks;
      colour = put1 (λ o. White) 0 Grey;
      value = put_in_table (λ o f. None) edges;
      scanned = λ o f. if nat_lt o objects && nat_lt f fields then false else true;
      register = put_in_table (λ s r. None) held;
      seen = λ s r. false;
      read = λ s o f. None;
    }
