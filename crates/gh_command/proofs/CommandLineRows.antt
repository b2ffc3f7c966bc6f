-- The rows that stand for choices.
use Rattle.std.proofs.Common.{◌≡◌, ◌∙◌, ◌++◌, ◌||◌, Bool, true, false, true≢false, refl, sym, ap, List, [], ◌∷◌, Option, Some, None, arith, find, option_and_then}
use Rattle.std.proofs.lemmas.List.{append-nil}
use Rattle.gh_command.proofs.Vocabulary.{at_row, bytes_eq, Choice, chosen, CommandLine, explicit_source, has_row, is_chosen, option_map_or, option_or, Row, Text, with_values, without}
use Rattle.clap.specs.declared.builder.value_parser.Reading.TheVariants.{AsWritten}
use Rattle.clap.specs.declared.parser.matches.ValueSource.{ValueSource}

abbrev pub row : ValueSource → Text → Text → Row
row source id value = record { id = id; values = value ∷ []; count = None; source = Some source; reading = AsWritten }

abbrev pub rows_made : List Choice → List Row
rows_made [] = []
rows_made (c ∷ made) = row CommandLine c.0 c.1 ∷ rows_made made

pub has_made : (name : Text) (made : List Choice) → has_row name (rows_made made) ≡ is_chosen name made
has_made name [] = refl
has_made name (c ∷ made) = ap (λ (b : Bool). bytes_eq c.0 name || b) (has_made name made)

-- the row of an option
abbrev pub found_row : Text → List Row → Option Row
found_row name rows = find (λ r. bytes_eq r.id name) rows

-- what a getter reads of it: the value that was chosen, and of another row where none was
pub read_made : (read : Row → Option Text) → ((s : ValueSource) (id v : Text) → read (row s id v) ≡ Some v) → (name : Text) (made : List Choice) (other : Option Row)
    → option_and_then read (option_or (found_row name (rows_made made)) other) ≡ option_or (chosen name made) (option_and_then read other)
read_made read reads name [] other = refl
read_made read reads name (c ∷ made) other = go (bytes_eq c.0 name) refl (read_made read reads name made other)
  where
    go : (b : Bool) → bytes_eq c.0 name ≡ b
        → option_and_then read (option_or (found_row name (rows_made made)) other) ≡ option_or (chosen name made) (option_and_then read other)
        → option_and_then read (option_or (found_row name (rows_made (c ∷ made))) other) ≡ option_or (chosen name (c ∷ made)) (option_and_then read other)
    go true b ih = rw b (reads CommandLine c.0 c.1)
    go false b ih = rw b ih

-- an option was used where it was chosen
pub given_made : (name : Text) (made : List Choice) (other : Option Row) → option_map_or (λ r. explicit_source r.source) other false ≡ false
    → option_map_or (λ r. explicit_source r.source) (option_or (found_row name (rows_made made)) other) false ≡ is_chosen name made
given_made name [] other unused = unused
given_made name (c ∷ made) other unused = go (bytes_eq c.0 name) refl (given_made name made other unused)
  where
    go : (b : Bool) → bytes_eq c.0 name ≡ b
        → option_map_or (λ (r : Row). explicit_source r.source) (option_or (found_row name (rows_made made)) other) false ≡ is_chosen name made
        → option_map_or (λ (r : Row). explicit_source r.source) (option_or (found_row name (rows_made (c ∷ made))) other) false ≡ is_chosen name (c ∷ made)
    go true b ih = rw b refl
    go false b ih = rw b ih

pub made_more : (made : List Choice) (c : Choice) → rows_made (made ++ c ∷ []) ≡ rows_made made ++ row CommandLine c.0 c.1 ∷ []
made_more [] c = refl
made_more (d ∷ made) c = ap (λ (rows : List Row). row CommandLine d.0 d.1 ∷ rows) (made_more made c)

-- ---- a row at the end

pub at_missing : (id : Text) (change : Row → List Row) (missing rows : List Row) → has_row id rows ≡ false → at_row id change missing rows ≡ rows ++ missing
at_missing id change missing [] none = refl
at_missing id change missing (r ∷ rs) none = go (bytes_eq r.id id) refl (at_missing id change missing rs)
  where
    go : (b : Bool) → bytes_eq r.id id ≡ b → (has_row id rs ≡ false → at_row id change missing rs ≡ rs ++ missing) → at_row id change missing (r ∷ rs) ≡ r ∷ rs ++ missing
    go true b ih = absurd (true≢false (sym (ap (λ (c : Bool). c || has_row id rs) b) ∙ none))
    go false b ih = rw b (ap (λ (more : List Row). r ∷ more) (ih (sym (ap (λ (c : Bool). c || has_row id rs) b) ∙ none)))

pub given_row : (id value : Text) (source : ValueSource) (rows : List Row) → has_row id rows ≡ false → with_values id AsWritten source (value ∷ []) rows ≡ rows ++ row source id value ∷ []
given_row id value source rows none = grind (arith, at_missing)

pub used_row : (id value : Text) (rows : List Row) → has_row id rows ≡ false → with_values id AsWritten CommandLine (value ∷ []) (without id rows) ≡ rows ++ row CommandLine id value ∷ []
used_row id value rows none =
    ap (with_values id AsWritten CommandLine (value ∷ [])) (at_missing id (λ _. []) [] rows none ∙ append-nil rows) ∙ given_row id value CommandLine rows none
