-- The rules of a subcommand's options as the parser builds them, and what it looks for among them.
use Rattle.std.proofs.Common.{◌≡◌, ◌∙◌, ◌&&◌, ◌++◌, ℕ, Bool, true, false, not, refl, sym, ap, List, [], ◌∷◌, map, None, arith, option_map}
use Rattle.gh_command.proofs.Vocabulary.{AnyText, arg_by_id, arg_by_index, arg_by_long, arg_by_short, bytes_eq, bytes_eq-Decides, CommandLine, filled, find-map, flag_value, has_row, is_none, is_taken_by, LineOption, most_values, no_error_comes, NoValue, Number, option_named, option_rule, Row, Rule, takes_values, Text, use_fault, used, Value, with_index}
use Rattle.gh_command.proofs.CommandLineRows.{row, used_row}

-- the rule of an option, as built
abbrev pub built_option : LineOption → Rule
built_option o = with_index 1 (filled (option_rule o))

abbrev pub rules : List LineOption → List Rule
rules options = map built_option options

-- ---- what is looked for

pub by_long : (options : List LineOption) (name : Text) → arg_by_long (rules options) name ≡ option_map built_option (option_named options name)
by_long [] name = refl
by_long (o ∷ options) name = go (bytes_eq o.name name) refl (by_long options name)
  where
    go : (b : Bool) → bytes_eq o.name name ≡ b → arg_by_long (rules options) name ≡ option_map built_option (option_named options name)
        → arg_by_long (rules (o ∷ options)) name ≡ option_map built_option (option_named (o ∷ options) name)
    go true e ih = rw e refl
    go false e ih = rw e ih

pub by_id : (options : List LineOption) (name : Text) → arg_by_id (rules options) name ≡ option_map built_option (option_named options name)
by_id options name = sym (find-map (λ a. bytes_eq a.id name) built_option options)

-- there are no short names and no positionals
pub by_short : (options : List LineOption) (c : ℕ) → arg_by_short (rules options) c ≡ None
by_short [] c = refl
by_short (o ∷ options) c = by_short options c

pub by_index : (options : List LineOption) (i : ℕ) → arg_by_index (rules options) i ≡ None
by_index [] i = refl
by_index (o ∷ options) i = by_index options i

pub same_text : (t : Text) → bytes_eq t t ≡ true
same_text t = (bytes_eq-Decides t t).1 refl

-- ---- an option

pub takes_values_is : (o : LineOption) → takes_values (built_option o) ≡ not (is_none o.value)
takes_values_is o = grind arith

-- a use of an option with one value
pub use_passes : (o : LineOption) (rows : List Row) (word : Text) → is_none o.value ≡ false
    → no_error_comes (use_fault false (built_option o) (word ∷ []) rows) ≡ (not (has_row o.name rows) && is_taken_by o.value word)
use_passes o rows word valued = grind arith

pub used_is : (o : LineOption) (word : Text) (rows : List Row) → is_none o.value ≡ false → has_row o.name rows ≡ false
    → used (built_option o) (word ∷ []) rows ≡ rows ++ row CommandLine o.name word ∷ []
used_is o word rows valued none = go o.value refl
  where
    go : (v : Value) → o.value ≡ v → used (built_option o) (word ∷ []) rows ≡ rows ++ row CommandLine o.name word ∷ []
    go (Number least most) e = rw e (used_row o.name word rows none)
    go AnyText e = rw e (used_row o.name word rows none)
    go NoValue e = let no : true ≡ false = sym (ap is_none e) ∙ valued in absurd cc

-- and with none
pub use_fails : (o : LineOption) (rows : List Row) → is_none o.value ≡ false → no_error_comes (use_fault false (built_option o) [] rows) ≡ false
use_fails o rows valued = grind arith

pub one_value : (o : LineOption) → is_none o.value ≡ false → most_values (built_option o) ≡ 1
one_value o valued = grind arith

-- ---- a flag

pub is_no_value : (v : Value) → is_none v ≡ true → v ≡ NoValue
is_no_value v e = grind arith

pub flag_passes : (o : LineOption) (rows : List Row) → is_none o.value ≡ true → no_error_comes (use_fault false (built_option o) [] rows) ≡ not (has_row o.name rows)
flag_passes o rows is = grind arith

pub flag_used : (o : LineOption) (rows : List Row) → is_none o.value ≡ true → has_row o.name rows ≡ false → used (built_option o) [] rows ≡ rows ++ row CommandLine o.name flag_value ∷ []
flag_used o rows is none = let v : o.value ≡ NoValue = is_no_value o.value is in rw v (used_row o.name flag_value rows none)
