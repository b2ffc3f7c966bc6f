-- What the parser makes of the choices where the words behind a subcommand have ended.
use Rattle.std.proofs.Common.{◌≡◌, ◌∙◌, ◌&&◌, ◌||◌, ◌++◌, Bool, true, false, not, refl, sym, ap, ap₂, List, [], ◌∷◌, Option, Some, None, codes, is_some, arith, if◌then◌else◌, option_and_then, option_map}
use Rattle.std.proofs.lemmas.List.{append-nil}
use Rattle.std.proofs.lemmas.List.Folds.{find-append}
use Rattle.gh_command.proofs.Vocabulary.{AnyText, both, bytes_eq, bytes_eq-Decides, check_fault, check_kinds, Choice, default_fault, defaults_fault, DefaultValue, ended, explicit_source, finished, fold, has_required, has_row, Held, is_chosen, Kinds, Line, LineOption, list_all, list_any, no_error_comes, NoValue, Number, option_map_or, option_or, or_else, Row, settle_fault, settled, Shape, subcommand_shape, Text, Value, Walk, walk_fault, walked, with_default}
use Rattle.clap.specs.Takes.{is_given}
use Rattle.gh_command.proofs.CommandLineRows.{found_row, given_made, given_row, row, rows_made}
use Rattle.gh_command.proofs.CommandLineRules.{built_option, rules}

-- both pass where either fails
pub passes_both : (a b : Kinds) → no_error_comes (or_else a b) ≡ (no_error_comes a && no_error_comes b)
passes_both a b = grind arith

pub passes_alone : (a : Kinds) → no_error_comes (or_else a []) ≡ no_error_comes a
passes_alone a = grind arith

both_true : (a b : Bool) → a ≡ true → b ≡ true → (a && b) ≡ true
both_true a b x y = rw (x, y) refl

-- ---- the defaults

-- the value that counts where an option is not chosen
abbrev pub default_by : Value → Option Text → Option Text
default_by v (Some word) = Some word
default_by NoValue None = Some (codes "false")
default_by v None = None

abbrev default_rows_of : LineOption → List Row
default_rows_of o = option_map_or (λ w. row DefaultValue o.name w ∷ []) (default_by o.value o.default) []

default_added : (o : LineOption) (rows : List Row) → has_row o.name rows ≡ false → with_default rows (built_option o) ≡ rows ++ default_rows_of o
default_added o rows none = go o.value refl o.default refl
  where
    go : (v : Value) → o.value ≡ v → (d : Option Text) → o.default ≡ d → with_default rows (built_option o) ≡ rows ++ default_rows_of o
    go (Number least most) v None d = rw (none, v, d) (sym (append-nil rows))
    go AnyText v None d = rw (none, v, d) (sym (append-nil rows))
    go NoValue v None d = rw (none, v, d) (given_row o.name (codes "false") DefaultValue rows none)
    go (Number least most) v (Some w) d = rw (none, v, d) (given_row o.name w DefaultValue rows none)
    go AnyText v (Some w) d = rw (none, v, d) (given_row o.name w DefaultValue rows none)
    go NoValue v (Some w) d = rw (none, v, d) (given_row o.name w DefaultValue rows none)

-- the row of this name that an option adds
abbrev default_row : Text → LineOption → Option Row
default_row name o = if bytes_eq o.name name then option_map (row DefaultValue o.name) (default_by o.value o.default) else None

abbrev pub default_named : Text → List LineOption → Option Row
default_named name [] = None
default_named name (o ∷ options) = option_or (default_row name o) (default_named name options)

default_found : (name : Text) (o : LineOption) → found_row name (default_rows_of o) ≡ default_row name o
default_found name o = grind arith

or_none : {X : Type 0} (o : Option X) → option_or o None ≡ o
or_none o = grind arith

or_some : {X : Type 0} (o p : Option X) → is_some o ≡ true → option_or o p ≡ o
or_some o p e = grind arith

or_assoc : {X : Type 0} (o p q : Option X) → option_or (option_or o p) q ≡ option_or o (option_or p q)
or_assoc o p q = grind arith

row_there : (name : Text) (rows : List Row) → has_row name rows ≡ true → is_some (found_row name rows) ≡ true
row_there name [] e = e
row_there name (r ∷ rows) e = go (bytes_eq r.id name) refl e (row_there name rows)
  where
    go : (b : Bool) → bytes_eq r.id name ≡ b → (bytes_eq r.id name || has_row name rows) ≡ true → (has_row name rows ≡ true → is_some (found_row name rows) ≡ true) → is_some (found_row name (r ∷ rows)) ≡ true
    go true b h ih = rw b refl
    go false b h ih = rw b (ih (sym (ap (λ (c : Bool). c || has_row name rows) b) ∙ h))

-- what is found behind an option's default
found_step : (name : Text) (o : LineOption) (rows : List Row) → found_row name (with_default rows (built_option o)) ≡ option_or (found_row name rows) (default_row name o)
found_step name o rows = go (has_row o.name rows) refl
  where
    kept : has_row o.name rows ≡ true → (b : Bool) → bytes_eq o.name name ≡ b → found_row name rows ≡ option_or (found_row name rows) (default_row name o)
    kept h true b =
        let is : o.name ≡ name = (bytes_eq-Decides o.name name).0 b in
        sym (or_some (found_row name rows) (default_row name o) (row_there name rows (sym (ap (λ (n : Text). has_row n rows) is) ∙ h)))
    kept h false b = rw b (sym (or_none (found_row name rows)))

    go : (h : Bool) → has_row o.name rows ≡ h → found_row name (with_default rows (built_option o)) ≡ option_or (found_row name rows) (default_row name o)
    go true h =
        let same : with_default rows (built_option o) ≡ rows = rw h refl in
        ap (found_row name) same ∙ kept h (bytes_eq o.name name) refl
    go false h =
        ap (found_row name) (default_added o rows h) ∙ find-append (λ r. bytes_eq r.id name) rows (default_rows_of o)
        ∙ ap (option_or (found_row name rows)) (default_found name o)

-- the rows with all defaults
abbrev pub defaulted : List LineOption → List Row → List Row
defaulted options rows = fold with_default rows (rules options)

pub found_defaulted : (name : Text) (options : List LineOption) (rows : List Row) → found_row name (defaulted options rows) ≡ option_or (found_row name rows) (default_named name options)
found_defaulted name [] rows = sym (or_none (found_row name rows))
found_defaulted name (o ∷ options) rows =
    found_defaulted name options (with_default rows (built_option o))
    ∙ ap (λ (found : Option Row). option_or found (default_named name options)) (found_step name o rows)
    ∙ or_assoc (found_row name rows) (default_row name o) (default_named name options)

-- the defaults are values that their options take
abbrev pub fits : LineOption → Bool
fits o = no_error_comes (default_fault [] (built_option o))

default_passes : (o : LineOption) (rows : List Row) → fits o ≡ true → no_error_comes (default_fault rows (built_option o)) ≡ true
default_passes o rows f = grind arith

defaults_pass : (options : List LineOption) (rows : List Row) → list_all fits options ≡ true → no_error_comes (defaults_fault rows (rules options)) ≡ true
unfolding defaults_fault
defaults_pass [] rows all = refl
defaults_pass (o ∷ options) rows all =
    let these = both (fits o) (list_all fits options) all in
    passes_both (default_fault rows (built_option o)) _
    ∙ both_true _ _ (default_passes o rows these.0) (defaults_pass options (with_default rows (built_option o)) these.1)

-- ---- what is required

default_unused : (name : Text) (options : List LineOption) → option_map_or (λ r. explicit_source r.source) (default_named name options) false ≡ false
default_unused name [] = refl
default_unused name (o ∷ options) = go (default_by o.value o.default) refl (bytes_eq o.name name) refl (default_unused name options)
  where
    go : (d : Option Text) → default_by o.value o.default ≡ d → (b : Bool) → bytes_eq o.name name ≡ b
        → option_map_or (λ (r : Row). explicit_source r.source) (default_named name options) false ≡ false
        → option_map_or (λ (r : Row). explicit_source r.source) (default_named name (o ∷ options)) false ≡ false
    go d d2 b b2 ih = grind arith

chosen_given : (options : List LineOption) (made : List Choice) (name : Text) → is_given name (defaulted options (rows_made made)) ≡ is_chosen name made
chosen_given options made name =
    ap (λ (found : Option Row). option_map_or (λ (r : Row). explicit_source r.source) found false) (found_defaulted name options (rows_made made))
    ∙ given_made name made (default_named name options) (default_unused name options)

missing_is : (options : List LineOption) (made : List Choice) (rows : List Row) → ((name : Text) → is_given name rows ≡ is_chosen name made)
    → list_any (λ a. a.required && not (is_given a.id rows)) (rules options) ≡ not (has_required options made)
missing_is [] made rows given = refl
missing_is (o ∷ options) made rows given = go o.is_required (is_given o.name rows) (is_chosen o.name made) (given o.name) (missing_is options made rows given)
  where
    lacks : Bool
    lacks = list_any (λ a. a.required && not (is_given a.id rows)) (rules options)

    go : (r g c : Bool) → g ≡ c → lacks ≡ not (has_required options made) → ((r && not g) || lacks) ≡ not ((not r || c) && has_required options made)
    go r g c e ih = grind arith

-- ---- the end of the words

-- a subcommand with its options, the line that rows of it say, and the one that choices of it ask for
pub record Sub : Type 0 where
  pub name : Text
  pub options : List LineOption
  pub found : List Row → Option Line
  pub of : List Choice → Option Line

-- its defaults fit, and what is found of choices is what they ask for
pub record IsRead (s : Sub) : Type 0 where
  pub fitting : list_all fits s.options ≡ true
  pub same : (made : List Choice) → s.found (defaulted s.options (rows_made made)) ≡ s.of made

-- it as built
abbrev pub leaf : Sub → Shape
leaf s = record (subcommand_shape s.name s.options) {
  rules = rules s.options;
  disable_help_flag = true;
  disable_help_subcommand = true;
  disable_version_flag = true;
  is_built = true;
}

-- what is left to fail once the words have ended
abbrev pub end_fault : Sub → Held → Kinds
end_fault s h =
    or_else (settle_fault (rules s.options) false h)
    (or_else (defaults_fault (settled (rules s.options) h).rows (rules s.options)) (check_fault (leaf s) (finished (rules s.options) h) false))

-- the line that the rest of the words gives, from a place in the walk
abbrev pub line_from : Sub → Walk → List Text → Option Line
line_from s w words =
    let end = (fold (walked (rules s.options) []) w words).held in
    if no_error_comes (or_else (walk_fault (leaf s) [] w words) (end_fault s end)) then s.found (finished (rules s.options) end) else None

abbrev rest_fault : Sub → List Row → Kinds
rest_fault s rows = or_else (defaults_fault rows (rules s.options)) (check_fault (leaf s) (defaulted s.options rows) false)

abbrev line_at : Sub → List Row → Option Line
line_at s rows = if no_error_comes (rest_fault s rows) then s.found (defaulted s.options rows) else None

check_passes : (s : Sub) (made : List Choice) → no_error_comes (check_fault (leaf s) (defaulted s.options (rows_made made)) false) ≡ has_required s.options made
check_passes s made =
    by (list_any (λ a. a.required && not (is_given a.id rows)) (rules s.options))
    ∙ ap not (missing_is s.options made rows (chosen_given s.options made)) ∙ twice (has_required s.options made)
  where
    rows : List Row
    rows = defaulted s.options (rows_made made)

    by : (b : Bool) → no_error_comes (check_kinds false false b) ≡ not b
    by true = refl
    by false = refl

    twice : (b : Bool) → not (not b) ≡ b
    twice true = refl
    twice false = refl

rest_passes : (s : Sub) → IsRead s → (made : List Choice) → no_error_comes (rest_fault s (rows_made made)) ≡ has_required s.options made
rest_passes s is made = grind (arith, check_passes, defaults_pass, passes_both)

line_made : (s : Sub) → IsRead s → (made : List Choice) → line_at s (rows_made made) ≡ option_and_then s.of (ended s.options made None)
line_made s is made =
    ap₂ (λ (b : Bool) (l : Option Line). if b then l else None) (rest_passes s is made) (is.same made) ∙ go (has_required s.options made)
  where
    go : (b : Bool) → (if b then s.of made else None) ≡ option_and_then s.of (if b then Some made else None)
    go true = refl
    go false = refl

end_is : (s : Sub) (w : Walk) → line_from s w [] ≡ (if no_error_comes (end_fault s w.held) then s.found (finished (rules s.options) w.held) else None)
unfolding walk_fault
end_is s w = refl

end_by : (s : Sub) (w : Walk) (b : Bool) (rows : List Row) → no_error_comes (settle_fault (rules s.options) false w.held) ≡ b → (settled (rules s.options) w.held).rows ≡ rows
    → line_from s w [] ≡ (if b then line_at s rows else None)
end_by s w b rows settles is =
    end_is s w ∙ go (settle_fault (rules s.options) false w.held) ∙ ap₂ (λ (c : Bool) (rs : List Row). if c then line_at s rs else None) settles is
  where
    go : (k : Kinds) → (if no_error_comes (or_else k (rest_fault s (settled (rules s.options) w.held).rows)) then s.found (finished (rules s.options) w.held) else None)
        ≡ (if no_error_comes k then line_at s (settled (rules s.options) w.held).rows else None)
    go [] = refl
    go (x ∷ xs) = refl

pub end_fails : (s : Sub) (w : Walk) → no_error_comes (settle_fault (rules s.options) false w.held) ≡ false → line_from s w [] ≡ None
end_fails s w bad = grind arith

-- the words end where these choices were made
pub end_good : (s : Sub) → IsRead s → (w : Walk) (made : List Choice) → no_error_comes (settle_fault (rules s.options) false w.held) ≡ true → (settled (rules s.options) w.held).rows ≡ rows_made made
    → line_from s w [] ≡ option_and_then s.of (ended s.options made None)
end_good s read w made good is = grind (arith, end_by, line_made)
