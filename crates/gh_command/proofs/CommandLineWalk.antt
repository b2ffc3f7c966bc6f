-- What the parser makes of the words behind a subcommand.
use Rattle.std.proofs.Common.{◌≡◌, ◌∙◌, ◌&&◌, ℕ, Bool, true, false, not, refl, sym, ap, subst, List, [], ◌∷◌, Option, Some, None, if◌then◌else◌, option_and_then, option_map, slice_get}
use Rattle.gh_command.proofs.Vocabulary.{arg_by_id, arg_by_long, bundle_met, bytes_eq, bytes_eq-Decides, chars, finished, flags_fault, fold, Held, idle, is_none, Kinds, level_fault, Line, LineOption, long_of, no_error_comes, nothing_held, option, option_named, or_else, positional, reacted, Row, rows_after, settle_fault, settled, short_of, subcommand_met, Text, turn_fault, use_fault, used, Waiting, Walk, walk_fault, walked}
use Rattle.gh_command.proofs.CommandLineEnd.{Sub, end_fails, end_fault, leaf, line_from, passes_alone, passes_both}
use Rattle.gh_command.proofs.CommandLineRules.{built_option, by_id, by_index, by_long, by_short, one_value, rules, same_text, takes_values_is, use_fails}

-- `--`
abbrev pub dashes : Text
dashes = 45 ∷ 45 ∷ []

abbrev pub held : List Row → Option (Text × List Text) → Held
held rows pending = record { rows = rows; pending = pending; skip = 0 }

abbrev pub at : Waiting → Held → Walk
at waiting h = record { held = h; waiting = waiting; position = 1; is_trailing = false; stopped = None }

abbrev pub trailed : Waiting → Held → Walk
trailed waiting h = record { held = h; waiting = waiting; position = 1; is_trailing = true; stopped = None }

-- the line that the parser gives for the words
abbrev pub parsed : Sub → List Text → Option Line
parsed s words =
    if no_error_comes (level_fault (leaf s) [] nothing_held words false []) then s.found (rows_after (rules s.options) [] words) else None

pub from_start : (s : Sub) (words : List Text) → parsed s words ≡ line_from s (at idle (held [] None)) words
from_start s words = refl

-- ---- the names of options

-- an option of the subcommand, which takes a value, or which is a flag
pub record Valued (s : Sub) (o : LineOption) : Type 0 where
  pub named : option_named s.options o.name ≡ Some o
  pub valued : is_none o.value ≡ false

pub record Flag (s : Sub) (o : LineOption) : Type 0 where
  pub named : option_named s.options o.name ≡ Some o
  pub none : is_none o.value ≡ true

-- which option a name is
pub data Which (s : Sub) : Text → Type 0 where
  known : (o : LineOption) → Valued s o → Which s o.name
  flag : (o : LineOption) → Flag s o → Which s o.name
  unknown : {n : Text} → option_named s.options n ≡ None → Which s n

named_so : (options : List LineOption) (n : Text) (o : LineOption) → option_named options n ≡ Some o → o.name ≡ n
named_so [] n o e = absurd cc
named_so (p ∷ options) n o e = go (bytes_eq p.name n) refl e (named_so options n o)
  where
    go : (b : Bool) → bytes_eq p.name n ≡ b → (if bytes_eq p.name n then Some p else option_named options n) ≡ Some o → (option_named options n ≡ Some o → o.name ≡ n) → o.name ≡ n
    go true b e ih =
        let same : Some p ≡ Some o = sym (ap (λ (c : Bool). if c then Some p else option_named options n) b) ∙ e in
        let is : p ≡ o = cc in
        sym (ap (λ (x : LineOption). x.name) is) ∙ (bytes_eq-Decides p.name n).0 b
    go false b e ih = ih (sym (ap (λ (c : Bool). if c then Some p else option_named options n) b) ∙ e)

pub which : (s : Sub) (n : Text) → Which s n
which s n = go (option_named s.options n) refl
  where
    go : (found : Option LineOption) → option_named s.options n ≡ found → Which s n
    go None e = unknown e
    go (Some o) e = by (is_none o.value) refl
      where
        is : o.name ≡ n
        is = named_so s.options n o e

        here : option_named s.options o.name ≡ Some o
        here = ap (option_named s.options) is ∙ e

        by : (b : Bool) → is_none o.value ≡ b → Which s n
        by true b = subst (Which s) is (flag o (record { named = here; none = b }))
        by false b = subst (Which s) is (known o (record { named = here; valued = b }))

-- the parser's own rule of it
rule_by_long : (s : Sub) (n : Text) (o : LineOption) → option_named s.options n ≡ Some o → arg_by_long (rules s.options) n ≡ Some (built_option o)
rule_by_long s n o e = by_long s.options n ∙ ap (option_map built_option) e

no_rule : (s : Sub) (n : Text) → option_named s.options n ≡ None → arg_by_long (rules s.options) n ≡ None
no_rule s n e = by_long s.options n ∙ ap (option_map built_option) e

rule_by_id : (s : Sub) (o : LineOption) → option_named s.options o.name ≡ Some o → arg_by_id (rules s.options) o.name ≡ Some (built_option o)
rule_by_id s o e = by_id s.options o.name ∙ ap (option_map built_option) e

-- ---- one word

step : (s : Sub) (w : Walk) (word : Text) (rest : List Text)
    → line_from s w (word ∷ rest) ≡ (if no_error_comes (turn_fault (leaf s) [] w word) then line_from s (walked (rules s.options) [] w word) rest else None)
unfolding walk_fault
step s w word rest = go (turn_fault (leaf s) [] w word)
  where
    after : Walk
    after = walked (rules s.options) [] w word

    go : (t : Kinds) → (if no_error_comes (or_else (or_else t (walk_fault (leaf s) [] after rest)) (end_fault s (fold (walked (rules s.options) []) after rest).held))
        then s.found (finished (rules s.options) (fold (walked (rules s.options) []) after rest).held) else None)
        ≡ (if no_error_comes t then line_from s after rest else None)
    go [] = refl
    go (k ∷ ks) = refl

no_subcommand : (waiting : Waiting) (word : Text) → subcommand_met [] waiting word ≡ None
no_subcommand idle word = refl
no_subcommand (option id) word = refl
no_subcommand positional word = refl

pub after_end : (s : Sub) (waiting : Waiting) (h : Held) (word : Text) (rest : List Text) → line_from s (trailed waiting h) (word ∷ rest) ≡ None
unfolding walked
after_end s waiting h word rest = step s (trailed waiting h) word rest ∙ rw (by_index s.options 1) refl

pub at_end : (s : Sub) (waiting : Waiting) (h : Held) (word : Text) (rest : List Text) → bytes_eq word dashes ≡ true
    → line_from s (at waiting h) (word ∷ rest) ≡ line_from s (trailed waiting h) rest
unfolding walked
at_end s waiting h word rest e = step s (at waiting h) word rest ∙ rw (no_subcommand waiting word, e) refl

pub at_other : (s : Sub) (waiting : Waiting) (h : Held) (word : Text) (rest : List Text) (p : Text × Option Text) → bytes_eq word dashes ≡ false
    → long_of word ≡ Some p → option_named s.options p.0 ≡ None → line_from s (at waiting h) (word ∷ rest) ≡ None
unfolding walked
at_other s waiting h word rest p e l u = step s (at waiting h) word rest ∙ rw (no_subcommand waiting word, e, l, no_rule s p.0 u) refl

-- a flag
abbrev pub flag_line : Sub → LineOption → Held → List Text → Option Line
flag_line s o h rest =
    if no_error_comes (settle_fault (rules s.options) false h) && no_error_comes (use_fault false (built_option o) [] (settled (rules s.options) h).rows)
    then line_from s (at idle (reacted (rules s.options) (built_option o) [] h)) rest else None

pub at_flag : (s : Sub) (o : LineOption) → Flag s o → (waiting : Waiting) (h : Held) (word : Text) (rest : List Text) → bytes_eq word dashes ≡ false
    → long_of word ≡ Some (o.name, None) → line_from s (at waiting h) (word ∷ rest) ≡ flag_line s o h rest
unfolding walked
at_flag s o is waiting h word rest e l =
    let takes_none = takes_values_is o ∙ ap not is.none in
    step s (at waiting h) word rest ∙ rw (no_subcommand waiting word, e, l, rule_by_long s o.name o is.named, takes_none)
    (ap (λ (b : Bool). if b then line_from s (at idle (reacted (rules s.options) (built_option o) [] h)) rest else None) (passes_alone _ ∙ passes_both _ _))

-- it takes no value
pub at_flag_given : (s : Sub) (o : LineOption) → Flag s o → (waiting : Waiting) (h : Held) (word : Text) (rest : List Text) (v : Text) → bytes_eq word dashes ≡ false
    → long_of word ≡ Some (o.name, Some v) → line_from s (at waiting h) (word ∷ rest) ≡ None
unfolding walked
at_flag_given s o is waiting h word rest v e l =
    let takes_none = takes_values_is o ∙ ap not is.none in
    step s (at waiting h) word rest ∙ rw (no_subcommand waiting word, e, l, rule_by_long s o.name o is.named, takes_none) refl

-- `--name=value`
abbrev pub given_line : Sub → LineOption → Held → Text → List Text → Option Line
given_line s o h v rest =
    if no_error_comes (settle_fault (rules s.options) false h) && no_error_comes (use_fault false (built_option o) (v ∷ []) (settled (rules s.options) h).rows)
    then line_from s (at idle (reacted (rules s.options) (built_option o) (v ∷ []) h)) rest else None

pub at_given : (s : Sub) (o : LineOption) → Valued s o → (waiting : Waiting) (h : Held) (word : Text) (rest : List Text) (v : Text) → bytes_eq word dashes ≡ false
    → long_of word ≡ Some (o.name, Some v) → line_from s (at waiting h) (word ∷ rest) ≡ given_line s o h v rest
unfolding walked
at_given s o is waiting h word rest v e l =
    let takes_one = takes_values_is o ∙ ap not is.valued in
    step s (at waiting h) word rest ∙ rw (no_subcommand waiting word, e, l, rule_by_long s o.name o is.named, takes_one)
    (ap (λ (b : Bool). if b then line_from s (at idle (reacted (rules s.options) (built_option o) (v ∷ []) h)) rest else None) (passes_alone _ ∙ passes_both _ _))

-- `--name`
abbrev pub alone_line : Sub → LineOption → Held → List Text → Option Line
alone_line s o h rest =
    if no_error_comes (settle_fault (rules s.options) false h)
    then line_from s (at (option o.name) (record (settled (rules s.options) h) { pending = Some (o.name, []) })) rest else None

pub at_alone : (s : Sub) (o : LineOption) → Valued s o → (waiting : Waiting) (h : Held) (word : Text) (rest : List Text) → bytes_eq word dashes ≡ false
    → long_of word ≡ Some (o.name, None) → line_from s (at waiting h) (word ∷ rest) ≡ alone_line s o h rest
unfolding walked
at_alone s o is waiting h word rest e l =
    let takes_one = takes_values_is o ∙ ap not is.valued in
    step s (at waiting h) word rest ∙ rw (no_subcommand waiting word, e, l, rule_by_long s o.name o is.named, takes_one)
    (ap (λ (b : Bool). if b then line_from s (at (option o.name) (record (settled (rules s.options) h) { pending = Some (o.name, []) })) rest else None) (passes_alone _))

-- a word that is no long option is none of the words of a subcommand with no positional
pub at_plain : (s : Sub) (h : Held) (word : Text) (rest : List Text) → h.skip ≡ 0 → bytes_eq word dashes ≡ false
    → long_of word ≡ None → line_from s (at idle h) (word ∷ rest) ≡ None
unfolding walked flags_fault bundle_met
at_plain s h word rest k e l = step s (at idle h) word rest ∙ go (short_of word) refl
  where
    go : (t : Option Text) → short_of word ≡ t
        → (if no_error_comes (turn_fault (leaf s) [] (at idle h) word) then line_from s (walked (rules s.options) [] (at idle h) word) rest else None) ≡ None
    go None t = rw (e, l, t, by_index s.options 1) refl
    go (Some []) t = rw (e, l, t, by_index s.options 1) refl
    go (Some (x ∷ xs)) t = by (slice_get (chars (x ∷ xs)) 0) refl
      where
        by : (c : Option ℕ) → slice_get (chars (x ∷ xs)) 0 ≡ c
            → (if no_error_comes (turn_fault (leaf s) [] (at idle h) word) then line_from s (walked (rules s.options) [] (at idle h) word) rest else None) ≡ None
        by None c = rw (e, l, t, k, c, by_index s.options 1) refl
        by (Some y) c = rw (e, l, t, k, c, by_short s.options y) refl

-- the place between `--name` and its value
abbrev pub wanting : LineOption → List Row → Walk
wanting o rows = at (option o.name) (held rows (Some (o.name, [])))

abbrev pub with_value : LineOption → List Row → Text → Held
with_value o rows value = held rows (Some (o.name, value ∷ []))

abbrev pub letter_of : Text → Option ℕ
letter_of word = option_and_then (λ letters. slice_get (chars letters) 0) (short_of word)

-- the word is the value that is wanted
pub at_value : (s : Sub) (o : LineOption) → Valued s o → (rows : List Row) (word : Text) (rest : List Text) → bytes_eq word dashes ≡ false → long_of word ≡ None → letter_of word ≡ None
    → line_from s (wanting o rows) (word ∷ rest) ≡ line_from s (at idle (with_value o rows word)) rest
unfolding walked flags_fault bundle_met
at_value s o is rows word rest e l n = step s (wanting o rows) word rest ∙ go (short_of word) refl
  where
    rule : arg_by_id (rules s.options) o.name ≡ Some (built_option o)
    rule = rule_by_id s o is.named

    no_letter : (t : Text) → short_of word ≡ Some t → slice_get (chars t) 0 ≡ None
    no_letter t is = sym (ap (option_and_then (λ (letters : Text). slice_get (chars letters) 0)) is) ∙ n

    go : (t : Option Text) → short_of word ≡ t
        → (if no_error_comes (turn_fault (leaf s) [] (wanting o rows) word) then line_from s (walked (rules s.options) [] (wanting o rows) word) rest else None)
        ≡ line_from s (at idle (with_value o rows word)) rest
    go None t = rw (e, l, t, rule, same_text o.name, one_value o is.valued) refl
    go (Some []) t = rw (e, l, t, rule, same_text o.name, one_value o is.valued) refl
    go (Some (x ∷ xs)) t = rw (e, l, t, no_letter (x ∷ xs) t, rule, same_text o.name, one_value o is.valued) refl

-- a hyphen with a letter behind it is no value
pub at_letter : (s : Sub) (o : LineOption) (rows : List Row) (word : Text) (rest : List Text) (y : ℕ) → bytes_eq word dashes ≡ false → long_of word ≡ None → letter_of word ≡ Some y
    → line_from s (wanting o rows) (word ∷ rest) ≡ None
unfolding walked flags_fault bundle_met chars
at_letter s o rows word rest y e l n = go (short_of word) refl
  where
    letter : (t : Option Text) → short_of word ≡ t → option_and_then (λ (letters : Text). slice_get (chars letters) 0) t ≡ Some y
    letter t is = sym (ap (option_and_then (λ (letters : Text). slice_get (chars letters) 0)) is) ∙ n

    go : (t : Option Text) → short_of word ≡ t → line_from s (wanting o rows) (word ∷ rest) ≡ None
    go None t = absurd (let bad : None ≡ Some y = letter None t in cc)
    go (Some []) t = absurd (let bad : None ≡ Some y = letter (Some []) t in cc)
    go (Some (x ∷ xs)) t = step s (wanting o rows) word rest ∙ rw (e, l, t, letter (Some (x ∷ xs)) t, by_short s.options y) refl

-- ---- what is pending

pub settle_is : (s : Sub) (o : LineOption) → Valued s o → (rows : List Row) (values : List Text)
    → settle_fault (rules s.options) false (held rows (Some (o.name, values))) ≡ use_fault false (built_option o) values rows
settle_is s o is rows values = rw (rule_by_id s o is.named) refl

pub settled_is : (s : Sub) (o : LineOption) → Valued s o → (rows : List Row) (values : List Text)
    → (settled (rules s.options) (held rows (Some (o.name, values)))).rows ≡ used (built_option o) values rows
settled_is s o is rows values = rw (rule_by_id s o is.named) refl

pub wanting_fails : (s : Sub) (o : LineOption) → Valued s o → (rows : List Row) → no_error_comes (settle_fault (rules s.options) false (held rows (Some (o.name, [])))) ≡ false
wanting_fails s o is rows = ap no_error_comes (settle_is s o is rows []) ∙ use_fails o rows is.valued

pub trailed_fails : (s : Sub) (waiting : Waiting) (h : Held) (words : List Text) → no_error_comes (settle_fault (rules s.options) false h) ≡ false → line_from s (trailed waiting h) words ≡ None
trailed_fails s waiting h [] bad = end_fails s (trailed waiting h) bad
trailed_fails s waiting h (word ∷ rest) bad = after_end s waiting h word rest

-- what is pending fails at a long option, whatever follows
pub long_fails : (s : Sub) (n : Text) (v : Option Text) (waiting : Waiting) (h : Held) (word : Text) (rest : List Text) → Which s n → bytes_eq word dashes ≡ false → long_of word ≡ Some (n, v)
    → no_error_comes (settle_fault (rules s.options) false h) ≡ false → line_from s (at waiting h) (word ∷ rest) ≡ None
long_fails s n v waiting h word rest (unknown u) e l bad = at_other s waiting h word rest (n, v) e l u
long_fails s _ None waiting h word rest (flag o is) e l bad = at_flag s o is waiting h word rest e l ∙ rw bad refl
long_fails s _ (Some v) waiting h word rest (flag o is) e l bad = at_flag_given s o is waiting h word rest v e l
long_fails s _ None waiting h word rest (known o is) e l bad = at_alone s o is waiting h word rest e l ∙ rw bad refl
long_fails s _ (Some v) waiting h word rest (known o is) e l bad = at_given s o is waiting h word rest v e l ∙ rw bad refl

pub doomed : (s : Sub) (h : Held) (words : List Text) → h.skip ≡ 0 → no_error_comes (settle_fault (rules s.options) false h) ≡ false → line_from s (at idle h) words ≡ None
doomed s h [] k bad = end_fails s (at idle h) bad
doomed s h (word ∷ rest) k bad = go (bytes_eq word dashes) refl (long_of word) refl
  where
    go : (e : Bool) → bytes_eq word dashes ≡ e → (l : Option (Text × Option Text)) → long_of word ≡ l → line_from s (at idle h) (word ∷ rest) ≡ None
    go true e p l = at_end s idle h word rest e ∙ trailed_fails s idle h rest bad
    go false e None l = at_plain s h word rest k e l
    go false e (Some (n, v)) l = long_fails s n v idle h word rest (which s n) e l bad
