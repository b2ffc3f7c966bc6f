-- The parser's line of the words behind a subcommand is what their choices ask for.
use Rattle.std.proofs.Common.{◌≡◌, ◌∙◌, ◌&&◌, ◌++◌, ℕ, Bool, true, false, not, refl, sym, ap, ap₂, List, [], ◌∷◌, Option, Some, None, arith, if◌then◌else◌, option_and_then}
use Rattle.gh_command.proofs.Vocabulary.{asked_for, begun, bytes_eq, Choice, choices, CommandLine, flag_value, has_row, Held, idle, is_chosen, is_flag, is_none, is_taken_by, is_value, Line, LineOption, long_of, no_error_comes, option, option_map_or, option_named, option_takes, reacted, Reading, Row, settle_fault, settled, Text, use_fault, used, with_choice}
use Rattle.gh_command.proofs.CommandLineEnd.{IsRead, Sub, end_fails, end_good, line_from}
use Rattle.gh_command.proofs.CommandLineRows.{has_made, made_more, row, rows_made}
use Rattle.gh_command.proofs.CommandLineRules.{built_option, flag_passes, flag_used, rules, use_passes, used_is}
use Rattle.gh_command.proofs.CommandLineWalk.{Flag, Valued, Which, after_end, alone_line, at, at_alone, at_end, at_flag, at_flag_given, at_given, at_letter, at_other, at_plain, at_value, dashes, doomed, flag, flag_line, from_start, given_line, held, known, letter_of, long_fails, parsed, settle_is, settled_is, trailed, trailed_fails, unknown, wanting, wanting_fails, which, with_value}

-- the line that the choices of the words ask for, behind those that are made
abbrev pub asked : Sub → List Choice → Option Text → List Text → Option Line
asked s made waiting words = option_and_then s.of (choices s.options made waiting words)

-- that of a word and the rest, where the word leads to these choices
abbrev pub asked_by : Sub → List Text → Option Reading → Option Line
asked_by s rest = option_and_then (λ reading. asked s reading.0 reading.1 rest)

abbrev more : List Choice → Text → Text → List Choice
more made name value = made ++ (name, value) ∷ []

-- the value is one choice more
abbrev takes_it : Sub → LineOption → List Choice → Text → Bool
takes_it s o made v = not (is_chosen o.name made) && option_takes s.options o.name v

choice_is : (s : Sub) (o : LineOption) → Valued s o → (made : List Choice) (v : Text) (rows : List Row) → rows ≡ rows_made made
    → no_error_comes (use_fault false (built_option o) (v ∷ []) rows) ≡ takes_it s o made v
choice_is s o is made v rows same =
    let took : option_takes s.options o.name v ≡ is_taken_by o.value v = ap (λ (found : Option LineOption). option_map_or (λ (p : LineOption). is_taken_by p.value v) found false) is.named in
    use_passes o rows v is.valued
    ∙ ap₂ (λ (a b : Bool). not a && b) (ap (has_row o.name) same ∙ has_made o.name made) (sym took)

not_chosen : (a b : Bool) → (not a && b) ≡ true → a ≡ false
not_chosen a b e = grind arith

used_more : (s : Sub) (o : LineOption) → Valued s o → (made : List Choice) (v : Text) (rows : List Row) → rows ≡ rows_made made → takes_it s o made v ≡ true
    → used (built_option o) (v ∷ []) rows ≡ rows_made (more made o.name v)
used_more s o is made v rows same e =
    ap (used (built_option o) (v ∷ [])) same
    ∙ used_is o v (rows_made made) is.valued (has_made o.name made ∙ not_chosen (is_chosen o.name made) (option_takes s.options o.name v) e)
    ∙ sym (made_more made (o.name, v))

-- an option that is unknown takes nothing, and no more does a flag
unknown_takes : (s : Sub) (n v : Text) → option_named s.options n ≡ None → option_takes s.options n v ≡ false
unknown_takes s n v u = rw u refl

flag_takes : (s : Sub) (o : LineOption) → Flag s o → (v : Text) → option_takes s.options o.name v ≡ false
flag_takes s o is v = grind arith

chooses_none : (s : Sub) (made : List Choice) (n v : Text) → option_takes s.options n v ≡ false → with_choice s.options made n v ≡ None
chooses_none s made n v t = grind arith

unknown_waits : (s : Sub) (made : List Choice) (n : Text) (words : List Text) → option_named s.options n ≡ None → asked s made (Some n) words ≡ None
unknown_waits s made n [] u = refl
unknown_waits s made n (word ∷ rest) u = go (bytes_eq word dashes) refl (is_value word) refl rest
  where
    go : (e : Bool) → bytes_eq word dashes ≡ e → (v : Bool) → is_value word ≡ v → (rest : List Text) → asked s made (Some n) (word ∷ rest) ≡ None
    go e e2 v is rest = grind arith

is_a_flag : (s : Sub) (o : LineOption) (b : Bool) → option_named s.options o.name ≡ Some o → is_none o.value ≡ b → is_flag s.options o.name ≡ b
is_a_flag s o b named is = grind arith

-- what is held stands for the choices
record Stands (s : Sub) (made : List Choice) (h : Held) : Type 0 where
  good : no_error_comes (settle_fault (rules s.options) false h) ≡ true
  rows : (settled (rules s.options) h).rows ≡ rows_made made
  skip : h.skip ≡ 0

stands_value : (s : Sub) (o : LineOption) → Valued s o → (made : List Choice) (v : Text) → takes_it s o made v ≡ true → Stands s (more made o.name v) (with_value o (rows_made made) v)
stands_value s o is made v e = record {
  good = ap no_error_comes (settle_is s o is (rows_made made) (v ∷ [])) ∙ choice_is s o is made v (rows_made made) refl ∙ e;
  rows = settled_is s o is (rows_made made) (v ∷ []) ∙ used_more s o is made v (rows_made made) refl e;
  skip = refl;
}

fails_value : (s : Sub) (o : LineOption) → Valued s o → (made : List Choice) (v : Text) → takes_it s o made v ≡ false → no_error_comes (settle_fault (rules s.options) false (with_value o (rows_made made) v)) ≡ false
fails_value s o is made v e = ap no_error_comes (settle_is s o is (rows_made made) (v ∷ [])) ∙ choice_is s o is made v (rows_made made) refl ∙ e

-- ---- the two places in the walk

abbrev FromIdle : Sub → List Text → Type 0
FromIdle s words = (made : List Choice) (h : Held) → Stands s made h → line_from s (at idle h) words ≡ asked s made None words

abbrev FromWanting : Sub → List Text → Type 0
FromWanting s words = (made : List Choice) (o : LineOption) → Valued s o → line_from s (wanting o (rows_made made)) words ≡ asked s made (Some o.name) words

-- `--` ends the words
at_dashes : (s : Sub) → IsRead s → (made : List Choice) (h : Held) (word : Text) (rest : List Text) → Stands s made h → bytes_eq word dashes ≡ true
    → line_from s (at idle h) (word ∷ rest) ≡ asked s made None (word ∷ rest)
at_dashes s read made h word rest st e = at_end s idle h word rest e ∙ go rest
  where
    go : (rest : List Text) → line_from s (trailed idle h) rest ≡ asked s made None (word ∷ rest)
    go [] = end_good s read (trailed idle h) made st.good st.rows ∙ rw e refl
    go (x ∷ xs) = after_end s idle h x xs ∙ rw e refl

given_is : (s : Sub) (o : LineOption) → Valued s o → (made : List Choice) (h : Held) (v : Text) (rest : List Text) → Stands s made h → FromIdle s rest
    → given_line s o h v rest ≡ asked_by s rest (begun s.options made (o.name, Some v))
given_is s o is made h v rest st idle_is = go (takes_it s o made v) refl
  where
    uses : no_error_comes (use_fault false (built_option o) (v ∷ []) (settled (rules s.options) h).rows) ≡ takes_it s o made v
    uses = choice_is s o is made v (settled (rules s.options) h).rows st.rows

    go : (b : Bool) → takes_it s o made v ≡ b → given_line s o h v rest ≡ asked_by s rest (begun s.options made (o.name, Some v))
    go true e =
        rw (st.good, uses, e) (idle_is (more made o.name v) (reacted (rules s.options) (built_option o) (v ∷ []) h) (record {
          good = refl;
          rows = used_more s o is made v (settled (rules s.options) h).rows st.rows e;
          skip = st.skip;
        }))
    go false e = rw (st.good, uses, e) refl

flag_is : (s : Sub) (o : LineOption) → Flag s o → (made : List Choice) (h : Held) (rest : List Text) → Stands s made h → FromIdle s rest
    → flag_line s o h rest ≡ asked_by s rest (begun s.options made (o.name, None))
flag_is s o is made h rest st idle_is = go (is_chosen o.name made) refl
  where
    there : has_row o.name (settled (rules s.options) h).rows ≡ is_chosen o.name made
    there = ap (has_row o.name) st.rows ∙ has_made o.name made

    uses : no_error_comes (use_fault false (built_option o) [] (settled (rules s.options) h).rows) ≡ not (is_chosen o.name made)
    uses = flag_passes o (settled (rules s.options) h).rows is.none ∙ ap not there

    go : (b : Bool) → is_chosen o.name made ≡ b → flag_line s o h rest ≡ asked_by s rest (begun s.options made (o.name, None))
    go true e = rw (st.good, uses, is_a_flag s o true is.named is.none, e) refl
    go false e =
        rw (st.good, uses, is_a_flag s o true is.named is.none, e) (idle_is (more made o.name flag_value) (reacted (rules s.options) (built_option o) [] h) (record {
          good = refl;
          rows = flag_used o (settled (rules s.options) h).rows is.none (there ∙ e)
              ∙ ap (λ (rows : List Row). rows ++ row CommandLine o.name flag_value ∷ []) st.rows ∙ sym (made_more made (o.name, flag_value));
          skip = st.skip;
        }))

alone_is : (s : Sub) (o : LineOption) → Valued s o → (made : List Choice) (h : Held) (rest : List Text) → Stands s made h → FromWanting s rest → alone_line s o h rest ≡ asked s made (Some o.name) rest
alone_is s o is made h rest st wanting_is =
    ap (λ (b : Bool). if b then line_from s (at (option o.name) (record (settled (rules s.options) h) { pending = Some (o.name, []) })) rest else None) st.good
    ∙ ap₂ (λ (rows : List Row) (skip : ℕ). line_from s (at (option o.name) (record { rows = rows; pending = Some (o.name, []); skip = skip })) rest) st.rows st.skip
    ∙ wanting_is made o is

asked_next : (s : Sub) (made : List Choice) (word : Text) (rest : List Text) (l : Option (Text × Option Text)) → bytes_eq word dashes ≡ false → long_of word ≡ l
    → asked s made None (word ∷ rest) ≡ asked_by s rest (option_and_then (begun s.options made) l)
asked_next s made word rest l e is = grind arith

long_is : (s : Sub) (made : List Choice) (h : Held) (word : Text) (rest : List Text) (n : Text) (v : Option Text) → Which s n → Stands s made h → FromIdle s rest → FromWanting s rest
    → bytes_eq word dashes ≡ false → long_of word ≡ Some (n, v) → line_from s (at idle h) (word ∷ rest) ≡ asked_by s rest (begun s.options made (n, v))
long_is s made h word rest n None (unknown u) st idle_is wanting_is e l = at_other s idle h word rest (n, None) e l u ∙ rw u (sym (unknown_waits s made n rest u))
long_is s made h word rest n (Some v) (unknown u) st idle_is wanting_is e l = at_other s idle h word rest (n, Some v) e l u ∙ rw (chooses_none s made n v (unknown_takes s n v u)) refl
long_is s made h word rest _ None (flag o is) st idle_is wanting_is e l = at_flag s o is idle h word rest e l ∙ flag_is s o is made h rest st idle_is
long_is s made h word rest _ (Some v) (flag o is) st idle_is wanting_is e l = at_flag_given s o is idle h word rest v e l ∙ rw (chooses_none s made o.name v (flag_takes s o is v)) refl
long_is s made h word rest _ None (known o is) st idle_is wanting_is e l = at_alone s o is idle h word rest e l ∙ rw (is_a_flag s o false is.named is.valued) (alone_is s o is made h rest st wanting_is)
long_is s made h word rest _ (Some v) (known o is) st idle_is wanting_is e l = at_given s o is idle h word rest v e l ∙ given_is s o is made h v rest st idle_is

idle_word : (s : Sub) → IsRead s → (word : Text) (rest : List Text) → FromIdle s rest → FromWanting s rest → FromIdle s (word ∷ rest)
idle_word s read word rest idle_is wanting_is made h st = go (bytes_eq word dashes) refl (long_of word) refl
  where
    go : (e : Bool) → bytes_eq word dashes ≡ e → (l : Option (Text × Option Text)) → long_of word ≡ l → line_from s (at idle h) (word ∷ rest) ≡ asked s made None (word ∷ rest)
    go true e p l = at_dashes s read made h word rest st e
    go false e None l = at_plain s h word rest st.skip e l ∙ sym (asked_next s made word rest None e l)
    go false e (Some (n, v)) l = long_is s made h word rest n v (which s n) st idle_is wanting_is e l ∙ sym (asked_next s made word rest (Some (n, v)) e l)

wanting_word : (s : Sub) (word : Text) (rest : List Text) → FromIdle s rest → FromWanting s (word ∷ rest)
wanting_word s word rest idle_is made o is = go (bytes_eq word dashes) refl (long_of word) refl (letter_of word) refl
  where
    h : Held
    h = held (rows_made made) (Some (o.name, []))

    value : bytes_eq word dashes ≡ false → long_of word ≡ None → letter_of word ≡ None → (b : Bool) → takes_it s o made word ≡ b
        → line_from s (wanting o (rows_made made)) (word ∷ rest) ≡ asked s made (Some o.name) (word ∷ rest)
    value e l n true b = at_value s o is (rows_made made) word rest e l n ∙ idle_is (more made o.name word) (with_value o (rows_made made) word) (stands_value s o is made word b) ∙ rw (e, l, n, b) refl
    value e l n false b = at_value s o is (rows_made made) word rest e l n ∙ doomed s (with_value o (rows_made made) word) rest refl (fails_value s o is made word b) ∙ rw (e, l, n, b) refl

    ends : bytes_eq word dashes ≡ true → (rest : List Text) → None ≡ asked s made (Some o.name) (word ∷ rest)
    ends e [] = rw e refl
    ends e (x ∷ xs) = rw e refl

    go : (e : Bool) → bytes_eq word dashes ≡ e → (l : Option (Text × Option Text)) → long_of word ≡ l → (n : Option ℕ) → letter_of word ≡ n
        → line_from s (wanting o (rows_made made)) (word ∷ rest) ≡ asked s made (Some o.name) (word ∷ rest)
    go true e p l q n = at_end s (option o.name) h word rest e ∙ trailed_fails s (option o.name) h rest (wanting_fails s o is (rows_made made)) ∙ ends e rest
    go false e (Some (m, v)) l q n = long_fails s m v (option o.name) h word rest (which s m) e l (wanting_fails s o is (rows_made made)) ∙ rw (e, l) refl
    go false e None l (Some y) n = at_letter s o (rows_made made) word rest y e l n ∙ rw (e, l, n) refl
    go false e None l None n = value e l n (takes_it s o made word) refl

from_both : (s : Sub) → IsRead s → (words : List Text) → FromIdle s words × FromWanting s words
from_both s read [] = (λ made h st. end_good s read (at idle h) made st.good st.rows, λ made o is. end_fails s (wanting o (rows_made made)) (wanting_fails s o is (rows_made made)))
from_both s read (word ∷ rest) = let both = from_both s read rest in (idle_word s read word rest both.0 both.1, wanting_word s word rest both.0)

pub parsed_choices : (s : Sub) → IsRead s → (words : List Text) → parsed s words ≡ asked_for s.options s.of words
parsed_choices s read words =
    from_start s words ∙ (from_both s read words).0 [] (held [] None) (record {
      good = refl;
      rows = refl;
      skip = refl;
    })
