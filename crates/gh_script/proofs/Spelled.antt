-- Lines of words of letters and digits, with spaces and line feeds between them, are read back word for word.
use Rattle.std.proofs.Common.{◌≡◌, ℕ, zero, suc, ◌+◌, ◌*◌, ◌<◌, ◌≤◌, Bool, true, false, not, cond, eqb, leb, ◌&&◌, List, [], ◌∷◌, ◌++◌, length, map, get_or, refl, sym, ap, subst, ◌∙◌, append_assoc, append-nil, arith, length-append, filter, sum_by}
use Rattle.std.proofs.lemmas.Bool.Decides.{nat_tests}
use Rattle.std.proofs.lemmas.List.Concat.{length-flat_map}
use Rattle.std.proofs.lemmas.Str.Ascii.{IsAscii-cons, IsAscii-nil}
use Rattle.gh_script.proofs.Vocabulary.{flat_map, is_blank, is_feed, is_filled, is_name_byte, is_skipped, is_utf8, is_utf8-from_IsUtf8, IsAscii, IsUtf8-from_ascii, lines_of, list_all, list_all-append, list_any, pieces, said_in, sayings, Sentence, sentence_of, spaced, text_of, with_front, without_return, words_of}
use Rattle.gh_script.proofs.Allowed.{left_false, right_false}
use Rattle.gh_script.proofs.Pieces.{words_of-nil}

pub left_true : (a b : Bool) → (a && b) ≡ true → a ≡ true
left_true a b h = grind arith

pub right_true : (a b : Bool) → (a && b) ≡ true → b ≡ true
right_true a b h = grind arith

pub both_true : (a b : Bool) → a ≡ true → b ≡ true → (a && b) ≡ true
both_true a b g h = grind arith

-- ---- words and lines

-- a word of letters and digits
abbrev pub is_plain : List ℕ → Bool
is_plain word = is_filled word && list_all is_name_byte word

-- a letter, a digit or a space, or some other byte that isn't a control character
abbrev pub is_line_byte : ℕ → Bool
is_line_byte c = leb 32 c && leb c 122

-- words of letters and digits, at least one, that have at most 13 bytes with the spaces between them
abbrev pub is_line : List (List ℕ) → Bool
is_line [] = false
is_line (word ∷ words) = list_all is_plain (word ∷ words) && leb (length (spaced (word ∷ words))) 13

name_byte : (c : ℕ) → is_name_byte c ≡ true → (48 ≤ c) × (c ≤ 122)
name_byte c h = grind (arith, nat_tests)

name_not_blank : (c : ℕ) → is_name_byte c ≡ true → is_blank c ≡ false
name_not_blank c h = grind (arith, nat_tests, name_byte c h)

name_in_line : (c : ℕ) → is_name_byte c ≡ true → is_line_byte c ≡ true
name_in_line c h = grind (arith, nat_tests, name_byte c h)

line_not_feed : (c : ℕ) → is_line_byte c ≡ true → is_feed c ≡ false
line_not_feed c h = grind (arith, nat_tests)

line_not_return : (c : ℕ) → is_line_byte c ≡ true → eqb c 13 ≡ false
line_not_return c h = grind (arith, nat_tests)

line_ascii : (c : ℕ) → is_line_byte c ≡ true → c < 128
line_ascii c h = grind (arith, nat_tests)

all_line : (word : List ℕ) → list_all is_name_byte word ≡ true → list_all is_line_byte word ≡ true
all_line [] h = refl
all_line (c ∷ cs) h =
    both_true (is_line_byte c) (list_all is_line_byte cs) (name_in_line c (left_true (is_name_byte c) (list_all is_name_byte cs) h)) (all_line cs (right_true (is_name_byte c) (list_all is_name_byte cs) h))

none_blank : (word : List ℕ) → list_all is_name_byte word ≡ true → list_any is_blank word ≡ false
none_blank [] h = refl
none_blank (c ∷ cs) h = rw (name_not_blank c (left_true (is_name_byte c) (list_all is_name_byte cs) h)) (none_blank cs (right_true (is_name_byte c) (list_all is_name_byte cs) h))

none_feed : (line : List ℕ) → list_all is_line_byte line ≡ true → list_any is_feed line ≡ false
none_feed [] h = refl
none_feed (c ∷ cs) h = rw (line_not_feed c (left_true (is_line_byte c) (list_all is_line_byte cs) h)) (none_feed cs (right_true (is_line_byte c) (list_all is_line_byte cs) h))

none_return : (line : List ℕ) (i : ℕ) → list_all is_line_byte line ≡ true → eqb (get_or line i 0) 13 ≡ false
none_return [] i h = refl
none_return (c ∷ cs) zero h = line_not_return c (left_true (is_line_byte c) (list_all is_line_byte cs) h)
none_return (c ∷ cs) (suc i) h = none_return cs i (right_true (is_line_byte c) (list_all is_line_byte cs) h)

-- ---- pieces

-- the front up to the first byte that passes the test
pieces_before : (test : ℕ → Bool) (word rest : List ℕ) (c : ℕ) → list_any test word ≡ false → test c ≡ true → pieces test (word ++ c ∷ rest) ≡ word ∷ pieces test rest
unfolding pieces
pieces_before test [] rest c h e = rw e refl
pieces_before test (d ∷ ds) rest c h e =
    rw (left_false (test d) (list_any test ds) h) (ap (with_front d) (pieces_before test ds rest c (right_false (test d) (list_any test ds) h) e))

-- bytes of which none passes
pieces_whole : (test : ℕ → Bool) (word : List ℕ) → list_any test word ≡ false → is_filled word ≡ true → pieces test word ≡ word ∷ []
unfolding pieces
pieces_whole test [] h some = absurd cc
pieces_whole test (c ∷ []) h some = rw (left_false (test c) false h) refl
pieces_whole test (c ∷ d ∷ ds) h some =
    rw (left_false (test c) (list_any test (d ∷ ds)) h) (ap (with_front c) (pieces_whole test (d ∷ ds) (right_false (test c) (list_any test (d ∷ ds)) h) refl))

filled : (word : List ℕ) (others : List (List ℕ)) → is_filled word ≡ true → filter is_filled (word ∷ others) ≡ word ∷ filter is_filled others
filled word others h = rw h refl

-- a word, and behind it the others, each behind a space
words_behind : (word : List ℕ) (words : List (List ℕ)) → is_plain word ≡ true → list_all is_plain words ≡ true
    → filter is_filled (pieces is_blank (word ++ flat_map (λ w. 32 ∷ w) words)) ≡ word ∷ words
words_behind word [] h hs =
    ap (λ (l : List ℕ). filter is_filled (pieces is_blank l)) (append-nil word)
    ∙ ap (filter is_filled) (pieces_whole is_blank word (none_blank word (right_true (is_filled word) (list_all is_name_byte word) h)) (left_true (is_filled word) (list_all is_name_byte word) h))
    ∙ filled word [] (left_true (is_filled word) (list_all is_name_byte word) h)
words_behind word (next ∷ words) h hs =
    ap (filter is_filled) (pieces_before is_blank word (next ++ flat_map (λ w. 32 ∷ w) words) 32 (none_blank word (right_true (is_filled word) (list_all is_name_byte word) h)) refl)
    ∙ filled word (pieces is_blank (next ++ flat_map (λ w. 32 ∷ w) words)) (left_true (is_filled word) (list_all is_name_byte word) h)
    ∙ ap (λ (l : List (List ℕ)). word ∷ l) (words_behind next words (left_true (is_plain next) (list_all is_plain words) hs) (right_true (is_plain next) (list_all is_plain words) hs))

-- a line's words are those that it was made of
words_of-spaced : (words : List (List ℕ)) → list_all is_plain words ≡ true → words_of (spaced words) ≡ words
unfolding words_of spaced
words_of-spaced [] h = words_of-nil
words_of-spaced (word ∷ words) h = words_behind word words (left_true (is_plain word) (list_all is_plain words) h) (right_true (is_plain word) (list_all is_plain words) h)

-- ---- bytes of lines

bytes_behind : (words : List (List ℕ)) → list_all is_plain words ≡ true → list_all is_line_byte (flat_map (λ w. 32 ∷ w) words) ≡ true
bytes_behind [] h = refl
bytes_behind (word ∷ words) h =
    let first = left_true (is_plain word) (list_all is_plain words) h in
    list_all-append is_line_byte word (flat_map (λ w. 32 ∷ w) words)
    ∙ both_true (list_all is_line_byte word) (list_all is_line_byte (flat_map (λ w. 32 ∷ w) words)) (all_line word (right_true (is_filled word) (list_all is_name_byte word) first)) (bytes_behind words (right_true (is_plain word) (list_all is_plain words) h))

bytes_of : (words : List (List ℕ)) → list_all is_plain words ≡ true → list_all is_line_byte (spaced words) ≡ true
unfolding spaced
bytes_of [] h = refl
bytes_of (word ∷ words) h =
    let first = left_true (is_plain word) (list_all is_plain words) h in
    list_all-append is_line_byte word (flat_map (λ w. 32 ∷ w) words)
    ∙ both_true (list_all is_line_byte word) (list_all is_line_byte (flat_map (λ w. 32 ∷ w) words)) (all_line word (right_true (is_filled word) (list_all is_name_byte word) first)) (bytes_behind words (right_true (is_plain word) (list_all is_plain words) h))

kept_whole : (line : List ℕ) → list_all is_line_byte line ≡ true → without_return line ≡ line
kept_whole line h = grind (arith, none_return)

-- ---- lines that are made of words

length-spaced : (word : List ℕ) (words : List (List ℕ)) → length (spaced (word ∷ words)) ≡ length word + sum_by (λ w. suc (length w)) words
unfolding spaced
length-spaced word words = length-append word (flat_map (λ w. 32 ∷ w) words) ∙ ap (λ (n : ℕ). length word + n) (length-flat_map (λ w. 32 ∷ w) words)

pub line_made : (word : List ℕ) (words : List (List ℕ)) → list_all is_plain (word ∷ words) ≡ true → length word + sum_by (λ w. suc (length w)) words ≤ 13 → is_line (word ∷ words) ≡ true
line_made word words h few = grind (arith, both_true, length-spaced)

-- ---- texts

plain : (line : List (List ℕ)) → is_line line ≡ true → list_all is_plain line ≡ true
plain line h = grind arith

short : (line : List (List ℕ)) → is_line line ≡ true → length (spaced line) ≤ 13
short line h = grind arith

one_more : (line : List ℕ) (rest : List ℕ) → (line ++ 10 ∷ []) ++ rest ≡ line ++ 10 ∷ rest
one_more line rest = append_assoc line (10 ∷ []) rest

-- the lines of a text are those that it was made of
lines_of-text_of : (lines : List (List (List ℕ))) → list_all is_line lines ≡ true → lines_of (text_of lines) ≡ map spaced lines
unfolding lines_of text_of pieces
lines_of-text_of [] h = refl
lines_of-text_of (line ∷ lines) h =
    let bytes = bytes_of line (plain line (left_true (is_line line) (list_all is_line lines) h)) in
    ap (λ (l : List ℕ). map without_return (pieces is_feed l)) (one_more (spaced line) (text_of lines))
    ∙ ap (map without_return) (pieces_before is_feed (spaced line) (text_of lines) 10 (none_feed (spaced line) bytes) refl)
    ∙ ap (λ (l : List ℕ). l ∷ lines_of (text_of lines)) (kept_whole (spaced line) bytes)
    ∙ ap (λ (l : List (List ℕ)). spaced line ∷ l) (lines_of-text_of lines (right_true (is_line line) (list_all is_line lines) h))

not_skipped : (line : List (List ℕ)) → is_line line ≡ true → is_skipped (sentence_of line) ≡ false
not_skipped line h = grind (arith, nat_tests)

said_by_lines : (lines : List (List (List ℕ))) → list_all is_line lines ≡ true → sayings (map spaced lines) ≡ map sentence_of lines
unfolding sayings
said_by_lines [] h = refl
said_by_lines (line ∷ lines) h =
    let first = left_true (is_line line) (list_all is_line lines) h in
    let same : said_in (spaced line) ≡ sentence_of line = ap sentence_of (words_of-spaced line (plain line first)) in
    ap (λ (s : Sentence). cond (not (is_skipped s)) (s ∷ sayings (map spaced lines)) (sayings (map spaced lines))) same
    ∙ ap (λ (b : Bool). cond (not b) (sentence_of line ∷ sayings (map spaced lines)) (sayings (map spaced lines))) (not_skipped line first)
    ∙ ap (λ (l : List Sentence). sentence_of line ∷ l) (said_by_lines lines (right_true (is_line line) (list_all is_line lines) h))

-- each line says its words
pub sayings-text_of : (lines : List (List (List ℕ))) → list_all is_line lines ≡ true → sayings (lines_of (text_of lines)) ≡ map sentence_of lines
sayings-text_of lines h = grind (arith, lines_of-text_of, said_by_lines)

pub length-text_of-le : (lines : List (List (List ℕ))) → list_all is_line lines ≡ true → length (text_of lines) ≤ 14 * length lines
unfolding text_of
length-text_of-le [] h = omega arith
length-text_of-le (line ∷ lines) h =
    let first = left_true (is_line line) (list_all is_line lines) h in
    let few = short line first in
    let rest = length-text_of-le lines (right_true (is_line line) (list_all is_line lines) h) in
    omega (arith, length-append (spaced line ++ 10 ∷ []) (text_of lines), length-append (spaced line) (10 ∷ []))

ascii_line : (line : List ℕ) (rest : List ℕ) → list_all is_line_byte line ≡ true → IsAscii rest → IsAscii (line ++ 10 ∷ rest)
ascii_line [] rest h r = λ i. IsAscii-cons 10 rest (omega arith) r i
ascii_line (c ∷ cs) rest h r = λ i. IsAscii-cons c (cs ++ 10 ∷ rest) (line_ascii c (left_true (is_line_byte c) (list_all is_line_byte cs) h)) (ascii_line cs rest (right_true (is_line_byte c) (list_all is_line_byte cs) h) r) i

ascii_text : (lines : List (List (List ℕ))) → list_all is_line lines ≡ true → IsAscii (text_of lines)
unfolding text_of
ascii_text [] h = IsAscii-nil
ascii_text (line ∷ lines) h =
    let bytes = bytes_of line (plain line (left_true (is_line line) (list_all is_line lines) h)) in
    subst IsAscii (sym (one_more (spaced line) (text_of lines))) (ascii_line (spaced line) (text_of lines) bytes (ascii_text lines (right_true (is_line line) (list_all is_line lines) h)))

pub is_utf8-text_of : (lines : List (List (List ℕ))) → list_all is_line lines ≡ true → is_utf8 (text_of lines) ≡ true
is_utf8-text_of lines h = is_utf8-from_IsUtf8 (text_of lines) (IsUtf8-from_ascii (text_of lines) (ascii_text lines h))
