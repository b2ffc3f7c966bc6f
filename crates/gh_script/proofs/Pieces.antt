-- The pieces of a text, and the words of a line, from the front on.
use Rattle.std.proofs.Common.{◌≡◌, ℕ, suc, ◌+◌, ◌<◌, ◌≤◌, Bool, true, false, not, cond, List, [], ◌∷◌, length, get_or, take, drop, refl, sym, ap, ◌∙◌, arith, filter}
use Rattle.std.proofs.lemmas.List.{take_all, length-take}
use Rattle.gh_script.proofs.Vocabulary.{after_first, before_first, drop_all, drop_more, is_blank, is_filled, nil_from_length, passes_at_first, pieces, position_or_len, position_or_len_is, prefix_len, prefix_len_is, sentence_of, with_front, word_in_front, words_of}

-- a loop that ends without having met the test
pub met_nowhere : (test : ℕ → Bool) (xs : List ℕ) (n : ℕ) → length xs ≤ n → ((k : ℕ) → k < n → test (get_or xs k 0) ≡ false) → length xs ≡ position_or_len test xs
met_nowhere test xs n long fails = sym (position_or_len_is test xs (length xs) 0 (omega arith) (λ k h. fails k (omega arith)) (λ h. absurd (omega arith)))

first_step : (test : ℕ → Bool) (c : ℕ) (cs : List ℕ) (b : Bool) (n : ℕ) (p : List (List ℕ)) → cond (not b) (1 + n) 0 < suc (length cs)
    → p ≡ pieces test cs → (n < length cs → p ≡ take n cs ∷ pieces test (drop (n + 1) cs))
    → cond b ([] ∷ p) (with_front c p) ≡ take (cond (not b) (1 + n) 0) (c ∷ cs) ∷ pieces test (drop (cond (not b) (1 + n) 0 + 1) (c ∷ cs))
first_step test c cs b n p h same rest = grind arith

-- the first piece ends where the test first passes
pub pieces_first : (test : ℕ → Bool) (xs : List ℕ) → position_or_len test xs < length xs → pieces test xs ≡ before_first test xs ∷ pieces test (after_first test xs)
unfolding pieces
pieces_first test [] h = absurd (omega arith)
pieces_first test (c ∷ cs) h = first_step test c cs (test c) (position_or_len test cs) (pieces test cs) h refl (pieces_first test cs)

last_step : (test : ℕ → Bool) (c : ℕ) (cs : List ℕ) (b : Bool) (n : ℕ) (p : List (List ℕ)) → suc (length cs) ≤ cond (not b) (1 + n) 0
    → (cs ≡ [] → p ≡ []) → (0 < length cs → length cs ≤ n → p ≡ cs ∷ [])
    → cond b ([] ∷ p) (with_front c p) ≡ (c ∷ cs) ∷ []
last_step test c cs true n p h none rest = absurd (omega arith)
last_step test c [] false n p h none rest = rw (none refl) refl
last_step test c (d ∷ ds) false n p h none rest = rw (rest (omega arith) (omega arith)) refl

-- a text without such a byte is one piece
pub pieces_last : (test : ℕ → Bool) (xs : List ℕ) → 0 < length xs → length xs ≤ position_or_len test xs → pieces test xs ≡ xs ∷ []
unfolding pieces
pieces_last test [] some h = absurd (omega arith)
pieces_last test (c ∷ cs) some h = last_step test c cs (test c) (position_or_len test cs) (pieces test cs) h (λ e. ap (pieces test) e) (pieces_last test cs)

filled_first : (word : List ℕ) (others : List (List ℕ)) → 0 < length word → filter is_filled (word ∷ others) ≡ word ∷ filter is_filled others
filled_first word others h = grind arith

passes_first : (test : ℕ → Bool) (c : ℕ) (cs : List ℕ) → test c ≡ true → pieces test (c ∷ cs) ≡ [] ∷ pieces test cs
unfolding pieces
passes_first test c cs h = rw h refl

-- blanks at the front say nothing
skip_step : (c : ℕ) (cs : List ℕ) (b : Bool) (n : ℕ) → filter is_filled (pieces is_blank (drop n cs)) ≡ filter is_filled (pieces is_blank cs)
    → b ≡ is_blank c → filter is_filled (pieces is_blank (drop (cond b (1 + n) 0) (c ∷ cs))) ≡ filter is_filled (pieces is_blank (c ∷ cs))
skip_step c cs true n same is = let e : 1 + n ≡ suc n = omega arith in rw e (same ∙ sym (ap (filter is_filled) (passes_first is_blank c cs (sym is))))
skip_step c cs false n same is = refl

pub words_of-skip : (line : List ℕ) → words_of (drop (prefix_len is_blank line) line) ≡ words_of line
unfolding words_of
words_of-skip [] = refl
words_of-skip (c ∷ cs) = skip_step c cs (is_blank c) (prefix_len is_blank cs) (words_of-skip cs) refl

filled_step : (c : ℕ) (cs : List ℕ) (b : Bool) (n : ℕ) → (0 < length (drop n cs) → 0 < position_or_len is_blank (drop n cs)) → b ≡ is_blank c
    → 0 < length (drop (cond b (1 + n) 0) (c ∷ cs)) → 0 < position_or_len is_blank (drop (cond b (1 + n) 0) (c ∷ cs))
filled_step c cs b n rest is some = grind arith

-- past the blanks stands a word, if anything
word_past_blanks : (line : List ℕ) → 0 < length (drop (prefix_len is_blank line) line) → 0 < position_or_len is_blank (drop (prefix_len is_blank line) line)
word_past_blanks [] some = absurd (omega arith)
word_past_blanks (c ∷ cs) some = filled_step c cs (is_blank c) (prefix_len is_blank cs) (word_past_blanks cs) refl some

pub words_of-nil : words_of [] ≡ []
unfolding words_of pieces
words_of-nil = refl

word_before : (line : List ℕ) (n : ℕ) → n ≡ position_or_len is_blank line → 0 < n → n < length line → words_of line ≡ take n line ∷ words_of (drop n line)
unfolding words_of
word_before line n at some within =
    let lt : position_or_len is_blank line < length line = omega arith in
    let e = pieces_first is_blank line lt in
    let f : pieces is_blank line ≡ take n line ∷ pieces is_blank (drop (n + 1) line) = rw (← at) at e in
    let blank : is_blank (get_or line n 0) ≡ true = rw at (passes_at_first is_blank line 0 lt) in
    let d : drop n line ≡ get_or line n 0 ∷ drop (n + 1) line = drop_more line n 0 within in
    let g : pieces is_blank (drop n line) ≡ [] ∷ pieces is_blank (drop (n + 1) line) = ap (pieces is_blank) d ∙ passes_first is_blank (get_or line n 0) (drop (n + 1) line) blank in
    let wide : 0 < length (take n line) = omega (arith, length-take n line) in
    ap (filter is_filled) f ∙ filled_first (take n line) (pieces is_blank (drop (n + 1) line)) wide ∙ ap (λ (ws : List (List ℕ)). take n line ∷ ws) (sym (ap (filter is_filled) g))

word_alone : (line : List ℕ) (n : ℕ) → n ≡ position_or_len is_blank line → 0 < n → n ≡ length line → words_of line ≡ take n line ∷ words_of (drop n line)
unfolding words_of
word_alone line n at some all =
    let e : pieces is_blank line ≡ line ∷ [] = pieces_last is_blank line (omega arith) (omega arith) in
    let t : take n line ≡ line = take_all n line (omega arith) in
    let d : drop n line ≡ [] = drop_all n line (omega arith) in
    let none : filter is_filled (pieces is_blank (drop n line)) ≡ [] = ap (λ (w : List ℕ). filter is_filled (pieces is_blank w)) d ∙ words_of-nil in
    ap (filter is_filled) e ∙ filled_first line [] (omega arith) ∙ rw (t, none) refl

-- a word at the front
pub words_of-word : (line : List ℕ) (n : ℕ) → n ≡ position_or_len is_blank line → 0 < n → n ≤ length line → words_of line ≡ take n line ∷ words_of (drop n line)
words_of-word line n at some within = grind (arith, word_alone, word_before)

with_word_filled : (word : List ℕ) (others : List (List ℕ)) → 0 < length word → word_in_front word others ≡ word ∷ others
with_word_filled word others h = grind arith

-- where the first word ends, something stands, if anything does
word_wide : (line rest : List ℕ) (start end : ℕ) → start ≡ prefix_len is_blank line → rest ≡ drop start line → end ≡ position_or_len is_blank rest → 0 < length rest → 0 < end
word_wide line rest start end at from ends any = grind (arith, word_past_blanks)

next_cases : (line rest : List ℕ) (start end : ℕ) → start ≡ prefix_len is_blank line → rest ≡ drop start line → end ≡ position_or_len is_blank rest → end ≤ length rest
    → words_of line ≡ word_in_front (take end rest) (words_of (drop end rest))
next_cases line rest start end at from ends within = grind (arith, with_word_filled, word_wide, words_of-skip, words_of-word)

-- the first word and what follows it
pub words_of-next : (line rest : List ℕ) (start end : ℕ) (word others : List ℕ) → start ≡ prefix_len is_blank line → rest ≡ drop start line → end ≡ position_or_len is_blank rest → end ≤ length rest
    → word ≡ take end rest → others ≡ drop end rest → words_of line ≡ word_in_front word (words_of others)
words_of-next line rest start end word others at from ends within one two = grind (arith, next_cases)

pub empty_word : (line rest : List ℕ) (start end : ℕ) (word others : List ℕ) → start ≡ prefix_len is_blank line → rest ≡ drop start line → end ≡ position_or_len is_blank rest → end ≤ length rest
    → word ≡ take end rest → others ≡ drop end rest → length word ≡ 0 → length others ≡ 0
empty_word line rest start end word others at from ends within one two h = grind (arith, word_wide)

-- a line that ends without a word
pub not_met_nowhere : (test : ℕ → Bool) (xs : List ℕ) (n : ℕ) → length xs ≤ n → ((k : ℕ) → k < n → test (get_or xs k 0) ≡ true) → length xs ≡ prefix_len test xs
not_met_nowhere test xs n long holds = sym (prefix_len_is test xs (length xs) 0 (omega arith) (λ k h. holds k (omega arith)) (λ h. absurd (omega arith)))

-- ---- a line's words, one after the other

-- a word, and the words after it
pub record Goes (words : List (List ℕ)) (word : List ℕ) (others : List (List ℕ)) : Type 0 where
  pub cut : words ≡ word_in_front word others
  pub none : length word ≡ 0 → others ≡ []

pub goes : (words : List (List ℕ)) (word rest : List ℕ) → words ≡ word_in_front word (words_of rest) → (length word ≡ 0 → length rest ≡ 0) → Goes words word (words_of rest)
goes words word rest cut none = record { cut = cut; none = λ h. ap words_of (nil_from_length rest (none h)) ∙ words_of-nil }

pub length-goes_none : (words : List (List ℕ)) (word : List ℕ) (others : List (List ℕ)) → Goes words word others → length word ≡ 0 → length words ≡ 0
length-goes_none words word others g h = grind arith

pub length-words_of-none : (line : List ℕ) → length line ≡ 0 → length (words_of line) ≡ 0
length-words_of-none line h = ap (λ (l : List ℕ). length (words_of l)) (nil_from_length line h) ∙ ap length words_of-nil

pub sentence_of-goes : (a b c d e : List (List ℕ)) (first second third fourth : List ℕ) (count : ℕ)
    → Goes a first b → Goes b second c → Goes c third d → Goes d fourth e → count ≡ length a
    → record { first = first; second = second; third = third; fourth = fourth; count = count } ≡ sentence_of a
sentence_of-goes a b c d e first second third fourth count g h i j all = grind arith
