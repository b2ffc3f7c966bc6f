-- The text of a generated script has the form of a script, and says its program.
use Rattle.std.proofs.Common.{◌≡◌, ℕ, ◌+◌, ◌*◌, ◌/◌, ◌<◌, ◌≤◌, Bool, true, false, not, eqb, ◌&&◌, List, [], ◌∷◌, ◌++◌, length, map, get_or, Option, Some, None, refl, sym, ap, ◌∙◌, subst, append_assoc, append-nil, arith, All, AllPairs, ◌≢◌, length-append, decimal, codes, sum_by}
use Rattle.std.proofs.lemmas.Bool.{eq-eqb}
use Rattle.std.proofs.lemmas.List.Kept.{AllPairs-cons}
use Rattle.gh_script.proofs.Vocabulary.{All-cons, All-head, All-map, All-nil, All-tail, are_counts, are_letters, AreApart, Arena, AreNamedApart, bits_as_number, blank_draft, Block, block_key_of, cause_at, decimal_digit, digits_value_of, fields_behind_letter, fields_of, fits_behind, fits_limits, flat_map, generated_goroutine, generated_name, generated_program, generated_text, GeneratedGoroutinesKeepApart, GeneratedScriptsHaveTheirSize, get_or-map-range_with_len, Given, Globals, Gogc, Goroutine, goroutine_by, goroutine_lines, has_goroutine, HasForm, head_lines, inside, is_name, IsBlock, IsHead, IsRoutine, IsTaken, items_of, KeepsTo, Key, key_of, length-map, length-map-range_with_len, lines_in, list_all, list_all-append, map-append, Minheap, names_by, no_goroutine, node_shape, Nothing, number_spelled, option_to_list, packed, Procs, range_with_len, Routine, routine_lines, Say, Sentence, sentence_of, setting_named, settings_by, settings_in, shape_with, shapes_by, spaced, spread, state_behind, statement_by, statement_key_of, statement_words, statements_by, statements_drawn, statements_in, Stmt, sum_by-cons, type_of, value_from, word_drawn, Workers}
use Rattle.gh_script.proofs.FormSaid.{cause_none, taken_by}
use Rattle.gh_script.proofs.GeneratedWords.{given, IsSaid, IsSaid-statement_by, KeepsTo-statement_by, name_line, names, one_digit}
use Rattle.gh_script.proofs.Spelled.{both_true, is_line, is_utf8-text_of, left_true, length-text_of-le, right_true, sayings-text_of}

-- ---- the head

abbrev head : List Sentence
head = map sentence_of head_lines

head_fits : list_all is_line head_lines ≡ true
unfolding spaced
head_fits = refl

head_given : settings_by head ≡ given
unfolding key_of setting_named block_key_of statement_key_of number_spelled digits_value_of value_from
head_given = refl

head_names : names_by head ≡ names
unfolding key_of setting_named block_key_of statement_key_of
head_names = refl

-- a number for each setting, and another for all else
abbrev number_of_key : Option Key → ℕ
number_of_key (Some (Key.Setting Procs)) = 0
number_of_key (Some (Key.Setting Workers)) = 1
number_of_key (Some (Key.Setting Arena)) = 2
number_of_key (Some (Key.Setting Globals)) = 3
number_of_key (Some (Key.Setting Gogc)) = 4
number_of_key (Some (Key.Setting Minheap)) = 5
number_of_key (Some key) = 6
number_of_key None = 6

abbrev are_apart : Sentence → Sentence → Bool
are_apart one other = not (eqb (number_of_key (key_of one.first)) (number_of_key (key_of other.first)))

abbrev all_apart : List Sentence → Bool
all_apart [] = true
all_apart (line ∷ lines) = list_all (are_apart line) lines && all_apart lines

head_apart : all_apart head ≡ true
unfolding key_of setting_named block_key_of statement_key_of
head_apart = refl

AreApart-are_apart : (one other : Sentence) → are_apart one other ≡ true → AreApart one other
AreApart-are_apart one other h x e f =
    let same : number_of_key (key_of one.first) ≡ number_of_key (key_of other.first) = ap number_of_key (e ∙ sym f) in
    let not_same : not (eqb (number_of_key (key_of other.first)) (number_of_key (key_of other.first))) ≡ true = ap (λ (n : ℕ). not (eqb n (number_of_key (key_of other.first)))) (sym same) ∙ h in
    let equal : eqb (number_of_key (key_of other.first)) (number_of_key (key_of other.first)) ≡ true = eq-eqb (number_of_key (key_of other.first)) (number_of_key (key_of other.first)) refl in
    cc

each_apart : (line : Sentence) (lines : List Sentence) → list_all (are_apart line) lines ≡ true → All (AreApart line) lines
each_apart line [] h = All-nil (AreApart line)
each_apart line (other ∷ lines) h =
    All-cons (AreApart line) other lines (AreApart-are_apart line other (left_true (are_apart line other) (list_all (are_apart line) lines) h)) (each_apart line lines (right_true (are_apart line other) (list_all (are_apart line) lines) h))

pairs_apart : (lines : List Sentence) → all_apart lines ≡ true → AllPairs AreApart lines
pairs_apart [] h = λ i j d lt below. absurd (omega arith)
pairs_apart (line ∷ lines) h =
    AllPairs-cons AreApart line lines (each_apart line lines (left_true (list_all (are_apart line) lines) (all_apart lines) h)) (pairs_apart lines (right_true (list_all (are_apart line) lines) (all_apart lines) h))

-- each element, one after the other
abbrev Each : {X : Type 0} → (X → Type 0) → List X → Type 0
Each P [] = Unit {0}
Each P (x ∷ xs) = P x × Each P xs

All-Each : {X : Type 0} (P : X → Type 0) (xs : List X) → Each P xs → All P xs
All-Each P [] h = All-nil P
All-Each P (x ∷ xs) h = All-cons P x xs h.0 (All-Each P xs h.1)

head_heads : All IsHead head
unfolding key_of setting_named block_key_of statement_key_of
head_heads = All-Each IsHead head (tt, (tt, (tt, (tt, (tt, (tt, (tt, tt)))))))

head_taken : All (IsTaken blank_draft) head
unfolding key_of setting_named block_key_of statement_key_of number_spelled digits_value_of value_from cause_at type_of is_name are_letters are_counts fits_limits fits_behind items_of fields_behind_letter
head_taken =
    All-Each (IsTaken blank_draft) head (
      taken_by blank_draft (sentence_of (codes "procs" ∷ codes "4" ∷ [])) (Key.Setting Procs) refl refl,
      (
        taken_by blank_draft (sentence_of (codes "workers" ∷ codes "2" ∷ [])) (Key.Setting Workers) refl refl,
        (
          taken_by blank_draft (sentence_of (codes "arena" ∷ codes "1024" ∷ [])) (Key.Setting Arena) refl refl,
          (
            taken_by blank_draft (sentence_of (codes "globals" ∷ codes "4" ∷ [])) (Key.Setting Globals) refl refl,
            (
              taken_by blank_draft (sentence_of (codes "gogc" ∷ codes "50" ∷ [])) (Key.Setting Gogc) refl refl,
              (
                taken_by blank_draft (sentence_of (codes "minheap" ∷ codes "65536" ∷ [])) (Key.Setting Minheap) refl refl,
                (taken_by blank_draft (sentence_of (codes "type" ∷ codes "node" ∷ codes "ppn" ∷ [])) Key.Type refl refl, tt),
              ),
            ),
          ),
        ),
      ),
    )

head_shapes : node_shape ∷ [] ≡ shapes_by head
unfolding key_of setting_named block_key_of statement_key_of shape_with fields_of spread items_of fields_behind_letter packed bits_as_number
head_shapes = refl

-- ---- goroutines

-- a block of these lines behind another
abbrev block_of : Block → List Sentence → Block
block_of before [] = before
block_of before (line ∷ lines) = block_of (Say before line) lines

lines_in-block_of : (before : Block) (lines : List Sentence) → lines_in (block_of before lines) ≡ lines_in before ++ lines
lines_in-block_of before [] = sym (append-nil (lines_in before))
lines_in-block_of before (line ∷ lines) = lines_in-block_of (Say before line) lines ∙ append_assoc (lines_in before) (line ∷ []) lines

abbrev said_lines : List Stmt → List Sentence
said_lines statements = map sentence_of (map statement_words statements)

statements_by-block_of : (before : Block) (statements : List Stmt) → All IsSaid statements → statements_by names (block_of before (said_lines statements)) ≡ statements_by names before ++ statements
statements_by-block_of before [] h = sym (append-nil (statements_by names before))
statements_by-block_of before (s ∷ ss) h =
    statements_by-block_of (Say before (sentence_of (statement_words s))) ss (All-tail IsSaid s ss h)
    ∙ ap (λ (o : Option Stmt). (statements_by names before ++ option_to_list o) ++ ss) (All-head IsSaid s ss h).said
    ∙ append_assoc (statements_by names before) (s ∷ []) ss

IsBlock-block_of : (before : Block) (statements : List Stmt) → All IsSaid statements → IsBlock given names 0 before → IsBlock given names 0 (block_of before (said_lines statements))
IsBlock-block_of before [] h b = b
IsBlock-block_of before (s ∷ ss) h b =
    let first = All-head IsSaid s ss h in
    IsBlock-block_of (Say before (sentence_of (statement_words s))) ss (All-tail IsSaid s ss h) (b, (s, first.said), first.taken)

abbrev routine_of : Goroutine → Routine
routine_of g = record { go = sentence_of (codes "go" ∷ g.name ∷ []); block = block_of Nothing (said_lines g.statements); last = sentence_of (codes "end" ∷ []) }

-- a goroutine whose lines are right
record IsRight (g : Goroutine) : Type 0 where
  named : is_name g.name ≡ true
  begins : is_line (codes "go" ∷ g.name ∷ []) ≡ true
  says : All IsSaid g.statements

lines_of_routine : (g : Goroutine) → routine_lines (routine_of g) ≡ map sentence_of (goroutine_lines g)
unfolding goroutine_lines
lines_of_routine g =
    ap (λ (l : List Sentence). sentence_of (codes "go" ∷ g.name ∷ []) ∷ (l ++ sentence_of (codes "end" ∷ []) ∷ [])) (lines_in-block_of Nothing (said_lines g.statements))
    ∙ ap (λ (l : List Sentence). sentence_of (codes "go" ∷ g.name ∷ []) ∷ l) (sym (map-append sentence_of (map statement_words g.statements) ((codes "end" ∷ []) ∷ [])))

lines_of_routines : (gs : List Goroutine) → flat_map routine_lines (map routine_of gs) ≡ map sentence_of (flat_map goroutine_lines gs)
lines_of_routines [] = refl
lines_of_routines (g ∷ gs) =
    ap (λ (l : List Sentence). l ++ flat_map routine_lines (map routine_of gs)) (lines_of_routine g)
    ∙ ap (λ (l : List Sentence). map sentence_of (goroutine_lines g) ++ l) (lines_of_routines gs)
    ∙ sym (map-append sentence_of (goroutine_lines g) (flat_map goroutine_lines gs))

goroutine_by-routine_of : (g : Goroutine) → IsRight g → goroutine_by names (routine_of g) ≡ g
goroutine_by-routine_of g h = grind (arith, statements_by-block_of)

goroutines_by : (gs : List Goroutine) → All IsRight gs → map (goroutine_by names) (map routine_of gs) ≡ gs
goroutines_by [] h = refl
goroutines_by (g ∷ gs) h =
    ap (λ (x : Goroutine). x ∷ map (goroutine_by names) (map routine_of gs)) (goroutine_by-routine_of g (All-head IsRight g gs h))
    ∙ ap (λ (l : List Goroutine). g ∷ l) (goroutines_by gs (All-tail IsRight g gs h))

no_goroutine_yet : (word : List ℕ) → has_goroutine blank_draft word ≡ false
unfolding has_goroutine
no_goroutine_yet word = refl

IsRoutine-routine_of : (g : Goroutine) → IsRight g → IsRoutine given names (routine_of g)
unfolding key_of setting_named block_key_of statement_key_of
IsRoutine-routine_of g h =
    let named = h.named in
    record {
      begins = (refl, cause_none blank_draft Key.Go (sentence_of (codes "go" ∷ g.name ∷ [])) (record { word = rw named refl; number = refl; limit = refl; twice = no_goroutine_yet g.name; unknown = refl; nesting = refl }));
      block = IsBlock-block_of Nothing g.statements h.says tt;
      ends = (refl, cause_none (inside given names) Key.End (sentence_of (codes "end" ∷ [])) (record { word = refl; number = refl; limit = refl; twice = refl; unknown = refl; nesting = refl }));
    }

routines_right : (gs : List Goroutine) → All IsRight gs → All (IsRoutine given names) (map routine_of gs)
routines_right gs h = All-map (IsRoutine given names) routine_of gs (λ k d lt. IsRoutine-routine_of (get_or gs k d) (h k d lt))

statements_fit : (statements : List Stmt) → All IsSaid statements → list_all is_line (map statement_words statements) ≡ true
statements_fit [] h = refl
statements_fit (s ∷ ss) h = both_true (is_line (statement_words s)) (list_all is_line (map statement_words ss)) (All-head IsSaid s ss h).fits (statements_fit ss (All-tail IsSaid s ss h))

end_fits : is_line (codes "end" ∷ []) ≡ true
unfolding spaced
end_fits = refl

goroutine_fits : (g : Goroutine) → IsRight g → list_all is_line (goroutine_lines g) ≡ true
unfolding goroutine_lines
goroutine_fits g h =
    both_true (is_line (codes "go" ∷ g.name ∷ [])) (list_all is_line (map statement_words g.statements ++ (codes "end" ∷ []) ∷ [])) h.begins
    (list_all-append is_line (map statement_words g.statements) ((codes "end" ∷ []) ∷ [])
    ∙ both_true (list_all is_line (map statement_words g.statements)) (list_all is_line ((codes "end" ∷ []) ∷ [])) (statements_fit g.statements h.says) (both_true (is_line (codes "end" ∷ [])) true end_fits refl))

goroutines_fit : (gs : List Goroutine) → All IsRight gs → list_all is_line (flat_map goroutine_lines gs) ≡ true
goroutines_fit [] h = refl
goroutines_fit (g ∷ gs) h =
    list_all-append is_line (goroutine_lines g) (flat_map goroutine_lines gs)
    ∙ both_true (list_all is_line (goroutine_lines g)) (list_all is_line (flat_map goroutine_lines gs)) (goroutine_fits g (All-head IsRight g gs h)) (goroutines_fit gs (All-tail IsRight g gs h))

all_fit : (gs : List Goroutine) → All IsRight gs → list_all is_line (head_lines ++ flat_map goroutine_lines gs) ≡ true
all_fit gs h = grind (arith, goroutines_fit, head_fits)

length-goroutine_lines : (g : Goroutine) → length (goroutine_lines g) ≡ 2 + statements_in g
unfolding goroutine_lines
length-goroutine_lines g = omega (arith, length-append (map statement_words g.statements) ((codes "end" ∷ []) ∷ []), length-map g.statements statement_words)

length-lines : (gs : List Goroutine) → length (flat_map goroutine_lines gs) ≡ 2 * length gs + sum_by statements_in gs
length-lines [] = omega arith
length-lines (g ∷ gs) = omega (arith, length-append (goroutine_lines g) (flat_map goroutine_lines gs), length-goroutine_lines g, length-lines gs, sum_by-cons statements_in g gs)

-- ---- the program

IsRight-generated : (seed size i : ℕ) → i < 4 → IsRight (generated_goroutine seed size i)
unfolding statements_drawn
IsRight-generated seed size i lt =
    let d = one_digit i lt in
    record {
      named = d.name;
      begins = name_line i lt;
      says = All-map IsSaid (λ j. statement_by i (word_drawn (state_behind seed (i * (size / 4))) j)) (range_with_len 0 (size / 4)) (λ k e below. IsSaid-statement_by i (word_drawn (state_behind seed (i * (size / 4))) (get_or (range_with_len 0 (size / 4)) k e)) lt);
    }

-- what holds of each of the four goroutines
each_generated : (P : Goroutine → Type 0) (seed size : ℕ) → ((i : ℕ) → i < 4 → P (generated_goroutine seed size i)) → All P (generated_program seed size).goroutines
unfolding generated_program
each_generated P seed size h =
    All-Each P (map (generated_goroutine seed size) (range_with_len 0 4)) (h 0 (omega arith), (h 1 (omega arith), (h 2 (omega arith), (h 3 (omega arith), tt))))

goroutine_there : (seed size i : ℕ) (d : Goroutine) → i < 4 → get_or (generated_program seed size).goroutines i d ≡ generated_goroutine seed size i
unfolding generated_program
goroutine_there seed size i d lt = get_or-map-range_with_len (generated_goroutine seed size) 0 4 i i d lt (omega arith)

length-statements_drawn : (state i n : ℕ) → length (statements_drawn state i n) ≡ n
unfolding statements_drawn
length-statements_drawn state i n = length-map-range_with_len (λ j. statement_by i (word_drawn state j)) 0 n

pub generated_size : GeneratedScriptsHaveTheirSize
unfolding generated_program
generated_size seed size = record {
  goroutines = refl;
  statements = λ i lt. ap length (ap (λ (g : Goroutine). g.statements) (goroutine_there seed size i no_goroutine lt)) ∙ length-statements_drawn (state_behind seed (i * (size / 4))) i (size / 4);
  total = omega (arith, length-statements_drawn (state_behind seed (0 * (size / 4))) 0 (size / 4), length-statements_drawn (state_behind seed (1 * (size / 4))) 1 (size / 4), length-statements_drawn (state_behind seed (2 * (size / 4))) 2 (size / 4), length-statements_drawn (state_behind seed (3 * (size / 4))) 3 (size / 4));
}

pub generated_apart : GeneratedGoroutinesKeepApart
unfolding statements_drawn
generated_apart seed size i lt =
    subst (λ (g : Goroutine). All (KeepsTo i) g.statements) (sym (goroutine_there seed size i no_goroutine lt))
    (All-map (KeepsTo i) (λ j. statement_by i (word_drawn (state_behind seed (i * (size / 4))) j)) (range_with_len 0 (size / 4)) (λ k e below. KeepsTo-statement_by i (word_drawn (state_behind seed (i * (size / 4))) (get_or (range_with_len 0 (size / 4)) k e))))

same_name : (i j : ℕ) → i < 4 → j < 4 → generated_name i ≡ generated_name j → i ≡ j
same_name i j lt below e =
    let digits : get_or (decimal i) 0 0 ≡ get_or (decimal j) 0 0 = ap (λ (l : List ℕ). get_or l 1 0) e in
    let one : get_or (decimal i) 0 0 ≡ 48 + i = ap (λ (l : List ℕ). get_or l 0 0) (decimal_digit i (omega arith)) in
    let other : get_or (decimal j) 0 0 ≡ 48 + j = ap (λ (l : List ℕ). get_or l 0 0) (decimal_digit j (omega arith)) in
    omega arith

names_differ : (seed size : ℕ) → AllPairs AreNamedApart (generated_program seed size).goroutines
names_differ seed size i j d lt below same =
    let four = (generated_size seed size).goroutines in
    let one : (get_or (generated_program seed size).goroutines i d).name ≡ generated_name i = ap (λ (g : Goroutine). g.name) (goroutine_there seed size i d (omega arith)) in
    let other : (get_or (generated_program seed size).goroutines j d).name ≡ generated_name j = ap (λ (g : Goroutine). g.name) (goroutine_there seed size j d (omega arith)) in
    let equal : i ≡ j = same_name i j (omega arith) (omega arith) (sym one ∙ same ∙ other) in
    omega arith

one_name : AllPairs (λ a b. a ≢ b) names
one_name i j d lt below = absurd (omega arith)

said_settings : (seed size : ℕ) → (generated_program seed size).settings ≡ settings_in given
unfolding generated_program
said_settings seed size = refl

said_shapes : (seed size : ℕ) → (generated_program seed size).shapes ≡ node_shape ∷ []
unfolding generated_program
said_shapes seed size = refl

pub generated_form : (seed size : ℕ) → size ≤ 200000 → HasForm (generated_text seed size) (generated_program seed size)
unfolding generated_text
generated_form seed size few =
    let gs : List Goroutine = (generated_program seed size).goroutines in
    let right = each_generated IsRight seed size (IsRight-generated seed size) in
    let fit = all_fit gs right in
    let sizes = generated_size seed size in
    record {
      size = omega (arith, length-text_of-le (head_lines ++ flat_map goroutine_lines gs) fit, length-append head_lines (flat_map goroutine_lines gs), length-lines gs, sizes.goroutines, sizes.total);
      characters = is_utf8-text_of (head_lines ++ flat_map goroutine_lines gs) fit;
      head = head;
      routines = map routine_of gs;
      lines = sayings-text_of (head_lines ++ flat_map goroutine_lines gs) fit ∙ map-append sentence_of head_lines (flat_map goroutine_lines gs) ∙ ap (λ (l : List Sentence). head ++ l) (sym (lines_of_routines gs));
      heads = head_heads;
      heads_taken = head_taken;
      once = pairs_apart head head_apart;
      names_apart = subst (AllPairs (λ a b. a ≢ b)) (sym head_names) one_name;
      few_types = omega (arith, ap length head_names);
      right = subst (λ (g : Given). All (IsRoutine g (names_by head)) (map routine_of gs)) (sym head_given) (subst (λ (ns : List (List ℕ)). All (IsRoutine given ns) (map routine_of gs)) (sym head_names) (routines_right gs right));
      some_goroutine = omega (arith, length-map gs routine_of, sizes.goroutines);
      few_goroutines = omega (arith, length-map gs routine_of, sizes.goroutines);
      goroutines_apart = names_differ seed size;
      few_statements = omega (arith, sizes.total);
      settings = said_settings seed size ∙ ap settings_in (sym head_given);
      shapes = said_shapes seed size ∙ head_shapes;
      goroutines = sym (goroutines_by gs right) ∙ ap (λ (ns : List (List ℕ)). map (goroutine_by ns) (map routine_of gs)) (sym head_names);
    }
