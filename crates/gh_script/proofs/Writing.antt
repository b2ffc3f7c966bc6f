-- The text of a generated script as it is written, line by line.
use Rattle.std.proofs.Common.{◌≡◌, ℕ, zero, suc, ◌+◌, ◌*◌, ◌/◌, List, [], ◌∷◌, ◌++◌, map, Result, refl, sym, ap, ◌∙◌, append_assoc, append-nil, arith, decimal, codes, OnOk}
use Rattle.std.proofs.lemmas.Grind.{flat_map-append}
use Rattle.gh_script.proofs.Vocabulary.{flat_map, generated_goroutine, generated_name, generated_program, generated_text, Goroutine, goroutine_lines, head_lines, map-append, map-range_with_len_more, range_with_len, spaced, state_behind, statement_by, statement_words, statements_drawn, Stmt, text_of, word_drawn}
use Rattle.rand_xoshiro.specs.SplitMix64.{mix_u64}

state_behind-suc : (state n : ℕ) → state_behind state (suc n) ≡ (mix_u64 (state_behind state n)).1
unfolding state_behind
state_behind-suc state n = refl

pub state_behind-next : (state n drawn new : ℕ) → drawn ≡ state_behind state n → new ≡ (mix_u64 drawn).1 → new ≡ state_behind state (n + 1)
state_behind-next state n drawn new at moved =
    let more : suc n ≡ n + 1 = omega arith in
    moved ∙ ap (λ (s : ℕ). (mix_u64 s).1) at ∙ sym (state_behind-suc state n) ∙ ap (state_behind state) more

state_behind-both : (state a b : ℕ) → state_behind (state_behind state a) b ≡ state_behind state (a + b)
unfolding state_behind
state_behind-both state a zero = let same : a ≡ a + 0 = omega arith in ap (state_behind state) same
state_behind-both state a (suc b) =
    let more : suc (a + b) ≡ a + suc b = omega arith in
    ap (λ (s : ℕ). (mix_u64 s).1) (state_behind-both state a b) ∙ sym (state_behind-suc state (a + b)) ∙ ap (state_behind state) more

statements_more : (state i n : ℕ) → statements_drawn state i (n + 1) ≡ statements_drawn state i n ++ statement_by i (word_drawn state n) ∷ []
unfolding statements_drawn
statements_more state i n = map-range_with_len_more (λ j. statement_by i (word_drawn state j)) 0 n n (omega arith)

text_of-append : (some more : List (List (List ℕ))) → text_of (some ++ more) ≡ text_of some ++ text_of more
unfolding text_of
text_of-append some more = flat_map-append (λ line. spaced line ++ 10 ∷ []) some more

text_of-one : (line : List (List ℕ)) → text_of (line ∷ []) ≡ spaced line ++ 10 ∷ []
unfolding text_of
text_of-one line = append-nil (spaced line ++ 10 ∷ [])

text_of-first : (line : List (List ℕ)) (lines : List (List (List ℕ))) → text_of (line ∷ lines) ≡ (spaced line ++ 10 ∷ []) ++ text_of lines
unfolding text_of
text_of-first line lines = refl

-- ---- the line of a statement

behind : (a s t : List ℕ) → s ≡ t ++ 10 ∷ [] → a ++ s ≡ (a ++ t) ++ 10 ∷ []
behind a s t h = ap (λ (l : List ℕ). a ++ l) h ∙ sym (append_assoc a t (10 ∷ []))

last : (a : List ℕ) → a ++ 10 ∷ [] ≡ (a ++ []) ++ 10 ∷ []
last a = ap (λ (l : List ℕ). l ++ 10 ∷ []) (sym (append-nil a))

two_last : (a between b : List ℕ) → a ++ (between ++ (b ++ 10 ∷ [])) ≡ (a ++ (between ++ (b ++ []))) ++ 10 ∷ []
two_last a between b = behind a (between ++ (b ++ 10 ∷ [])) (between ++ (b ++ [])) (behind between (b ++ 10 ∷ []) (b ++ []) (last b))

three_last : (a one b other c : List ℕ) → a ++ (one ++ (b ++ (other ++ (c ++ 10 ∷ [])))) ≡ (a ++ (one ++ (b ++ (other ++ (c ++ []))))) ++ 10 ∷ []
three_last a one b other c =
    behind a (one ++ (b ++ (other ++ (c ++ 10 ∷ [])))) (one ++ (b ++ (other ++ (c ++ [])))) (behind one (b ++ (other ++ (c ++ 10 ∷ []))) (b ++ (other ++ (c ++ []))) (two_last b other c))

pub new_line : (d t : ℕ) → codes "new r" ++ (decimal d ++ codes " node\n") ≡ spaced (statement_words (Stmt.New d t)) ++ 10 ∷ []
unfolding spaced statement_words
new_line d t = ap (λ (l : List ℕ). codes "new r" ++ l) (behind (decimal d) (codes " node\n") (codes " node") refl)

pub load_line : (d b k : ℕ) → codes "load r" ++ (decimal d ++ (codes " r" ++ (decimal b ++ (codes " " ++ (decimal k ++ 10 ∷ []))))) ≡ spaced (statement_words (Stmt.Load d b k)) ++ 10 ∷ []
unfolding spaced statement_words
load_line d b k = ap (λ (l : List ℕ). codes "load r" ++ l) (three_last (decimal d) (codes " r") (decimal b) (codes " ") (decimal k))

pub store_line : (b k v : ℕ) → codes "store r" ++ (decimal b ++ (codes " " ++ (decimal k ++ (codes " r" ++ (decimal v ++ 10 ∷ []))))) ≡ spaced (statement_words (Stmt.Store b k v)) ++ 10 ∷ []
unfolding spaced statement_words
store_line b k v = ap (λ (l : List ℕ). codes "store r" ++ l) (three_last (decimal b) (codes " ") (decimal k) (codes " r") (decimal v))

pub get_line : (d k : ℕ) → codes "gload r" ++ (decimal d ++ (codes " " ++ (decimal k ++ 10 ∷ []))) ≡ spaced (statement_words (Stmt.GetGlobal d k)) ++ 10 ∷ []
unfolding spaced statement_words
get_line d k = ap (λ (l : List ℕ). codes "gload r" ++ l) (two_last (decimal d) (codes " ") (decimal k))

pub set_line : (k v : ℕ) → codes "gstore " ++ (decimal k ++ (codes " r" ++ (decimal v ++ 10 ∷ []))) ≡ spaced (statement_words (Stmt.SetGlobal k v)) ++ 10 ∷ []
unfolding spaced statement_words
set_line k v = ap (λ (l : List ℕ). codes "gstore " ++ l) (two_last (decimal k) (codes " r") (decimal v))

pub int_line : (d n : ℕ) → codes "int r" ++ (decimal d ++ (codes " " ++ (decimal n ++ 10 ∷ []))) ≡ spaced (statement_words (Stmt.Int d n)) ++ 10 ∷ []
unfolding spaced statement_words
int_line d n = ap (λ (l : List ℕ). codes "int r" ++ l) (two_last (decimal d) (codes " ") (decimal n))

pub move_line : (d s : ℕ) → codes "move r" ++ (decimal d ++ (codes " r" ++ (decimal s ++ 10 ∷ []))) ≡ spaced (statement_words (Stmt.Move d s)) ++ 10 ∷ []
unfolding spaced statement_words
move_line d s = ap (λ (l : List ℕ). codes "move r" ++ l) (two_last (decimal d) (codes " r") (decimal s))

pub nil_line : (d : ℕ) → codes "nil r" ++ (decimal d ++ codes "\n") ≡ spaced (statement_words (Stmt.Nil d)) ++ 10 ∷ []
unfolding spaced statement_words
nil_line d = ap (λ (l : List ℕ). codes "nil r" ++ l) (last (decimal d))

pub gc_line : codes "gc\n" ≡ spaced (statement_words Stmt.Gc) ++ 10 ∷ []
unfolding spaced statement_words
gc_line = refl

-- where memory was had, the line of the statement was appended
pub line_written : {T E : Type 0} (r : Result T E) (old new line : List ℕ) (statement this : Stmt) → statement ≡ this → OnOk r (new ≡ old ++ line) → line ≡ spaced (statement_words this) ++ 10 ∷ [] → OnOk r (new ≡ old ++ (spaced (statement_words statement) ++ 10 ∷ []))
line_written r old new line statement this is wrote same = grind arith

-- ---- the statements of a goroutine

pub no_word : (state : ℕ) → state ≡ state_behind state 0
unfolding state_behind
no_word state = refl

-- no statement yet
pub none_written : (text : List ℕ) (state i : ℕ) → text ≡ text ++ text_of (map statement_words (statements_drawn state i 0))
unfolding text_of statements_drawn
none_written text state i = sym (append-nil text)

-- one more statement
pub one_written : (old text new : List ℕ) (state i n drawn word : ℕ) (statement : Stmt) → text ≡ old ++ text_of (map statement_words (statements_drawn state i n)) → drawn ≡ state_behind state n → word ≡ (mix_u64 drawn).0
    → statement ≡ statement_by i word → new ≡ text ++ (spaced (statement_words statement) ++ 10 ∷ []) → new ≡ old ++ text_of (map statement_words (statements_drawn state i (n + 1)))
one_written old text new state i n drawn word statement before at is by wrote =
    let lines : List (List (List ℕ)) = map statement_words (statements_drawn state i n) in
    let line : List (List ℕ) = statement_words (statement_by i (word_drawn state n)) in
    let same : word ≡ word_drawn state n = is ∙ ap (λ (s : ℕ). (mix_u64 s).0) at in
    let more : map statement_words (statements_drawn state i (n + 1)) ≡ lines ++ line ∷ [] =
    ap (map statement_words) (statements_more state i n) ∙ map-append statement_words (statements_drawn state i n) (statement_by i (word_drawn state n) ∷ []) in
    wrote ∙ ap (λ (s : Stmt). text ++ (spaced (statement_words s) ++ 10 ∷ [])) (by ∙ ap (statement_by i) same) ∙ ap (λ (t : List ℕ). t ++ (spaced line ++ 10 ∷ [])) before ∙ append_assoc old (text_of lines) (spaced line ++ 10 ∷ [])
    ∙ ap (λ (t : List ℕ). old ++ (text_of lines ++ t)) (sym (text_of-one line)) ∙ ap (λ (t : List ℕ). old ++ t) (sym (text_of-append lines (line ∷ []))) ∙ ap (λ (l : List (List (List ℕ))). old ++ text_of l) (sym more)

name_line : (i : ℕ) → codes "go g" ++ decimal i ≡ spaced (codes "go" ∷ generated_name i ∷ [])
unfolding spaced
name_line i = ap (λ (t : List ℕ). codes "go g" ++ t) (sym (append-nil (decimal i)))

end_line : codes "end\n" ≡ spaced (codes "end" ∷ []) ++ 10 ∷ []
unfolding spaced
end_line = refl

-- a goroutine
goroutine_written : (old named begun said new : List ℕ) (i : ℕ) (statements : List Stmt) → named ≡ old ++ (codes "go g" ++ decimal i) → begun ≡ named ++ codes "\n" → said ≡ begun ++ text_of (map statement_words statements)
    → new ≡ said ++ codes "end\n" → new ≡ old ++ text_of (goroutine_lines (record { name = generated_name i; statements = statements }))
unfolding goroutine_lines
goroutine_written old named begun said new i statements a b c d =
    let first : List (List ℕ) = codes "go" ∷ generated_name i ∷ [] in
    let last : List (List ℕ) = codes "end" ∷ [] in
    let lines : List (List (List ℕ)) = map statement_words statements in
    let one : begun ≡ old ++ (spaced first ++ 10 ∷ []) = b ∙ ap (λ (t : List ℕ). t ++ 10 ∷ []) (a ∙ ap (λ (t : List ℕ). old ++ t) (name_line i)) ∙ append_assoc old (spaced first) (10 ∷ []) in
    let two : said ≡ old ++ ((spaced first ++ 10 ∷ []) ++ text_of lines) = c ∙ ap (λ (t : List ℕ). t ++ text_of lines) one ∙ append_assoc old (spaced first ++ 10 ∷ []) (text_of lines) in
    let three : new ≡ old ++ (((spaced first ++ 10 ∷ []) ++ text_of lines) ++ text_of (last ∷ [])) =
    d ∙ ap (λ (t : List ℕ). t ++ codes "end\n") two ∙ append_assoc old ((spaced first ++ 10 ∷ []) ++ text_of lines) (codes "end\n") ∙ ap (λ (t : List ℕ). old ++ (((spaced first ++ 10 ∷ []) ++ text_of lines) ++ t)) (end_line ∙ sym (text_of-one last)) in
    three ∙ ap (λ (t : List ℕ). old ++ t) (append_assoc (spaced first ++ 10 ∷ []) (text_of lines) (text_of (last ∷ [])) ∙ ap (λ (t : List ℕ). (spaced first ++ 10 ∷ []) ++ t) (sym (text_of-append lines (last ∷ []))) ∙ sym (text_of-first first (lines ++ last ∷ [])))

-- where memory was had, the goroutine was appended
pub goroutine_ended : {T E : Type 0} (r : Result T E) (old named begun said new : List ℕ) (i : ℕ) (statements : List Stmt) → named ≡ old ++ (codes "go g" ++ decimal i) → begun ≡ named ++ codes "\n" → said ≡ begun ++ text_of (map statement_words statements)
    → OnOk r (new ≡ said ++ codes "end\n") → OnOk r (new ≡ old ++ text_of (goroutine_lines (record { name = generated_name i; statements = statements })))
goroutine_ended r old named begun said new i statements a b c d = grind (arith, goroutine_written)

-- ---- all goroutines

-- the lines up to goroutine i
abbrev pub lines_before : ℕ → ℕ → ℕ → List (List (List ℕ))
lines_before seed size i = head_lines ++ flat_map goroutine_lines (map (generated_goroutine seed size) (range_with_len 0 i))

head_written : (seed size : ℕ) → codes "procs 4\nworkers 2\narena 1024\nglobals 4\ngogc 50\nminheap 65536\ntype node ppn\n" ≡ text_of (lines_before seed size 0)
unfolding text_of spaced
head_written seed size = refl

pub begun_written : (seed size : ℕ) (text new : List ℕ) → text ≡ [] → new ≡ text ++ codes "procs 4\nworkers 2\narena 1024\nglobals 4\ngogc 50\nminheap 65536\ntype node ppn\n" → new ≡ text_of (lines_before seed size 0)
begun_written seed size text new none wrote = wrote ∙ ap (λ (t : List ℕ). t ++ codes "procs 4\nworkers 2\narena 1024\nglobals 4\ngogc 50\nminheap 65536\ntype node ppn\n") none ∙ head_written seed size

pub first_state : (seed size drawn : ℕ) → drawn ≡ seed → drawn ≡ state_behind seed (0 * (size / 4))
first_state seed size drawn same = let none : 0 ≡ 0 * (size / 4) = omega arith in same ∙ no_word seed ∙ ap (state_behind seed) none

-- one more goroutine
pub next_written : (seed size i drawn : ℕ) (text new : List ℕ) → text ≡ text_of (lines_before seed size i) → drawn ≡ state_behind seed (i * (size / 4))
    → new ≡ text ++ text_of (goroutine_lines (record { name = generated_name i; statements = statements_drawn drawn i (size / 4) })) → new ≡ text_of (lines_before seed size (i + 1))
next_written seed size i drawn text new before at wrote =
    let gs : List Goroutine = map (generated_goroutine seed size) (range_with_len 0 i) in
    let one : Goroutine = generated_goroutine seed size i in
    let more : flat_map goroutine_lines (map (generated_goroutine seed size) (range_with_len 0 (i + 1))) ≡ flat_map goroutine_lines gs ++ goroutine_lines one =
    ap (flat_map goroutine_lines) (map-range_with_len_more (generated_goroutine seed size) 0 i i (omega arith)) ∙ flat_map-append goroutine_lines gs (one ∷ []) ∙ ap (λ (l : List (List (List ℕ))). flat_map goroutine_lines gs ++ l) (append-nil (goroutine_lines one)) in
    wrote ∙ ap (λ (s : ℕ). text ++ text_of (goroutine_lines (record { name = generated_name i; statements = statements_drawn s i (size / 4) }))) at ∙ ap (λ (t : List ℕ). t ++ text_of (goroutine_lines one)) before
    ∙ sym (text_of-append (lines_before seed size i) (goroutine_lines one)) ∙ ap text_of (append_assoc head_lines (flat_map goroutine_lines gs) (goroutine_lines one) ∙ ap (λ (l : List (List (List ℕ))). head_lines ++ l) (sym more))

pub next_state : (seed size i drawn new : ℕ) → drawn ≡ state_behind seed (i * (size / 4)) → new ≡ state_behind drawn (size / 4) → new ≡ state_behind seed ((i + 1) * (size / 4))
next_state seed size i drawn new at moved = grind (arith, state_behind-both)

pub all_written : (seed size : ℕ) (text : List ℕ) → text ≡ text_of (lines_before seed size 4) → text ≡ generated_text seed size
unfolding generated_text generated_program
all_written seed size text h = h
