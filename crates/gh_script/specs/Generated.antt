-- Scripts that are generated from a seed and a size.
use Rattle.std.specs.Prelude.{◌≡◌, ℕ, zero, suc, ◌*◌, ◌/◌, ◌%◌, ◌<◌, ◌≤◌, ◌==◌, false, if◌then◌else◌, nat_lt, List, [], ◌∷◌, ◌++◌, map, codes, decimal, sum_by, All, length}
use Rattle.gh_script.specs.Vocabulary.{flat_map, Gc, GetGlobal, Int, Load, Move, New, Nil, range_with_len, SetGlobal, Settings, Shape, Stmt, Store}
use Rattle.rand_xoshiro.specs.SplitMix64.{mix_u64}
use Rattle.gh_script.specs.Program.{Goroutine, Program, statements_in, statements_of}
use Rattle.gh_script.specs.Grammar.{Spells}

-- ---- words that are drawn

-- the state of SplitMix64 behind n words
unfoldable pub state_behind : ℕ → ℕ → ℕ
state_behind state zero = state
state_behind state (suc n) = (mix_u64 (state_behind state n)).1

-- the word of number n, counted from 0, that it draws
abbrev pub word_drawn : ℕ → ℕ → ℕ
word_drawn state n = (mix_u64 (state_behind state n)).0

-- ---- what a generated script says

-- the statement that goroutine i has by a word: its kind is `word mod 8`
unfoldable pub statement_by : ℕ → ℕ → Stmt
statement_by i word =
    let a = word / 8 % 4 in
    let c = word / 32 % 4 in
    let k = word / 128 % 2 in
    if nat_lt (word % 8) 2 then New a 0 else
    (if word % 8 == 2 then Store a k c else
    (if word % 8 == 3 then Load a c k else
    (if word % 8 == 4 then SetGlobal i a else
    (if word % 8 == 5 then GetGlobal a i else
    (if word % 8 == 6 then Move a c else Nil a)))))

-- the statements that goroutine i has by the next n words
unfoldable pub statements_drawn : ℕ → ℕ → ℕ → List Stmt
statements_drawn state i n = map (λ j. statement_by i (word_drawn state j)) (range_with_len 0 n)

-- its name is g and its number
abbrev pub generated_name : ℕ → List ℕ
generated_name i = codes "g" ++ decimal i

-- goroutine i: `size / 4` statements, by the words behind those of the goroutines before it
abbrev pub generated_goroutine : ℕ → ℕ → ℕ → Goroutine
generated_goroutine seed size i = record { name = generated_name i; statements = statements_drawn (state_behind seed (i * (size / 4))) i (size / 4) }

abbrev pub generated_settings : Settings
generated_settings = record { procs = 4; workers = 2; arena = 1024; globals = 4; gogc = 50; minheap = 65536 }

-- three fields, of which the first two are pointers
abbrev pub node_shape : Shape
node_shape = record { words = 3; noscan = false; bits = 3 ∷ [] }

unfoldable pub generated_program : ℕ → ℕ → Program
generated_program seed size = record { settings = generated_settings; shapes = node_shape ∷ []; goroutines = map (generated_goroutine seed size) (range_with_len 0 4) }

-- ---- how it is written

-- the words of a line with a space between two
unfoldable pub spaced : List (List ℕ) → List ℕ
spaced [] = []
spaced (word ∷ words) = word ++ flat_map (λ w. 32 ∷ w) words

-- lines, each with LF at its end
unfoldable pub text_of : List (List (List ℕ)) → List ℕ
text_of lines = flat_map (λ line. spaced line ++ 10 ∷ []) lines

-- register n
abbrev pub register_word : ℕ → List ℕ
register_word n = codes "r" ++ decimal n

-- the words of a statement, where the one type is `node`
unfoldable pub statement_words : Stmt → List (List ℕ)
statement_words (New d t) = codes "new" ∷ register_word d ∷ codes "node" ∷ []
statement_words (Load d b k) = codes "load" ∷ register_word d ∷ register_word b ∷ decimal k ∷ []
statement_words (Store b k v) = codes "store" ∷ register_word b ∷ decimal k ∷ register_word v ∷ []
statement_words (GetGlobal d k) = codes "gload" ∷ register_word d ∷ decimal k ∷ []
statement_words (SetGlobal k v) = codes "gstore" ∷ decimal k ∷ register_word v ∷ []
statement_words (Int d n) = codes "int" ∷ register_word d ∷ decimal n ∷ []
statement_words (Move d s) = codes "move" ∷ register_word d ∷ register_word s ∷ []
statement_words (Nil d) = codes "nil" ∷ register_word d ∷ []
statement_words Gc = codes "gc" ∷ []

-- the settings and the type
abbrev pub head_lines : List (List (List ℕ))
head_lines =
    (codes "procs" ∷ codes "4" ∷ [])
    ∷ (codes "workers" ∷ codes "2" ∷ [])
    ∷ (codes "arena" ∷ codes "1024" ∷ [])
    ∷ (codes "globals" ∷ codes "4" ∷ [])
    ∷ (codes "gogc" ∷ codes "50" ∷ [])
    ∷ (codes "minheap" ∷ codes "65536" ∷ [])
    ∷ (codes "type" ∷ codes "node" ∷ codes "ppn" ∷ [])
    ∷ []

-- `go` and the name, the statements, and `end`
unfoldable pub goroutine_lines : Goroutine → List (List (List ℕ))
goroutine_lines g = (codes "go" ∷ g.name ∷ []) ∷ (map statement_words g.statements ++ (codes "end" ∷ []) ∷ [])

unfoldable pub generated_text : ℕ → ℕ → List ℕ
generated_text seed size = text_of (head_lines ++ flat_map goroutine_lines (generated_program seed size).goroutines)

-- ---- laws

-- the text of a generated script spells it
abbrev pub GeneratedScriptsSpell : Type 0
GeneratedScriptsSpell = (seed size : ℕ) → size ≤ 200000 → Spells (generated_text seed size) (generated_program seed size)

-- a statement names no global but this one, and no type but the first
abbrev pub KeepsTo : ℕ → Stmt → Type 0
KeepsTo global (New d t) = t ≡ 0
KeepsTo global (GetGlobal d k) = k ≡ global
KeepsTo global (SetGlobal k v) = k ≡ global
KeepsTo global statement = Unit {0}

-- each goroutine of a generated script keeps to the global of its own number
abbrev pub GeneratedGoroutinesKeepApart : Type 0
GeneratedGoroutinesKeepApart = (seed size i : ℕ) → i < 4 → All (KeepsTo i) (statements_of (generated_program seed size) i)

-- four goroutines, with `size / 4` statements each
pub record HasItsSize (size : ℕ) (p : Program) : Type 0 where
  pub goroutines : length p.goroutines ≡ 4
  pub statements : (i : ℕ) → i < 4 → length (statements_of p i) ≡ size / 4
  pub total : sum_by statements_in p.goroutines ≡ 4 * (size / 4)

abbrev pub GeneratedScriptsHaveTheirSize : Type 0
GeneratedScriptsHaveTheirSize = (seed size : ℕ) → HasItsSize size (generated_program seed size)
