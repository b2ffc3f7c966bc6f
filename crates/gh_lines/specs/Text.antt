-- The bytes of the output: each line ends with LF, its words are parted by one space, and its numbers are in decimal digits.
use Rattle.std.specs.Prelude.{ℕ, ◌+◌, ◌<◌, ◌==◌, ⊤, Bool, true, false, if◌then◌else◌, List, [], ◌∷◌, ◌++◌, length, map, codes, decimal}
use Rattle.std.specs.List.{flat_map, range_with_len}
use Rattle.gh_base.specs.declared.value.Answer.{Answer}
use Rattle.gh_base.specs.declared.value.Answer.TheVariants.{Done, Nil, Int, Ref, Swept, Full, Fault}
use Rattle.gh_base.specs.declared.value.Fault as faults
use Rattle.gh_base.specs.declared.value.Fault.TheVariants.{NilBase, Field, Kind}
use Rattle.gh_script.specs.Program.{Program, goroutine_at}
use Rattle.gh_script.specs.declared.fault.Why.{Why}
use Rattle.gh_script.specs.declared.fault.Why.TheVariants.{Size, Utf8, Word, Number, Limit, Twice, Unknown, Nesting, Missing}

-- What a statement answered.

abbrev pub fault_words : faults.Fault → List ℕ
fault_words NilBase = codes "fault nil"
fault_words Field = codes "fault field"
fault_words Kind = codes "fault kind"

-- an answer in words; `maker` is the name of the goroutine that made the object, where the answer is one
abbrev pub answer_words_by : List ℕ → Answer → List ℕ
answer_words_by maker Done = codes "done"
answer_words_by maker Nil = codes "nil"
answer_words_by maker (Int n) = codes "int " ++ decimal n
answer_words_by maker (Ref name) = codes "ref " ++ maker ++ codes "." ++ decimal name.k
answer_words_by maker Swept = codes "swept"
answer_words_by maker Full = codes "full"
answer_words_by maker (Fault fault) = fault_words fault

-- the goroutine that made the object stands in the script
abbrev pub MakerStands : Program → Answer → Type 0
MakerStands p (Ref name) = name.g < length p.goroutines
MakerStands p _ = ⊤

abbrev pub maker_name : Program → Answer → List ℕ
maker_name p (Ref name) = (goroutine_at p name.g).name
maker_name p _ = []

abbrev pub answer_words : Program → Answer → List ℕ
answer_words p answer = answer_words_by (maker_name p answer) answer

-- a line of the goroutine of this name: the n-th statement, and what it answered
abbrev pub numbered_line : List ℕ → ℕ → List ℕ → List ℕ
numbered_line name n words = name ++ codes " " ++ decimal n ++ codes " " ++ words ++ codes "\n"

-- statement n of goroutine g, counted from 1, and what it answered
abbrev pub answer_line : Program → ℕ → ℕ → Answer → List ℕ
answer_line p g n answer = numbered_line (goroutine_at p g).name n (answer_words p answer)

-- what has nothing to tell has no line in the output
abbrev pub has_line : Answer → Bool
has_line Done = false
has_line _ = true

-- the lines of goroutine g, whose statements from number n on answered so
abbrev pub lines_from : Program → ℕ → ℕ → List Answer → List (List ℕ)
lines_from p g n [] = []
lines_from p g n (answer ∷ more) = (if has_line answer then answer_line p g n answer ∷ [] else []) ++ lines_from p g (n + 1) more

-- the answers of goroutine g, among answers each with its goroutine
abbrev pub answers_by : ℕ → List (ℕ × Answer) → List Answer
answers_by g [] = []
answers_by g (x ∷ more) = (if x.0 == g then x.1 ∷ [] else []) ++ answers_by g more

-- the lines of the answers: goroutine by goroutine in script order, each by its own statements
abbrev pub answer_lines : Program → List (ℕ × Answer) → List (List ℕ)
answer_lines p answers = flat_map (λ g. lines_from p g 1 (answers_by g answers)) (range_with_len 0 (length p.goroutines))

-- What is told of a whole run.

abbrev pub cycle_line : ℕ → ℕ → ℕ → List ℕ
cycle_line k marked freed = codes "cycle " ++ decimal k ++ codes " marked " ++ decimal marked ++ codes " freed " ++ decimal freed ++ codes "\n"

abbrev pub credit_line : ℕ → ℕ → ℕ → List ℕ
credit_line earned spent lapsed = codes "credit earned " ++ decimal earned ++ codes " spent " ++ decimal spent ++ codes " lapsed " ++ decimal lapsed ++ codes "\n"

abbrev pub live_line : ℕ → ℕ → List ℕ
live_line objects bytes = codes "live " ++ decimal objects ++ codes " bytes " ++ decimal bytes ++ codes "\n"

-- a swept cycle: its number, and the objects that were kept and those that were freed
pub record SweptCycle : Type 0 where
  pub number : ℕ
  pub marked : ℕ
  pub freed : ℕ

-- what a whole run comes to: the answers, each with its goroutine, the cycles, the words of credit that workers earned, that were spent and that have lapsed, and what is live at the end
pub record Outcome : Type 0 where
  pub answers : List (ℕ × Answer)
  pub cycles : List SweptCycle
  pub earned : ℕ
  pub spent : ℕ
  pub lapsed : ℕ
  pub objects : ℕ
  pub bytes : ℕ

abbrev pub line_of_cycle : SweptCycle → List ℕ
line_of_cycle c = cycle_line c.number c.marked c.freed

-- its lines: those of the answers, one for each cycle, the one of the credit, and the one of what is live
abbrev pub outcome_lines : Program → Outcome → List (List ℕ)
outcome_lines p o = answer_lines p o.answers ++ (map line_of_cycle o.cycles ++ credit_line o.earned o.spent o.lapsed ∷ live_line o.objects o.bytes ∷ [])

abbrev pub turns_line : ℕ → List ℕ
turns_line n = codes "turns " ++ decimal n ++ codes "\n"

abbrev pub statements_line : ℕ → List ℕ
statements_line n = codes "statements " ++ decimal n ++ codes "\n"

abbrev pub agrees_line : List ℕ
agrees_line = codes "agrees\n"

-- Refusals.

abbrev pub why_word : Why → List ℕ
why_word Size = codes "size"
why_word Utf8 = codes "utf8"
why_word Word = codes "word"
why_word Number = codes "number"
why_word Limit = codes "limit"
why_word Twice = codes "twice"
why_word Unknown = codes "unknown"
why_word Nesting = codes "nesting"
why_word Missing = codes "missing"

-- a text that is refused: its first line that is at fault, and the cause in one word
abbrev pub bad_text_line : ℕ → List ℕ → List ℕ
bad_text_line line why = codes "line " ++ decimal line ++ codes ": " ++ why ++ codes "\n"

abbrev pub refusal_line : ℕ → Why → List ℕ
refusal_line line why = bad_text_line line (why_word why)

abbrev pub words_refused_line : List ℕ
words_refused_line = codes "words refused\n"
