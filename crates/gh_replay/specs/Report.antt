-- What a replay reports: what its run comes to, and in which order the lines stand.
use Rattle.std.specs.Prelude.{◌≡◌, ℕ, ◌+◌, if◌then◌else◌, Bool, List, [], ◌∷◌, ◌++◌, length, Option, is_some}
use Rattle.gh_replay.specs.Vocabulary.{agrees_line, Answer, answers_by, concat, Entry, flat_map, has_line, IsExplained, Layout, Lists, Op, Outcome, outcome_lines, Program, range_with_len}
use Rattle.gh_replay.specs.declared.row.Row.{Row}

-- what a whole run comes to, how many goroutines the script has, and the heap that never frees, where that was run beside it
pub record ReportState : Type 0 where
  pub goroutines : ℕ
  pub outcome : Outcome
  pub ever : Option Lists

-- The report is of a whole run of this script, whoever stepped when: goroutine by goroutine its answers are those that an explained list of steps comes to.
pub record IsReportOf (p : Program) (report : ReportState) : Type 0 where
  pub goroutines_are : report.goroutines ≡ length p.goroutines
  pub layout : Layout
  pub steps : List (Entry Op)
  pub outcome : Outcome
  pub explained : IsExplained p layout steps outcome
  pub answers : (g : ℕ) → answers_by g report.outcome.answers ≡ answers_by g outcome.answers

-- the lines of a replay: those of what its run comes to, and where it was checked the line `agrees` behind them, which is all that a check has to say
abbrev pub replay_lines : Program → Outcome → (checked : Bool) → List (List ℕ)
replay_lines p outcome checked = outcome_lines p outcome ++ (if checked then agrees_line ∷ [] else [])

-- and their text
abbrev pub replay_text : Program → Outcome → (checked : Bool) → List ℕ
replay_text p outcome checked = concat (replay_lines p outcome checked)

-- it was run beside it
abbrev pub is_checked : ReportState → Bool
is_checked report = is_some report.ever

-- Of the code's own.

-- the answers that have a line, of goroutine g's statements from number n on
abbrev pub rows_from : ℕ → ℕ → List Answer → List Row
rows_from g n [] = []
rows_from g n (a ∷ more) = (if has_line a then record { g = g; n = n; answer = a } ∷ [] else []) ++ rows_from g (n + 1) more

-- those of so many goroutines, one after the other
abbrev pub rows_of : ℕ → List (ℕ × Answer) → List Row
rows_of goroutines answers = flat_map (λ g. rows_from g 1 (answers_by g answers)) (range_with_len 0 goroutines)
