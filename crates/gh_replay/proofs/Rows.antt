-- The rows of answers, one after the other, and their lines.
use Rattle.std.proofs.Common.{◌≡◌, ℕ, ◌+◌, ◌-◌, ◌<◌, ◌≤◌, zero, suc, Bool, true, false, cond, eqb, nat_lt, List, [], ◌∷◌, ◌++◌, map, length, get_or, take, drop, Some, slice_get, refl, sym, ap, subst, ◌∙◌, arith, append_assoc, take-append-drop}
use Rattle.std.proofs.lemmas.Bool.{eq-eqb}
use Rattle.std.proofs.lemmas.List.{length-append, append-nil, map-append}
use Rattle.gh_replay.proofs.Vocabulary.{AllByRecursion, Answer, answer_line, answer_lines, answers_by, credit_line, Cycle, cycle_line, flat_map, get_or-append_right, get_or_append_left, get_or_from_slice_get, has_line, IsReportOf, length-map, line_of_cycle, lines_from, live_line, MakerStands, nat_tests, option_map, outcome_lines, Program, range_with_len, ReportState, rows_from, rows_of, slice_get-get_or, slice_get-map, slice_get_within, swept_cycle, SweptCycle, take_more}
use Rattle.gh_world.specs.declared.event.Totals.{Totals}
use Rattle.gh_replay.specs.declared.row.Row.{Row}
use Rattle.gh_replay.proofs.Owning.{answers_stand}

-- ---- the lines of rows

abbrev pub line_of : Program → Row → List ℕ
line_of p r = answer_line p r.g r.n r.answer

abbrev row : ℕ → ℕ → Answer → Row
row g n a = record { g = g; n = n; answer = a }

lines-from : (p : Program) (g n : ℕ) (xs : List Answer) → lines_from p g n xs ≡ map (line_of p) (rows_from g n xs)
lines-from p g n [] = refl
lines-from p g n (x ∷ xs) = go (has_line x) (lines-from p g (n + 1) xs) where
  go : (b : Bool) → lines_from p g (n + 1) xs ≡ map (line_of p) (rows_from g (n + 1) xs) → cond b (answer_line p g n x ∷ []) [] ++ lines_from p g (n + 1) xs ≡ map (line_of p) (cond b (row g n x ∷ []) [] ++ rows_from g (n + 1) xs)
  go true more = ap (λ (ls : List (List ℕ)). answer_line p g n x ∷ ls) more
  go false more = more

lines-all : (p : Program) (xs : List (ℕ × Answer)) (gs : List ℕ) → flat_map (λ g. lines_from p g 1 (answers_by g xs)) gs ≡ map (line_of p) (flat_map (λ g. rows_from g 1 (answers_by g xs)) gs)
lines-all p xs [] = refl
lines-all p xs (g ∷ gs) =
    ap (λ (ls : List (List ℕ)). ls ++ flat_map (λ h. lines_from p h 1 (answers_by h xs)) gs) (lines-from p g 1 (answers_by g xs))
    ∙ ap (λ (ls : List (List ℕ)). map (line_of p) (rows_from g 1 (answers_by g xs)) ++ ls) (lines-all p xs gs)
    ∙ sym (map-append (line_of p) (rows_from g 1 (answers_by g xs)) (flat_map (λ h. rows_from h 1 (answers_by h xs)) gs))

-- the lines of a report are those of its rows
pub lines-are : (p : Program) (report : ReportState) → IsReportOf p report → answer_lines p report.outcome.answers ≡ map (line_of p) (rows_of report.goroutines report.outcome.answers)
lines-are p report r = grind (arith, lines-all)

pub lines-long : (p : Program) (report : ReportState) → IsReportOf p report → length (answer_lines p report.outcome.answers) ≡ length (rows_of report.goroutines report.outcome.answers)
lines-long p report r = ap length (lines-are p report r) ∙ length-map _ (line_of p)

-- ---- each row has a line

abbrev pub HasLine : Program → ℕ → Row → Type 0
HasLine p n r = (r.g < n) × MakerStands p r.answer × (has_line r.answer ≡ true)

all-append : (P : Row → Type 0) (xs ys : List Row) → AllByRecursion P xs → AllByRecursion P ys → AllByRecursion P (xs ++ ys)
all-append P [] ys h k = k
all-append P (x ∷ xs) ys h k = (h.0, all-append P xs ys h.1 k)

all-at : (P : Row → Type 0) (xs : List Row) (i : ℕ) (d : Row) → AllByRecursion P xs → i < length xs → P (get_or xs i d)
all-at P [] i d h l = absurd (omega arith)
all-at P (x ∷ xs) zero d h l = h.0
all-at P (x ∷ xs) (suc i) d h l = all-at P xs i d h.1 (omega arith)

by-stand : (p : Program) (g : ℕ) (xs : List (ℕ × Answer)) → AllByRecursion (λ (x : ℕ × Answer). MakerStands p x.1) xs → AllByRecursion (MakerStands p) (answers_by g xs)
by-stand p g [] h = tt
by-stand p g (x ∷ xs) h = go (eqb x.0 g) (by-stand p g xs h.1) where
  go : (b : Bool) → AllByRecursion (MakerStands p) (answers_by g xs) → AllByRecursion (MakerStands p) (cond b (x.1 ∷ []) [] ++ answers_by g xs)
  go true more = (h.0, more)
  go false more = more

from-lined : (p : Program) (m g n : ℕ) (xs : List Answer) → g < m → AllByRecursion (MakerStands p) xs → AllByRecursion (HasLine p m) (rows_from g n xs)
from-lined p m g n [] l h = tt
from-lined p m g n (x ∷ xs) l h = go (has_line x) refl (from-lined p m g (n + 1) xs l h.1) where
  go : (b : Bool) → has_line x ≡ b → AllByRecursion (HasLine p m) (rows_from g (n + 1) xs) → AllByRecursion (HasLine p m) (cond b (row g n x ∷ []) [] ++ rows_from g (n + 1) xs)
  go true e more = ((l, h.0, e), more)
  go false e more = more

all-lined : (p : Program) (m g n : ℕ) (xs : List (ℕ × Answer)) → g + n ≡ m → AllByRecursion (λ (x : ℕ × Answer). MakerStands p x.1) xs → AllByRecursion (HasLine p m) (flat_map (λ h. rows_from h 1 (answers_by h xs)) (range_with_len g n))
all-lined p m g zero xs e h = tt
all-lined p m g (suc n) xs e h =
    all-append (HasLine p m) (rows_from g 1 (answers_by g xs)) (flat_map (λ h. rows_from h 1 (answers_by h xs)) (range_with_len (g + 1) n))
    (from-lined p m g 1 (answers_by g xs) (omega arith) (by-stand p g xs h)) (all-lined p m (g + 1) n xs (omega arith) h)

-- what is seen of a report that holds these rows is this
module _ (p : Program) (report seen : ReportState) (rows : List Row) (i : ℕ) (r : IsReportOf p report) (are : rows ≡ rows_of seen.goroutines seen.outcome.answers) (is : seen ≡ report) where
  rows-are : rows ≡ rows_of report.goroutines report.outcome.answers
  rows-are = are ∙ ap (λ (s : ReportState). rows_of s.goroutines s.outcome.answers) is

  pub rows-long : length (answer_lines p report.outcome.answers) ≡ length rows
  rows-long = lines-long p report r ∙ ap length (sym rows-are)

  -- the row that is found has a line
  pub row-lined : (x : Row) → i < length (answer_lines p report.outcome.answers) → x ≡ get_or rows i x → HasLine p (length p.goroutines) x
  row-lined x below found =
      let n : report.goroutines ≡ length p.goroutines = r.goroutines_are in
      let each : AllByRecursion (HasLine p (length p.goroutines)) (rows_of report.goroutines report.outcome.answers) = all-lined p (length p.goroutines) 0 report.goroutines report.outcome.answers (omega (arith, n)) (answers_stand p report r) in
      subst (HasLine p (length p.goroutines)) (sym found)
      (all-at (HasLine p (length p.goroutines)) rows i x (subst (AllByRecursion (HasLine p (length p.goroutines))) (sym rows-are) each) (omega (arith, below, rows-long)))

  -- and that is the report's line
  pub line-at : (x : Row) (line : List ℕ) → i < length (answer_lines p report.outcome.answers) → x ≡ get_or rows i x → line ≡ line_of p x → slice_get (answer_lines p report.outcome.answers) i ≡ Some line
  line-at x line below found e =
      let some : slice_get rows i ≡ Some (get_or rows i x) = slice_get-get_or rows i x (omega (arith, below, rows-long)) in
      ap (λ (ls : List (List ℕ)). slice_get ls i) (lines-are p report r ∙ ap (map (line_of p)) (sym rows-are))
      ∙ slice_get-map (line_of p) rows i ∙ rw some (ap Some (ap (line_of p) (sym found) ∙ sym e))

-- ---- all lines

abbrev pub told : List Cycle → List SweptCycle
told cycles = map swept_cycle cycles

-- what is seen of a report that holds these rows, these cycles and these totals is this
module _ (p : Program) (report seen : ReportState) (rows : List Row) (cycles : List Cycle) (totals : Totals) (i : ℕ) (r : IsReportOf p report) (are : rows ≡ rows_of seen.goroutines seen.outcome.answers) (is : seen ≡ report) (kept : told cycles ≡ seen.outcome.cycles) (credit : (totals.earned ≡ seen.outcome.earned) × (totals.spent ≡ seen.outcome.spent) × (totals.lapsed ≡ seen.outcome.lapsed)) (live : (totals.objects ≡ seen.outcome.objects) × (totals.live ≡ seen.outcome.bytes)) where
  abbrev first : List (List ℕ)
  first = answer_lines p report.outcome.answers

  abbrev last : List (List ℕ)
  last = credit_line report.outcome.earned report.outcome.spent report.outcome.lapsed ∷ live_line report.outcome.objects report.outcome.bytes ∷ []

  cycles_are : report.outcome.cycles ≡ told cycles
  cycles_are = ap (λ (s : ReportState). s.outcome.cycles) (sym is) ∙ sym kept

  cycles_long : length (map line_of_cycle report.outcome.cycles) ≡ length cycles
  cycles_long = length-map report.outcome.cycles line_of_cycle ∙ ap length cycles_are ∙ length-map cycles swept_cycle

  pub all-long : length (outcome_lines p report.outcome) ≡ length rows + length cycles + 2
  all-long =
      let a = length-append first (map line_of_cycle report.outcome.cycles ++ last) in
      let b = length-append (map line_of_cycle report.outcome.cycles) last in
      omega (arith, a, b, cycles_long, rows-long p report seen rows i r are is)

  pub all-answer : (line : List ℕ) → i < length first → slice_get first i ≡ Some line → slice_get (outcome_lines p report.outcome) i ≡ Some line
  all-answer line lt e =
      let low : i < length (outcome_lines p report.outcome) = let a = length-append first (map line_of_cycle report.outcome.cycles ++ last) in omega (arith, a, lt) in
      slice_get-get_or (outcome_lines p report.outcome) i [] low ∙ ap Some (get_or_append_left first (map line_of_cycle report.outcome.cycles ++ last) [] i lt ∙ get_or_from_slice_get first i line [] e)

  behind : length rows ≤ i → get_or (outcome_lines p report.outcome) i [] ≡ get_or (map line_of_cycle report.outcome.cycles ++ last) (i - length rows) []
  behind high = get_or-append_right first (map line_of_cycle report.outcome.cycles ++ last) (length rows) i [] (rows-long p report seen rows i r are is) high

  pub all-cycle : (c : Cycle) (line : List ℕ) → length rows ≤ i → slice_get cycles (i - length rows) ≡ Some c → line ≡ cycle_line c.k c.marked c.freed → slice_get (outcome_lines p report.outcome) i ≡ Some line
  all-cycle c line high e said =
      let lt : i - length rows < length cycles = slice_get_within cycles (i - length rows) c e in
      let low : i < length (outcome_lines p report.outcome) = omega (arith, all-long, lt, high) in
      let here : i - length rows < length (map line_of_cycle report.outcome.cycles) = omega (arith, lt, cycles_long) in
      let at : slice_get (map line_of_cycle report.outcome.cycles) (i - length rows) ≡ Some (line_of_cycle (swept_cycle c)) =
      slice_get-map line_of_cycle report.outcome.cycles (i - length rows) ∙ ap (λ (xs : List SweptCycle). option_map line_of_cycle (slice_get xs (i - length rows))) cycles_are ∙ ap (option_map line_of_cycle) (slice_get-map swept_cycle cycles (i - length rows) ∙ ap (option_map swept_cycle) e) in
      slice_get-get_or (outcome_lines p report.outcome) i [] low
      ∙ ap Some (behind high ∙ get_or_append_left (map line_of_cycle report.outcome.cycles) last [] (i - length rows) here ∙ get_or_from_slice_get (map line_of_cycle report.outcome.cycles) (i - length rows) (line_of_cycle (swept_cycle c)) [] at ∙ sym said)

  -- behind the cycles' lines stand the last
  all-last : (n : ℕ) → n < 2 → length rows ≤ i → i - length rows ≡ length cycles + n → slice_get (outcome_lines p report.outcome) i ≡ Some (get_or last n [])
  all-last n few high at =
      let past : length cycles ≤ i - length rows = omega (arith, at) in
      let seam : i - length rows - length cycles ≡ n = omega (arith, at) in
      slice_get-get_or (outcome_lines p report.outcome) i [] (omega (arith, all-long, high, at, few))
      ∙ ap Some (behind high ∙ get_or-append_right (map line_of_cycle report.outcome.cycles) last (length cycles) (i - length rows) [] cycles_long past ∙ ap (λ (k : ℕ). get_or last k []) seam)

  pub all-credit : (line : List ℕ) → length rows ≤ i → i - length rows ≡ length cycles → line ≡ credit_line totals.earned totals.spent totals.lapsed → slice_get (outcome_lines p report.outcome) i ≡ Some line
  all-credit line high at said =
      let e : totals.earned ≡ report.outcome.earned = credit.0 ∙ ap (λ (s : ReportState). s.outcome.earned) is in
      let s : totals.spent ≡ report.outcome.spent = credit.1 ∙ ap (λ (s : ReportState). s.outcome.spent) is in
      let l : totals.lapsed ≡ report.outcome.lapsed = credit.2 ∙ ap (λ (s : ReportState). s.outcome.lapsed) is in
      all-last 0 (omega arith) high (omega (arith, at)) ∙ ap Some (sym (rw (sym e, sym s, sym l) said))

  pub all-live : (line : List ℕ) → length rows ≤ i → i - length rows ≡ length cycles + 1 → line ≡ live_line totals.objects totals.live → slice_get (outcome_lines p report.outcome) i ≡ Some line
  all-live line high at said =
      let o : totals.objects ≡ report.outcome.objects = live.0 ∙ ap (λ (s : ReportState). s.outcome.objects) is in
      let b : totals.live ≡ report.outcome.bytes = live.1 ∙ ap (λ (s : ReportState). s.outcome.bytes) is in
      all-last 1 (omega arith) high at ∙ ap Some (sym (rw (sym o, sym b) said))

-- ---- the answers of one goroutine

by-append : (g : ℕ) (xs ys : List (ℕ × Answer)) → answers_by g (xs ++ ys) ≡ answers_by g xs ++ answers_by g ys
by-append g [] ys = refl
by-append g (x ∷ xs) ys =
    let here : List Answer = cond (eqb x.0 g) (x.1 ∷ []) [] in
    ap (λ (rest : List Answer). here ++ rest) (by-append g xs ys) ∙ sym (append_assoc here (answers_by g xs) (answers_by g ys))

by-more : (g i : ℕ) (xs : List (ℕ × Answer)) (d : ℕ × Answer) → i < length xs → answers_by g (take (i + 1) xs) ≡ answers_by g (take i xs) ++ answers_by g (get_or xs i d ∷ [])
by-more g i xs d l = ap (answers_by g) (take_more xs i d l) ∙ by-append g (take i xs) (get_or xs i d ∷ [])

-- the next answer is another goroutine's
pub by-other : (g i : ℕ) (xs : List (ℕ × Answer)) (d : ℕ × Answer) → i < length xs → ((get_or xs i d).0 ≡ g → ⊥) → answers_by g (take (i + 1) xs) ≡ answers_by g (take i xs)
by-other g i xs d l other =
    let apart : eqb (get_or xs i d).0 g ≡ false = grind (arith, nat_tests) in
    by-more g i xs d l ∙ ap (λ (b : Bool). answers_by g (take i xs) ++ (cond b ((get_or xs i d).1 ∷ []) [] ++ [])) apart ∙ append-nil (answers_by g (take i xs))

-- it is the goroutine's
pub by-mine : (g i : ℕ) (xs : List (ℕ × Answer)) (d : ℕ × Answer) → i < length xs → (get_or xs i d).0 ≡ g → answers_by g (take (i + 1) xs) ≡ answers_by g (take i xs) ++ (get_or xs i d).1 ∷ []
by-mine g i xs d l mine =
    let same : eqb (get_or xs i d).0 g ≡ true = eq-eqb (get_or xs i d).0 g mine in
    by-more g i xs d l ∙ ap (λ (b : Bool). answers_by g (take i xs) ++ (cond b ((get_or xs i d).1 ∷ []) [] ++ [])) same

pub by-counted : (g i : ℕ) (xs : List (ℕ × Answer)) (d : ℕ × Answer) → i < length xs → (get_or xs i d).0 ≡ g → length (answers_by g (take (i + 1) xs)) ≡ length (answers_by g (take i xs)) + 1
by-counted g i xs d l mine = ap length (by-mine g i xs d l mine) ∙ length-append (answers_by g (take i xs)) ((get_or xs i d).1 ∷ [])

-- no more of them among the first than among all
pub by-first : (g i : ℕ) (xs : List (ℕ × Answer)) → length (answers_by g (take i xs)) ≤ length (answers_by g xs)
by-first g i xs =
    let whole : answers_by g xs ≡ answers_by g (take i xs) ++ answers_by g (drop i xs) = ap (answers_by g) (sym (take-append-drop i xs)) ∙ by-append g (take i xs) (drop i xs) in
    omega (arith, ap length whole, length-append (answers_by g (take i xs)) (answers_by g (drop i xs)))

-- ---- the rows of one goroutine

from-append : (g n : ℕ) (xs ys : List Answer) → rows_from g n (xs ++ ys) ≡ rows_from g n xs ++ rows_from g (n + length xs) ys
from-append g n [] ys = ap (λ m. rows_from g m ys) (omega arith)
from-append g n (x ∷ xs) ys =
    let here : List Row = cond (has_line x) (row g n x ∷ []) [] in
    ap (λ (rest : List Row). here ++ rest) (from-append g (n + 1) xs ys ∙ ap (λ m. rows_from g (n + 1) xs ++ rows_from g m ys) (omega arith))
    ∙ sym (append_assoc here (rows_from g (n + 1) xs) (rows_from g (n + length (x ∷ xs)) ys))

pub from-few : (g n : ℕ) (xs : List Answer) → length (rows_from g n xs) ≤ length xs
from-few g n [] = omega arith
from-few g n (x ∷ xs) = go (has_line x) (from-few g (n + 1) xs) where
  go : (b : Bool) → length (rows_from g (n + 1) xs) ≤ length xs → length (cond b (row g n x ∷ []) [] ++ rows_from g (n + 1) xs) ≤ length (x ∷ xs)
  go true h = omega arith
  go false h = omega arith

-- one answer of the goroutine more
from-more : (g i n : ℕ) (xs : List (ℕ × Answer)) (d : ℕ × Answer) → i < length xs → (get_or xs i d).0 ≡ g → n ≡ length (answers_by g (take i xs)) →
    rows_from g 1 (answers_by g (take (i + 1) xs)) ≡ rows_from g 1 (answers_by g (take i xs)) ++ rows_from g (n + 1) ((get_or xs i d).1 ∷ [])
from-more g i n xs d l mine long =
    ap (rows_from g 1) (by-mine g i xs d l mine)
    ∙ from-append g 1 (answers_by g (take i xs)) ((get_or xs i d).1 ∷ [])
    ∙ ap (λ (m : ℕ). rows_from g 1 (answers_by g (take i xs)) ++ rows_from g m ((get_or xs i d).1 ∷ [])) (omega arith)

-- it has a line
pub from-lined-more : (g i n : ℕ) (xs : List (ℕ × Answer)) (d : ℕ × Answer) (before rows : List Row) → i < length xs → (get_or xs i d).0 ≡ g → n ≡ length (answers_by g (take i xs)) → has_line (get_or xs i d).1 ≡ true →
    rows ≡ before ++ rows_from g 1 (answers_by g (take i xs)) → rows ++ row g (n + 1) (get_or xs i d).1 ∷ [] ≡ before ++ rows_from g 1 (answers_by g (take (i + 1) xs))
from-lined-more g i n xs d before rows l mine long lined are =
    let one : rows_from g (n + 1) ((get_or xs i d).1 ∷ []) ≡ row g (n + 1) (get_or xs i d).1 ∷ [] = ap (λ (b : Bool). cond b (row g (n + 1) (get_or xs i d).1 ∷ []) [] ++ []) lined in
    ap (λ (rs : List Row). rs ++ row g (n + 1) (get_or xs i d).1 ∷ []) are
    ∙ append_assoc before (rows_from g 1 (answers_by g (take i xs))) (row g (n + 1) (get_or xs i d).1 ∷ [])
    ∙ ap (λ (rs : List Row). before ++ rs) (ap (λ (rs : List Row). rows_from g 1 (answers_by g (take i xs)) ++ rs) (sym one) ∙ sym (from-more g i n xs d l mine long))

-- it has none
pub from-silent-more : (g i n : ℕ) (xs : List (ℕ × Answer)) (d : ℕ × Answer) (before rows : List Row) → i < length xs → (get_or xs i d).0 ≡ g → n ≡ length (answers_by g (take i xs)) → has_line (get_or xs i d).1 ≡ false →
    rows ≡ before ++ rows_from g 1 (answers_by g (take i xs)) → rows ≡ before ++ rows_from g 1 (answers_by g (take (i + 1) xs))
from-silent-more g i n xs d before rows l mine long silent are =
    let one : rows_from g (n + 1) ((get_or xs i d).1 ∷ []) ≡ [] = ap (λ (b : Bool). cond b (row g (n + 1) (get_or xs i d).1 ∷ []) [] ++ []) silent in
    are ∙ ap (λ (rs : List Row). before ++ rs) (sym (append-nil (rows_from g 1 (answers_by g (take i xs)))) ∙ ap (λ (rs : List Row). rows_from g 1 (answers_by g (take i xs)) ++ rs) (sym one) ∙ sym (from-more g i n xs d l mine long))

-- ---- goroutine by goroutine

grown : (f : ℕ → List Row) (a n : ℕ) → flat_map f (range_with_len a (suc n)) ≡ flat_map f (range_with_len a n) ++ f (a + n)
grown f a zero = append-nil (f a) ∙ ap f (omega arith)
grown f a (suc n) =
    ap (λ (rs : List Row). f a ++ rs) (grown f (a + 1) n)
    ∙ sym (append_assoc (f a) (flat_map f (range_with_len (a + 1) n)) (f (a + 1 + n)))
    ∙ ap (λ (m : ℕ). f a ++ flat_map f (range_with_len (a + 1) n) ++ f m) (omega arith)

pub rows-more : (g : ℕ) (xs : List (ℕ × Answer)) → rows_of (g + 1) xs ≡ rows_of g xs ++ rows_from g 1 (answers_by g xs)
rows-more g xs =
    let next : g + 1 ≡ suc g = omega arith in
    let here : 0 + g ≡ g = omega arith in
    ap (λ (m : ℕ). rows_of m xs) next ∙ grown (λ h. rows_from h 1 (answers_by h xs)) 0 g
    ∙ ap (λ (m : ℕ). rows_of g xs ++ rows_from m 1 (answers_by m xs)) here

-- how many answers are of goroutines before g
abbrev pub count_before : ℕ → List (ℕ × Answer) → ℕ
count_before g [] = 0
count_before g (x ∷ xs) = cond (nat_lt x.0 g) 1 0 + count_before g xs

pub count-more : (g : ℕ) (xs : List (ℕ × Answer)) → count_before (g + 1) xs ≡ count_before g xs + length (answers_by g xs)
count-more g [] = refl
count-more g (x ∷ xs) =
    let here : cond (nat_lt x.0 (g + 1)) 1 0 ≡ cond (nat_lt x.0 g) 1 0 + cond (eqb x.0 g) 1 0 = grind (arith, nat_tests) in
    omega (arith, here, count-more g xs, length-append (cond (eqb x.0 g) (x.1 ∷ []) []) (answers_by g xs), one (eqb x.0 g)) where
      one : (b : Bool) → length (cond b (x.1 ∷ []) []) ≡ cond b 1 0
      one true = refl
      one false = refl

pub count-few : (g : ℕ) (xs : List (ℕ × Answer)) → count_before g xs ≤ length xs
count-few g [] = omega arith
count-few g (x ∷ xs) = go (nat_lt x.0 g) (count-few g xs) where
  go : (b : Bool) → count_before g xs ≤ length xs → cond b 1 0 + count_before g xs ≤ length (x ∷ xs)
  go true h = omega arith
  go false h = omega arith

-- no more rows than answers of the goroutines so far
pub rows-few : (g : ℕ) (xs : List (ℕ × Answer)) → length (rows_of g xs) ≤ count_before g xs
rows-few zero xs = omega arith
rows-few (suc g) xs =
    let next : suc g ≡ g + 1 = omega arith in
    let more : rows_of (suc g) xs ≡ rows_of g xs ++ rows_from g 1 (answers_by g xs) = ap (λ (m : ℕ). rows_of m xs) next ∙ rows-more g xs in
    let count : count_before (suc g) xs ≡ count_before g xs + length (answers_by g xs) = ap (λ (m : ℕ). count_before m xs) next ∙ count-more g xs in
    omega (arith, ap length more, length-append (rows_of g xs) (rows_from g 1 (answers_by g xs)), from-few g 1 (answers_by g xs), rows-few g xs, count)
