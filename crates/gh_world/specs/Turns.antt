-- The turns of each processor, and what a step is to a statement.
use Rattle.std.specs.Prelude.{◌≡◌, ℕ, ◌+◌, ◌-◌, ◌%◌, ◌<◌, ◌≤◌, nat_le, nat_lt, ◌==◌, ◌&&◌, Bool, true, false, if◌then◌else◌, List, [], ◌∷◌, ◌++◌, length, sum_by, Option, Some, None, unwrap_or}
use Rattle.gh_world.specs.Vocabulary.{Answer, bit, flat_map, goroutine_of, is_statement, Next, Op, Program, range_with_len, statements_in, statements_of, work_of}

-- ---- the turns

-- how many statements goroutine g has, and how many all have
abbrev pub count_of : Program → ℕ → ℕ
count_of p g = length (statements_of p g)

abbrev pub total_of : Program → ℕ
total_of p = sum_by statements_in p.goroutines

-- goroutine g is of processor g modulo their number
abbrev pub is_of_seat : Program → (a g : ℕ) → Bool
is_of_seat p a g = g % p.settings.procs == a

-- how many statements the goroutines of processor a have, all together
abbrev pub total_by : Program → (a : ℕ) → ℕ
total_by p a = sum_by (λ (g : ℕ). if is_of_seat p a g then count_of p g else 0) (range_with_len 0 (length p.goroutines))

-- it is of processor a, and has not ended before round r
abbrev pub has_turn : Program → (a r g : ℕ) → Bool
has_turn p a r g = is_of_seat p a g && nat_le r (count_of p g)

-- a turn is a poll and a statement, or a poll and the goroutine's end
abbrev pub turn_of : Program → (a r g : ℕ) → List Op
turn_of p a r g = if has_turn p a r g then Op.Poll ∷ work_of p r g ∷ [] else []

abbrev pub round_of : Program → (a r : ℕ) → List Op
round_of p a r = flat_map (turn_of p a r) (range_with_len 0 (length p.goroutines))

-- Round after round each goroutine of the processor that has not ended has a turn, in ascending order; at last the processor leaves.
unfoldable pub turns_of : Program → (a : ℕ) → List Op
turns_of p a = flat_map (round_of p a) (range_with_len 0 (total_of p + 1)) ++ Op.Leave ∷ []

-- ---- statements among operations

-- the goroutine of a statement
abbrev pub its_goroutine : Op → ℕ
its_goroutine o = unwrap_or (goroutine_of o) 0

-- it is a statement of goroutine g
abbrev pub is_statement_of : ℕ → Op → Bool
is_statement_of g o = is_statement o && (its_goroutine o == g)

-- how many of the operations are statements, and how many of goroutine g
abbrev pub statements_among : List Op → ℕ
statements_among [] = 0
statements_among (o ∷ os) = bit (is_statement o) + statements_among os

abbrev pub statement_count : ℕ → List Op → ℕ
statement_count g [] = 0
statement_count g (o ∷ os) = bit (is_statement o && (its_goroutine o == g)) + statement_count g os

-- the goroutine and the number of the statement begun last, the newest operation first
abbrev pub statement_now : List Op → ℕ × ℕ
statement_now [] = (0, 0)
statement_now (o ∷ os) = if is_statement o then (its_goroutine o, statement_count (its_goroutine o) (o ∷ os)) else statement_now os

-- the answers of the statements among the operations, each with its goroutine
abbrev pub answers_to : List Op → List Answer → List (ℕ × Answer)
answers_to [] answers = []
answers_to (o ∷ os) [] = []
answers_to (o ∷ os) (a ∷ answers) = (if is_statement o then (its_goroutine o, a) ∷ [] else []) ++ answers_to os answers

-- ---- what a step is to a statement

-- the statement that has not had its point yet
abbrev pub is_unacted : Option Op → Bool
is_unacted None = false
is_unacted (Some o) = is_statement o

-- the point of the statement begun last
abbrev pub next_point : Bool → ℕ × ℕ → List (ℕ × ℕ)
next_point true now = now ∷ []
next_point false now = []

-- ---- where a processor stands among its turns

-- the turns of goroutines from g on in round r, and all that follow
abbrev pub later : Program → (a r g : ℕ) → List Op
later p a r g =
    flat_map (turn_of p a r) (range_with_len g (length p.goroutines - g)) ++ (flat_map (round_of p a) (range_with_len (r + 1) (total_of p - r)) ++ Op.Leave ∷ [])

-- what is still to begin
abbrev pub to_come : Program → (a : ℕ) → Next → List Op
to_come p a (Next.Poll r g) = Op.Poll ∷ work_of p r g ∷ later p a r (g + 1)
to_come p a (Next.Run r g) = work_of p r g ∷ later p a r (g + 1)
to_come p a Next.Leave = Op.Leave ∷ []
to_come p a Next.Over = []

-- the goroutine is of processor a, and has the turn
pub record HasTurn (p : Program) (a r g : ℕ) : Type 0 where
  pub there : g < length p.goroutines
  pub going : r ≤ count_of p g
  pub its : is_of_seat p a g ≡ true

abbrev pub Stands : Program → (a : ℕ) → Next → Type 0
Stands p a (Next.Poll r g) = HasTurn p a r g
Stands p a (Next.Run r g) = HasTurn p a r g
Stands p a _ = Unit {0}

-- the goroutine's last turn is over, where the next turn is that of g in round r
abbrev pub IsPast : Program → (r g h : ℕ) → Type 0
IsPast p r g h = count_of p h < r + bit (nat_lt h g)

abbrev pub MayBeOver : Program → Next → ℕ → Type 0
MayBeOver p (Next.Poll r g) h = IsPast p r g h
MayBeOver p (Next.Run r g) h = IsPast p r g h
MayBeOver p _ h = Unit {0}

-- the processor has begun its leave
abbrev pub leave_is_begun : Next → Bool
leave_is_begun Next.Over = true
leave_is_begun _ = false

-- a poll comes next, or what a turn has behind its poll
abbrev pub is_poll_due : Next → Bool
is_poll_due (Next.Poll r g) = true
is_poll_due _ = false

abbrev pub is_run_due : Next → Bool
is_run_due (Next.Run r g) = true
is_run_due _ = false

-- what the processor begins next
abbrev pub op_due : Program → Next → Option Op
op_due p (Next.Poll r g) = Some Op.Poll
op_due p (Next.Run r g) = Some (work_of p r g)
op_due p Next.Leave = Some Op.Leave
op_due p Next.Over = None

abbrev pub is_leave : Op → Bool
is_leave Op.Leave = true
is_leave _ = false

-- the turn behind the one that begins this operation
pub record Follows (p : Program) (a : ℕ) (before : Next) (o : Op) (new : Next) : Type 0 where
  pub come : to_come p a before ≡ o ∷ to_come p a new
  pub stands : Stands p a new
  pub over : (g : ℕ) → MayBeOver p before g → MayBeOver p new g
  pub ends : (g : ℕ) → o ≡ Op.End g → MayBeOver p new g
  pub leaves : leave_is_begun new ≡ is_leave o
