-- Lists of steps of all actors, the newest first: what was begun, where each statement acted, what was answered, and what the heap that never frees is after them. Operations are begun by the processor alone; at the seat of a worker or of the coordinator these words speak of a processor that rests.
use Rattle.std.specs.Prelude.{ℕ, nat_lt, Bool, true, false, if◌then◌else◌, ◌==◌, ◌&&◌, ◌||◌, List, [], ◌∷◌, ◌++◌, reverse, Option, Some, None}
use Rattle.gh_lists.specs.Vocabulary.{Act, acted, acts, Answer, answer_at, Entry, Ever, Layout, Op, opening_ever, option_to_list, Processor, processor_kind, REGISTERS, Shape, started, state_of}

-- What an operation needs: a goroutine that there is and that has not ended, registers, a global and a type in range; nothing after the processor has left.

-- what was begun ends goroutine g
abbrev pub ends : Option Op → ℕ → Bool
ends (Some (Op.End h)) g = h == g
ends _ g = false

abbrev pub ended_in : List (Entry Op) → ℕ → Bool
ended_in [] g = false
ended_in (e ∷ es) g = ends e.begun g || ended_in es g

-- what was begun is the processor's leave
abbrev pub leaves : Option Op → Bool
leaves (Some Op.Leave) = true
leaves _ = false

abbrev pub has_left : List (Entry Op) → Bool
has_left [] = false
has_left (e ∷ es) = leaves e.begun || has_left es

module _ (goroutines globals types : ℕ) where
  abbrev pub in_range : Op → Bool
  in_range (Op.New g d t) = nat_lt g goroutines && nat_lt d REGISTERS && nat_lt t types
  in_range (Op.Load g d b k) = nat_lt g goroutines && nat_lt d REGISTERS && nat_lt b REGISTERS
  in_range (Op.Store g b k v) = nat_lt g goroutines && nat_lt b REGISTERS && nat_lt v REGISTERS
  in_range (Op.GetGlobal g d k) = nat_lt g goroutines && nat_lt d REGISTERS && nat_lt k globals
  in_range (Op.SetGlobal g k v) = nat_lt g goroutines && nat_lt k globals && nat_lt v REGISTERS
  in_range (Op.Int g d n) = nat_lt g goroutines && nat_lt d REGISTERS
  in_range (Op.Move g d s) = nat_lt g goroutines && nat_lt d REGISTERS && nat_lt s REGISTERS
  in_range (Op.Nil g d) = nat_lt g goroutines && nat_lt d REGISTERS
  in_range (Op.End g) = nat_lt g goroutines
  in_range Op.Poll = true
  in_range Op.Leave = true
  in_range (Op.Gc g) = nat_lt g goroutines

abbrev pub goroutine_of : Op → Option ℕ
goroutine_of (Op.New g d t) = Some g
goroutine_of (Op.Load g d b k) = Some g
goroutine_of (Op.Store g b k v) = Some g
goroutine_of (Op.GetGlobal g d k) = Some g
goroutine_of (Op.SetGlobal g k v) = Some g
goroutine_of (Op.Int g d n) = Some g
goroutine_of (Op.Move g d s) = Some g
goroutine_of (Op.Nil g d) = Some g
goroutine_of (Op.Gc g) = Some g
goroutine_of (Op.End g) = Some g
goroutine_of Op.Poll = None
goroutine_of Op.Leave = None

abbrev pub goroutine_is_over : List (Entry Op) → Option ℕ → Bool
goroutine_is_over es None = false
goroutine_is_over es (Some g) = ended_in es g

-- What a list says.

-- an operation, and its answer
pub record Answered : Type 0 where
  pub op : Op
  pub answer : Answer

-- the operations begun
abbrev pub begun_in : List (Entry Op) → List Op
begun_in [] = []
begun_in (e ∷ es) = option_to_list e.begun ++ begun_in es

module _ (shapes : List Shape) (l : Layout) where
  -- the processor of the entry before its step, its operation begun
  abbrev pub before_step : List (Entry Op) → Entry Op → Processor
  before_step es e = started (processor_kind shapes l) e.begun (state_of (processor_kind shapes l) e.actor es)

  -- the heap that never frees after the list
  abbrev pub ever_of : List (Entry Op) → Ever
  ever_of [] = opening_ever
  ever_of (e ∷ es) = acted shapes (ever_of es) (acts l (before_step es e) e.found)

  abbrev pub answered : Ever → Option Act → Option Answered
  answered e None = None
  answered e (Some a) = Some (record { op = a.op; answer = answer_at shapes e a })

  -- the operations in the order of their points, with the answers of the heap that never frees
  abbrev pub order_of : List (Entry Op) → List Answered
  order_of [] = []
  order_of (e ∷ es) = option_to_list (answered (ever_of es) (acts l (before_step es e) e.found)) ++ order_of es

  -- the first of them first
  abbrev pub acted_in : List (Entry Op) → List Answered
  acted_in es = reverse (order_of es)

  -- those of one actor, the newest first and the first of them first
  abbrev pub order_at : (a : ℕ) → List (Entry Op) → List Answered
  order_at a [] = []
  order_at a (e ∷ es) = (if e.actor == a then option_to_list (answered (ever_of es) (acts l (before_step es e) e.found)) else []) ++ order_at a es

  abbrev pub acted_at : (a : ℕ) → List (Entry Op) → List Answered
  acted_at a es = reverse (order_at a es)
