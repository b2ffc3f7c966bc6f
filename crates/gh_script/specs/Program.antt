-- What a script says, whichever text spells it.
use Rattle.std.specs.Prelude.{◌≡◌, ℕ, ◌+◌, ◌-◌, ◌/◌, ◌^◌, ◌<◌, ◌≤◌, ◌==◌, true, if◌then◌else◌, List, [], length, slice_get, slice_index_or, Option, None, All, AllPairs, ◌≢◌, sum_by}
use Rattle.gh_script.specs.Vocabulary.{Arena, bits_at, Gc, GetGlobal, Globals, Gogc, Int, Load, Minheap, Move, New, Nil, Procs, SetGlobal, Settings, Shape, ShapesFit, Stmt, Store, Workers}
use Rattle.gh_base.specs.declared.operation.Op.{Op}
use Rattle.gh_script.specs.Limits.{least, most, most_types, most_goroutines, most_statements, most_field, registers}
use Rattle.gh_script.specs.Words.{is_name}

-- a goroutine: its name, and its statements one after the other, repetitions written out
pub record Goroutine : Type 0 where
  pub name : List ℕ
  pub statements : List Stmt

-- a script: its settings, its types' shapes, and its goroutines, in the order of the text
pub record Program : Type 0 where
  pub settings : Settings
  pub shapes : List Shape
  pub goroutines : List Goroutine

-- what stands where there is no goroutine
abbrev pub no_goroutine : Goroutine
no_goroutine = record { name = []; statements = [] }

abbrev pub goroutine_at : Program → ℕ → Goroutine
goroutine_at p g = slice_index_or p.goroutines g no_goroutine

-- the statements of goroutine g
abbrev pub statements_of : Program → ℕ → List Stmt
statements_of p g = (goroutine_at p g).statements

-- the n-th statement of goroutine g, counted from 1
abbrev pub statement_at : Program → ℕ → ℕ → Option Stmt
statement_at p g n = if n == 0 then None else slice_get (statements_of p g) (n - 1)

-- a statement as an operation of goroutine g
abbrev pub statement_as_op : ℕ → Stmt → Op
statement_as_op g (New d t) = Op.New g d t
statement_as_op g (Load d b k) = Op.Load g d b k
statement_as_op g (Store b k v) = Op.Store g b k v
statement_as_op g (GetGlobal d k) = Op.GetGlobal g d k
statement_as_op g (SetGlobal k v) = Op.SetGlobal g k v
statement_as_op g (Int d n) = Op.Int g d n
statement_as_op g (Move d s) = Op.Move g d s
statement_as_op g (Nil d) = Op.Nil g d
statement_as_op g Gc = Op.Gc g

-- ---- what each script that is taken keeps

-- each setting is within its limits
pub record AreWithin (settings : Settings) : Type 0 where
  pub procs : (least Procs ≤ settings.procs) × (settings.procs ≤ most Procs)
  pub workers : (least Workers ≤ settings.workers) × (settings.workers ≤ most Workers)
  pub arena : (least Arena ≤ settings.arena) × (settings.arena ≤ most Arena)
  pub globals : (least Globals ≤ settings.globals) × (settings.globals ≤ most Globals)
  pub gogc : (least Gogc ≤ settings.gogc) × (settings.gogc ≤ most Gogc)
  pub minheap : (least Minheap ≤ settings.minheap) × (settings.minheap ≤ most Minheap)

-- the bits of a shape lie 64 a word, in as many words as its fields need
pub record IsPacked (shape : Shape) : Type 0 where
  pub packed : length shape.bits ≡ (shape.words + 63) / 64
  pub narrow : (i : ℕ) → bits_at shape i < 2 ^ 64

-- the numbers of a statement are within their limits
abbrev pub IsStatement : ℕ → ℕ → Stmt → Type 0
IsStatement globals types (New d t) = (d < registers) × (t < types)
IsStatement globals types (Load d b k) = (d < registers) × (b < registers) × (k ≤ most_field)
IsStatement globals types (Store b k v) = (b < registers) × (k ≤ most_field) × (v < registers)
IsStatement globals types (GetGlobal d k) = (d < registers) × (k < globals)
IsStatement globals types (SetGlobal k v) = (k < globals) × (v < registers)
IsStatement globals types (Int d n) = (d < registers) × (n < 2 ^ 64)
IsStatement globals types (Move d s) = (d < registers) × (s < registers)
IsStatement globals types (Nil d) = d < registers
IsStatement globals types Gc = Unit {0}

abbrev pub AreStatements : ℕ → ℕ → Goroutine → Type 0
AreStatements globals types g = All (IsStatement globals types) g.statements

-- a goroutine's name is spelled as names are
abbrev pub IsNamed : Goroutine → Type 0
IsNamed g = is_name g.name ≡ true

-- two goroutines have different names
abbrev pub AreNamedApart : Goroutine → Goroutine → Type 0
AreNamedApart g h = g.name ≢ h.name

abbrev pub statements_in : Goroutine → ℕ
statements_in g = length g.statements

pub record WellFormed (p : Program) : Type 0 where
  pub settings : AreWithin p.settings
  pub types : length p.shapes ≤ most_types
  pub shapes_fit : ShapesFit p.shapes
  pub shapes_packed : All IsPacked p.shapes
  pub some_goroutine : 1 ≤ length p.goroutines
  pub few_goroutines : length p.goroutines ≤ most_goroutines
  pub names : All IsNamed p.goroutines
  pub names_apart : AllPairs AreNamedApart p.goroutines
  pub statements : All (AreStatements p.settings.globals (length p.shapes)) p.goroutines
  pub few_statements : sum_by statements_in p.goroutines ≤ most_statements
