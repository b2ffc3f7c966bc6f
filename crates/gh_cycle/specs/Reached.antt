-- What a script reaches, as a test: a heap names finitely many objects, so it is decided.
use Rattle.std.specs.Prelude.{◌≡◌, ℕ, ◌<◌, ◌≤◌, ◌⊎◌, ◌↔◌, Bool, true, Some}
use Rattle.gh_cycle.specs.Vocabulary.{answer_of, Arena, Ever, ever_after, IsMade, Name, names, opening_ever, Reach, REGISTERS, Shared, size_for}
use Rattle.gh_base.specs.declared.operation.Op.{Op}
use Rattle.gh_base.specs.declared.value.Answer.{Answer}

-- Each goroutine, register, global and field that names an object is one that the heap has, and the object was made. So there are finitely many to look at.
pub record IsBounded (z : Arena) (e : Ever) : Type 0 where
  pub registers : (g d : ℕ) (n : Name) → names (e.register g d) ≡ Some n → (g < z.layout.goroutines) × (d < REGISTERS) × IsMade e.made n
  pub globals : (k : ℕ) (n : Name) → names (e.global k) ≡ Some n → (k < z.layout.globals) × IsMade e.made n
  pub fields : (m : Name) (k : ℕ) (n : Name) → names (e.field m k) ≡ Some n → (k < size_for z.shapes e.type_of m) × IsMade e.made n
  -- there is no goroutine beyond these that has made one
  pub none : (g : ℕ) → z.layout.goroutines ≤ g → e.made g ≡ 0

-- a test for what has the property
pub record Decided {A : Type 0} (P : A → Type 0) : Type 0 where
  pub test : A → Bool
  pub tells : (x : A) → (test x ≡ true) ↔ P x

-- an object that a script reaches was placed at heap word o
abbrev pub IsReachedAt : Shared → (o : ℕ) → Type 0
IsReachedAt h o = (n : Name) × Reach h.ever n × (h.place n ≡ o)

abbrev pub ReachIsDecided : Type 0
ReachIsDecided = (z : Arena) (e : Ever) → IsBounded z e → Decided (Reach e)

abbrev pub PlacesAreDecided : Type 0
PlacesAreDecided = (z : Arena) (h : Shared) → IsBounded z h.ever → Decided (IsReachedAt h)

-- what a script reaches was made
abbrev pub TheReachedWereMade : Type 0
TheReachedWereMade = (z : Arena) (e : Ever) → IsBounded z e → (n : Name) → Reach e n → IsMade e.made n

-- the operation's goroutine, registers and global are ones that the heap has
abbrev pub IsInRange : Arena → Op → Type 0
IsInRange z (Op.New g d t) = (g < z.layout.goroutines) × (d < REGISTERS)
IsInRange z (Op.Load g d b k) = (g < z.layout.goroutines) × (d < REGISTERS) × (b < REGISTERS)
IsInRange z (Op.Store g b k v) = (g < z.layout.goroutines) × (b < REGISTERS) × (v < REGISTERS)
IsInRange z (Op.GetGlobal g d k) = (g < z.layout.goroutines) × (d < REGISTERS) × (k < z.layout.globals)
IsInRange z (Op.SetGlobal g k v) = (g < z.layout.goroutines) × (k < z.layout.globals) × (v < REGISTERS)
IsInRange z (Op.Int g d n) = (g < z.layout.goroutines) × (d < REGISTERS)
IsInRange z (Op.Move g d s) = (g < z.layout.goroutines) × (d < REGISTERS) × (s < REGISTERS)
IsInRange z (Op.Nil g d) = (g < z.layout.goroutines) × (d < REGISTERS)
IsInRange z (Op.Gc g) = g < z.layout.goroutines
IsInRange z (Op.End g) = g < z.layout.goroutines
IsInRange z Op.Poll = Unit {0}
IsInRange z Op.Leave = Unit {0}

-- A heap opens so, and so it is after each operation in range, answered as the heap that never frees answers it, or `full`.
pub record BoundsLast : Type 0 where
  pub opening : (z : Arena) → IsBounded z opening_ever
  pub after : (z : Arena) (e : Ever) (o : Op) (a : Answer) → IsBounded z e → IsInRange z o → (a ≡ answer_of z.shapes e o) ⊎ (a ≡ Answer.Full) → IsBounded z (ever_after z.shapes e o a)
