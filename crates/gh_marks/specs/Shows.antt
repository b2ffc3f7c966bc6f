-- The picture of marking: a state of marking as gh_tri's argument for the write barrier sees it. Objects of the cycle with their colours and pointer fields, globals and stacks; no words, no buffers, no cursor, and no seats.
use Rattle.std.specs.Prelude.{◌≡◌, ℕ, ◌+◌, ◌*◌, ◌<◌, ◌≤◌, Bool, true, false, ◌==◌, ◌&&◌, ◌||◌, not, if◌then◌else◌, nat_lt, Option, Some, None}
use Rattle.gh_marks.specs.Vocabulary.{Cell, END, Invariants, REGISTERS, Row, Tricolour}
use Rattle.gh_tri.specs.declared.Colour.{Colour as Shade}
use Rattle.gh_tri.specs.declared.Colour.TheVariants as shade
use Rattle.gh_marks.specs.Colours.{Black, Buffered, Claimed, Colour, Cycle, Pending, Placing, Progress, Read, Scanned, seen_field, seen_global, Shared, Taken, Untouched, White}

-- Grey is what is marked and has still to be scanned, wherever it is. A slot that is marked before its object is made is no object yet, and its object will be black.
abbrev pub shade_of : Colour → Shade
shade_of White = shade.White
shade_of (Placing a) = shade.Black
shade_of (Pending a) = shade.Grey
shade_of (Buffered b j) = shade.Grey
shade_of (Taken a) = shade.Grey
shade_of Black = shade.Black

abbrev pub is_scanned : Progress → Bool
is_scanned Untouched = false
is_scanned (Claimed a) = false
is_scanned (Read a value) = false
is_scanned Scanned = true

-- a stack's word says that it was scanned in this cycle, or that its goroutine has ended
abbrev pub is_black_stack : Cycle → (word : ℕ) → Bool
is_black_stack z word = (word == z.number) || (word == END)

-- field k of the object at heap word o, where it is a pointer field
abbrev pub pointer_at : Shared → (o k : ℕ) → ℕ
pointer_at s o k = if nat_lt k (s.extents.size o) && (s.extents.pointer o k && not (s.extents.noscan o)) then seen_field s (o + k) else 0

-- global i, where there is one
abbrev pub global_at : Cycle → Shared → (i : ℕ) → ℕ
global_at z s i = if nat_lt i z.arena.layout.globals then seen_global s i else 0

-- Objects have numbers in the picture: 0 is the globals, and each that is known has one from 1 on, those first that there were when it began, and then each as it is made. `at` says at which heap word the object of a number begins.
pub record Numbers (known : ℕ → Bool) (at : Row) (objects : ℕ) : Type 0 where
  pub some : 0 < objects
  pub of_cycle : (n : ℕ) → 0 < n → n < objects → known (at n) ≡ true
  pub all : (o : ℕ) → known o ≡ true → (n : ℕ) × (0 < n) × (n < objects) × (at n ≡ o)
  pub once : (n m : ℕ) → 0 < n → n < objects → 0 < m → m < objects → at n ≡ at m → n ≡ m

-- what a word names that is 0 or 1 more than a heap word
pub data Names (at : Row) (objects : ℕ) : Option ℕ → (word : ℕ) → Type 0 where
  nothing : Names at objects None 0
  object : (n : ℕ) → 0 < n → n < objects → Names at objects (Some n) (at n + 1)

-- The picture shows this state. A store has its old value read, and the new one put there, in one step: so between steps none is under way.
pub record Shows (z : Cycle) (s : Shared) (at : Row) (p : Tricolour) : Type 0 where
  pub numbers : Numbers s.known at p.objects
  pub stacks : p.stacks ≡ z.arena.layout.goroutines
  pub globals_fit : z.arena.layout.globals ≤ p.fields
  pub objects_fit : 1024 * z.arena.layout.pages ≤ p.fields
  pub sizes : (o : ℕ) → s.known o ≡ true → s.extents.size o ≤ 1024 * z.arena.layout.pages
  pub colours : (n : ℕ) → 0 < n → n < p.objects → p.colour n ≡ shade_of (s.colour (at n))
  -- the globals are grey until each of them is scanned
  pub waits : (i : ℕ) → i < z.arena.layout.globals → is_scanned (s.progress i) ≡ false → p.colour 0 ≡ shade.Grey
  pub all_scanned : ((i : ℕ) → i < z.arena.layout.globals → is_scanned (s.progress i) ≡ true) → p.colour 0 ≡ shade.Black
  pub scanned : (i : ℕ) → i < z.arena.layout.globals → p.scanned 0 i ≡ is_scanned (s.progress i)
  pub globals : (i : ℕ) → Names at p.objects (p.value 0 i) (global_at z s i)
  pub fields : (n k : ℕ) → 0 < n → n < p.objects → Names at p.objects (p.value n k) (pointer_at s (at n) k)
  pub registers : (g d : ℕ) → g < z.arena.layout.goroutines → d < REGISTERS → Names at p.objects (p.register g d) (s.registers g d)
  pub seen : (g d : ℕ) → g < z.arena.layout.goroutines → d < REGISTERS → p.seen g d ≡ is_black_stack z (s.words (Cell.Scanned g))
  pub reads : (g n k : ℕ) → p.read g n k ≡ None

-- There is a picture of the state that has gh_tri's invariants, with room for so many objects more.
pub record IsPictured (z : Cycle) (s : Shared) (room : ℕ) : Type 0 where
  pub picture : Tricolour
  pub at : Row
  pub shows : Shows z s at picture
  pub invariants : Invariants picture
  pub room_left : picture.objects + room ≤ picture.limit
