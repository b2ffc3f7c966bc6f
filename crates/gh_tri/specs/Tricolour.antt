-- A heap in the course of a mark phase, as functions: its objects with their colours and fields, the stacks with their
-- registers, and what each stack has read and not yet stored over. The eight moves, and when each may be made.
use Rattle.std.specs.Prelude.{◌≡◌, ◌≢◌, ℕ, ◌+◌, ◌<◌, Bool, true, false, ◌==◌, ◌&&◌, if◌then◌else◌, ◌⊎◌, Option, Some, None}
use Rattle.gh_tri.specs.declared.Colour.{Colour}
use Rattle.gh_tri.specs.declared.Colour.TheVariants.{White, Grey, Black}
use Rattle.gh_tri.specs.declared.Move.{Move}
use Rattle.gh_tri.specs.declared.Move.TheVariants.{Load, ReadOld, Shade, Store, ScanField, Blacken, Allocate, ScanRegister}

-- Object 0 holds the globals. `None` is nil, or a number in the place of a pointer.
pub record Tricolour : Type 0 where
  -- how many objects are made: those below this number
  pub objects : ℕ
  -- how many can be made in all
  pub limit : ℕ
  -- how many fields each object has
  pub fields : ℕ
  -- how many stacks there are, with 16 registers each
  pub stacks : ℕ
  -- of an object
  pub colour : ℕ → Colour
  -- of an object, in a field
  pub value : ℕ → ℕ → Option ℕ
  -- of an object, whether a field is scanned
  pub scanned : ℕ → ℕ → Bool
  -- of a stack, in a register
  pub register : ℕ → ℕ → Option ℕ
  -- of a stack, whether a register is scanned
  pub seen : ℕ → ℕ → Bool
  -- by a stack, of an object, in a field: what was read there before a store, until the store
  pub read : ℕ → ℕ → ℕ → Option (Option ℕ)

-- a function with one value replaced
abbrev pub put1 : {A : Type 0} → (ℕ → A) → ℕ → A → ℕ → A
put1 f i x a = if i == a then x else f a

abbrev pub put2 : {A : Type 0} → (ℕ → ℕ → A) → ℕ → ℕ → A → ℕ → ℕ → A
put2 f i j x a b = if (i == a) && (j == b) then x else f a b

abbrev pub put3 : {A : Type 0} → (ℕ → ℕ → ℕ → A) → ℕ → ℕ → ℕ → A → ℕ → ℕ → ℕ → A
put3 f i j k x a b c = if (i == a) && ((j == b) && (k == c)) then x else f a b c

-- a table with one row replaced
abbrev pub put_row : {A : Type 0} → (ℕ → ℕ → A) → ℕ → A → ℕ → ℕ → A
put_row f i x a b = if i == a then x else f a b

-- whether a value names this object
abbrev pub names : Option ℕ → ℕ → Bool
names None o = false
names (Some w) o = w == o

-- white becomes grey
abbrev pub greyed : Colour → Colour
greyed White = Grey
greyed Grey = Grey
greyed Black = Black

-- the colours once the object that a value names is shaded
abbrev pub shaded : (ℕ → Colour) → Option ℕ → ℕ → Colour
shaded colour v o = if names v o then greyed (colour o) else colour o

-- what a move leaves
abbrev pub moved : Tricolour → Move → Tricolour
moved p (Load s r o f) = record p { register = put2 p.register s r (p.value o f) }
moved p (ReadOld s o f) = record p { read = put3 p.read s o f (Some (p.value o f)) }
moved p (Shade o) = record p { colour = shaded p.colour (Some o) }
moved p (Store s o f new) = record p { value = put2 p.value o f new; read = put3 p.read s o f None }
moved p (ScanField o f) = record p { colour = shaded p.colour (p.value o f); scanned = put2 p.scanned o f true }
moved p (Blacken o) = record p { colour = put1 p.colour o Black }
moved p (Allocate s r) =
    record p {
      objects = p.objects + 1;
      colour = put1 p.colour p.objects Black;
      value = put_row p.value p.objects None;
      scanned = put_row p.scanned p.objects true;
      register = put2 p.register s r (Some p.objects);
    }
moved p (ScanRegister s r) = record p { colour = shaded p.colour (p.register s r); seen = put2 p.seen s r true }

abbrev pub IsMarked : Tricolour → ℕ → Type 0
IsMarked p o = p.colour o ≢ White

-- nil, or a marked object
abbrev pub NilOrMarked : Tricolour → Option ℕ → Type 0
NilOrMarked p v = (o : ℕ) → v ≡ Some o → IsMarked p o

-- nil, or an object that is made
abbrev pub NilOrMade : Tricolour → Option ℕ → Type 0
NilOrMade p v = (o : ℕ) → v ≡ Some o → o < p.objects

-- a stack whose registers are all scanned
abbrev pub IsBlackStack : Tricolour → ℕ → Type 0
IsBlackStack p s = (r : ℕ) → r < 16 → p.seen s r ≡ true

-- a stack none of whose registers is scanned
abbrev pub IsGreyStack : Tricolour → ℕ → Type 0
IsGreyStack p s = (r : ℕ) → r < 16 → p.seen s r ≡ false

-- object o is object 0, or stands in a register of stack s
abbrev pub StackHolds : Tricolour → ℕ → ℕ → Type 0
StackHolds p s o = (o ≡ 0) ⊎ ((r : ℕ) × (r < 16) × (p.register s r ≡ Some o))

-- a field of an object that is made
pub record IsField (p : Tricolour) (o f : ℕ) : Type 0 where
  pub made : o < p.objects
  pub within : f < p.fields

pub record IsStackRegister (p : Tricolour) (s r : ℕ) : Type 0 where
  pub stack : s < p.stacks
  pub within : r < 16

-- The stack can reach the object, and its scan has not begun or has ended.
pub record MayLoad (p : Tricolour) (s r o f : ℕ) : Type 0 where
  pub into : IsStackRegister p s r
  pub from : IsField p o f
  pub held : StackHolds p s o
  pub scan : IsGreyStack p s ⊎ IsBlackStack p s

-- The stack has read the field, and what it read there and the new value are shaded.
pub record MayStore (p : Tricolour) (s o f : ℕ) (new : Option ℕ) : Type 0 where
  pub stack : s < p.stacks
  pub into : IsField p o f
  pub made : NilOrMade p new
  pub reads : (v : Option ℕ) × (p.read s o f ≡ Some v) × NilOrMarked p v
  pub shades : NilOrMarked p new

pub record MayBlacken (p : Tricolour) (o : ℕ) : Type 0 where
  pub made : o < p.objects
  pub fields : (f : ℕ) → f < p.fields → p.scanned o f ≡ true

pub record MayAllocate (p : Tricolour) (s r : ℕ) : Type 0 where
  pub into : IsStackRegister p s r
  pub room : p.objects < p.limit

-- when a move may be made
abbrev pub May : Tricolour → Move → Type 0
May p (Load s r o f) = MayLoad p s r o f
May p (ReadOld s o f) = (s < p.stacks) × IsField p o f
May p (Shade o) = o < p.objects
May p (Store s o f new) = MayStore p s o f new
May p (ScanField o f) = IsField p o f
May p (Blacken o) = MayBlacken p o
May p (Allocate s r) = MayAllocate p s r
May p (ScanRegister s r) = IsStackRegister p s r
