-- The heap that never frees: what statements answer and what they change, by names and paths.
use Rattle.std.specs.Prelude.{◌≡◌, ℕ, ◌+◌, nat_lt, Bool, true, false, ◌==◌, ◌&&◌, if◌then◌else◌, List, Option, Some, None}
use Rattle.gh_model.specs.Vocabulary.{Answer, Op, Shape}
use Rattle.gh_base.specs.declared.value.Name.{Name}
use Rattle.gh_base.specs.declared.value.Fault.TheVariants.{NilBase, Field, Kind}
use Rattle.gh_base.specs.declared.operation.Op.TheVariants.{New, Load, Store, GetGlobal, SetGlobal, Int, Move, Nil, Gc, Poll, End, Leave}
use Rattle.gh_base.specs.Shapes.{shape_at, is_pointer}
use Rattle.gh_class.specs.Classes.{slot_words}
use Rattle.gh_model.specs.declared.EverValue.{EverValue}

-- No object is ever removed.
pub record Ever : Type 0 where
  pub made : ℕ → ℕ  -- how many objects each goroutine has made
  pub type_of : Name → ℕ  -- the type of each object
  pub field : Name → ℕ → EverValue  -- what each object's fields hold
  pub global : ℕ → EverValue
  pub register : ℕ → ℕ → EverValue  -- by goroutine, and register
  pub ended : ℕ → Bool  -- the goroutines that have ended

-- without objects, with nil everywhere
abbrev pub opening_ever : Ever
opening_ever = record {
  made = λ g. 0;
  type_of = λ n. 0;
  field = λ n k. EverValue.Nil;
  global = λ k. EverValue.Nil;
  register = λ g d. EverValue.Nil;
  ended = λ g. false;
}

abbrev pub same_name : Name → Name → Bool
same_name n m = (n.g == m.g) && (n.k == m.k)

-- the name of the next object that g makes
abbrev pub next_name : Ever → ℕ → Name
next_name e g = record { g = g; k = e.made g }

-- the object that a value names
abbrev pub names : EverValue → Option Name
names (EverValue.Ref n) = Some n
names _ = None

-- an object of the shape has the words of its slot
abbrev pub field_count : Shape → ℕ
field_count shape = slot_words shape.words

module _ (shapes : List Shape) where
  abbrev pub shape_of : Ever → Name → Shape
  shape_of e n = shape_at shapes (e.type_of n)

  -- the object has field k
  abbrev pub has_field : Ever → Name → ℕ → Bool
  has_field e n k = nat_lt k (field_count (shape_of e n))

  -- field k of the object is a pointer
  abbrev pub is_pointer_field : Ever → Name → ℕ → Bool
  is_pointer_field e n k = is_pointer (shape_of e n) k

-- a pointer field takes nil or a reference, a number field a number
abbrev pub fits : Bool → EverValue → Bool
fits pointer EverValue.Nil = pointer
fits true (EverValue.Int n) = false
fits false (EverValue.Int n) = true
fits pointer (EverValue.Ref n) = pointer

abbrev pub is_number : EverValue → Bool
is_number (EverValue.Int n) = true
is_number _ = false

-- a field before anything is stored there
abbrev pub first_value : Bool → EverValue
first_value true = EverValue.Nil
first_value false = EverValue.Int 0

-- Changes at one place.

abbrev pub with_register : Ever → ℕ → ℕ → EverValue → Ever
with_register e g d v = record e { register = λ h c. if (h == g) && (c == d) then v else e.register h c }

abbrev pub with_global : Ever → ℕ → EverValue → Ever
with_global e k v = record e { global = λ c. if c == k then v else e.global c }

abbrev pub with_field : Ever → Name → ℕ → EverValue → Ever
with_field e n k v = record e { field = λ m c. if same_name m n && (c == k) then v else e.field m c }

-- the next object of g, of type t: its pointer fields are nil, its number fields 0
abbrev pub with_object : List Shape → Ever → ℕ → ℕ → Ever
with_object shapes e g t = record e {
  made = λ h. if h == g then e.made g + 1 else e.made h;
  type_of = λ m. if same_name m (next_name e g) then t else e.type_of m;
  field = λ m k. if same_name m (next_name e g) then first_value (is_pointer (shape_at shapes t) k) else e.field m k;
}

abbrev pub with_end : Ever → ℕ → Ever
with_end e g = record e { ended = λ h. if h == g then true else e.ended h }

-- What a statement answers. The faults are looked for in the order nil base, field, kind.

abbrev pub answer_of_value : EverValue → Answer
answer_of_value EverValue.Nil = Answer.Nil
answer_of_value (EverValue.Int n) = Answer.Int n
answer_of_value (EverValue.Ref n) = Answer.Ref n

-- a load of field k through the value
abbrev pub load_answer : List Shape → Ever → EverValue → ℕ → Answer
load_answer shapes e (EverValue.Ref n) k = if has_field shapes e n k then answer_of_value (e.field n k) else Answer.Fault Field
load_answer shapes e _ k = Answer.Fault NilBase

-- a store of v in field k through the value
abbrev pub store_answer : List Shape → Ever → EverValue → ℕ → EverValue → Answer
store_answer shapes e (EverValue.Ref n) k v = if has_field shapes e n k then (if fits (is_pointer_field shapes e n k) v then Answer.Done else Answer.Fault Kind) else Answer.Fault Field
store_answer shapes e _ k v = Answer.Fault NilBase

abbrev pub answer_of : List Shape → Ever → Op → Answer
answer_of shapes e (New g d t) = Answer.Ref (next_name e g)
answer_of shapes e (Load g d b k) = load_answer shapes e (e.register g b) k
answer_of shapes e (Store g b k v) = store_answer shapes e (e.register g b) k (e.register g v)
answer_of shapes e (GetGlobal g d k) = answer_of_value (e.global k)
answer_of shapes e (SetGlobal g k v) = if is_number (e.register g v) then Answer.Fault Kind else Answer.Done
answer_of shapes e (Int g d n) = Answer.Done
answer_of shapes e (Move g d s) = Answer.Done
answer_of shapes e (Nil g d) = Answer.Done
answer_of shapes e (Gc g) = Answer.Swept
answer_of shapes e Poll = Answer.Done
answer_of shapes e (End g) = Answer.Done
answer_of shapes e Leave = Answer.Done

-- What a statement changes, by what it was answered: a fault changes nothing, and after `full` the register holds nil.

-- register d takes what was answered
abbrev pub takes_answer : Ever → ℕ → ℕ → Answer → Ever
takes_answer e g d Answer.Nil = with_register e g d EverValue.Nil
takes_answer e g d (Answer.Int n) = with_register e g d (EverValue.Int n)
takes_answer e g d (Answer.Ref n) = with_register e g d (EverValue.Ref n)
takes_answer e g d _ = e

-- field k of the object that the value names takes v
abbrev pub stores_value : Ever → EverValue → ℕ → EverValue → Answer → Ever
stores_value e (EverValue.Ref n) k v Answer.Done = with_field e n k v
stores_value e _ k v _ = e

abbrev pub sets_global : Ever → ℕ → EverValue → Answer → Ever
sets_global e k v Answer.Done = with_global e k v
sets_global e k v _ = e

abbrev pub makes_object : List Shape → Ever → ℕ → ℕ → ℕ → Answer → Ever
makes_object shapes e g d t Answer.Full = with_register e g d EverValue.Nil
makes_object shapes e g d t _ = with_register (with_object shapes e g t) g d (EverValue.Ref (next_name e g))

abbrev pub ever_after : List Shape → Ever → Op → Answer → Ever
ever_after shapes e (New g d t) a = makes_object shapes e g d t a
ever_after shapes e (Load g d b k) a = takes_answer e g d a
ever_after shapes e (Store g b k v) a = stores_value e (e.register g b) k (e.register g v) a
ever_after shapes e (GetGlobal g d k) a = takes_answer e g d a
ever_after shapes e (SetGlobal g k v) a = sets_global e k (e.register g v) a
ever_after shapes e (Int g d n) a = with_register e g d (EverValue.Int n)
ever_after shapes e (Move g d s) a = with_register e g d (e.register g s)
ever_after shapes e (Nil g d) a = with_register e g d EverValue.Nil
ever_after shapes e (Gc g) a = e
ever_after shapes e Poll a = e
ever_after shapes e (End g) a = with_end e g
ever_after shapes e Leave a = e

-- A finite path of pointer fields leads to the object from a global, or from a register of a goroutine that has not ended.
pub data Reach (e : Ever) : Name → Type 0 where
  from_global : (k : ℕ) (n : Name) → names (e.global k) ≡ Some n → Reach e n
  from_register : (g d : ℕ) (n : Name) → e.ended g ≡ false → names (e.register g d) ≡ Some n → Reach e n
  from_field : (m : Name) (k : ℕ) (n : Name) → Reach e m → names (e.field m k) ≡ Some n → Reach e n
