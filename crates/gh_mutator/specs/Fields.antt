-- What the words tell that a load or a store reads: the slot of an object, the kind of a field, and its value. An index that a word told is taken modulo the row's words.
use Rattle.std.specs.Prelude.{ℕ, ◌+◌, ◌-◌, ◌*◌, ◌/◌, ◌%◌, Bool, true, false, not, nat_lt, ◌==◌, if◌then◌else◌, Some, None, unwrap_or}
use Rattle.gh_mutator.specs.Vocabulary.{Answer, Cell, Ends, GoesOn, is_number_value, Layout, Step, Then, Value}
use Rattle.gh_base.specs.Packing.{name_of, page_of, slot_in}
use Rattle.gh_bitmap.specs.ReadPointer as reading

-- The words.

-- the word of the page in which heap word `at` lies
abbrev pub page_cell : Layout → (at : ℕ) → Cell
page_cell l at = Cell.Page (at / 1024 % l.pages)

abbrev pub field_cell : Layout → (x : ℕ) → Cell
field_cell l x = Cell.Field (x % (1024 * l.pages))

abbrev pub birth_cell : Layout → (at : ℕ) → Cell
birth_cell l at = Cell.Birth (at % (1024 * l.pages))

-- What they tell.

-- the object whose page word was found has a field k
abbrev pub has_field : (k found : ℕ) → Bool
has_field k found = nat_lt k (slot_in (page_of found))

-- heap word `at` is a pointer field, by the word of the bitmap that was found
abbrev pub is_pointer_by : Layout → (at found : ℕ) → Bool
is_pointer_by l at found = unwrap_or (reading.given (reading.goes (reading.opening at) found)) false

-- a found word of a pointer field, or of a number field; a reference is taken modulo the heap's words
abbrev pub value_of : (pages : ℕ) → (pointer : Bool) → (found : ℕ) → Value
value_of pages true found = if found == 0 then Value.Nil else Value.Ref ((found - 1) % (1024 * pages) + 1)
value_of pages false found = Value.Int found

abbrev pub word_of_value : Value → ℕ
word_of_value Value.Nil = 0
word_of_value (Value.Int n) = n
word_of_value (Value.Ref r) = r

-- a pointer field meets a number, or a number field nil or a reference
abbrev pub kinds_differ : (pointer : Bool) → Value → Bool
kinds_differ pointer v = if pointer then is_number_value v else not (is_number_value v)

-- Steps of a statement whose register takes what was found.

-- what the value is told as; of a reference, the name of its object is loaded first
abbrev pub value_told : {S : Type 0} → (naming : ℕ → S) → Value → Then S
value_told naming Value.Nil = Ends Answer.Nil
value_told naming (Value.Int n) = Ends (Answer.Int n)
value_told naming (Value.Ref r) = GoesOn (naming (r - 1))

-- the register takes the value, and the statement acts
abbrev pub takes : {S : Type 0} → (naming : ℕ → S) → Value → Step S
takes naming v = record { then = value_told naming v; sets = Some v; acts = true }

-- the birth word was found of the object whose reference was taken
abbrev pub ends_with_name : {S : Type 0} → Layout → (found : ℕ) → Step S
ends_with_name l found = record { then = Ends (Answer.Ref (name_of l.goroutines found)); sets = None; acts = false }
