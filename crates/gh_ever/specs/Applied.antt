-- What a statement does to the lists.
use Rattle.std.specs.Prelude.{◌≡◌, ℕ, ◌+◌, ◌-◌, ◌<◌, ◌≤◌, List, length, sum, slice_index, slice_set, Option, Some}
use Rattle.gh_ever.specs.Vocabulary.{answer_of, Ever, ever_after, EverValue, Field, Global, Place, Register, Shape, with_field, with_global, with_register}
use Rattle.gh_base.specs.declared.value.Answer.{Answer}
use Rattle.gh_base.specs.declared.value.Answer.TheVariants.{Full}
use Rattle.gh_base.specs.declared.operation.Op.{Op}
use Rattle.gh_base.specs.declared.operation.Op.TheVariants.{New}
use Rattle.gh_script.specs.declared.statement.Stmt.{Stmt}
use Rattle.gh_ever.specs.Lists.{Lists, ever_of}

-- the answer of the heap that never frees, where a `new` that was told `full` is answered so
abbrev pub given_answer : List Shape → Ever → Op → Option Answer → Answer
given_answer shapes e (New g d t) (Some Full) = Full
given_answer shapes e op told = answer_of shapes e op

-- the statement names no type beyond the script's
abbrev pub NamesType : List Shape → Stmt → Type 0
NamesType shapes (Stmt.New d t) = t < length shapes
NamesType shapes _ = Unit {0}

-- goroutine g has a statement to come
abbrev pub IsDue : Lists → ℕ → Type 0
IsDue lists g = (g < length lists.left) × (0 < slice_index lists.left g)

-- goroutine g has one statement less to come
abbrev pub spent : List ℕ → ℕ → List ℕ
spent left g = slice_set left g (slice_index left g - 1)

-- the value stands at the place
abbrev pub with_value : Ever → Place → EverValue → Ever
with_value e (Global k) v = with_global e k v
with_value e (Register g d) v = with_register e g d v
with_value e (Field n k) v = with_field e n k v

-- a statement of goroutine g was taken off those to come, and no room beyond what it had is used
pub record Spends (old new : Lists) (g : ℕ) : Type 0 where
  pub shapes : new.shapes ≡ old.shapes
  pub left : new.left ≡ spent old.left g
  pub ended : new.ended ≡ old.ended
  pub room : length new.objects + sum new.left ≤ length old.objects + sum old.left

-- the operation of goroutine g was answered and done
pub record Applies (old new : Lists) (g : ℕ) (op : Op) (told : Option Answer) (answer : Answer) : Type 0 where
  pub answered : answer ≡ given_answer old.shapes (ever_of old) op told
  pub after : ever_of new ≡ ever_after old.shapes (ever_of old) op answer
  pub spends : Spends old new g
