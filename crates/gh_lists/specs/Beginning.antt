-- Which operations may begin, and that a goroutine ends by its end alone. Operations are named here, stages are not.
use Rattle.std.proofs.Common.{◌≡◌, ℕ, ◌⊎◌, Bool, true, List, length, arith, ◌&&◌, ◌||◌}
use Rattle.gh_lists.specs.Vocabulary.{Answer, Arena, Entry, Ever, ever_after, has_room, Op, Processor, Shape}
use Rattle.gh_lists.specs.LemmaVocabulary.{may_leave}
use Rattle.gh_lists.specs.Order.{in_range}
use Rattle.gh_lists.specs.Processors.{may_run, may_begin}

-- Tests.

pub both : (b c : Bool) → (b && c) ≡ true → (b ≡ true) × (c ≡ true)
both b c e = grind arith

pub or-true : (b c : Bool) → c ≡ true → (b || c) ≡ true
or-true b c e = grind arith

-- What may begin.

-- the parts of what may begin
pub record MayParts (z : Arena) (counts : ℕ → ℕ) (a : ℕ) (m : Processor) (es : List (Entry Op)) (o : Op) : Type 0 where
  pub runs : may_run z a m es o ≡ true
  pub leaves : may_leave z a es o ≡ true
  pub range : in_range z.layout.goroutines z.layout.globals (length z.shapes) o ≡ true
  pub room : has_room m o ≡ true

pub may_parts : (z : Arena) (counts : ℕ → ℕ) (a : ℕ) (m : Processor) (es : List (Entry Op)) (o : Op) → may_begin z counts a m es o ≡ true → MayParts z counts a m es o
may_parts z counts a m es o may = grind (arith, both)

-- A goroutine ends by its end alone.

pub ends-by : (shapes : List Shape) (e : Ever) (o : Op) (x : Answer) (g : ℕ) → (ever_after shapes e o x).ended g ≡ true → (e.ended g ≡ true) ⊎ (o ≡ Op.End g)
ends-by shapes e o x g is = grind arith
