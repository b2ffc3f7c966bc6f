-- How a handle counts what is begun.
use Rattle.std.specs.Prelude.{◌≡◌, ℕ, ◌-◌, ◌<◌, ◌≤◌, Bool, true, false, List, length, slice_get, slice_index_or, slice_set, sum_by, Some}
use Rattle.gh_actor.specs.Vocabulary.{most_objects, Op, Program, wishes_of}

-- the counts before anything is begun
pub record CountsFirst (p : Program) (procs : ℕ) (left : List ℕ) (over : List Bool) (gone : Bool) : Type 0 where
  pub procs_are : procs ≡ p.settings.procs
  pub many_left : length left ≡ length p.goroutines
  pub many_over : length over ≡ length p.goroutines
  pub each_left : (g n : ℕ) → slice_get left g ≡ Some n → n ≡ wishes_of p g
  pub each_over : (g : ℕ) (b : Bool) → slice_get over g ≡ Some b → b ≡ false
  pub has_gone : gone ≡ false
  pub few : sum_by (λ (n : ℕ). n) left ≤ most_objects

-- a further one of these is left
abbrev pub HasOneAt : List ℕ → ℕ → Type 0
HasOneAt left g = (g < length left) × (1 ≤ slice_index_or left g 0)

-- the operation can be counted
abbrev pub MayCount : List ℕ → List Bool → Op → Type 0
MayCount left over (Op.New g d t) = HasOneAt left g
MayCount left over (Op.Gc g) = HasOneAt left g
MayCount left over (Op.End g) = g < length over
MayCount left over _ = Unit {0}

-- the counts once it is begun
abbrev pub left_after : List ℕ → Op → List ℕ
left_after left (Op.New g d t) = slice_set left g (slice_index_or left g 0 - 1)
left_after left (Op.Gc g) = slice_set left g (slice_index_or left g 0 - 1)
left_after left _ = left

abbrev pub over_after : List Bool → Op → List Bool
over_after over (Op.End g) = slice_set over g true
over_after over _ = over

abbrev pub gone_after : Bool → Op → Bool
gone_after gone Op.Leave = true
gone_after gone _ = gone
