-- The changes of a stack's registers that are no moves: they look into no object, and they colour nothing.
use Rattle.std.specs.Prelude.{ℕ, ◌⊎◌, None}
use Rattle.gh_tri.specs.Tricolour.{Tricolour, put2, IsStackRegister, IsGreyStack, IsBlackStack}
use Rattle.gh_tri.specs.Invariants.{Invariants}

-- A goroutine drops a register where it puts nil or a number there: by `nil` and `int`, by a load of nil or of a number, by a
-- `move` of either, by a `new` that is answered `full`, and by its end, of each register. By any other `move` it copies one.
pub data Change : Type 0 where
  -- a stack, a register: the register is nil, or holds a number
  Drop : ℕ → ℕ → Change
  -- a stack, a register, another register of the stack: the first holds what the second does
  Copy : ℕ → ℕ → ℕ → Change

-- what a change leaves
abbrev pub changed_picture : Tricolour → Change → Tricolour
changed_picture p (Drop s r) = record p { register = put2 p.register s r None }
changed_picture p (Copy s d r) = record p { register = put2 p.register s d (p.register s r) }

-- The stack's scan has not begun or has ended: else what is white might be copied from a register still to be scanned into one
-- that was.
pub record MayCopy (p : Tricolour) (s d r : ℕ) : Type 0 where
  pub into : IsStackRegister p s d
  pub from : IsStackRegister p s r
  pub scan : IsGreyStack p s ⊎ IsBlackStack p s

-- when a change may be made; a register may be dropped in mid-scan too
abbrev pub MayChange : Tricolour → Change → Type 0
MayChange p (Drop s r) = IsStackRegister p s r
MayChange p (Copy s d r) = MayCopy p s d r

-- Each such change keeps the invariants, whichever picture has them.
abbrev pub ChangesKeepTheInvariants : Type 0
ChangesKeepTheInvariants = (p : Tricolour) (c : Change) → Invariants p → MayChange p c → Invariants (changed_picture p c)
