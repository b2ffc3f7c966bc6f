-- Which steps leave the bank of credit as it is: all but a worker's hand-over, a swap of a processor that assists, and the coordinator's store where it ends marking.
use Rattle.std.proofs.Common.{◌≡◌, ◌⊎◌, ℕ, ◌+◌, ◌≤◌, arith}
use Rattle.gh_law.proofs.Vocabulary.{Add, And, Ask, asks_at, Cell, Close, CloseStage, Coordinating, CoordStage, drawn_by, effect, handed_by, IsAssisting, IsWritten, lapsed_by, Layout, LeavesOrDraws, Load, nat_tests, Or, Processor, Store, Swap, SweepStage, Words, WritesItsOwn, WritesOf}
use Rattle.gh_sweep.specs.Listing as sweep

abbrev pub IsOther : Cell → Type 0
IsOther Cell.Bank = ⊥
IsOther _ = Unit {0}

-- it loads, or is on another word
abbrev pub IsBeside : Ask → Type 0
IsBeside (Load c) = Unit {0}
IsBeside (Store c value) = IsOther c
IsBeside (Or c bits) = IsOther c
IsBeside (And c bits) = IsOther c
IsBeside (Add c more) = IsOther c
IsBeside (Swap c old new) = IsOther c

-- so the bank's word stays, and nothing is earned or spent or lapses
pub record LeavesBank (q : Ask) : Type 0 where
  pub bank : (w : Words) → effect w q Cell.Bank ≡ w Cell.Bank
  pub earns : handed_by q ≡ 0
  pub spends : (found : ℕ) → drawn_by q found ≡ 0
  pub lapses : (found : ℕ) → lapsed_by q found ≡ 0

pub leaves_bank : (q : Ask) → IsBeside q → LeavesBank q
leaves_bank q is = grind (arith, nat_tests)

-- By a swap on the bank that takes words out of it, what it is less by is drawn.
pub draws_bank : (w : Words) (old new : ℕ) → new ≤ old → effect w (Swap Cell.Bank old new) Cell.Bank + drawn_by (Swap Cell.Bank old new) (w Cell.Bank) ≡ w Cell.Bank
draws_bank w old new le = grind arith

-- A processor's step: it is beside, or a swap on the bank by which it takes words out, while it assists.

pub record DrawsOnBank (m : Processor) (q : Ask) : Type 0 where
  pub old : ℕ
  pub new : ℕ
  pub is : q ≡ Swap Cell.Bank old new
  pub falls : new ≤ old
  pub assists : IsAssisting m.task

pub processor_beside : (l : Layout) (m : Processor) (q : Ask) → WritesOf (IsWritten l m) q → LeavesOrDraws q → IsBeside q ⊎ DrawsOnBank m q
processor_beside l m q is draws = grind arith

-- A step of a sweep.
pub sweep_beside : (l : Layout) (v : sweep.Sweeping) (p : SweepStage) → IsBeside (sweep.asks_at l v p)
sweep_beside l v p = grind arith

-- A worker's, while it sweeps no span: it is a hand-over to the bank, or beside.

pub worker_beside : (seat : ℕ) (q : Ask) → WritesItsOwn seat q → IsBeside q ⊎ ((more : ℕ) × (q ≡ Add Cell.Bank more))
worker_beside seat q is = grind arith

-- The coordinator's: all but the store into the bank, where it ends marking.

abbrev pub IsClearing : CoordStage → Type 0
IsClearing (Close y) = y.stage ≡ CloseStage.ClearBank
IsClearing _ = ⊥

pub lead_beside : (l : Layout) (c : Coordinating) (p : CoordStage) → IsBeside (asks_at l c p) ⊎ IsClearing p
lead_beside l c p = grind arith
