-- What the coordinator knows of the bank of credit, and how its steps keep it: it knows what has lapsed, and the bank is empty but from where a cycle is marked until it clears the bank.
use Rattle.std.proofs.Common.{◌≡◌, ℕ, ◌+◌, ◌^◌, ◌<◌, true, refl, arith}
use Rattle.gh_law.proofs.Vocabulary.{Cell, Check, Close, CloseStage, Coordinating, CoordStage, Layout, Load, MarkOn, RunPhase, StopAgain, Stopped, Store, Watch}
use Rattle.gh_coord.specs.Closing as close
use Rattle.gh_coord.specs.Handshake as leading
use Rattle.gh_coord.specs.Listing as coord
use Rattle.gh_law.proofs.Crediting.Bank.{IsClearing}

-- the bank may hold credit
abbrev pub HoldsAt : CloseStage → Type 0
HoldsAt CloseStage.LoadBank = Unit {0}
HoldsAt CloseStage.ClearBank = Unit {0}
HoldsAt _ = ⊥

abbrev pub MayHold : CoordStage → Type 0
MayHold (Watch w) = Unit {0}
MayHold (StopAgain st) = Unit {0}
MayHold (Check w) = Unit {0}
MayHold MarkOn = Unit {0}
MayHold (Close y) = HoldsAt y.stage
MayHold _ = ⊥

-- what it has loaded and not cleared yet
abbrev pub loaded : CloseStage → (bank : ℕ) → ℕ
loaded CloseStage.ClearBank bank = bank
loaded _ bank = 0

abbrev pub loaded_at : CoordStage → (bank : ℕ) → ℕ
loaded_at (Close y) bank = loaded y.stage bank
loaded_at _ bank = 0

-- so much has lapsed, so much is in the bank, and the coordinator, which has kept this as lapsed, is at this stage
pub record KnowsBank (n bank lapsed : ℕ) (p : CoordStage) : Type 0 where
  pub knows : coord.lapsed_at lapsed p ≡ n + loaded_at p bank
  pub empty : (MayHold p → ⊥) → bank ≡ 0

pub lead_goes : (l : Layout) (c : Coordinating) (n bank found : ℕ) → n + bank < 2 ^ 64 → (coord.asks l c ≡ Load Cell.Bank → found ≡ bank) → (IsClearing c.stage → ⊥) → coord.is_busy c.stage ≡ true → KnowsBank n bank c.lapsed c.stage → KnowsBank n bank (coord.goes l c found).lapsed (coord.goes l c found).stage
lead_goes l c n bank found fits finds other busy k = record { knows = grind arith; empty = grind arith }

-- By the store into the bank what it has loaded has lapsed, and nothing is left there.

pub lead_clears : (l : Layout) (c : Coordinating) (n bank found : ℕ) → IsClearing c.stage → KnowsBank n bank c.lapsed c.stage → KnowsBank (n + bank) 0 (coord.goes l c found).lapsed (coord.goes l c found).stage
lead_clears l c n bank found is k = grind arith

-- what it asks for there
pub asks_clearing : (l : Layout) (c : Coordinating) (p : CoordStage) → IsClearing p → coord.asks_at l c p ≡ Store Cell.Bank 0
asks_clearing l c p is = grind arith

-- Where a cycle is marked and the world runs, the bank may change.

runs_close : (y : close.Closing) (p : CloseStage) → close.is_marking p ≡ true → ((phase : RunPhase) → leading.close_post p ≡ Stopped phase → ⊥) → ⊥
runs_close y CloseStage.StorePhase on runs = absurd (cc)
runs_close y CloseStage.Ended on runs = absurd (cc)
runs_close y _ on runs = runs RunPhase.Mark refl

pub may_add : (p : CoordStage) → leading.Marks p → ((phase : RunPhase) → leading.post_at p ≡ Stopped phase → ⊥) → (n bank then lapsed : ℕ) → KnowsBank n bank lapsed p → KnowsBank n then lapsed p
may_add p on runs n bank then lapsed k = grind (arith, runs_close)

-- While no cycle is marked the bank is empty, and the coordinator knows what has lapsed.

pub off_marks : (p : CoordStage) → (leading.Marks p → ⊥) → (n bank lapsed : ℕ) → KnowsBank n bank lapsed p → (bank ≡ 0) × (n ≡ coord.lapsed_at lapsed p)
off_marks p off n bank lapsed k = grind arith
