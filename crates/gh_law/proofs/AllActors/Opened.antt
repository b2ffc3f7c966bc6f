-- The coordinator's steps: each leaves the word of the request, or clears it where a cycle is opened; and where a cycle is open its number stays.
use Rattle.std.proofs.Common.{◌≡◌, ℕ, zero, suc, ◌⊎◌, Bool, true, false, cond, refl, arith}
use Rattle.gh_law.proofs.Vocabulary.{after_open, Ask, asks_at, at_stage, Cell, Coordinating, CoordStage, Done, effect, goes_at, is_busy, IsClearing, Layout, Open, opened_after, opens_one, Store, Words}
use Rattle.gh_coord.specs.Events.{by_event}
use Rattle.gh_coord.specs.Opening as opens_by
use Rattle.gh_coord.specs.declared.open.OpenStage.{OpenStage}

-- what opens no cycle in any count opens none
pub none_opened : (ask : Ask) → ((before : ℕ) → opened_after ask before ≡ before) → opens_one ask ≡ false
none_opened ask none = go (opens_one ask) (none 0) where
  go : (b : Bool) → cond b (suc zero) zero ≡ zero → b ≡ false
  go true e = absurd cc
  go false e = refl

-- a cycle is opened already
abbrev past_clear : OpenStage → Type 0
past_clear OpenStage.ClearWant = ⊥
past_clear _ = Unit {0}

abbrev pub IsOpened : CoordStage → Type 0
IsOpened (Open o) = past_clear o.stage
IsOpened _ = ⊥

module _ (w : Words) (l : Layout) (s : Coordinating) where
  -- the request stays
  abbrev Leaves : Ask → Type 0
  Leaves ask = (opens_one ask ≡ false) × (effect w ask Cell.Want ≡ w Cell.Want)

  pub clears : (p : CoordStage) → (IsClearing p × (asks_at l s p ≡ Store Cell.Want 0)) ⊎ Leaves (asks_at l s p)
  clears p = grind arith

module _ (l : Layout) (s : Coordinating) (marks : ℕ) where
  -- with its steps counted
  abbrev u : Coordinating
  u = record s { marks = marks }

  -- A step behind which a cycle is open: it was, or is opened by that step; and its number is the same.

  abbrev From : CoordStage → Coordinating → Type 0
  From p to = (IsClearing p ⊎ IsOpened p) × (to.begun ≡ s.begun)

  abbrev Opens : CoordStage → Coordinating → Type 0
  Opens p to = IsOpened to.stage → From p to

  opening : (o : opens_by.CycleOpening) (p : OpenStage) (found : ℕ) →
      IsOpened (after_open (at_stage u (Open (opens_by.goes_at o p found))) (opens_by.given_at (opens_by.behind p))).stage →
      ((p ≡ OpenStage.ClearWant) ⊎ past_clear p) × ((after_open (at_stage u (Open (opens_by.goes_at o p found))) (opens_by.given_at (opens_by.behind p))).begun ≡ s.begun)
  opening o p found h = grind arith

  pub opened : (p : CoordStage) (found : ℕ) → is_busy p ≡ true → Opens p (goes_at l u p found)
  opened (Open o) found b h = opening o o.stage found h
  opened Done found b h = absurd cc
  opened p found b h = by_event l u found (Opens p) p (λ e may. grind arith) h
