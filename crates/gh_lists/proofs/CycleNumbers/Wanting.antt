-- The coordinator's steps: what each leaves of the request for a cycle, and of how many are opened.
use Rattle.std.proofs.Common.{◌≡◌, ℕ, suc, ◌+◌, ◌≤◌, ◌⊎◌, Bool, true, false, refl, arith}
use Rattle.gh_lists.proofs.Vocabulary.{after_open, Ask, asked_after, asks_at, at_stage, bit, by_event, Cell, cell_of, Coordinating, CoordStage, Done, effect, goes_at, is_busy, IsIdle, IsToOpen, last_at, Layout, Open, opened_after, OpenStage, Watch, Words}
use Rattle.gh_coord.specs.Opening as opens_by
use Rattle.gh_coord.specs.Watching as watch

pub record WantsAt (opened asked want : ℕ) (is_last : Bool) (p : CoordStage) : Type 0 where
  pub word : want ≤ 1
  pub enough : opened + want ≤ asked + last_at is_last p
  pub idle : IsIdle p → is_last ≡ false
  pub wanted : IsToOpen p → (is_last ≡ true) ⊎ (want ≡ 1)

module _ (opened asked : ℕ) (w : Words) (l : Layout) (s : Coordinating) (marks : ℕ) where
  -- with its steps counted
  abbrev u : Coordinating
  u = record s { marks = marks }

  abbrev In : CoordStage → Type 0
  In p = WantsAt opened asked (w Cell.Want) s.is_last p

  abbrev Next : Ask → Coordinating → Type 0
  Next ask to = WantsAt (opened_after ask opened) (asked_after ask asked) (effect w ask Cell.Want) to.is_last to.stage

  -- within a cycle that is opened
  within : (p q : CoordStage) → last_at s.is_last p ≡ bit s.is_last → last_at s.is_last q ≡ bit s.is_last → (IsIdle q → ⊥) → (IsToOpen q → ⊥) → In p → In q
  within p q is then busy open_ h = record { word = h.word; enough = let e = h.enough in omega (arith, is, then, e); idle = λ x. absurd (busy x); wanted = λ x. absurd (open_ x) }

  -- a cycle is opened
  clearing : (o : opens_by.CycleOpening) → In (Open (record o { stage = OpenStage.ClearWant })) → WantsAt (suc opened) asked 0 s.is_last (Open (record o { stage = OpenStage.ClearGcur }))
  clearing o h = grind arith

  opening : (o : opens_by.CycleOpening) (p : OpenStage) (found : ℕ) → opens_by.is_busy p ≡ true → In (Open (record o { stage = p })) →
      Next (opens_by.asks_at o p) (after_open (at_stage u (Open (opens_by.goes_at o p found))) (opens_by.given_at (opens_by.behind p)))
  opening o OpenStage.ClearWant found b h = clearing o h
  opening o OpenStage.StorePhase found b h = within (Open (record o { stage = OpenStage.StorePhase })) (Watch (watch.opening s.begun)) refl refl (λ x. x) (λ x. x) h
  opening o OpenStage.Ended found b h = absurd cc
  opening o _ found b h = within _ _ refl refl (λ x. x) (λ x. cc) h

  pub goes_so : (p : CoordStage) (found : ℕ) → is_busy p ≡ true → found ≡ w (cell_of (asks_at l s p)) → In p → Next (asks_at l s p) (goes_at l u p found)
  goes_so (Open o) found b f h = opening o o.stage found b h
  goes_so Done found b f h = absurd cc
  goes_so p found b f h = by_event l u found (Next (asks_at l s p)) p (λ e may. grind arith)
