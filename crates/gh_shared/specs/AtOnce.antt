-- An operation whose steps were made while the machine of its processor stayed behind.
use Rattle.std.specs.Prelude.{◌≡◌, ℕ, ◌≤◌, false, List, length, Some}
use Rattle.gh_shared.specs.Vocabulary.{Answer, asks, begins, Gave, gives, goes, HasShapes, HeapActor, is_busy, Layout, machine_actor, Op, Planned, Ran, SawLegalList, setting, View}
use Rattle.atomic_table.specs.Table.{Me}
use Rattle.gh_table.specs.Rule.{actor_in}

-- The processor x has run the operation to its end, by exactly its steps, so many at the most. It is x' now: what it is after them, and what the actor is after its entries.
pub record RanAtOnce (l : Layout) (a : ℕ) (o : Op) (most : ℕ) (x : HeapActor) (me : Me (Unit {0}) (View Planned Op)) (x' : HeapActor) (me' : Me (Unit {0}) (View Planned Op)) (given : Answer) : Type 0 where
  pub founds : List ℕ
  pub few : length founds ≤ most
  pub ran : Ran (asks l) (goes l) a (Some o) (begins x o) me x' me' founds
  pub gave : Gave (goes l) (gives l) (begins x o) founds (Some given)
  pub saw : SawLegalList setting a me me'
  pub idle : is_busy x' ≡ false
  pub shapes : HasShapes me'.0.plan x'
  pub state : machine_actor x' ≡ actor_in setting me'.0 a
  pub slots : me'.1 ≡ me.1
