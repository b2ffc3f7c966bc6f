-- What is known of a processor at every moment; and where it is parked at a stop, or is gone, what rights it has, and what lasts whatever is done to the words.
use Rattle.std.proofs.Common.{◌≡◌, ℕ, Bool, false, Option, None, ◌∙◌, arith}
use Rattle.gh_mutator_heap.proofs.Vocabulary.{Answer, Arena, FactsAt, Freeing, Has, HasAt, IsParked, KeepsGhosts, KnowsAt, KnowsAtAnyTime, Laying, no_page, Parked, Polling, Processor, Rights, StandsAlways, Stopped, Task, View}
use Rattle.gh_mutator.specs.ProcessorPlaces.{stage_at}
use Rattle.gh_mutator_heap.proofs.Owning.Known.{Known}
use Rattle.gh_mutator_heap.proofs.Owning.Steady.{same_counts}

-- At every moment.

module _ (z : Arena) (a : ℕ) (v : View) (p : Polling) where
  stands_at : (q : Task) → KnowsAt z a v p q → KnowsAtAnyTime z a v p
  stands_at q h = grind arith

pub stands_always : StandsAlways
stands_always z a v m pending fine = stands_at z a v m.poll m.task fine.knows

module _ (k : Known) (z : Arena) (a : ℕ) (v : View) (m : Processor) (pending : Option Answer) (stops : ℕ) where
  parked_at : (q : Task) → IsParked stops (stage_at m.poll q) → KnowsAt z a v m.poll q → HasAt a v m q → FactsAt z a v m pending q → Has a v false no_page × (pending ≡ None)
  parked_at q is knows right h = grind arith

  -- What lasts.
  module _ (w : View) (keeps : KeepsGhosts a v w) where
    rights_stay : (l : Bool) (h : ℕ → Bool) (y : Option Laying) (f : Option Freeing) → Rights a v l h y f → Rights a w l h y f
    rights_stay l h y f r = record { locked = keeps.locked ∙ r.locked; holds = λ p. keeps.holds p ∙ r.holds p; laying = keeps.laying ∙ r.laying; freeing = keeps.freeing ∙ r.freeing }

    stopped_at : (q : Task) → IsParked stops (stage_at m.poll q) → KnowsAt z a v m.poll q → FactsAt z a v m pending q → KnowsAt z a w m.poll q × FactsAt z a w m pending q
    stopped_at q is knows h = grind arith

pub parked : Known → Parked
parked k z a v m pending stops is fine = parked_at k z a v m pending stops m.task is fine.knows fine.right fine.task

pub stopped : Known → Stopped
stopped k z a v w m pending stops is keeps fine = let t = stopped_at k z a v m pending stops w keeps m.task is fine.knows fine.task in
    record { counts = same_counts z a v w m.made (keeps.ever, keeps.place) fine.counts; knows = t.0; right = rights_stay k z a v m pending stops w keeps _ _ _ _ fine.right; task = t.1 }
