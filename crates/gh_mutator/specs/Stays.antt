-- An operation is answered exactly where no further step is asked for. And what single steps come to, for the crates above that cite it.
use Rattle.std.proofs.Common.{ap, arith, ◌≡◌, ℕ, Bool, true, false, ◌↔◌, List, Option, Some, None, is_none, IsNone, refl}
use Rattle.gh_mutator.specs.Vocabulary.{Answer, Assisting, Found, Layout, marking_at, Name, NewStage, Placing, Polling, Seeking, Shape, Task, Then, Wanted}
use Rattle.gh_alloc.specs.Search as search
use Rattle.gh_alloc.specs.Stays.{Base, search_base}
use Rattle.gh_poll.specs.Leave as leave
use Rattle.gh_poll.specs.Poll as poll
use Rattle.gh_poll.specs.Stays.{payment_spent}
use Rattle.gh_poll.specs.Wait as wait
use Rattle.gh_mutator.specs.Global as global
use Rattle.gh_mutator.specs.Listing.{after_gc, after_leave, after_poll as after_polls, follows, gives_at, is_busy_at, once_ended, takes_at}
use Rattle.gh_mutator.specs.Load as load
use Rattle.gh_mutator.specs.Mutating.{Mutating, gives, goes, is_busy}
use Rattle.gh_mutator.specs.New.{after_assist, after_search, answer_assist, answer_made, answer_search, made_task}
use Rattle.gh_mutator.specs.New as new
use Rattle.gh_mutator.specs.Processor.{register_of}
use Rattle.gh_mutator.specs.Spending.{spent_of}
use Rattle.gh_mutator.specs.Step.{answered}
use Rattle.gh_mutator.specs.Store as store
use Rattle.gh_mutator.specs.Processing.{Processor}

-- ---- the processor

-- what holds of it where a routine goes on, and where that has ended
once : (P : Processor → Type 0) (after : Option (Unit {0}) → Processor) → P (after None) → ((x : Unit {0}) → P (after (Some x))) → (out : Option (Unit {0})) → P (after out)
once P after on over out = grind arith

-- it is answered exactly where it ends
then_ends : {S : Type 0} (goes : S → Task) (t : Then S) → ((s : S) → is_busy_at (goes s) ≡ true) → is_busy_at (follows goes t) ≡ is_none (answered t)
then_ends goes t busy = grind arith

search_ends : (shapes : List Shape) (m : Processor) (w : Wanted) (waited : Bool) (s : Seeking) (out : Option Found) → is_busy_at (after_search shapes m w waited s out).task ≡ is_none (answer_search waited out)
search_ends shapes m w waited s out = grind arith

place_ends : (p : Polling) (w : Wanted) (x : Placing) (asks : Option Bool) → is_busy_at (made_task p w x asks) ≡ is_none (answer_made (marking_at p) x.name asks)
place_ends p w x asks = grind arith

assist_ends : (m : Processor) (w : Wanted) (n : Name) (x : Assisting) (out : Option (Unit {0})) → is_busy_at (after_assist m w n x out).task ≡ is_none (answer_assist n out)
assist_ends m w n x out = grind arith

once_ends : (after : Option (Unit {0}) → Processor) (a : Answer) → is_busy_at (after None).task ≡ true → ((x : Unit {0}) → is_busy_at (after (Some x)).task ≡ false) → (out : Option (Unit {0})) → is_busy_at (after out).task ≡ is_none (once_ended out a)
once_ends after a on over out = grind arith

new_ends : (l : Layout) (shapes : List Shape) (m : Processor) (w : Wanted) (s : NewStage) (found : ℕ) → is_busy_at (new.takes_at l shapes m w s found).task ≡ is_none (new.gives_at l (marking_at m.poll) s found)
new_ends l shapes m w s found = grind (arith, assist_ends, once, place_ends, search_ends)

ends_at : (l : Layout) (shapes : List Shape) (m : Processor) (t : Task) (found : ℕ) → is_busy_at t ≡ true → is_busy_at (takes_at l shapes m t found).task ≡ is_none (gives_at l m t found)
ends_at l shapes m Task.Idle found busy = absurd (cc)
ends_at l shapes m Task.Left found busy = absurd (cc)
ends_at l shapes m (Task.Load x) found busy = then_ends Task.Load (load.step l x found).then (λ s. refl)
ends_at l shapes m (Task.Store x) found busy = then_ends Task.Store (store.step l m.poll.local (register_of m x.g x.v) x found).then (λ s. refl)
ends_at l shapes m (Task.Global x) found busy = then_ends Task.Global (global.step l (register_of m x.g x.r) x found).then (λ s. refl)
ends_at l shapes m (Task.Register x) found busy = refl
ends_at l shapes m (Task.New x) found busy = new_ends l shapes m x.wanted x.stage found
ends_at l shapes m (Task.Gc g x) found busy = once_ends (after_gc m g (wait.goes l (wait.waiting x m.poll) found)) Answer.Swept refl (λ y. refl) (wait.gives l (wait.waiting x m.poll) found)
ends_at l shapes m Task.Poll found busy = once_ends (after_polls m (poll.goes l m.poll found)) Answer.Done refl (λ y. refl) (poll.gives l m.poll found)
ends_at l shapes m (Task.End g) found busy = refl
ends_at l shapes m (Task.Leave x) found busy = once_ends (after_leave m (leave.goes x found)) Answer.Done refl (λ y. refl) (leave.gives x found)

pub ends : (l : Layout) (m : Mutating) (found : ℕ) → is_busy m ≡ true → IsNone (gives l m found) ↔ (is_busy (goes l m found) ≡ true)
ends l m found busy = grind (arith, ends_at)

-- ---- what a routine of it keeps, and what it takes from the processor

-- a search is for the same until it ends
pub search_wants : (l : Layout) (s : Seeking) (found : ℕ) → (search.goes l s found).find.wanted ≡ s.find.wanted
search_wants l s found = ap (λ (b : Base). b.wanted) (search_base l s.find s.stage found)

-- and it begins with the sweep generation that the processor knows
pub seeks_now : (m : Processor) (w : Wanted) → (new.seeking m w).find.generation ≡ m.poll.local.view.generation
seeks_now m w = refl

-- an assist leaves the words that it says it has spent
pub assist_spent : (m : Processor) (w : Wanted) (n : Name) (x : Assisting) (out : Option (Unit {0})) → spent_of (after_assist m w n x out) ≡ x.spent
assist_spent m w n x out = grind (arith, payment_spent)
