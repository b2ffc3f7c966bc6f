-- What the steps of a poll and a wait leave as it is: the seat, the registers and what was drawn. And what single steps come to, for the crates above that cite it.
use Rattle.std.proofs.Common.{ap, arith, ◌≡◌, ◌==◌, ℕ, ◌<◌, Bool, true, cond, List, Option, Some, None, refl}
use Rattle.gh_poll.specs.Vocabulary.{Assisting, GiveStage, Held, Layout, Resumed, Shaded, Value, WaitStage}
use Rattle.gh_shade.specs.Listing as shade
use Rattle.gh_wbuf.specs.RoomFinding as room
use Rattle.gh_poll.specs.Give as give
use Rattle.gh_poll.specs.Leave as leave
use Rattle.gh_poll.specs.Local.{with_payment}
use Rattle.gh_poll.specs.MarkStack as mark
use Rattle.gh_poll.specs.Poll as poll
use Rattle.gh_poll.specs.Poll.{after_room, Polling, resumed}
use Rattle.gh_poll.specs.Wait as wait
use Rattle.gh_poll.specs.Wait.{Waiting}

-- ---- giving back, the scan of a stack, and leaving

-- neither a shading nor a search for room ends it
pub shaded_on : (l : Layout) (m : mark.StackMarking) (sh : shade.Shading) (out : Option Shaded) → mark.given (mark.after_shade l m sh out).stage ≡ None
shaded_on l m sh out = grind arith

pub found_on : (m : mark.StackMarking) (sh : shade.Shading) (r : room.RoomFinding) (out : Option Held) → mark.given (mark.after_room m sh r out).stage ≡ None
found_on m sh r out = grind arith

-- neither does the giving back
pub leaves_on : (g : give.Giving) → leave.given (leave.stage_of g) ≡ None
leaves_on g = grind arith

-- ---- a poll and a wait

-- what a poll leaves as it is
abbrev kept : Polling → ℕ × List (List Value) × ℕ
kept p = (p.seat, p.local.stacks, p.local.spent)

poll_keeps : (l : Layout) (p : Polling) (found : ℕ) → kept (poll.goes l p found) ≡ kept p
poll_keeps l p found = grind arith

pub poll_stacks : (l : Layout) (p : Polling) (found : ℕ) → (poll.goes l p found).local.stacks ≡ p.local.stacks
poll_stacks l p found = ap (λ (x : ℕ × List (List Value) × ℕ). x.1) (poll_keeps l p found)

pub poll_spent : (l : Layout) (p : Polling) (found : ℕ) → (poll.goes l p found).local.spent ≡ p.local.spent
poll_spent l p found = ap (λ (x : ℕ × List (List Value) × ℕ). x.2) (poll_keeps l p found)

after_keeps : (w : Waiting) (p : Polling) (out : Option (Unit {0})) → kept (wait.after_poll w p out).poll ≡ kept p
after_keeps w p out = grind arith

swept_keeps : (w : Waiting) (later : Bool) → kept (cond later (wait.at_stage w WaitStage.Ended) (wait.polling w)).poll ≡ kept w.poll
swept_keeps w later = grind arith

wait_at : (l : Layout) (w : Waiting) (stage : WaitStage) (found : ℕ) → kept (wait.goes_at l w stage found).poll ≡ kept w.poll
wait_at l w stage found = grind (arith, after_keeps, poll_keeps, swept_keeps)

pub wait_seat : (l : Layout) (w : Waiting) (found : ℕ) → (wait.goes l w found).poll.seat ≡ w.poll.seat
wait_seat l w found = grind (arith, wait_at)

pub wait_stacks : (l : Layout) (w : Waiting) (found : ℕ) → (wait.goes l w found).poll.local.stacks ≡ w.poll.local.stacks
wait_stacks l w found = grind (arith, wait_at)

pub wait_spent : (l : Layout) (w : Waiting) (found : ℕ) → (wait.goes l w found).poll.local.spent ≡ w.poll.local.spent
wait_spent l w found = grind (arith, wait_at)

-- it ends by a later cycle than it knew, which it loads
pub ends_later : (l : Layout) (w : Waiting) (stage : WaitStage) (found : ℕ) (x : Unit {0}) → wait.given (wait.goes_at l w stage found).wait.stage ≡ Some x → (stage ≡ WaitStage.LoadSwept) × (w.wait.known < found)
ends_later l w stage found x e = grind arith

-- ---- what single steps come to

-- behind a stop at which another cycle has begun it owes nothing
pub other_cycle_owes : (p : Polling) (out : Resumed) → out.another_cycle ≡ true → (resumed p out).local.owed ≡ 0
other_cycle_owes p out e = grind arith

-- behind an assist it has drawn what that says
pub payment_spent : (p : Polling) (x : Assisting) → (with_payment p x).local.spent ≡ x.spent
payment_spent p x = refl

-- the giving back of spans begins where the lock was free
pub lock_leads : (g : give.Giving) (found : ℕ) (free : Bool) → (found == 0) ≡ free → give.goes_at g GiveStage.Lock found ≡ give.at_stage g (cond free (give.stage_from g.cache 0) GiveStage.Lock)
lock_leads g found free e = ap (λ (b : Bool). give.at_stage g (cond b (give.stage_from g.cache 0) GiveStage.Lock)) e
