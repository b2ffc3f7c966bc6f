-- The words of credit that the processors of a world have drawn: no other actor has drawn any.
use Rattle.std.proofs.Common.{◌≡◌, ℕ, zero, suc, ◌+◌, ◌-◌, ◌≤◌, length, ap, ◌∙◌, arith, Option, slice_get}
use Rattle.gh_world.proofs.Vocabulary.{actor_of, drawn_of, spent_among, spent_at, State, total, worker_or}
use Rattle.gh_coord.specs.Listing as coord
use Rattle.gh_worker.specs.Listing as worker
use Rattle.gh_world.proofs.Parts.{other_here}

total_more : (f : ℕ → ℕ) (n k : ℕ) → ((i : ℕ) → n ≤ i → f i ≡ 0) → total f (n + k) ≡ total f n
total_more f n zero none = let is : n + 0 ≡ n = omega arith in ap (total f) is
total_more f n (suc k) none =
    let is : n + suc k ≡ suc (n + k) = omega arith in
    let last = none (n + k) (omega arith) in
    let rest = total_more f n k none in
    ap (total f) is ∙ omega (arith, last, rest)

none_other : (c : coord.Coordinating) (o : Option worker.Working) → spent_at (worker_or c o) ≡ 0
none_other c o = grind arith

pub drawn_all : (w : State) → drawn_of w ≡ spent_among (actor_of w) (length w.runners)
drawn_all w =
    let it : length w.runners + length w.workers + 1 ≡ length w.runners + (length w.workers + 1) = omega arith in
    ap (spent_among (actor_of w)) it
    ∙ total_more (λ a. spent_at (actor_of w a)) (length w.runners) (length w.workers + 1) (λ a le.
    ap spent_at (other_here w a (a - length w.runners) (omega (arith, le))) ∙ none_other w.coord (slice_get w.workers (a - length w.runners)))
