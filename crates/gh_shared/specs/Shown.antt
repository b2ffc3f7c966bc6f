-- What a handle shows of a processor's goroutines, by the processor's own entries.
use Rattle.std.specs.Prelude.{◌≡◌, ℕ, zero, suc, ◌+◌, ◌-◌, ◌%◌, ◌^◌, ◌<◌, ◌≤◌, nat_lt, Bool, true, false, not, ◌==◌, ◌&&◌, if◌then◌else◌, List, [], ◌∷◌, length, slice_get, sum_by, Option, Some, None}
use Rattle.gh_shared.specs.Vocabulary.{acks_of, Actor, asked_by, Coordinating, ended_in, Entry, has, has_left, HeapActor, is_coordinator, Leads, machine_actor, MadeAtMost, Op, Planned, Runs, seats_of, setting, spent_at, state_of}
use Rattle.gh_coord.specs.GoingOn.{HasNext}
use Rattle.gh_mutator.specs.Mutating as mutating
use Rattle.gh_mutator.specs.Mutating.{Mutating}
use Rattle.gh_mutator.specs.Serving.{is_leaving}
use Rattle.gh_mutator.specs.Sound.{most_objects}
use Rattle.gh_lists.specs.Wants.{total}
use Rattle.gh_world.specs.Wishes.{wishes_of}

-- goroutine g is one of the processor at seat a, and has not ended by these entries
abbrev pub runs_by : Planned → (a : ℕ) → List (Entry Op) → (g : ℕ) → Bool
runs_by p a own g = nat_lt g p.layout.goroutines && g % p.layout.procs == a && not (ended_in own g)

-- how many `new` and `gc` of goroutine g the script has beside those begun
abbrev pub left_by : Planned → List (Entry Op) → (g : ℕ) → ℕ
left_by p own g = wishes_of p.script g - asked_by g own

-- it is a `new` or a `gc`
abbrev pub asks_for_cycle : Option Op → Bool
asks_for_cycle (Some (Op.New g d t)) = true
asks_for_cycle (Some (Op.Gc g)) = true
asks_for_cycle _ = false

-- how many of them were begun
abbrev pub requests_begun : List (Entry Op) → ℕ
requests_begun [] = 0
requests_begun (e ∷ es) = (if asks_for_cycle e.begun then 1 else 0) + requests_begun es

-- the counts of a handle are those by its actor's entries
pub record CountsSo (p : Planned) (own : List (Entry Op)) (procs : ℕ) (left : List ℕ) (over : List Bool) (gone : Bool) : Type 0 where
  pub procs_are : procs ≡ p.layout.procs
  pub many_left : length left ≡ p.layout.goroutines
  pub many_over : length over ≡ p.layout.goroutines
  pub each_left : (g n : ℕ) → slice_get left g ≡ Some n → n + asked_by g own ≡ wishes_of p.script g
  pub each_over : (g : ℕ) (b : Bool) → slice_get over g ≡ Some b → b ≡ ended_in own g
  pub has_gone : gone ≡ has_left own
  pub few : requests_begun own + sum_by (λ (n : ℕ). n) left ≤ most_objects

-- a processor rests between two calls, and has made no more objects than `new` were begun
pub record ProcessorRests (p : Planned) (a : ℕ) (m : Mutating) (own : List (Entry Op)) : Type 0 where
  pub seat : a < p.layout.procs
  pub idle : mutating.is_busy m ≡ false
  pub leaves : is_leaving m.processor.task ≡ has_left own
  pub made : MadeAtMost (requests_begun own) m.processor

-- if it is one
abbrev pub RestsIfProcessor : Planned → (a : ℕ) → HeapActor → List (Entry Op) → Type 0
RestsIfProcessor p a x own = (m : Mutating) → x ≡ Runs m → ProcessorRests p a m own

-- the coordinator has a further step exactly where it is not done, if it is one
abbrev pub CoordinatorGoesOn : HeapActor → Type 0
CoordinatorGoesOn x = (c : Coordinating) → x ≡ Leads c → HasNext c

-- what a handle keeps of its actor between two calls
pub record IsKeptByHandle (p : Planned) (a : ℕ) (m : HeapActor) (own : List (Entry Op)) (procs : ℕ) (left : List ℕ) (over : List Bool) (gone : Bool) : Type 0 where
  pub counts : CountsSo p own procs left over gone
  pub rests : RestsIfProcessor p a m own
  pub goes_on : CoordinatorGoesOn m

-- ---- what the seat carries

-- how many of the first n numbers are among these
abbrev pub count_among : List ℕ → (n : ℕ) → ℕ
count_among xs zero = 0
count_among xs (suc n) = count_among xs n + (if has xs n then 1 else 0)

-- the coordinator: the actor itself, if it is the coordinator, and else the one that was gathered, if one was
abbrev pub leader_of : HeapActor → Option Coordinating → Option Coordinating
leader_of (Leads c) led = Some c
leader_of _ led = led

-- as an actor of the lists
abbrev pub as_actor : Option Coordinating → Option Actor
as_actor None = None
as_actor (Some c) = Some (Actor.Leads c)

-- the second where there is no first
abbrev pub first_of : Option Coordinating → Option Coordinating → Option Coordinating
first_of None led = led
first_of (Some c) led = Some c

-- the words of credit that the actor has drawn
abbrev pub credit_drawn : HeapActor → ℕ
credit_drawn x = spent_at (machine_actor x)

-- what actor c has drawn by these entries, where it is among the actors xs and is not a
abbrev pub drawn_beside : Planned → (a : ℕ) → (xs : List ℕ) → List (Entry Op) → (c : ℕ) → ℕ
drawn_beside p a xs log c = if has xs c && not (a == c) then spent_at (state_of (setting p).kind c log) else 0

-- What a handle keeps of the actors xs that its seat carries, where these are their entries: it is the handle of actor a, which is the coordinator exactly where it stands last; it has counted them, and what those beside a have drawn; and where the coordinator is carried its machine is there
pub record CarriesSo (p : Planned) (xs : List ℕ) (log : List (Entry Op)) (a : ℕ) (x : HeapActor) (carried drawn : ℕ) (led : Option Coordinating) : Type 0 where
  pub known : a < seats_of p.layout
  pub last : is_coordinator x ≡ (a == acks_of p.layout)
  pub counted : carried ≡ count_among xs (seats_of p.layout)
  pub summed : drawn ≡ total (drawn_beside p a xs log) (seats_of p.layout) % 2 ^ 64
  pub none : has xs (acks_of p.layout) ≡ false → led ≡ None
  pub leader : has xs (acks_of p.layout) ≡ true → as_actor (leader_of x led) ≡ Some (state_of (setting p).kind (acks_of p.layout) log)
