-- A call that answers a fault leaves all as it was.
use Rattle.std.proofs.Common.{◌≡◌, ◌≢◌, ℕ, zero, suc, ◌<◌, ◌≤◌, ◌==◌, true, false, cond, All, List, [], ◌∷◌, ◌++◌, length, arith, refl, sym, ap, ◌∙◌, subst, Option, Some, eq-eqb, ne_eqb}
use Rattle.gh_shared.proofs.Vocabulary.{Actor, All-cons, All-nil, Answer, asks, at_task, begins, begun_next, by, ended_at, ended_of, ends_with_answer, entries_made, Entry, entry, Fault, FaultChangesNothing, FaultsChangeNothing, Gave, gives, goes, Handle, HeapActor, is_busy_at, is_leaving, is_load, IsProcessor, Layout, layout_of, Leads, machine_actor, machine_after, machine_of, Marks, Mutating, number_of, Op, Operated, own_of, ProcessorRests, rested, room_at, Runs, Task, told, view_of}
use Rattle.gh_mutator.specs.declared.task.Task.TheVariants.{Idle}
use Rattle.gh_mutator.specs.Mutating as mutating
use Rattle.gh_shared.specs.declared.heap.Heap.{Heap}
use Rattle.gh_shared.specs.Faults.{FaultLeavesAll, LeavesAll}
use Rattle.gh_shared.proofs.Keeping.{by_made, runs_after}

-- ---- what its steps found, counted from 0

found_of : List ℕ → ℕ → ℕ
found_of [] i = 0
found_of (n ∷ ns) i = cond (i == length ns) n (found_of ns i)

found_earlier : (n : ℕ) (ns : List ℕ) (i : ℕ) → i < length ns → found_of (n ∷ ns) i ≡ found_of ns i
unfolding found_of
found_earlier n ns i lt = let ne : i ≢ length ns = omega (arith, lt) in rw (ne_eqb i (length ns) ne) refl

found_here : (n : ℕ) (ns : List ℕ) → found_of (n ∷ ns) (length ns) ≡ n
unfolding found_of
found_here n ns = rw (eq-eqb (length ns) (length ns) refl) refl

told_same : (l : Layout) (m : Mutating) (f g : ℕ → ℕ) (s : ℕ) → ((i : ℕ) → i < s → f i ≡ g i) → told (mutating.listing l) m f s ≡ told (mutating.listing l) m g s
told_same l m f g zero same = refl
told_same l m f g (suc s) same = ap (λ (x : Mutating). mutating.goes l x (f s)) (told_same l m f g s (λ i lt. same i (omega (arith, lt)))) ∙ ap (λ (n : ℕ). mutating.goes l (told (mutating.listing l) m g s) n) (same s (omega arith))

told_all : (l : Layout) (m : Mutating) (ns : List ℕ) → told (mutating.listing l) m (found_of ns) (length ns) ≡ machine_after (mutating.goes l) m ns
told_all l m [] = refl
told_all l m (n ∷ ns) =
    let one : told (mutating.listing l) m (found_of (n ∷ ns)) (length ns) ≡ machine_after (mutating.goes l) m ns = told_same l m (found_of (n ∷ ns)) (found_of ns) (length ns) (found_earlier n ns) ∙ told_all l m ns in
    ap (λ (x : Mutating). mutating.goes l x (found_of (n ∷ ns) (length ns))) one ∙ ap (λ (k : ℕ). mutating.goes l (machine_after (mutating.goes l) m ns) k) (found_here n ns)

-- ---- its entries

abbrev pub IsLoad : Entry Op → Type 0
IsLoad e = is_load e.ask ≡ true

-- the processor behind these steps, told what they found
told_so : (l : Layout) (m : Mutating) (founds : List ℕ) (found : ℕ → ℕ) → ((i : ℕ) → i < length founds → found i ≡ found_of founds i) → told (mutating.listing l) m found (length founds) ≡ machine_after (mutating.goes l) m founds
told_so l m founds found same = told_same l m found (found_of founds) (length founds) same ∙ told_all l m founds

last_below : (k : ℕ) → k < suc k
last_below k = omega arith

below_more : (i k : ℕ) → i < k → i < suc k
below_more i k lt = omega (arith, lt)

at_most : (i k : ℕ) → i < suc k → i ≤ k
at_most i k lt = omega (arith, lt)

all_loads : (l : Layout) (a : ℕ) (b : Option Op) (m : Mutating) (founds : List ℕ) (found : ℕ → ℕ) → ((i : ℕ) → i < length founds → found i ≡ found_of founds i) → ((i : ℕ) → i < length founds → is_load (mutating.asks l (told (mutating.listing l) m found i)) ≡ true) → All IsLoad (entries_made (asks l) (goes l) a b (Runs m) founds)
all_loads l a b m [] found same loads = All-nil IsLoad
all_loads l a b m (n ∷ ns) found same loads =
    let before : (i : ℕ) → i < length ns → found i ≡ found_of ns i = λ i lt. same i (below_more i (length ns) lt) ∙ found_earlier n ns i lt in
    let is : is_load (mutating.asks l (machine_after (mutating.goes l) m ns)) ≡ true = ap (λ (x : Mutating). is_load (mutating.asks l x)) (sym (told_so l m ns found before)) ∙ loads (length ns) (last_below (length ns)) in
    All-cons IsLoad (entry a (begun_next b ns) (asks l (machine_after (goes l) (Runs m) ns)) n) (entries_made (asks l) (goes l) a b (Runs m) ns)
    (ap (λ (x : HeapActor). is_load (asks l x)) (runs_after l m ns) ∙ is)
    (all_loads l a b m ns found before (λ i lt. loads i (below_more i (length ns) lt)))

-- ---- the processor

pub answered_is : (x : Option Answer) (given : Answer) → ends_with_answer x ≡ Some (Some given) → x ≡ Some given
answered_is x given e = grind arith

idle_is : (t : Task) → is_busy_at t ≡ false → is_leaving t ≡ false → t ≡ Idle
idle_is t idle stays = grind arith

-- a fault by the last of these steps
faulted : (l : Layout) (m : Mutating) (o : Op) (n : ℕ) (ns : List ℕ) (cause : Fault) → FaultsChangeNothing → Gave (goes l) (gives l) (Runs (mutating.begins m o)) (n ∷ ns) (Some (Answer.Fault cause)) → FaultChangesNothing l m o (found_of (n ∷ ns)) (length ns) cause
faulted l m o n ns cause law gave =
    let b = mutating.begins m o in
    let found : ℕ → ℕ = found_of (n ∷ ns) in
    let by_last : mutating.gives l (machine_after (mutating.goes l) (mutating.begins m o) ns) n ≡ Some (Answer.Fault cause) = answered_is (mutating.gives l (machine_after (mutating.goes l) b ns) n) (Answer.Fault cause) (subst (λ (x : HeapActor). gives l x n ≡ Some (Some (Answer.Fault cause))) (runs_after l b ns) gave) in
    let behind : told (mutating.listing l) (mutating.begins m o) found (length ns) ≡ machine_after (mutating.goes l) (mutating.begins m o) ns = told_so l b ns found (found_earlier n ns) in
    law l m o found (length ns) cause (ap (λ (x : Mutating). mutating.gives l x (found (length ns))) behind ∙ ap (mutating.gives l (machine_after (mutating.goes l) b ns)) (found_here n ns) ∙ by_last)

-- the processor behind it
rests_so : (l : Layout) (m : Mutating) (o : Op) (n : ℕ) (ns : List ℕ) (cause : Fault) → FaultChangesNothing l m o (found_of (n ∷ ns)) (length ns) cause → machine_after (goes l) (begins (Runs m) o) (n ∷ ns) ≡ Runs (rested m m.processor (Answer.Fault cause))
rests_so l m o n ns cause c = runs_after l (mutating.begins m o) (n ∷ ns) ∙ ap Runs (sym (told_all l (mutating.begins m o) (n ∷ ns)) ∙ c.stays)

stays_idle : (m : Mutating) (cause : Fault) → m.processor.task ≡ Idle → machine_actor (Runs (rested m m.processor (Answer.Fault cause))) ≡ machine_actor (Runs m)
stays_idle m cause idle = ap (λ (t : Task). Actor.Runs (at_task m.processor t)) (sym idle)

-- ---- the call

-- the machine of a handle that may run
abbrev pub RestsSo : Handle → Type 0
RestsSo h = (m : Mutating) → machine_of h ≡ Runs m → ProcessorRests (view_of h).plan (number_of h) m (own_of h)

module _ (heap : Heap) (o : Op) (h h' : Handle) (given : Answer) (founds : List ℕ) (law : FaultsChangeNothing) (rests : RestsSo h) (going : ended_of h ≡ false) (did : Operated heap o h h' given founds) where
  own_is : own_of h' ≡ entries_made (asks (layout_of h)) (goes (layout_of h)) (number_of h) (Some o) (begins (machine_of h) o) founds ++ own_of h
  own_is =
      ap (λ (a : ℕ). by a (view_of h').log) did.number
      ∙ ap (by (number_of h)) did.ran.log
      ∙ by_made (layout_of h) (number_of h) (Some o) (begins (machine_of h) o) founds (view_of h).log

  leaves_by : (x : HeapActor) (all : List ℕ) → machine_of h ≡ x → IsProcessor x → own_of h' ≡ entries_made (asks (layout_of h)) (goes (layout_of h)) (number_of h) (Some o) (begins x o) all ++ own_of h → machine_of h' ≡ machine_after (goes (layout_of h)) (begins x o) all → (cause : Fault) → Gave (goes (layout_of h)) (gives (layout_of h)) (begins x o) all (Some (Answer.Fault cause)) → LeavesAll h h'
  leaves_by (Marks w) all at is own after cause gave = absurd is
  leaves_by (Leads c) all at is own after cause gave = absurd is
  leaves_by (Runs m) [] at is own after cause gave = absurd gave
  leaves_by (Runs m) (n ∷ ns) at is own after cause gave =
      let c = faulted (layout_of h) m o n ns cause law gave in
      let at_rest = rests m at in
      let going_on : ended_at (Runs m) (own_of h) ≡ false = ap (λ (x : HeapActor). ended_at x (own_of h)) (sym at) ∙ going in
      let idle : m.processor.task ≡ Idle = idle_is m.processor.task at_rest.idle (at_rest.leaves ∙ going_on) in
      let ends : machine_of h' ≡ Runs (rested m m.processor (Answer.Fault cause)) = after ∙ rests_so (layout_of h) m o n ns cause c in
      record {
        added = entries_made (asks (layout_of h)) (goes (layout_of h)) (number_of h) (Some o) (Runs (mutating.begins m o)) (n ∷ ns);
        own = own;
        loads = all_loads (layout_of h) (number_of h) (Some o) (mutating.begins m o) (n ∷ ns) (found_of (n ∷ ns)) (λ i lt. refl) (λ i lt. c.loads i (at_most i (length ns) lt));
        stays = ap machine_actor ends ∙ stays_idle m cause idle ∙ ap machine_actor (sym at);
        room = ap room_at ends ∙ ap room_at (sym at);
      }

  pub fault_leaves_all : IsProcessor (machine_of h) → FaultLeavesAll h h' given
  fault_leaves_all is cause e =
      leaves_by (machine_of h) founds refl is own_is did.ran.machine cause (subst (λ (x : Answer). Gave (goes (layout_of h)) (gives (layout_of h)) (begins (machine_of h) o) founds (Some x)) e did.gave)
