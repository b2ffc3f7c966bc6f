-- A handle of a processor may begin what its caller may ask for, and keeps what it shows.
use Rattle.std.proofs.Common.{◌≡◌, ℕ, zero, suc, ◌≤◌, ◌-◌, Bool, true, false, not, ◌&&◌, ◌||◌, if◌then◌else◌, arith, List, [], ◌∷◌, refl, sym, ap, ◌∙◌, subst, Option, Some, None}
use Rattle.gh_shared.proofs.Vocabulary.{Acting, Actor, Answer, asks, asks_collector, begins, by, ended_at, ended_of, ends, ends_with_answer, EndsWithin, Entry, Fits, Gave, gives, goes, gone_after, goroutine_of, Handle, has_left, HasShapes, HeapActor, is_busy, IsKeptByHandle, IsProcessor, Kind, Layout, layout_of, Leads, leaves, left_after, left_by, machine_actor, machine_after, machine_of, MachineMayBegin, Marks, may_begin_of, MayCount, Me, Mutating, number_of, Op, over_after, own_of, Planned, processor_kind, Ran, room_at, Runs, runs_by, RunsIt, setting, ShowsAfter, state_of, told, View, view_of}
use Rattle.gh_mutator.specs.Ending.{may_wait, most_steps, OperationsEnd}
use Rattle.gh_poll.specs.Local.{marking_at}
use Rattle.gh_mutator.specs.PollRoom.{HasRoomToStore, PollsMakeRoom}
use Rattle.gh_mutator.specs.Mutating as mutating
use Rattle.gh_world.proofs.Resting.{is_processor}
use Rattle.gh_actor.specs.Acting as acting
use Rattle.gh_shared.proofs.Allowed.{allowed}
use Rattle.gh_shared.proofs.Rooms.{room_so}
use Rattle.gh_shared.proofs.Keeping.{kept_then, may_count, OneMore, ran_more, runs_after}

-- an actor's state is of its own entries
abbrev pub OfItsOwn : Type 0
OfItsOwn = (k : Kind Actor Op) (a : ℕ) (es : List (Entry Op)) → state_of k a es ≡ state_of k a (by a es)

pub record Ready (p : Planned) (a : ℕ) (x : HeapActor) (own : List (Entry Op)) (left : List ℕ) (over : List Bool) (o : Op) : Type 0 where
  pub may : MachineMayBegin p.layout x o
  pub allowed : may_begin_of p.script p.layout a own o ≡ true
  pub counts : MayCount left over o

pub ready : (p : Planned) (a : ℕ) (x : HeapActor) (log : List (Entry Op)) (procs : ℕ) (left : List ℕ) (over : List Bool) (gone : Bool) (o : Op) → OfItsOwn → IsKeptByHandle p a x (by a log) procs left over gone → HasShapes p x → machine_actor x ≡ state_of (setting p).kind a log → IsProcessor x → ended_at x (by a log) ≡ false → RunsIt p a x (by a log) (goroutine_of o) → Fits p a x (by a log) o → Ready p a x (by a log) left over o
ready p a (Marks w) log procs left over gone o law kept belongs state is going runs fits = absurd is
ready p a (Leads c) log procs left over gone o law kept belongs state is going runs fits = absurd is
ready p a (Runs m) log procs left over gone o law kept belongs state is going runs fits =
    let own = by a log in
    let rests = kept.rests m refl in
    let whole : Actor.Runs m.processor ≡ Actor.Runs (state_of (processor_kind p.script.shapes p.layout) a own) = state ∙ law (setting p).kind a log ∙ is_processor p.script p.layout a rests.seat own in
    let same : m.processor ≡ state_of (processor_kind p.script.shapes p.layout) a own = cc in
    let it = allowed p a m own procs left over gone kept.counts rests belongs o going same (run_it o runs) fits in
    record { may = it.may; allowed = it.allowed; counts = may_count p a m own procs left over gone kept.counts rests belongs o (run_it o runs) fits }
  where
    run_it : (o : Op) → RunsIt p a (Runs m) (by a log) (goroutine_of o) → RunsIt p a (Runs m) (by a log) (goroutine_of o)
    run_it o r = r

module _ (p : Planned) (a : ℕ) (x : HeapActor) (o : Op) (me me' : Me (Unit {0}) (View Planned Op)) (x' : HeapActor) (founds : List ℕ) (out : Option Answer) (procs : ℕ) (left : List ℕ) (over : List Bool) (gone : Bool) where
  pub kept_after : IsKeptByHandle p a x (by a me.0.log) procs left over gone → IsProcessor x → ended_at x (by a me.0.log) ≡ false → MayCount left over o → Ran (asks p.layout) (goes p.layout) a (Some o) (begins x o) me x' me' founds → Gave (goes p.layout) (gives p.layout) (begins x o) founds out → is_busy x' ≡ false → IsKeptByHandle p a x' (by a me'.0.log) procs (left_after left o) (over_after over o) (gone_after gone o)
  kept_after = go x where
    go : (x : HeapActor) → IsKeptByHandle p a x (by a me.0.log) procs left over gone → IsProcessor x → ended_at x (by a me.0.log) ≡ false → MayCount left over o → Ran (asks p.layout) (goes p.layout) a (Some o) (begins x o) me x' me' founds → Gave (goes p.layout) (gives p.layout) (begins x o) founds out → is_busy x' ≡ false → IsKeptByHandle p a x' (by a me'.0.log) procs (left_after left o) (over_after over o) (gone_after gone o)
    go (Runs m) kept is going may ran gave idle = kept_then p a m o me me' x' founds out procs left over gone kept going may ran gave idle
    go (Marks w) kept is going may ran gave idle = absurd is
    go (Leads c) kept is going may ran gave idle = absurd is

-- a processor ends an operation with an answer
answered_some : (x : Option Answer) → ends_with_answer x ≡ Some None → ⊥
answered_some x e = grind arith

runs_answer : (l : Layout) (m : Mutating) (founds : List ℕ) → Gave (goes l) (gives l) (Runs m) founds None → ⊥
runs_answer l m [] gave = gave
runs_answer l m (n ∷ ns) gave = answered_some (mutating.gives l (machine_after (mutating.goes l) m ns) n) (subst (λ (y : HeapActor). gives l y n ≡ Some None) (runs_after l m ns) gave)

pub has_answer : (l : Layout) (x : HeapActor) (o : Op) (founds : List ℕ) (out : Option Answer) → IsProcessor x → Gave (goes l) (gives l) (begins x o) founds out → out ≡ None → ⊥
has_answer l (Runs m) o founds out is gave e = runs_answer l (mutating.begins m o) founds (subst (λ (y : Option Answer). Gave (goes l) (gives l) (Runs (mutating.begins m o)) founds y) e gave)
has_answer l (Marks w) o founds out is gave e = is
has_answer l (Leads c) o founds out is gave e = is

-- ---- what is shown then

not_both : (b c : Bool) → not (b || c) ≡ (not c && not b)
not_both b c = grind arith

and_on : (n c e b : Bool) → (n && c && (not e && not b)) ≡ ((n && c && not e) && not b)
and_on n c e b = grind arith

or_none : (b c : Bool) → c ≡ false → (b || c) ≡ b
or_none b c e = grind arith

pub left_then : (p : Planned) (o : Op) (own own' : List (Entry Op)) → OneMore o own own' → (g : ℕ) → left_by p own' g ≡ left_by p own g - (if asks_collector g (Some o) then 1 else 0)
left_then p o own own' one g = let is = one.asked g in omega (arith, is)

pub runs_then : (p : Planned) (a : ℕ) (o : Op) (own own' : List (Entry Op)) → OneMore o own own' → (g : ℕ) → runs_by p a own' g ≡ (runs_by p a own g && not (ends (Some o) g))
runs_then p a o own own' one g = grind (arith, and_on, not_both)

pub ended_then : (l : Layout) (x : HeapActor) (o : Op) (x' : HeapActor) (founds : List ℕ) (own own' : List (Entry Op)) → IsProcessor x → x' ≡ machine_after (goes l) (begins x o) founds → ended_at x own ≡ false → OneMore o own own' → ended_at x' own' ≡ leaves (Some o)
ended_then l (Marks w) o x' founds own own' is after going one = absurd is
ended_then l (Leads c) o x' founds own own' is after going one = absurd is
ended_then l (Runs m) o x' founds own own' is after going one = subst (λ (y : HeapActor). ended_at y own' ≡ leaves (Some o)) (sym (after ∙ runs_after l (mutating.begins m o) founds)) (one.left ∙ or_none (leaves (Some o)) (has_left own) going)

processor_then : (l : Layout) (x : HeapActor) (o : Op) (x' : HeapActor) (founds : List ℕ) → IsProcessor x → x' ≡ machine_after (goes l) (begins x o) founds → IsProcessor x'
processor_then l (Marks w) o x' founds is after = absurd is
processor_then l (Leads c) o x' founds is after = absurd is
processor_then l (Runs m) o x' founds is after = subst IsProcessor (sym (after ∙ runs_after l (mutating.begins m o) founds)) tt

pub shows_then : (o : Op) (h h' : Handle) (founds : List ℕ) (out : Option Answer) → IsProcessor (machine_of h) → ended_of h ≡ false → number_of h' ≡ number_of h → Ran (asks (layout_of h)) (goes (layout_of h)) (number_of h) (Some o) (begins (machine_of h) o) h.hand.seat.me (machine_of h') h'.hand.seat.me founds → Gave (goes (layout_of h)) (gives (layout_of h)) (begins (machine_of h) o) founds out → ShowsAfter o h h'
shows_then o h h' founds out is going number ran gave =
    let log = (view_of h').log in
    let one : OneMore o (own_of h) (own_of h') = subst (λ (a : ℕ). OneMore o (own_of h) (by a log)) (sym number) (ran_more (layout_of h) (number_of h) o (begins (machine_of h) o) (machine_of h') h.hand.seat.me h'.hand.seat.me founds out ran gave) in
    record {
      processor = processor_then (layout_of h) (machine_of h) o (machine_of h') founds is ran.machine;
      left = λ g. ap (λ (p : Planned). left_by p (own_of h') g) ran.plan ∙ left_then (view_of h).plan o (own_of h) (own_of h') one g;
      runs = λ g. ap (λ (p : Planned). runs_by p (number_of h') (own_of h') g) ran.plan ∙ ap (λ (a : ℕ). runs_by (view_of h).plan a (own_of h') g) number ∙ runs_then (view_of h).plan (number_of h) o (own_of h) (own_of h') one g;
      ended = ended_then (layout_of h) (machine_of h) o (machine_of h') founds (own_of h) (own_of h') is ran.machine going one;
    }

-- ---- how it ends

told_runs : (l : Layout) (m : Mutating) (found : ℕ → ℕ) (n : ℕ) → told acting.listing (record { layout = l; actor = Runs m }) found n ≡ record { layout = l; actor = Runs (told (mutating.listing l) m found n) }
told_runs l m found zero = refl
told_runs l m found (suc n) = ap (λ (x : Acting). acting.goes x (found n)) (told_runs l m found n)

ends_in : (l : Layout) (x : HeapActor) (o : Op) (most : ℕ) → OperationsEnd → IsProcessor x → may_wait o ≡ false → ((b : Bool) → most_steps b o ≤ most) → (found : ℕ → ℕ) → EndsWithin acting.listing most (record { layout = l; actor = begins x o }) found
ends_in l (Marks w) o most law is short few found = absurd is
ends_in l (Leads c) o most law is short few found = absurd is
ends_in l (Runs m) o most law is short few found =
    let e = law l m o found short in
    let less = few (marking_at m.processor.poll) in
    let at = e.few in
    record { steps = e.steps; few = omega (arith, less, at); ended = subst (λ (y : Acting). acting.is_busy y ≡ false) (sym (told_runs l (mutating.begins m o) found e.steps)) e.ended }

pub ends_so : (x : Acting) (o : Op) (most : ℕ) → OperationsEnd → IsProcessor x.actor → may_wait o ≡ false → ((b : Bool) → most_steps b o ≤ most) → (found : ℕ → ℕ) → EndsWithin acting.listing most (acting.begins x o) found
ends_so x o most law is short few found = ends_in x.layout x.actor o most law is short few found

pub either_few : (i j n : ℕ) → i ≤ n → j ≤ n → (b : Bool) → (if b then i else j) ≤ n
either_few i j n le me b = grind arith

-- ---- a poll makes room

stores : (l : Layout) (m : Mutating) (founds : List ℕ) → PollsMakeRoom → HasRoomToStore m.processor → HasRoomToStore (machine_after (mutating.goes l) m founds).processor
stores l m [] law may = may
stores l m (n ∷ ns) law may = law.goes_on l (machine_after (mutating.goes l) m ns).shapes (machine_after (mutating.goes l) m ns).processor n (stores l m ns law may)

pub has_room_then : (l : Layout) (x x' : HeapActor) (founds : List ℕ) → PollsMakeRoom → IsProcessor x → x' ≡ machine_after (goes l) (begins x Op.Poll) founds → ((m : Mutating) → x' ≡ Runs m → mutating.is_busy m ≡ false) → 2 ≤ room_at x'
has_room_then l (Marks w) x' founds law is after idle = absurd is
has_room_then l (Leads c) x' founds law is after idle = absurd is
has_room_then l (Runs m) x' founds law is after idle =
    let n : Mutating = machine_after (mutating.goes l) (mutating.begins m Op.Poll) founds in
    let same : x' ≡ Runs n = after ∙ runs_after l (mutating.begins m Op.Poll) founds in
    let still : mutating.is_busy n ≡ false = idle n same in
    subst (λ (y : HeapActor). 2 ≤ room_at y) (sym same) ((room_so n).0 (law.room n.processor (Op.Store 0 0 0 0) still (stores l (mutating.begins m Op.Poll) founds law (law.begins m.shapes m.processor))))
