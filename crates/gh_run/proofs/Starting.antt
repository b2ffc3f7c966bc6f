-- Jobs at their start and at their end.
use Rattle.std.proofs.Common.{◌≡◌, ℕ, ◌<◌, ◌≤◌, nat_lt, Bool, true, false, cond, List, [], ◌∷◌, ◌++◌, length, reverse, None, refl, sym, ap, subst, ◌∙◌, arith}
use Rattle.std.proofs.lemmas.Bool.{leb-true, lt-ltb}
use Rattle.std.proofs.lemmas.List.{append-nil}
use Rattle.gh_run.proofs.Vocabulary.{acks_of, Answer, answers_in, begun_in, by, EachKeepsItsPlace, ended_at, ended_of, Entry, Handle, Heap, HeapActor, IsAtEnd, IsAtStart, IsBetweenTurns, IsCoordinator, IsFresh, IsOther, IsProcessor, IsWorker, KeepsPlace, Leads, leave_is_begun, machine_of, Marks, most_cycles, Next, number_of, Op, op_due, opening, opening_progress, own_of, plan_of, Planned, Program, Progress, RanToItsEnd, room_at, Runs, to_come, View, view_of}
use Rattle.gh_base.specs.declared.pack.TheConstants.{ENTRIES}
use Rattle.gh_coord.specs.Listing as coord
use Rattle.gh_mutator.specs.Mutating as mutating
use Rattle.gh_worker.specs.Listing as worker

-- ---- machines before their first steps

-- who opens has not ended
going_by : (q : Planned) (a : ℕ) (b c : Bool) → ended_at (cond b (Runs (mutating.opening a q.script.shapes)) (cond c (Marks (worker.opening a)) (Leads (coord.opening q.layout a q.script.settings.gogc q.script.settings.minheap (most_cycles q.script))))) [] ≡ false
going_by q a true c = refl
going_by q a false true = refl
going_by q a false false = refl

pub fresh_going : (heap : Heap) (h : Handle) → IsFresh heap (number_of h) h → ended_of h ≡ false
fresh_going heap h fresh =
    ap (λ (x : HeapActor). ended_at x (own_of h)) fresh.machine
    ∙ ap (λ (v : View Planned Op). ended_at (opening (plan_of heap) (number_of h)) (by (number_of h) v.log)) fresh.view
    ∙ going_by (plan_of heap) (number_of h) (nat_lt (number_of h) (plan_of heap).layout.procs) (nat_lt (number_of h) (acks_of (plan_of heap).layout))

-- a processor that opens has room for a store
room_by : (q : Planned) (a : ℕ) (b c : Bool) → IsProcessor (cond b (Runs (mutating.opening a q.script.shapes)) (cond c (Marks (worker.opening a)) (Leads (coord.opening q.layout a q.script.settings.gogc q.script.settings.minheap (most_cycles q.script))))) → 2 ≤ room_at (cond b (Runs (mutating.opening a q.script.shapes)) (cond c (Marks (worker.opening a)) (Leads (coord.opening q.layout a q.script.settings.gogc q.script.settings.minheap (most_cycles q.script)))))
room_by q a true c is = leb-true 2 ENTRIES refl
room_by q a false true is = absurd is
room_by q a false false is = absurd is

-- who is at the seat of a processor is one
seated : (q : Planned) (a : ℕ) (b c : Bool) → b ≡ true → IsOther (cond b (Runs (mutating.opening a q.script.shapes)) (cond c (Marks (worker.opening a)) (Leads (coord.opening q.layout a q.script.settings.gogc q.script.settings.minheap (most_cycles q.script))))) → ⊥
seated q a true c e is = is
seated q a false c e is = absurd cc

no_seat : (heap : Heap) (h : Handle) → IsFresh heap (number_of h) h → IsOther (machine_of h) → number_of h < (plan_of heap).layout.procs → ⊥
no_seat heap h fresh is lt = seated (plan_of heap) (number_of h) (nat_lt (number_of h) (plan_of heap).layout.procs) (nat_lt (number_of h) (acks_of (plan_of heap).layout)) (lt-ltb _ _ lt) (subst IsOther fresh.machine is)

pub worker_other : (x : HeapActor) → IsWorker x → IsOther x
worker_other (Runs m) is = absurd is
worker_other (Marks w) is = tt
worker_other (Leads c) is = tt

pub coordinator_other : (x : HeapActor) → IsCoordinator x → IsOther x
coordinator_other (Runs m) is = absurd is
coordinator_other (Marks w) is = tt
coordinator_other (Leads c) is = tt

pub processor_else : (x : HeapActor) → (IsWorker x → ⊥) → (IsCoordinator x → ⊥) → IsProcessor x
processor_else (Runs m) worker leads = tt
processor_else (Marks w) worker leads = absurd (worker tt)
processor_else (Leads c) worker leads = absurd (leads tt)

-- ---- a processor

none_to_come : (p : Program) (a : ℕ) (n : Next) → leave_is_begun n ≡ true → to_come p a n ≡ []
none_to_come p a (Next.Poll r g) e = absurd cc
none_to_come p a (Next.Run r g) e = absurd cc
none_to_come p a Next.Leave e = absurd cc
none_to_come p a Next.Over e = refl

none_due : (p : Program) (n : Next) → op_due p n ≡ None → leave_is_begun n ≡ true
none_due p (Next.Poll r g) e = absurd cc
none_due p (Next.Run r g) e = absurd cc
none_due p Next.Leave e = absurd cc
none_due p Next.Over e = refl

module _ (p : Program) (heap : Heap) (h : Handle) (t : Progress) (answers : List (ℕ × Answer)) (room : ℕ) where
  pub between_first : EachKeepsItsPlace → IsAtStart p heap h t answers room → IsProcessor (machine_of h) → IsBetweenTurns p heap h t answers room
  between_first law s is =
      let a = number_of h in
      let q = plan_of heap in
      let log : (view_of h).log ≡ [] = ap (λ (v : View Planned Op). v.log) s.fresh.view in
      let first : KeepsPlace p a (opening_progress t.next) [] = (law p a).opens t.next s.come in
      let all = s.turns.all in
      let roomy = s.roomy in
      let none : length answers ≡ 0 = ap length s.none in
      record {
        script = s.script;
        of = s.fresh.of;
        alone = ap (λ (v : View Planned Op). v.actors) s.fresh.view;
        processor = is;
        turns = s.turns;
        place = subst (λ (u : Progress). KeepsPlace p a u (view_of h).log) (sym s.first) (subst (KeepsPlace p a (opening_progress t.next)) (sym log) first);
        left = fresh_going heap h s.fresh ∙ sym s.going;
        polled = λ e. subst (λ (x : HeapActor). 2 ≤ room_at x) (sym s.fresh.machine) (room_by q a (nat_lt a q.layout.procs) (nat_lt a (acks_of q.layout)) (subst IsProcessor s.fresh.machine is));
        kept = s.none ∙ sym (ap (λ (es : List (Entry Op)). answers_in q a (by a es)) log);
        roomy = omega (arith, all, roomy, none);
      }

  pub ended_then : IsBetweenTurns p heap h t answers room → op_due p t.next ≡ None → IsAtEnd p heap h answers
  ended_then b none =
      let a = number_of h in
      let over = none_due p t.next none in
      record {
        script = b.script;
        of = b.of;
        alone = b.alone;
        over = b.left ∙ over;
        turns = λ lt. sym (b.place.turns ∙ ap (λ (os : List Op). reverse (begun_in (own_of h)) ++ os) (none_to_come p a t.next over) ∙ append-nil (reverse (begun_in (own_of h))));
        kept = λ lt. b.kept;
      }

  -- ---- another actor

  pub other_ended : (h' : Handle) (founds : List ℕ) → IsAtStart p heap h t answers room → IsOther (machine_of h) → RanToItsEnd heap h h' founds → IsAtEnd p heap h' answers
  other_ended h' founds s is did =
      let none : number_of h' < (plan_of heap).layout.procs → ⊥ = λ lt. no_seat heap h s.fresh is (subst (λ (n : ℕ). n < (plan_of heap).layout.procs) did.number lt) in
      record {
        script = s.script;
        of = did.of;
        alone = did.ran.actors ∙ ap (λ (v : View Planned Op). v.actors) s.fresh.view ∙ ap (λ (n : ℕ). n ∷ []) (sym did.number);
        over = did.ended;
        turns = λ lt. absurd (none lt);
        kept = λ lt. absurd (none lt);
      }
