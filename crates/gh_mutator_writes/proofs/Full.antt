-- A `new` that is answered `full` has waited for a cycle, and has found no slot before and behind that.
use Rattle.std.proofs.Common.{◌≡◌, ℕ, zero, suc, ◌<◌, ◌≤◌, Bool, true, false, not, List, [], ◌∷◌, get_or, refl, sym, ap, ◌∙◌, subst, ◌⊎◌, inl, inr, Option, Some, None, arith}
use Rattle.std.proofs.Math.ListN.{set}
use Rattle.gh_mutator_writes.proofs.Vocabulary.{after_search, after_wait, Answer, answer_search, Assist, At, at_poll, begins, cache_span, cache_with, cached_in, CachedSpan, ends_later, Found, gives, gives_at, goes, Layout, listing, marks_after, Mutating, NewStage, NoRoom, Op, Place, Polling, Processor, rested, Search, search_wants, Seeking, seeking, Small, Sought, stacks_with, Task, Value, Wait, wait_seat, wait_stacks, Waiting, WaitStage, WaitState, Want, Wanted, wanted_of}
use Rattle.gh_alloc.specs.Search as search
use Rattle.gh_mutator_writes.specs.Full.{after, FullChangesLittle, HasWaited, new_is_waiting, is_looking}
use Rattle.gh_mutator.specs.Mutating.{asks}
use Rattle.gh_poll.specs.Wait as wait
use Rattle.gh_mutator_writes.proofs.Refusing.{KeptFor, kept, kept_first, refuses_none}
use Rattle.gh_mutator_writes.proofs.Telling.{held_before}

-- what is cleared reads as none
cleared : (cache : List (Option CachedSpan)) (i : ℕ) → get_or (set cache i None) i None ≡ None
cleared [] i = refl
cleared (c ∷ cs) zero = refl
cleared (c ∷ cs) (suc i) = cleared cs i

none_in : (x : Sought) (cache : List (Option CachedSpan)) (c : Option CachedSpan) → ((k : _) → x ≡ Small k → c ≡ None) → cached_in (cache_with cache x c) x ≡ None
none_in x cache c none = grind (arith, cleared)

knows_at : (l : Layout) (w : Waiting) (stage : WaitStage) (v : ℕ) → (wait.goes_at l w stage v).wait.known ≡ w.wait.known
knows_at l w stage v = grind arith

-- the search is over: no `full` is answered any more
abbrev is_over : NewStage → Bool
is_over (Place p) = true
is_over (Want n) = true
is_over (Assist n x) = true
is_over _ = false

abbrev is_past : Task → Bool
is_past Task.Idle = true
is_past (Task.New x) = is_over x.stage
is_past _ = false

past_answers : (l : Layout) (m : Processor) (t : Task) (v : ℕ) → is_past t ≡ true → gives_at l m t v ≡ Some Answer.Full → ⊥
past_answers l m t v e h = grind arith

-- `full` is answered behind the wait alone
full_is : (waited : Bool) (out : Option Found) → answer_search waited out ≡ Some Answer.Full → (waited ≡ true) × (out ≡ Some NoRoom)
full_is waited out e = grind arith

module _ (l : Layout) (m : Mutating) (g d t : ℕ) (found : ℕ → ℕ) where
  abbrev w : Wanted
  w = wanted_of m.shapes g d t

  abbrev now : ℕ → Mutating
  now n = after l m g d t found n

  -- the machine at this stage, with this poll
  abbrev state : Polling → NewStage → Mutating
  state p s = record m { processor = record (m.processor) { poll = p; task = Task.New (record { wanted = w; stage = s }) } }

  record Seeks (s : Seeking) : Type 0 where
    wanted : s.find.wanted ≡ w.sought
    kept : KeptFor w.sought s

  abbrev Facts : (i : ℕ) → Polling → NewStage → Type 0
  Facts i p (Search true s) = HasWaited l m g d t found i × Seeks s
  Facts i p (Search false s) = (p.local.view.begun ≡ m.processor.poll.local.view.begun) × Seeks s
  Facts i p (Wait x) = x.known ≡ m.processor.poll.local.view.begun
  Facts i p (Place q) = ⊥
  Facts i p (Want n) = ⊥
  Facts i p (Assist n x) = ⊥

  -- the poll's registers and its seat are those of the beginning
  record Same (p : Polling) : Type 0 where
    stacks : p.local.stacks ≡ m.processor.poll.local.stacks
    seat : p.seat ≡ m.processor.poll.seat

  record Stands (i : ℕ) (x : Mutating) : Type 0 where
    p : Polling
    s : NewStage
    is : x ≡ state p s
    same : Same p
    facts : Facts i p s

  -- the next step is one of a new object that goes on, or is past
  abbrev Next : ℕ → Mutating → Type 0
  Next i x = Stands i x ⊎ (is_past x.processor.task ≡ true)

  seeks_first : (p : Polling) → Seeks (seeking (at_poll m.processor p) w)
  seeks_first p = record { wanted = refl; kept = kept_first w.sought _ refl }

  -- a step of the search, which is then s
  abbrev searched : Polling → (waited : Bool) → Seeking → Seeking → Option Found → Mutating
  searched p waited s n out = record m {
    processor = after_search m.shapes (cache_span (state p (Search waited s)).processor w.sought n.find.cached) w waited n out;
    marks = marks_after m.marks (answer_search waited out);
  }

  recached : (p : Polling) (c : Option CachedSpan) → Same p → Same (record p { local = record (p.local) { cache = cache_with p.local.cache w.sought c } })
  recached p c k = record { stacks = k.stacks; seat = k.seat }

  search_next : (i : ℕ) (p : Polling) (waited : Bool) (s n : Seeking) (out : Option Found) → Same p → Facts i p (Search waited s) → Seeks n → Next (suc i) (searched p waited s n out)
  search_next i p true s n None k f r = inl (record { p = _; s = Search true n; is = refl; same = recached p n.find.cached k; facts = (later i f.0, r) }) where
    later : (i : ℕ) → HasWaited l m g d t found i → HasWaited l m g d t found (suc i)
    later i h = let less = h.before in record { at_step = h.at_step; before = omega arith; loads = h.loads; later = h.later }
  search_next i p false s n None k f r = inl (record { p = _; s = Search false n; is = refl; same = recached p n.find.cached k; facts = (f.0, r) })
  search_next i p waited s n (Some (At a)) k f r = inr refl
  search_next i p true s n (Some NoRoom) k f r = inr refl
  search_next i p false s n (Some NoRoom) k f r = inl (record { p = _; s = Wait _; is = refl; same = recached p n.find.cached k; facts = f.0 })

  -- a step of the wait, which is then y
  abbrev waited_on : Polling → WaitState → Waiting → Option (Unit {0}) → Mutating
  waited_on p x y out = record m { processor = after_wait (state p (Wait x)).processor w y out }

  wait_next : (i : ℕ) (p : Polling) (x : WaitState) (y : Waiting) (out : Option (Unit {0})) → Same y.poll → y.wait.known ≡ m.processor.poll.local.view.begun → ((u : Unit {0}) → out ≡ Some u → HasWaited l m g d t found (suc i)) → Next (suc i) (waited_on p x y out)
  wait_next i p x y None k f h = inl (record { p = y.poll; s = Wait y.wait; is = refl; same = k; facts = f })
  wait_next i p x y (Some u) k f h = inl (record { p = y.poll; s = Search true (seeking (at_poll m.processor y.poll) w); is = refl; same = k; facts = (h u refl, seeks_first y.poll) })

  seeks_on : (s : Seeking) (v : ℕ) → Seeks s → Seeks (search.goes l s v)
  seeks_on s v r = record { wanted = search_wants l s v ∙ r.wanted; kept = kept w.sought l s v r.wanted r.kept }

  wait_same : (p : Polling) (x : WaitState) (v : ℕ) → Same p → Same (wait.goes l (wait.waiting x p) v).poll
  wait_same p x v k = record {
    stacks = wait_stacks l (wait.waiting x p) v ∙ k.stacks;
    seat = wait_seat l (wait.waiting x p) v ∙ k.seat;
  }

  next_at : (i : ℕ) (p : Polling) (s : NewStage) → now i ≡ state p s → Same p → Facts i p s → Next (suc i) (goes l (state p s) (found i))
  next_at i p (Search waited s) e k f = search_next i p waited s (search.goes l s (found i)) (search.gives l s (found i)) k f (seeks_on s (found i) (seeks waited f)) where
    seeks : (b : Bool) → Facts i p (Search b s) → Seeks s
    seeks true f = f.1
    seeks false f = f.1
  next_at i p (Wait x) e k f =
      wait_next i p x (wait.goes l (wait.waiting x p) (found i)) (wait.gives l (wait.waiting x p) (found i)) (wait_same p x (found i) k) (knows_at l (wait.waiting x p) x.stage (found i) ∙ f)
      (λ u is. let ended = ends_later l (wait.waiting x p) x.stage (found i) u is in record { at_step = i; before = omega arith; loads = ap (asks l) e ∙ ap (wait.asks_at (wait.waiting x p)) ended.0; later = subst (λ (n : ℕ). n < found i) f ended.1 })
  next_at i p (Place q) e k f = absurd f
  next_at i p (Want n) e k f = absurd f
  next_at i p (Assist n x) e k f = absurd f

  next : (i : ℕ) → Stands i (now i) → Next (suc i) (now (suc i))
  next i st = subst (λ (x : Mutating). Next (suc i) (goes l x (found i))) (sym st.is) (next_at i st.p st.s st.is st.same st.facts)

  begins_so : Stands 0 (now 0)
  begins_so = record {
    p = m.processor.poll;
    s = Search false (seeking m.processor w);
    is = refl;
    same = record { stacks = refl; seat = refl };
    facts = (refl, seeks_first m.processor.poll);
  }

  -- as long as no step has ended the search, it runs
  runs : (i : ℕ) → ((j : ℕ) → j ≤ i → not (is_past (now j).processor.task) ≡ true) → Stands i (now i)
  runs zero h = begins_so
  runs (suc i) h = by (next i (runs i (λ j le. h j (omega arith)))) (h (suc i) (omega arith)) where
    by : Next (suc i) (now (suc i)) → not (is_past (now (suc i)).processor.task) ≡ true → Stands (suc i) (now (suc i))
    by (inl x) e = x
    by (inr x) e = absurd (false_true (ap not (sym x) ∙ e)) where
      false_true : false ≡ true → ⊥
      false_true q = absurd (cc)

  looks : (i : ℕ) → Stands i (now i) → new_is_waiting (now i).processor.task ≡ false → is_looking (asks l (now i)) ≡ true
  looks i st e = grind arith

  -- what the step leaves that answers `full`
  record Leaves (n : ℕ) (x : Mutating) : Type 0 where
    waited : HasWaited l m g d t found n
    rests : x ≡ rested m (at_poll m.processor x.processor.poll) Answer.Full
    registers : x.processor.poll.local.stacks ≡ stacks_with m.processor.poll.local.stacks g d Value.Nil
    cached : cached_in x.processor.poll.local.cache w.sought ≡ None
    seat : x.processor.poll.seat ≡ m.processor.poll.seat

  full_leaves : (n : ℕ) (p : Polling) (s r : Seeking) (waited : Bool) (out : Option Found) → Same p → Facts n p (Search waited s) → waited ≡ true → out ≡ Some NoRoom → ((k : _) → w.sought ≡ Small k → r.find.cached ≡ None) → Leaves n (searched p waited s r out)
  full_leaves n p s r waited out k f h is none = grind (arith, none_in)

  leaves_at : (n : ℕ) (p : Polling) (s : NewStage) → Same p → Facts n p s → gives l (state p s) (found n) ≡ Some Answer.Full → Leaves n (goes l (state p s) (found n))
  leaves_at n p (Search waited s) k f e =
      let is = full_is waited (search.gives l s (found n)) e in
      full_leaves n p s (search.goes l s (found n)) waited (search.gives l s (found n)) k f is.0 is.1 (λ c small. refuses_none w.sought (search.goes l s (found n)) c small is.1 (seeks_on s (found n) (seeks waited f)).kept) where
        seeks : (b : Bool) → Facts n p (Search b s) → Seeks s
        seeks true f = f.1
        seeks false f = f.1
  leaves_at n p (Wait x) k f e = absurd (cc)
  leaves_at n p (Place q) k f e = absurd f
  leaves_at n p (Want u) k f e = absurd f
  leaves_at n p (Assist u x) k f e = absurd f

  leaves : (n : ℕ) → Stands n (now n) → gives l (now n) (found n) ≡ Some Answer.Full → Leaves n (now (suc n))
  leaves n st e = subst (λ (x : Mutating). Leaves n (goes l x (found n))) (sym st.is) (leaves_at n st.p st.s st.same st.facts (subst (λ (x : Mutating). gives l x (found n) ≡ Some Answer.Full) st.is e))

not_past : (b : Bool) → (b ≡ true → ⊥) → not b ≡ true
not_past b h = grind arith

past_before : (l : Layout) (x : Mutating) (word : ℕ) → not (is_past (goes l x word).processor.task) ≡ true → not (is_past x.processor.task) ≡ true
past_before l x word e = grind arith

pub full_changes_little : FullChangesLittle
full_changes_little l m g d t found n e =
    let last = after l m g d t found n in
    let here : not (is_past (after l m g d t found n).processor.task) ≡ true = not_past (is_past last.processor.task) (λ h. past_answers l last.processor last.processor.task (found n) h e) in
    let all : (i : ℕ) → i ≤ n → not (is_past (after l m g d t found i).processor.task) ≡ true =
    held_before (λ (x : Mutating). not (is_past x.processor.task)) (listing l) (begins m (Op.New g d t)) found (past_before l) n here in
    let at : (i : ℕ) → i ≤ n → Stands l m g d t found i (after l m g d t found i) = λ i le. runs l m g d t found i (λ j before. all j (omega arith)) in
    let left = leaves l m g d t found n (at n (omega arith)) e in
    record {
      looks = λ i le. looks l m g d t found i (at i le);
      waited = left.waited;
      leaves = left.rests;
      registers = left.registers;
      cached = left.cached;
      seat = left.seat;
    }
