-- The taking of an entry, by what its tries answer.
use Rattle.std.proofs.Common.{◌≡◌, ℕ, zero, suc, ◌+◌, ◌-◌, ◌<◌, ◌≤◌, ◌⊎◌, Bool, true, false, cond, ltb, Option, Some, None, refl, sym, ap, subst, ◌∙◌, arith, inl, inr, ltb-true, ltb-false, is_none}
use Rattle.gh_wbuf.proofs.Vocabulary.{after_try, at_stage, begin, buffers_of, EndsAt, Entry, entry_of, EntryTaking, GoesOn, has_next, Held, held_at, IsFolded, Layout, less, nat_tests, opening, TakeStage, told, Took, transitions, try_at, Trying, TryStage}
use Rattle.gh_wbuf.specs.declared.take_entry.TakeStage.TheVariants.{Try, Take, Ended}
use Rattle.gh_wbuf.specs.Entries.{AreLost, Becomes, entry_try, HasNoEntry, held_behind, TakesEntry, TakesLast, taking, TriesForEntry, trying}
use Rattle.gh_wbuf.specs.EntryTaking.{asks, given, given_at, gives, goes, goes_at, is_busy}
use Rattle.gh_wbuf.specs.Trying as try
use Rattle.gh_wbuf.proofs.Taking.{TryingFacts, fine_try, took}
use Rattle.gh_wbuf.proofs.Tries.{tries}
use Rattle.gh_wbuf.proofs.Trying.{busy_before, gives_nothing, same, still_busy}

module _ (l : Layout) (seat : ℕ) where
  -- it answers none with the step that finds this
  abbrev AnswersNone : EntryTaking → ℕ → Type 0
  AnswersNone s f = (is_busy s.stage ≡ true) × (gives l s f ≡ Some None)

  abbrev take_in : Trying → EntryTaking
  take_in t = record { seat = seat; stage = Try t }

  module _ (t : Trying) (found : ℕ → ℕ) where
    abbrev tried : ℕ → Trying
    tried n = told (try.transitions l) t found n

    -- once the try has given this with step n
    abbrev passed : ℕ → Option (Option Held) → EntryTaking
    passed n out = after_try l (take_in (tried (suc n))) t.index (tried (suc n)).held out

    -- as long as the try goes on, the routine does as the try does
    along : (n : ℕ) → GoesOn (try.transitions l) t found n → told (transitions l) (take_in t) found n ≡ take_in (tried n)
    along zero busy = refl
    along (suc n) busy =
        ap (λ (r : EntryTaking). goes l r (found n)) (along n (still_busy (tried n) (found n) busy))
        ∙ ap (λ (o : Option (Option Held)). after_try l (take_in (tried (suc n))) (tried n).index (tried (suc n)).held o) (gives_nothing (tried n) (found n) busy)

    then : (n : ℕ) (out : Option Held) → EndsAt (try.transitions l) t found n out → told (transitions l) (take_in t) found (suc n) ≡ passed n (Some out)
    then n out e =
        ap (λ (r : EntryTaking). goes l r (found n)) (along n e.0)
        ∙ ap (λ (o : Option (Option Held)). after_try l (take_in (tried (suc n))) (tried n).index (tried (suc n)).held o) e.1
        ∙ ap (λ (i : ℕ). after_try l (take_in (tried (suc n))) i (tried (suc n)).held (Some out)) (same l t found n).index

    -- what it gives meanwhile
    gives_along : (n : ℕ) → GoesOn (try.transitions l) t found n → gives l (told (transitions l) (take_in t) found n) (found n) ≡ given (passed n (try.gives (tried n) (found n)))
    gives_along n busy =
        ap (λ (r : EntryTaking). gives l r (found n)) (along n busy)
        ∙ ap (λ (i : ℕ). given (after_try l (take_in (tried (suc n))) i (tried (suc n)).held (try.gives (tried n) (found n)))) (same l t found n).index

  next_there : (index : ℕ) → suc index < buffers_of l → has_next l index ≡ true
  next_there index lt = grind (arith, nat_tests)

  last_there : (index : ℕ) → buffers_of l ≤ suc index → has_next l index ≡ false
  last_there index le = grind (arith, nat_tests)

  tries_for : (index : ℕ) (held : Option Held) (found : ℕ → ℕ) → TriesForEntry l seat index held found
  tries_for index held found =
      let t : Trying = entry_try seat index held in
      record {
        steps = λ n busy. ap (λ (r : EntryTaking). asks r) (along t found n busy);
        lost = λ n e lt.
            let more : index + 1 ≡ suc index = omega arith in
            then t found n None e
            ∙ ap (λ (b : Bool). at_stage (take_in t) (cond b (try_at seat (index + 1) (held_behind l seat index held found n)) (Ended (held_behind l seat index held found n) None))) (next_there index lt)
            ∙ ap (λ (i : ℕ). trying seat i (held_behind l seat index held found n)) more;
        lost_last = λ n e le. (
          ap (λ (r : EntryTaking). is_busy r.stage) (along t found n e.0),
          gives_along t found n e.0
              ∙ ap (λ (o : Option (Option Held)). given (passed t found n o)) e.1
              ∙ ap (λ (b : Bool). given_at (cond b (try_at seat (index + 1) (held_behind l seat index held found n)) (Ended (held_behind l seat index held found n) None))) (last_there index le),
        );
        won = λ n h e. then t found n (Some h) e;
      }

  module _ (folded : IsFolded (transitions l)) where
    -- none, from buffer `index` on

    stays_over : (r : EntryTaking) (found : ℕ → ℕ) (held : Option Held) (entry : Option ℕ) → r.stage ≡ Ended held entry → (n : ℕ) → (told (transitions l) r found n).stage ≡ Ended held entry
    stays_over r found held entry e zero = e
    stays_over r found held entry e (suc n) = let s : EntryTaking = told (transitions l) r found n in ap (λ (p : TakeStage). (goes_at l s p (found n)).stage) (stays_over r found held entry e n)

    over : (r : EntryTaking) (found : ℕ → ℕ) (held : Option Held) (entry : Option ℕ) → r.stage ≡ Ended held entry → (n : ℕ) → ¬ EndsAt (transitions l) r found n None
    over r found held entry e n q =
        let busy : is_busy (told (transitions l) r found n).stage ≡ true = q.0 in
        let ended : is_busy (told (transitions l) r found n).stage ≡ false = ap is_busy (stays_over r found held entry e n) in
        absurd (cc)

    -- with a buffer that has an entry it does not end with none
    has_one : (h : Held) (found : ℕ → ℕ) (n : ℕ) → ¬ EndsAt (transitions l) (taking seat h) found n None
    has_one h found zero q = absurd (let some : Some (Some (entry_of l (found 0))) ≡ Some None = q.1 in cc)
    has_one h found (suc n) q =
        over (goes l (taking seat h) (found 0)) (λ i. found (suc i)) (Some (less h)) (Some (entry_of l (found 0))) refl n
        (subst (λ (s : EntryTaking). AnswersNone s (found (suc n))) (folded.told_first (taking seat h) found n) q)

    -- from where it is behind n steps
    later : (r s : EntryTaking) (found : ℕ → ℕ) (n k : ℕ) → told (transitions l) r found (suc n) ≡ s → told (transitions l) r found (suc n + k) ≡ told (transitions l) s (λ i. found (suc n + i)) k
    later r s found n k e = folded.told_behind r found (suc n) k ∙ ap (λ (x : EntryTaking). told (transitions l) x (λ i. found (suc n + i)) k) e

    abbrev EndsNone : (index : ℕ) → Option Held → (ℕ → ℕ) → ℕ → Type 0
    EndsNone index held found n = EndsAt (transitions l) (trying seat index held) found n None

    backward : (left index : ℕ) (held : Option Held) (found : ℕ → ℕ) (n : ℕ) → index + suc left ≡ buffers_of l → AreLost l seat (suc left) index held found (suc n) → EndsNone index held found n
    backward zero index held found n e lost =
        let m : ℕ = lost.0 in
        let none : EndsAt (try.transitions l) (entry_try seat index held) found m None = lost.2 in
        let sum : suc n ≡ suc m + lost.1 = lost.3 in
        let rest : lost.1 ≡ 0 = lost.4 in
        let is : m ≡ n = omega arith in
        subst (λ (k : ℕ). EndsNone index held found k) is ((tries_for index held found).lost_last m none (omega arith))
    backward (suc left) index held found n e lost =
        let m : ℕ = lost.0 in
        let none : EndsAt (try.transitions l) (entry_try seat index held) found m None = lost.2 in
        let sum : suc n ≡ suc m + lost.1 = lost.3 in
        go m none lost.1 sum lost.4 (λ k. backward left (suc index) (held_behind l seat index held found m) (λ i. found (suc m + i)) k (omega arith)) where
          go : (m : ℕ) → EndsAt (try.transitions l) (entry_try seat index held) found m None → (rest : ℕ) → suc n ≡ suc m + rest →
              AreLost l seat (suc left) (suc index) (held_behind l seat index held found m) (λ i. found (suc m + i)) rest →
              ((k : ℕ) → AreLost l seat (suc left) (suc index) (held_behind l seat index held found m) (λ i. found (suc m + i)) (suc k) → EndsNone (suc index) (held_behind l seat index held found m) (λ i. found (suc m + i)) k) →
              EndsNone index held found n
          go m none zero sum more next = absurd (let some : zero ≡ suc more.0 + more.1 = more.3 in omega arith)
          go m none (suc k) sum more next =
              let is : suc m + k ≡ n = omega arith in
              subst (λ (j : ℕ). EndsNone index held found j) is
              (subst (λ (x : EntryTaking). AnswersNone x (found (suc m + k))) (sym (later (trying seat index held) (trying seat (suc index) (held_behind l seat index held found m)) found m k ((tries_for index held found).lost m none (omega arith)))) (next k more))

    none_gives : (u : Trying) (index : ℕ) (held : Option Held) (out : Option (Option Held)) → given (after_try l (take_in u) index held out) ≡ Some None → (out ≡ Some None) × (buffers_of l ≤ suc index)
    none_gives u index held out e = grind arith

    module _ (index : ℕ) (held : Option Held) (found : ℕ → ℕ) where
      abbrev t : Trying
      t = entry_try seat index held

      -- while the try goes on it ends with none by the try of the last buffer
      with_try : (n : ℕ) → GoesOn (try.transitions l) t found n → EndsNone index held found n → (EndsAt (try.transitions l) t found n None) × (buffers_of l ≤ suc index)
      with_try n busy q =
          let is = none_gives (tried t found (suc n)) index (tried t found (suc n)).held (try.gives (tried t found n) (found n)) (sym (gives_along t found n busy) ∙ q.1) in
          ((busy, is.0), is.1)

      -- behind it from what the try has led to
      from_behind : (m k n : ℕ) (out : Option Held) → EndsAt (try.transitions l) t found m out → n ≡ suc m + k → EndsNone index held found n → EndsAt (transitions l) (passed t found m (Some out)) (λ i. found (suc m + i)) k None
      from_behind m k n out e is q =
          subst (λ (x : EntryTaking). AnswersNone x (found (suc m + k))) (later (take_in t) (passed t found m (Some out)) found m k (then t found m out e))
          (subst (λ (j : ℕ). EndsNone index held found j) is q)

      not_won : (m k n : ℕ) (h : Held) → EndsAt (try.transitions l) t found m (Some h) → n ≡ suc m + k → ¬ EndsNone index held found n
      not_won m k n h e is q = has_one h (λ i. found (suc m + i)) k (from_behind m k n (Some h) e is q)

      lost_all : (m k n : ℕ) → buffers_of l ≤ suc index → EndsAt (try.transitions l) t found m None → n ≡ suc m + k → ¬ EndsNone index held found n
      lost_all m k n le e is q =
          let kept : Option Held = held_behind l seat index held found m in
          over (passed t found m (Some None)) (λ i. found (suc m + i)) kept None (ap (λ (b : Bool). cond b (try_at seat (index + 1) kept) (Ended kept None)) (last_there index le)) k (from_behind m k n None e is q)

    forward : (left index : ℕ) (held : Option Held) (found : ℕ → ℕ) (n : ℕ) → index + suc left ≡ buffers_of l → EndsNone index held found n → AreLost l seat (suc left) index held found (suc n)
    forward zero index held found n e q = by end.0 end.1 end.2 (ltb end.0 n) refl where
      end : (m : ℕ) × (out : Option Held) × EndsAt (try.transitions l) (entry_try seat index held) found m out
      end = (tries l seat Entry index held found).ends

      by : (m : ℕ) (out : Option Held) → EndsAt (try.transitions l) (entry_try seat index held) found m out → (b : Bool) → ltb m n ≡ b → AreLost l seat 1 index held found (suc n)
      by m out f false w =
          let le : n ≤ m = ltb-false _ _ w in
          let busy : GoesOn (try.transitions l) (entry_try seat index held) found n = busy_before l (entry_try seat index held) found m n le f.0 in
          let sum : suc n ≡ suc n + 0 = omega arith in
          (n, 0, (with_try index held found n busy q).0, sum, refl)
      by m (Some h) f true w = let lt : m < n = ltb-true _ _ w in absurd (not_won index held found m (n - suc m) n h f (omega arith) q)
      by m None f true w = let lt : m < n = ltb-true _ _ w in absurd (lost_all index held found m (n - suc m) n (omega arith) f (omega arith) q)
    forward (suc left) index held found n e q = by (λ m k. forward left (suc index) (held_behind l seat index held found m) (λ i. found (suc m + i)) k (omega arith)) end.0 end.1 end.2 (ltb end.0 n) refl where
      end : (m : ℕ) × (out : Option Held) × EndsAt (try.transitions l) (entry_try seat index held) found m out
      end = (tries l seat Entry index held found).ends

      by : ((m k : ℕ) → EndsNone (suc index) (held_behind l seat index held found m) (λ i. found (suc m + i)) k → AreLost l seat (suc left) (suc index) (held_behind l seat index held found m) (λ i. found (suc m + i)) (suc k)) →
          (m : ℕ) (out : Option Held) → EndsAt (try.transitions l) (entry_try seat index held) found m out → (b : Bool) → ltb m n ≡ b → AreLost l seat (suc (suc left)) index held found (suc n)
      by next m out f false w =
          let le : n ≤ m = ltb-false _ _ w in
          let busy : GoesOn (try.transitions l) (entry_try seat index held) found n = busy_before l (entry_try seat index held) found m n le f.0 in
          let last : buffers_of l ≤ suc index = (with_try index held found n busy q).1 in
          absurd (omega arith)
      by next m (Some h) f true w = let lt : m < n = ltb-true _ _ w in absurd (not_won index held found m (n - suc m) n h f (omega arith) q)
      by next m None f true w =
          let lt : m < n = ltb-true _ _ w in
          let k : ℕ = n - suc m in
          let is : n ≡ suc m + k = omega arith in
          let sum : suc n ≡ suc m + suc k = omega arith in (
            m,
            suc k,
            f,
            sum,
            next m k (
                subst (λ (x : EntryTaking). AnswersNone x (found (suc m + k))) (later (trying seat index held) (trying seat (suc index) (held_behind l seat index held found m)) found m k ((tries_for index held found).lost m f (omega arith)))
                (subst (λ (j : ℕ). EndsNone index held found j) is q)),
          )

  -- what holds at each stage

  -- a buffer that is held has no entry, and none is held at the swap
  abbrev HeldFits : Option Held → TryStage → Type 0
  HeldFits held TryStage.Look = HasNoEntry held
  HeldFits held (TryStage.GiveBack word) = HasNoEntry held
  HeldFits held (TryStage.Claim word) = held ≡ None
  HeldFits held (TryStage.Ended out) = Unit {0}

  abbrev TakingFactsAt : TakeStage → Type 0
  TakingFactsAt (Try t) = TryingFacts seat Entry t × HeldFits t.held t.stage × (try.is_busy t.stage ≡ true)
  TakingFactsAt (Take h) = 0 < h.count
  TakingFactsAt (Ended held entry) = Unit {0}

  record TakingFacts (r : EntryTaking) : Type 0 where
    seat_is : r.seat ≡ seat
    stage_is : TakingFactsAt r.stage

  held_step : (t : Trying) (p : TryStage) (f : ℕ) → HeldFits t.held p → HeldFits (try.goes_at t p f).held (try.goes_at t p f).stage
  held_step t p f h = grind arith

  -- a try that answers none leaves no buffer held that has an entry
  lost_held : (t : Trying) (p : TryStage) (f : ℕ) → try.is_busy p ≡ true → HeldFits t.held p → try.given (try.goes_at t p f) ≡ Some None → HasNoEntry (try.goes_at t p f).held
  lost_held t p f busy h e = grind arith

  after_fine : (r : EntryTaking) (index : ℕ) (held : Option Held) (out : Option (Option Held)) → r.seat ≡ seat → (out ≡ None → TakingFactsAt r.stage) → (out ≡ Some None → HasNoEntry held) → ((h : Held) → out ≡ Some (Some h) → 0 < h.count) →
      TakingFacts (after_try l r index held out)
  after_fine r index held out own here none some = record { seat_is = grind arith; stage_is = grind arith }

  fine_at : (r : EntryTaking) (p : TakeStage) (f : ℕ) → r.seat ≡ seat → TakingFactsAt p → TakingFacts (goes_at l r p f)
  fine_at r (Try t) f own fine =
      after_fine (at_stage r (Try (try.goes t f))) t.index (try.goes t f).held (try.gives t f) own
      (λ e. (fine_try seat Entry t f fine.0, held_step t t.stage f fine.1, ap is_none e))
      (lost_held t t.stage f fine.2 fine.1)
      (λ h e. (took seat Entry t f h fine.0 fine.2 e).1)
  fine_at r (Take h) f own fine = record { seat_is = own; stage_is = tt }
  fine_at r (Ended held entry) f own fine = record { seat_is = own; stage_is = tt }

  -- what becomes of a held buffer

  becomes_at : (r : EntryTaking) (p : TakeStage) (f : ℕ) (h : Held) → TakingFactsAt p → held_at p ≡ Some h → Becomes (asks (at_stage r p)) (held_at (goes_at l r p f).stage) h
  becomes_at r p f h fine e = grind (arith, nat_tests)

  -- what it ends with

  gives_from : (r : EntryTaking) (p : TakeStage) (f entry : ℕ) → is_busy p ≡ true → given (goes_at l r p f) ≡ Some (Some entry) → (own : Held) × (p ≡ Take own) × (entry ≡ entry_of l f)
  gives_from r p f entry busy e = grind arith

  won_out : (r : EntryTaking) (t : Trying) (index : ℕ) (held : Option Held) (out : Option (Option Held)) (own : Held) → (after_try l (at_stage r (Try t)) index held out).stage ≡ Take own → out ≡ Some (Some own)
  won_out r t index held out own e = grind arith

  came_from : (r : EntryTaking) (p : TakeStage) (f : ℕ) (own : Held) → TakingFactsAt p → r.stage ≡ p → (goes_at l r p f).stage ≡ Take own → Took seat (asks (at_stage r p)) f own
  came_from r (Try t) f own fine is e = (took seat Entry t f own fine.0 fine.2 (won_out r (try.goes t f) t.index (try.goes t f).held (try.gives t f) own e)).0
  came_from r (Take h) f own fine is e = absurd (cc)
  came_from r (Ended held entry) f own fine is e = absurd (cc)

  from_entry : (h : Held) → 0 < h.count → begin seat (Some h) ≡ Take h
  from_entry h some = let yes : ltb 0 h.count ≡ true = grind (arith, nat_tests) in ap (λ (b : Bool). cond b (Take h) (try_at seat 0 (Some h))) yes

  begins_fine : (held : Option Held) → TakingFactsAt (begin seat held)
  begins_fine held = grind arith

  began_with : (held : Option Held) (own : Held) → begin seat held ≡ Take own → held ≡ Some own
  began_with held own e = grind arith

  module _ (folded : IsFolded (transitions l)) (held : Option Held) (found : ℕ → ℕ) where
    abbrev from : EntryTaking
    from = opening seat held

    abbrev after : ℕ → EntryTaking
    after n = told (transitions l) from found n

    fine : (n : ℕ) → TakingFacts (after n)
    fine zero = record { seat_is = refl; stage_is = begins_fine held }
    fine (suc n) = let f : TakingFacts (after n) = fine n in fine_at (after n) (after n).stage (found n) f.seat_is f.stage_is

    no_entry_at : (o : Option Held) (n : ℕ) → EndsAt (transitions l) (opening seat o) found n None → HasNoEntry o
    no_entry_at None n q = tt
    no_entry_at (Some h) n q = by (ltb 0 h.count) refl where
      by : (b : Bool) → ltb 0 h.count ≡ b → h.count ≡ 0
      by true e = absurd (has_one folded h found n (subst (λ (p : TakeStage). EndsAt (transitions l) (record { seat = seat; stage = p }) found n None) (from_entry h (ltb-true _ _ e)) q))
      by false e = let le : h.count ≤ 0 = ltb-false _ _ e in omega arith

    is_trying : HasNoEntry held → from ≡ trying seat 0 held
    is_trying none = grind arith

    all_lost : (n : ℕ) → EndsAt (transitions l) from found n None → HasNoEntry held × AreLost l seat (buffers_of l) 0 held found (suc n)
    all_lost n q =
        let none : HasNoEntry held = no_entry_at held n q in
        let left : ℕ = buffers_of l - 1 in
        let is : suc left ≡ buffers_of l = omega arith in (
          none,
          subst (λ (k : ℕ). AreLost l seat k 0 held found (suc n)) is
              (forward folded left 0 held found n (omega arith) (subst (λ (r : EntryTaking). EndsAt (transitions l) r found n None) (is_trying none) q)),
        )

    none_then : (n : ℕ) → HasNoEntry held → AreLost l seat (buffers_of l) 0 held found (suc n) → EndsAt (transitions l) from found n None
    none_then n none lost =
        let left : ℕ = buffers_of l - 1 in
        let is : buffers_of l ≡ suc left = omega arith in
        subst (λ (r : EntryTaking). EndsAt (transitions l) r found n None) (sym (is_trying none))
        (backward folded left 0 held found n (omega arith) (subst (λ (k : ℕ). AreLost l seat k 0 held found (suc n)) is lost))

    taken_from : (n : ℕ) (own : Held) → (after n).stage ≡ Take own → ((n ≡ 0) × (held ≡ Some own)) ⊎ ((before : ℕ) × (n ≡ suc before) × Took seat (asks (after before)) (found before) own)
    taken_from zero own e = inl (refl, began_with held own e)
    taken_from (suc n) own e = inr (n, refl, came_from (after n) (after n).stage (found n) own (fine n).stage_is refl e)

    takes_last : (n entry : ℕ) → EndsAt (transitions l) from found n (Some entry) → TakesLast l seat held found n entry
    takes_last n entry q =
        let r : EntryTaking = after n in
        let is = gives_from r r.stage (found n) entry q.0 q.1 in
        let own : Held = is.0 in
        let at : r.stage ≡ Take own = is.1 in
        record {
          own = own;
          some = subst TakingFactsAt at (fine n).stage_is;
          loads = ap (λ (p : TakeStage). asks (at_stage r p)) at;
          entry_is = is.2;
          holds = ap (λ (p : TakeStage). held_at (goes_at l r p (found n)).stage) at;
          taken = taken_from n own at;
        }

    pub takes : TakesEntry l seat held found
    takes = grind (arith, all_lost, becomes_at, fine, from_entry, is_trying, none_then, takes_last, tries_for)
