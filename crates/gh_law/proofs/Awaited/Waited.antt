-- Where an operation of a processor has waited for a cycle, it is the last that the processor began, and a cycle that began behind its first entry was swept.
use Rattle.std.proofs.Common.{◌≡◌, ℕ, ◌<◌, ◌≤◌, Bool, true, false, cond, eqb, List, [], ◌∷◌, ◌++◌, Option, Some, None, refl, sym, ap, subst, ◌∙◌, arith, inl, inr}
use Rattle.gh_law.proofs.Vocabulary.{Act, acts_at, Ask, asks, AwaitedCycle, Awaits, before_step, begun_in, by, cases_lt, Cell, cell_of, deeds, DeedsFit, done_at, Entry, has_point, HasAwaited, InCycles, is_busy_at, IsAwake, IsStartOf, Kind, Layout, Legal, legal_start, ListsKnown, Op, option_to_list, party_at, party_of, Polling, Processor, processor_kind, Rises, runs_are, Setup, Shape, stage_at, stage_of, started, state_of, takes, Task, those, whole, Words, words}
use Rattle.gh_mutator.specs.Listing.{begins, asks_at}
use Rattle.gh_mutator.specs.Serving.{has_left_at}
use Rattle.gh_lists.specs.Stepping.{IsAnothers, IsItsOwn, its_own, no_processors, who_steps}
use Rattle.gh_law.proofs.Awaited.Swept.{rises, swept_since}
use Rattle.gh_law.proofs.Awaited.Waiting.{first_sees_none, first_waits, full_searches, gc_acts, HasSeenCycle, HasWaited, IsSearching, more_swept, steps_on}

-- Where it searches, or rests, a processor knows the number of cycles begun.

searching_knows : (p : Polling) (t : Task) → IsSearching t → IsAwake (stage_at p t) × ((party_at p t).view ≡ p.local.view)
searching_knows p t h = grind arith

resting_knows : (p : Polling) (t : Task) → is_busy_at t ≡ false → has_left_at t ≡ false → IsAwake (stage_at p t) × ((party_at p t).view ≡ p.local.view)
resting_knows p t idle here = grind arith

same_view : (shapes : List Shape) (m : Processor) (o : Op) → (begins shapes m o).poll.local.view ≡ m.poll.local.view
same_view shapes m o = grind arith

again : (l : Layout) (m : Processor) (low swept found : ℕ) (t : Task) (o : Op) → HasWaited low swept t → HasSeenCycle found t o → (asks_at l m t ≡ Ask.Load Cell.Swept → found ≤ swept) → low < swept
again l m low swept found t o h a so = grind arith

again_busy : (found : ℕ) (t : Task) (o : Op) → HasSeenCycle found t o → is_busy_at t ≡ true
again_busy found t o a = grind arith

start_behind : (since xs : List (Entry Op)) → IsStartOf xs (since ++ xs)
start_behind [] xs = whole xs
start_behind (e ∷ since) xs = inr (start_behind since xs)

module _ (setup : Setup) (lists : ListsKnown setup) where
  abbrev Lawful : List (Entry Op) → Type 0
  Lawful es = Legal (those setup) es

  abbrev told : List (Entry Op) → Words
  told es = words setup es

  abbrev k : Kind Processor Op
  k = processor_kind setup.shapes setup.layout

  fit : DeedsFit k (deeds setup.layout setup.shapes)
  fit = lists.known.fit setup.shapes setup.layout

  up : (e : Entry Op) (es : List (Entry Op)) → Lawful (e ∷ es) → Rises setup e es
  up e es legal = rises setup lists e es legal

  -- The processor at a seat.
  module _ (a : ℕ) (lt : a < setup.layout.procs) where
    abbrev own : List (Entry Op) → Processor
    own es = state_of k a es

    abbrev Its : (es : List (Entry Op)) (e : Entry Op) → Lawful (e ∷ es) → Type 0
    Its es e legal = IsItsOwn setup es e legal a lt

    abbrev Others : (es : List (Entry Op)) (e : Entry Op) → Lawful (e ∷ es) → Type 0
    Others es e legal = IsAnothers setup es e legal a lt

    -- where the operation that runs began, which is the one that is to act if one is, and that it has waited since
    record Began (es : List (Entry Op)) (o : Op) : Type 0 where
      earlier : List (Entry Op)
      first : Entry Op
      since : List (Entry Op)
      there : es ≡ since ++ first ∷ earlier
      by_it : first.actor ≡ a
      began : first.begun ≡ Some o
      none_since : begun_in (by a since) ≡ []
      low : told earlier Cell.Begun ≤ told es Cell.Begun
      waited : HasWaited (told earlier Cell.Begun) (told es Cell.Swept) (own es).task
      unacted : (q : Op) → (deeds setup.layout setup.shapes).unacted (own es) ≡ Some q → q ≡ o

    abbrev IsBegun : List (Entry Op) → Type 0
    IsBegun es = is_busy_at (own es).task ≡ true → (o : Op) × Began es o

    -- what an awake processor knows
    exact : (es : List (Entry Op)) → Lawful es → IsAwake (stage_of (own es)) → (party_of (own es)).view.begun ≡ told es Cell.Begun
    exact es legal awake = ((lists.keeps es legal).processors_know a (own es) (omega (arith, lt)) (runs_are setup es a lt) awake).begun_is

    -- what is to act behind a step was so before it
    still_unacted : (m : Processor) (found : ℕ) (q : Op) → is_busy_at m.task ≡ true → (deeds setup.layout setup.shapes).unacted (takes setup.layout setup.shapes m found) ≡ Some q → (deeds setup.layout setup.shapes).unacted m ≡ Some q
    still_unacted m found q busy is = go ((deeds setup.layout setup.shapes).acts m found) refl where
      go : (x : Option Act) → (deeds setup.layout setup.shapes).acts m found ≡ x → (deeds setup.layout setup.shapes).unacted m ≡ Some q
      go None none = sym (fit.goes_on m found busy none) ∙ is
      go (Some x) some = absurd (let no : None ≡ Some q = sym (fit.acts_once m found x busy some) ∙ is in cc)

    module _ (es : List (Entry Op)) (e : Entry Op) (legal : Lawful (e ∷ es)) where
      abbrev m : Processor
      m = before_step setup.shapes setup.layout es e

      -- one entry more, by which it begins nothing
      longer : (o : Op) (b : Began es o) → begun_in (by a (e ∷ b.since)) ≡ [] → HasWaited (told b.earlier Cell.Begun) (told (e ∷ es) Cell.Swept) (own (e ∷ es)).task → ((q : Op) → (deeds setup.layout setup.shapes).unacted (own (e ∷ es)) ≡ Some q → q ≡ o) → Began (e ∷ es) o
      longer o b none waited unacted = record {
        earlier = b.earlier;
        first = b.first;
        since = e ∷ b.since;
        there = ap (λ (xs : List (Entry Op)). e ∷ xs) b.there;
        by_it = b.by_it;
        began = b.began;
        none_since = none;
        low = let more = (up e es legal).begun in let low = b.low in omega (arith, more, low);
        waited = waited;
        unacted = unacted;
      }

      found_there : Its es e legal → asks setup.layout m ≡ Ask.Load Cell.Swept → e.found ≡ told es Cell.Swept
      found_there x is = legal.1.found ∙ ap (λ (q : Ask). told es (cell_of q)) (x.asked ∙ is)

      found_is : Its es e legal → asks setup.layout m ≡ Ask.Load Cell.Swept → e.found ≤ told (e ∷ es) Cell.Swept
      found_is x is = grind arith

      own_step : (x : Its es e legal) (low : ℕ) → HasWaited low (told es Cell.Swept) m.task → (IsSearching m.task → low ≤ m.poll.local.view.begun) → HasWaited low (told (e ∷ es) Cell.Swept) (own (e ∷ es)).task
      own_step x low h knows =
          let h' = more_swept low (told es Cell.Swept) (told (e ∷ es) Cell.Swept) m.task (up e es legal).swept h in
          subst (λ (n : Processor). HasWaited low (told (e ∷ es) Cell.Swept) n.task) (sym x.after) (steps_on setup.layout setup.shapes m low (told (e ∷ es) Cell.Swept) e.found m.task refl x.busy h' knows (found_is x))

      own_unacted : (x : Its es e legal) (o : Op) → ((q : Op) → (deeds setup.layout setup.shapes).unacted m ≡ Some q → q ≡ o) → (q : Op) → (deeds setup.layout setup.shapes).unacted (own (e ∷ es)) ≡ Some q → q ≡ o
      own_unacted x o before q is = before q (still_unacted m e.found q x.busy (ap (λ (n : Processor). (deeds setup.layout setup.shapes).unacted n) (sym x.after) ∙ is))

      begun_here : (since : List (Entry Op)) → eqb e.actor a ≡ true → begun_in (by a (e ∷ since)) ≡ option_to_list e.begun ++ begun_in (by a since)
      begun_here since here = ap (λ (b : Bool). begun_in (cond b (e ∷ by a since) (by a since))) here

      begun_aside : (since : List (Entry Op)) → eqb e.actor a ≡ false → begun_in (by a (e ∷ since)) ≡ begun_in (by a since)
      begun_aside since apart = ap (λ (b : Bool). begun_in (cond b (e ∷ by a since) (by a since))) apart

      goes_on : (x : Its es e legal) → e.begun ≡ None → IsBegun es → (o : Op) × Began (e ∷ es) o
      goes_on x none before =
          let same : m ≡ own es = x.before ∙ ap (λ (b : Option Op). started k b (own es)) none in
          let b = before (ap (λ (n : Processor). is_busy_at n.task) (sym same) ∙ x.busy) in
          let low = told b.1.earlier Cell.Begun in
          let h = subst (λ (n : Processor). HasWaited low (told es Cell.Swept) n.task) (sym same) b.1.waited in
          let quiet : begun_in (by a (e ∷ b.1.since)) ≡ [] = begun_here b.1.since x.here ∙ ap (λ (q : Option Op). option_to_list q ++ begun_in (by a b.1.since)) none ∙ b.1.none_since in (
            b.0,
            longer b.0 b.1 quiet (own_step x low h (λ s. knows low b.1.low same (subst (λ (n : Processor). IsSearching n.task) same s)))
                (own_unacted x b.0 (λ q is. b.1.unacted q (ap (λ (n : Processor). (deeds setup.layout setup.shapes).unacted n) (sym same) ∙ is))),
          ) where
            knows : (low : ℕ) → low ≤ told es Cell.Begun → m ≡ own es → IsSearching (own es).task → low ≤ m.poll.local.view.begun
            knows low le same s =
                let w = searching_knows (own es).poll (own es).task s in
                let view = exact es legal.0 w.0 in
                let same_begun : m.poll.local.view.begun ≡ told es Cell.Begun = ap (λ (n : Processor). n.poll.local.view.begun) same ∙ sym (ap (λ v. v.begun) w.1) ∙ view in
                omega (arith, le, same_begun)

      begins_now : (x : Its es e legal) (o : Op) → e.begun ≡ Some o → (o : Op) × Began (e ∷ es) o
      begins_now x o is = go (has_left_at (own es).task) refl where
        rested : is_busy_at (own es).task ≡ false
        rested = x.rested o is

        at_first : m ≡ k.begins (own es) o
        at_first = x.before ∙ ap (λ (b : Option Op). started k b (own es)) is

        unacted : (q : Op) → (deeds setup.layout setup.shapes).unacted m ≡ Some q → q ≡ o
        unacted q to_act = pointed_one (has_point o) (sym (fit.begins (own es) o rested (sym (ap (λ (n : Processor). is_busy_at n.task) at_first) ∙ x.busy)) ∙ sym (ap (λ (n : Processor). (deeds setup.layout setup.shapes).unacted n) at_first) ∙ to_act) where
          pointed_one : (b : Bool) → cond b (Some o) None ≡ Some q → q ≡ o
          pointed_one true e = cc
          pointed_one false e = absurd cc

        go : (b : Bool) → has_left_at (own es).task ≡ b → (o : Op) × Began (e ∷ es) o
        go true left = absurd (let b = sym x.busy ∙ ap (λ (n : Processor). is_busy_at n.task) (at_first ∙ ap (λ (b : Bool). cond b (own es) (begins setup.shapes (own es) o)) left) ∙ rested in cc)
        go false left =
            let same : m ≡ begins setup.shapes (own es) o = at_first ∙ ap (λ (b : Bool). cond b (own es) (begins setup.shapes (own es) o)) left in
            let low = told es Cell.Begun in
            let w = resting_knows (own es).poll (own es).task rested left in
            let knows : (own es).poll.local.view.begun ≡ low = sym (ap (λ v. v.begun) w.1) ∙ exact es legal.0 w.0 in
            let same_begun : m.poll.local.view.begun ≡ low = ap (λ (n : Processor). n.poll.local.view.begun) same ∙ ap (λ v. v.begun) (same_view setup.shapes (own es) o) ∙ knows in
            let h = subst (λ (n : Processor). HasWaited low (told es Cell.Swept) n.task) (sym same) (first_waits setup.shapes (own es) o low (told es Cell.Swept) (omega (arith, knows))) in (
              o,
              record {
                earlier = es;
                first = e;
                since = [];
                there = refl;
                by_it = x.its;
                began = is;
                none_since = refl;
                low = (up e es legal).begun;
                waited = own_step x low h (λ s. omega arith);
                unacted = own_unacted x o unacted;
              },
            )

      more : IsBegun es → IsBegun (e ∷ es)
      more before busy = elim (who_steps setup es e legal a lt) [ inl x ↦ mine x e.begun refl | inr x ↦ other x ] where
        mine : Its es e legal → (b : Option Op) → e.begun ≡ b → (o : Op) × Began (e ∷ es) o
        mine x None is = goes_on x is before
        mine x (Some o) is = begins_now x o is

        other : Others es e legal → (o : Op) × Began (e ∷ es) o
        other x =
            let b = before (ap (λ (n : Processor). is_busy_at n.task) (sym x.after) ∙ busy) in
            let low = told b.1.earlier Cell.Begun in (
              b.0,
              longer b.0 b.1 (begun_aside b.1.since x.apart ∙ b.1.none_since) (subst (λ (n : Processor). HasWaited low (told (e ∷ es) Cell.Swept) n.task) (sym x.after) (more_swept low (told es Cell.Swept) (told (e ∷ es) Cell.Swept) (own es).task (up e es legal).swept b.1.waited))
                  (λ q is. b.1.unacted q (ap (λ (n : Processor). (deeds setup.layout setup.shapes).unacted n) (sym x.after) ∙ is)),
            )

    is_begun : (es : List (Entry Op)) → Lawful es → IsBegun es
    is_begun [] legal busy = absurd cc
    is_begun (e ∷ es) legal busy = more es e legal (is_begun es legal.0) busy

    -- what it acts on behind a wait is the last that it began, and has waited for a cycle
    module _ (in_cycles : InCycles setup) (es : List (Entry Op)) (e : Entry Op) (legal : Lawful (e ∷ es)) (x : Its es e legal) (act : Act) (acts : (deeds setup.layout setup.shapes).acts (before_step setup.shapes setup.layout es e) e.found ≡ Some act) (sees : HasSeenCycle e.found (before_step setup.shapes setup.layout es e).task act.op) where
      from_begun : e.begun ≡ None → AwaitedCycle setup a es act.op
      from_begun none =
          let same : before_step setup.shapes setup.layout es e ≡ own es = x.before ∙ ap (λ (b : Option Op). started k b (own es)) none in
          let s = subst (λ (n : Processor). HasSeenCycle e.found n.task act.op) same sees in
          let b = is_begun es legal.0 (again_busy e.found (own es).task act.op s) in
          let later : told b.1.earlier Cell.Begun < told es Cell.Swept = again setup.layout (own es) (told b.1.earlier Cell.Begun) (told es Cell.Swept) e.found (own es).task act.op b.1.waited s (λ loads. let found = found_there es e legal x (ap (asks setup.layout) same ∙ loads) in omega (arith, found)) in
          let one : act.op ≡ b.0 = b.1.unacted act.op (ap (λ (n : Processor). (deeds setup.layout setup.shapes).unacted n) (sym same) ∙ fit.acts_for (before_step setup.shapes setup.layout es e) e.found act x.busy acts) in
          let start : IsStartOf (b.1.first ∷ b.1.earlier) es = subst (λ (xs : List (Entry Op)). IsStartOf (b.1.first ∷ b.1.earlier) xs) (sym b.1.there) (start_behind b.1.since (b.1.first ∷ b.1.earlier)) in
          let seat : b.1.first.actor < setup.layout.procs = let by_it = b.1.by_it in omega (arith, lt, by_it) in
          record {
            earlier = b.1.earlier;
            first = b.1.first;
            since = b.1.since;
            there = b.1.there;
            by_it = b.1.by_it;
            began = b.1.began ∙ ap Some (sym one);
            none_since = b.1.none_since;
            cycle = swept_since setup lists in_cycles b.1.first b.1.earlier es legal.0 start seat later;
          }

      waited_own : AwaitedCycle setup a es act.op
      waited_own = mine e.begun refl where
        mine : (b : Option Op) → e.begun ≡ b → AwaitedCycle setup a es act.op
        mine None none = from_begun none
        mine (Some o) begins_it = absurd (go (has_left_at (own es).task) (subst (λ (n : Processor). HasSeenCycle e.found n.task act.op) first sees)) where
          first : before_step setup.shapes setup.layout es e ≡ cond (has_left_at (own es).task) (own es) (begins setup.shapes (own es) o)
          first = x.before ∙ ap (λ (b : Option Op). started k b (own es)) begins_it

          go : (c : Bool) → HasSeenCycle e.found (cond c (own es) (begins setup.shapes (own es) o)).task act.op → ⊥
          go true s = let busy = again_busy e.found (own es).task act.op s in let no : true ≡ false = sym busy ∙ x.rested o begins_it in cc
          go false s = first_sees_none setup.shapes (own es) e.found o act.op s

  -- So it is with what acts in a legal list.
  module _ (in_cycles : InCycles setup) (es : List (Entry Op)) (e : Entry Op) (legal : Lawful (e ∷ es)) (act : Act) (acts : done_at k (deeds setup.layout setup.shapes) es e ≡ Some act) where
    abbrev now : Processor
    now = before_step setup.shapes setup.layout es e

    does : acts_at setup.layout now now.task e.found ≡ Some act
    does = grind arith

    awaited : HasSeenCycle e.found now.task act.op → AwaitedCycle setup e.actor es act.op
    awaited sees = elim (cases_lt e.actor setup.layout.procs) [
      | inl lt ↦ waited_own e.actor lt in_cycles es e legal (its_own setup es e legal e.actor lt refl) act acts sees
      | inr le ↦ absurd (let no : None ≡ Some act = sym (no_processors setup es e legal le).acts_not ∙ does in cc)
    ]

    has_awaited : HasAwaited setup e es act
    has_awaited = record {
      gc = λ g is. awaited (gc_acts setup.layout now now.task e.found g act does is).0;
      answered = λ g is. (gc_acts setup.layout now now.task e.found g act does is).1;
      full = λ is. awaited (full_searches setup.layout now now.task e.found act does is);
    }

  pub awaits : InCycles setup → (es : List (Entry Op)) → Lawful es → Awaits setup es
  awaits in_cycles es legal e before act start acts = has_awaited in_cycles before e (legal_start (those setup) (e ∷ before) es start legal) act acts
