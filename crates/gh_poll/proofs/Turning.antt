-- A poll scans the lowest unscanned stack at its turn, and no other: by its stages.
use Rattle.std.proofs.Common.{◌≡◌, ◌≢◌, ◌⊎◌, ℕ, zero, suc, ◌+◌, ◌%◌, ◌^◌, ◌<◌, ◌≤◌, Bool, true, false, cond, eqb, ltb, List, [], ◌∷◌, drop, length, Option, Some, None, inl, inr, refl, sym, ap, subst, ◌∙◌, arith, is_none, not, slice_index, slice_set, length-drop}
use Rattle.gh_poll.proofs.Vocabulary.{after_mark, after_resume, after_room, by_phase, counted, due, FindRoom, first_due, giving, Held, IsUnscanned, Layout, LoadPhase, Local, marks_then, Marking, nat_tests, phase_of, Polling, PollStage, Resumed, resumed, Resuming, run_phase, RunPhase, scanned, scans}
use Rattle.gh_base.specs.declared.limits.TheConstants.{MOST_GOROUTINES}
use Rattle.gh_base.specs.Routines.{told}
use Rattle.gh_phase.specs.declared.resume.ResumeStage.{ResumeStage}
use Rattle.gh_phase.specs.Listing as resume
use Rattle.gh_wbuf.specs.RoomFinding as room
use Rattle.gh_poll.specs.declared.poll.PollStage.TheVariants.{Giving, Ended}
use Rattle.gh_poll.specs.Due.{drop_next, index_is}
use Rattle.gh_poll.specs.Give as give
use Rattle.gh_poll.specs.MarkStack as mark
use Rattle.gh_poll.specs.Poll as poll
use Rattle.gh_poll.specs.Poll.{is_due, is_turn, transitions}
use Rattle.gh_poll.specs.Vocabulary.{View}
use Rattle.gh_poll.specs.Turns.{IsItsTurn, IsLowestUnscanned, knowing, polls_before, PollsScanInTurn, ScansInTurn, ScansNone, ScansOne}

-- The lowest of the goroutines whose stack is due.
module _ (l : Layout) (seat : ℕ) (local : Local) where
  abbrev is_due_at : (i last : ℕ) → Bool
  is_due_at i last = is_due l seat local.view.begun i last

  due_means : (i : ℕ) → is_due_at i (slice_index local.scanned i) ≡ true → IsUnscanned l seat local i
  due_means i e = grind arith

  not_due : (i : ℕ) → is_due_at i (slice_index local.scanned i) ≡ false → IsUnscanned l seat local i → ⊥
  not_due i e u = grind arith

  -- of those from i on
  record IsFirst (i g : ℕ) : Type 0 where
    unscanned : IsUnscanned l seat local g
    lowest : (h : ℕ) → i ≤ h → h < g → IsUnscanned l seat local h → ⊥

  -- where i is not due
  past : (i : ℕ) → is_due_at i (slice_index local.scanned i) ≡ false → (h : ℕ) → i ≤ h → IsUnscanned l seat local h → i + 1 ≤ h
  past i f h le u = go (ltb i h) refl where
    go : (b : Bool) → ltb i h ≡ b → i + 1 ≤ h
    go true e = grind (arith, nat_tests)
    go false e = let same : h ≡ i = grind (arith, nat_tests) in absurd (not_due i f (subst (IsUnscanned l seat local) same u))

  first_is : (g i : ℕ) (others : List ℕ) → drop i local.scanned ≡ others → first_due l seat local.view.begun i others ≡ Some g → IsFirst i g
  first_is g i [] d e = absurd (cc)
  first_is g i (last ∷ others) d e = here (first_is g (i + 1) others (drop_next i local.scanned last others d)) (is_due_at i last) refl e where
    here : (first_due l seat local.view.begun (i + 1) others ≡ Some g → IsFirst (i + 1) g) → (b : Bool) → is_due_at i last ≡ b → cond b (Some i) (first_due l seat local.view.begun (i + 1) others) ≡ Some g → IsFirst i g
    here more true f e =
        let is : i ≡ g = cc in
        let due_i : is_due_at i (slice_index local.scanned i) ≡ true = ap (is_due_at i) (index_is i local.scanned last others d) ∙ f in
        record { unscanned = subst (IsUnscanned l seat local) is (due_means i due_i); lowest = λ h le lt u. omega (arith, is, le, lt) }
    here more false f e =
        let rest = more e in
        let not_i : is_due_at i (slice_index local.scanned i) ≡ false = ap (is_due_at i) (index_is i local.scanned last others d) ∙ f in
        record { unscanned = rest.unscanned; lowest = λ h le lt u. rest.lowest h (past i not_i h le u) lt u }

  none_is : (i : ℕ) (others : List ℕ) → drop i local.scanned ≡ others → first_due l seat local.view.begun i others ≡ None → (h : ℕ) → i ≤ h → h < length local.scanned → IsUnscanned l seat local h → ⊥
  none_is i [] d e h le lt u = let short : length (drop i local.scanned) ≡ 0 = ap length d in omega (arith, length-drop i local.scanned, short, le, lt)
  none_is i (last ∷ others) d e h le lt u = here (none_is (i + 1) others (drop_next i local.scanned last others d)) (is_due_at i last) refl e where
    here : (first_due l seat local.view.begun (i + 1) others ≡ None → (h : ℕ) → i + 1 ≤ h → h < length local.scanned → IsUnscanned l seat local h → ⊥) → (b : Bool) → is_due_at i last ≡ b → cond b (Some i) (first_due l seat local.view.begun (i + 1) others) ≡ None → ⊥
    here more true f e = absurd (cc)
    here more false f e =
        let not_i : is_due_at i (slice_index local.scanned i) ≡ false = ap (is_due_at i) (index_is i local.scanned last others d) ∙ f in
        more e h (past i not_i h le u) lt u

-- what is due is so by the seat, the last scans and the cycle alone
same_due : (l : Layout) (seat to : ℕ) (local other : Local) → seat ≡ to → local.scanned ≡ other.scanned → local.view.begun ≡ other.view.begun → (g : ℕ) → IsUnscanned l seat local g → IsUnscanned l to other g
same_due l seat to local other seats scans cycle g u = record { there = u.there; own = u.own ∙ seats; going = rw (← scans) u.going; unscanned = rw (← scans, ← cycle) u.unscanned }

-- the polls of a cycle that were before, where the same cycle is known, or by what the step behind a stop says
same_cycle : (a b n : ℕ) → a ≡ b → n ≡ cond (eqb a b) n 0
same_cycle a b n e = grind (arith, nat_tests)

anew : (other same : Bool) (n : ℕ) → other ≡ not same → cond other 0 n ≡ cond same n 0
anew other true n e = rw e refl
anew other false n e = rw e refl

module _ (l : Layout) (first : Polling) (whole : length first.local.scanned ≡ MOST_GOROUTINES) where
  abbrev Turned : Local → Type 0
  Turned x = ScansInTurn l first.seat first.local x

  -- before the world is found to run
  record Waits (p : Polling) : Type 0 where
    seat : p.seat ≡ first.seat
    view : p.local.view ≡ first.local.view
    polls : p.local.polls ≡ first.local.polls
    scanned : p.local.scanned ≡ first.local.scanned

  -- where it runs
  record Runs (p : Polling) : Type 0 where
    seat : p.seat ≡ first.seat
    polls : p.local.polls ≡ polls_before l first.seat first.local p.local.view
    scanned : p.local.scanned ≡ first.local.scanned

  -- while the stack of this goroutine is scanned
  record Scans (p : Polling) (g : ℕ) : Type 0 where
    runs : Runs p
    on : p.local.view.phase ≡ RunPhase.Mark
    turn : IsItsTurn l first.seat first.local p.local.view
    lowest : IsLowestUnscanned l first.seat (knowing first.local p.local.view) g

  -- it asks for a step, and knows of the cycle what it knew
  record Resumes (r : resume.Resuming) : Type 0 where
    busy : resume.is_busy r ≡ true
    begun : r.view.begun ≡ first.local.view.begun

  abbrev StandsAt : Polling → PollStage → Type 0
  StandsAt p LoadPhase = Waits p
  StandsAt p (Giving g stops) = Waits p
  StandsAt p (Resuming r) = Waits p × Resumes r
  StandsAt p (Marking g m) = Scans p g
  StandsAt p (FindRoom r) = Turned p.local
  StandsAt p Ended = Turned p.local

  abbrev Stands : Polling → Type 0
  Stands p = StandsAt p p.stage

  -- it is counted, and has scanned one or none
  module _ (p : Polling) (polls : p.local.polls ≡ polls_before l first.seat first.local p.local.view) (on : p.local.view.phase ≡ RunPhase.Mark)
      (done : ((g : ℕ) × ScansOne l first.seat first.local p.local.view p.local.scanned g) ⊎ ScansNone l first.seat first.local p.local.view p.local.scanned) where
    abbrev more : Local
    more = record (p.local) { polls = (p.local.polls + 1) % 2 ^ 64 }

    turned : Turned more
    turned = record { counts = λ o. ap (λ (n : ℕ). (n + 1) % 2 ^ 64) polls; scans = λ o. done; off = λ other. absurd (other on) }

    by_room : (two : Bool) → Stands (record p { local = more; stage = cond two Ended (FindRoom (room.opening p.seat p.local.held)) })
    by_room true = turned
    by_room false = turned

    by_wait : (waits : Bool) → Stands (record p { local = more; stage = poll.room_stage p.seat waits p.local.held })
    by_wait true = turned
    by_wait false = by_room (poll.has_two p.local.held)

    counts : Stands (counted p)
    counts = by_wait p.waits

  -- where the world runs
  module _ (p : Polling) (runs : Runs p) where
    module _ (on : p.local.view.phase ≡ RunPhase.Mark) where
      scans_so : (fourth : Bool) → is_turn p.local.polls ≡ fourth → (out : Option ℕ) → cond fourth (first_due l p.seat p.local.view.begun 0 p.local.scanned) None ≡ out → Stands (scans l p out)
      scans_so false is None e = counts p runs.polls on (inr (record { none_due = λ turn g u. absurd (let other : p.local.polls % 4 ≢ 0 = grind (arith, nat_tests) in other (ap (λ (n : ℕ). n % 4) runs.polls ∙ turn)); scanned_is = runs.scanned }))
      scans_so false is (Some g) e = absurd (cc)
      scans_so true is None e = counts p runs.polls on (inr (record { none_due = λ turn g u. none g u; scanned_is = runs.scanned })) where
        none : (g : ℕ) → IsUnscanned l first.seat (knowing first.local p.local.view) g → ⊥
        none g u =
            let few = l.limits.goroutines_fit.1 in
            let there = u.there in
            let long : length p.local.scanned ≡ MOST_GOROUTINES = ap length runs.scanned ∙ whole in
            none_is l p.seat p.local 0 p.local.scanned refl e g (omega arith) (omega arith) (same_due l first.seat p.seat (knowing first.local p.local.view) p.local (sym runs.seat) (sym runs.scanned) refl g u)
      scans_so true is (Some g) e = record { runs = record { seat = runs.seat; polls = runs.polls; scanned = runs.scanned }; on = on; turn = turn; lowest = record { unscanned = same_due l p.seat first.seat p.local (knowing first.local p.local.view) runs.seat runs.scanned refl g due_first.unscanned; lowest = below } } where
        due_first : IsFirst l p.seat p.local 0 g
        due_first = first_is l p.seat p.local g 0 p.local.scanned refl e

        turn : IsItsTurn l first.seat first.local p.local.view
        turn = ap (λ (n : ℕ). n % 4) (sym runs.polls) ∙ (grind (arith, nat_tests))

        below : (h : ℕ) → h < g → IsUnscanned l first.seat (knowing first.local p.local.view) h → ⊥
        below h lt u = due_first.lowest h (omega arith) lt (same_due l first.seat p.seat (knowing first.local p.local.view) p.local (sym runs.seat) (sym runs.scanned) refl h u)

    none_off : p.local.view.phase ≢ RunPhase.Mark → Turned p.local
    none_off other = record { counts = λ o. absurd (other o); scans = λ o. absurd (other o); off = λ o. runs.scanned }

    marks : (phase : RunPhase) → p.local.view.phase ≡ phase → Stands (marks_then l p phase)
    marks RunPhase.Mark on = scans_so on (is_turn p.local.polls) refl (due l p) refl
    marks RunPhase.Off on = none_off (λ o. cc)
    marks RunPhase.Finished on = none_off (λ o. cc)

  stops_so : (p : Polling) (g : give.Giving) (stops : ℕ) (busy : Bool) → Waits p → Stands (cond busy (poll.at_stage p (Giving g stops)) (record p { local = record (p.local) { cache = g.cache; held = g.held }; stage = Resuming (resume.opening p.seat stops p.local.view) }))
  stops_so p g stops true w = record { seat = w.seat; view = w.view; polls = w.polls; scanned = w.scanned }
  stops_so p g stops false w = (record { seat = w.seat; view = w.view; polls = w.polls; scanned = w.scanned }, record { busy = refl; begun = ap (λ (v : View). v.begun) w.view })

  runs_on : (p : Polling) → Waits p → Runs p
  runs_on p w =
      let same : p.local.view.begun ≡ first.local.view.begun = ap (λ (v : View). v.begun) w.view in
      record { seat = w.seat; polls = w.polls ∙ same_cycle p.local.view.begun first.local.view.begun first.local.polls same; scanned = w.scanned }

  phase_so : (p : Polling) (stops : ℕ) (phase : Option RunPhase) → Waits p → Stands (by_phase l p stops phase)
  phase_so p stops None w = stops_so p (giving p) stops (give.is_busy (giving p).stage) w
  phase_so p stops (Some phase) w = marks p (runs_on p w) p.local.view.phase refl

  -- what a step behind a stop leads to
  abbrev Leads : resume.Resuming → Option Resumed → Type 0
  Leads r None = Resumes r
  Leads r (Some out) = out.another_cycle ≡ not (eqb out.view.begun first.local.view.begun)

  resume_phase : (r : resume.Resuming) (number : ℕ) (phase : Option RunPhase) → r.view.begun ≡ first.local.view.begun → Leads (resume.after_phase r number phase) (resume.given (resume.after_phase r number phase))
  resume_phase r number None e = by (eqb number r.stops) where
    by : (same : Bool) → Leads (cond same (resume.at_stage r ResumeStage.LoadPhase) (record r { stops = number; stage = ResumeStage.Acknowledge })) (resume.given (cond same (resume.at_stage r ResumeStage.LoadPhase) (record r { stops = number; stage = ResumeStage.Acknowledge })))
    by true = record { busy = refl; begun = e }
    by false = record { busy = refl; begun = e }
  resume_phase r number (Some phase) e = record { busy = refl; begun = e }

  resume_at : (r : resume.Resuming) (stage : ResumeStage) (found : ℕ) → is_none (resume.given_at r.view stage) ≡ true → r.view.begun ≡ first.local.view.begun → Leads (resume.goes_at r stage found) (resume.given (resume.goes_at r stage found))
  resume_at r ResumeStage.Acknowledge found busy e = record { busy = refl; begun = e }
  resume_at r ResumeStage.LoadPhase found busy e = resume_phase r (phase_of found).stops (run_phase (phase_of found).phase) e
  resume_at r ResumeStage.LoadGeneration found busy e = record { busy = refl; begun = e }
  resume_at r ResumeStage.LoadBegun found busy e = ap (λ (b : ℕ). not (eqb found b)) e
  resume_at r (ResumeStage.Ended another) found busy e = absurd (cc)

  resumed_so : (p : Polling) (r : resume.Resuming) (out : Option Resumed) → Waits p → Leads r out → Stands (after_resume l p r out)
  resumed_so p r None w h = (record { seat = w.seat; view = w.view; polls = w.polls; scanned = w.scanned }, h)
  resumed_so p r (Some out) w h = marks (resumed p out) (record { seat = w.seat; polls = ap (λ (n : ℕ). cond out.another_cycle 0 n) w.polls ∙ anew out.another_cycle (eqb out.view.begun first.local.view.begun) first.local.polls h; scanned = w.scanned }) out.view.phase refl

  marked_so : (p : Polling) (g : ℕ) (m : mark.StackMarking) (out : Option (Unit {0})) → Scans p g → Stands (after_mark p g m out)
  marked_so p g m None s = record { runs = record { seat = s.runs.seat; polls = s.runs.polls; scanned = s.runs.scanned }; on = s.on; turn = s.turn; lowest = s.lowest }
  marked_so p g m (Some x) s = counts (scanned p g m.held) s.runs.polls s.on (inl (g, record { turn = s.turn; lowest = s.lowest; scanned_is = ap (λ (xs : List ℕ). slice_set xs g p.local.view.begun) s.runs.scanned }))

  held_so : (x : Local) (held : Option Held) → Turned x → Turned (record x { held = held })
  held_so x held t = record { counts = t.counts; scans = t.scans; off = t.off }

  room_so : (p : Polling) (r : room.RoomFinding) (out : Option Held) → Turned p.local → Stands (after_room p r out)
  room_so p r None t = t
  room_so p r (Some h) t = held_so p.local (Some h) t

  goes_so : (p : Polling) (stage : PollStage) (found : ℕ) → StandsAt p stage → Stands (poll.goes_at l p stage found)
  goes_so p LoadPhase found w = phase_so p (phase_of found).stops (run_phase (phase_of found).phase) w
  goes_so p (Giving g stops) found w = stops_so p (give.goes g found) stops (give.is_busy (give.goes g found).stage) w
  goes_so p (Resuming r) found w = resumed_so p (resume.goes r found) (resume.gives r found) w.0 (resume_at r r.stage found w.1.busy w.1.begun)
  goes_so p (Marking g m) found s = marked_so p g (mark.goes l m found) (mark.gives l m found) s
  goes_so p (FindRoom r) found t = room_so p (room.goes l r found) (room.gives l r found) t
  goes_so p Ended found t = t

  ended_so : (p : Polling) (stage : PollStage) → poll.given stage ≡ Some tt → StandsAt p stage → Turned p.local
  ended_so p Ended e t = t
  ended_so p LoadPhase e w = absurd (cc)
  ended_so p (Giving g stops) e w = absurd (cc)
  ended_so p (Resuming r) e w = absurd (cc)
  ended_so p (Marking g m) e s = absurd (cc)
  ended_so p (FindRoom r) e t = t

  module _ (waits : Bool) (found : ℕ → ℕ) where
    abbrev after : ℕ → Polling
    after n = told (transitions l) (poll.begins first waits) found n

    stands : (n : ℕ) → Stands (after n)
    stands zero = record { seat = refl; view = refl; polls = refl; scanned = refl }
    stands (suc n) = goes_so (after n) (after n).stage (found n) (stands n)

    pub in_turn : (n : ℕ) → poll.given (after (suc n)).stage ≡ Some tt → Turned (after (suc n)).local
    in_turn n e = ended_so (after (suc n)) (after (suc n)).stage e (stands (suc n))

pub polls_scan_in_turn : PollsScanInTurn
polls_scan_in_turn l first waits found n whole e = in_turn l first whole waits found n e
