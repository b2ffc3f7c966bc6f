-- The coordinator reads what the sweep has counted, keeps it, and tells that the cycle is swept: what holds behind each of its steps.
use Rattle.std.proofs.Common.{◌≡◌, ◌⊎◌, inl, inr, ℕ, zero, suc, Bool, true, false, cond, ltb, refl, sym, ap, subst, ◌∙◌, List, [], ◌∷◌, ◌++◌, length, slice_get, Some, arith}
use Rattle.gh_holds.proofs.Vocabulary.{AllIsTold, AllWereCounted, Arena, arena, Ask, cell_of, Coordinating, CoordStage, Count, CountStage, Done, Entry, HasRead, HoldsAt, IsCounting, IsRead, IsTold, ListsKnown, LoadAck, NotAcks, Op, Setup, State, tally_of, Tell, TellStage, WasCounted, Words}
use Rattle.gh_coord.specs.declared.cycles.Cycle.{Cycle as CycleNumbers}
use Rattle.gh_coord.specs.Counting as count
use Rattle.gh_coord.specs.Listing as coord
use Rattle.gh_coord.specs.Telling as tell
use Rattle.gh_holds.specs.ActorsHold.{IsTelling}
use Rattle.gh_marked.specs.HoldVocabulary.{TallyWord}
use Rattle.gh_holds.proofs.AllActors.Aside.{telling_rows, TellsNothing}
use Rattle.gh_holds.proofs.AllActors.LeadingAside.{IsBehind, NotSweeps, told_on}
use Rattle.gh_holds.proofs.AllActors.LeadingSeat.{asked_at, busy, ByLead}
use Rattle.gh_holds.proofs.AllActors.Starts.{counted_on}

-- an item of the list with one more is one of the list, or that one
one_of : (xs : List CycleNumbers) (x y : CycleNumbers) (i : ℕ) → slice_get (xs ++ x ∷ []) i ≡ Some y → ((j : ℕ) × (slice_get xs j ≡ Some y)) ⊎ (y ≡ x)
one_of [] x y zero is = inr cc
one_of [] x y (suc i) is = absurd cc
one_of (w ∷ xs) x y zero is = inl (0, is)
one_of (w ∷ xs) x y (suc i) is = go (one_of xs x y i is) where
  go : ((j : ℕ) × (slice_get xs j ≡ Some y)) ⊎ (y ≡ x) → ((j : ℕ) × (slice_get (w ∷ xs) j ≡ Some y)) ⊎ (y ≡ x)
  go (inl k) = inl (suc k.0, k.1)
  go (inr k) = inr k

module _ (setup : Setup) (lists : ListsKnown setup) where
  abbrev z : Arena
  z = arena setup

  abbrev pub Told : List (Entry Op) → Coordinating → Type 0
  Told es c = IsTold setup es c

  abbrev Behind : List (Entry Op) → Coordinating → Type 0
  Behind es c = IsBehind setup lists es c setup.layout.pages

  pub told_at : (es : List (Entry Op)) (c : Coordinating) (p : TellStage) → IsTelling setup es c p → Told es c
  told_at es c TellStage.Ended k = absurd k
  told_at es c TellStage.StoreTrigger k = k
  told_at es c TellStage.StoreSwept k = k
  told_at es c TellStage.StorePhase k = k

  module _ (e : Entry Op) (es : List (Entry Op)) (by : ByLead setup e es) where
    abbrev u : Coordinating
    u = coord.counted by.lead

    abbrev To : Coordinating → Type 0
    To d = HoldsAt setup (e ∷ es) d d.stage

    asks_so : (p : CoordStage) → by.lead.stage ≡ p → e.ask ≡ coord.asks_at setup.layout by.lead p
    asks_so p is = asked_at setup lists e es by p is

    -- What is counted is read.
    module _ (x : count.Counting) (is : by.lead.stage ≡ Count x) (k : IsCounting setup es by.lead x.stage) where
      counts_no_acks : NotAcks by.lead.stage
      counts_no_acks = subst NotAcks (sym is) tt

      none_counted : TellsNothing e.ask
      none_counted = subst TellsNothing (sym (asks_so (Count x) is)) (lists.known.footprints.among count.writes telling_rows (count.asks x) refl ((lists.known.coordinator_parts setup.layout).count.writes x))

      abbrev here : State
      here = k.quiet.has.state

      all_told : AllIsTold here
      all_told = lists.known.swept z here k.quiet.has.good k.quiet.over (lists.known.walkers.all z here k.quiet.has.good k.quiet.passed)

      abbrev counting_on : (d : Coordinating) → d.begun ≡ by.lead.begun → Behind (e ∷ es) d
      counting_on d same = told_on setup lists e es by (subst NotSweeps (sym is) tt) none_counted counts_no_acks setup.layout.pages (record { off = k.quiet; behind = k.behind }) d same

      -- the word that it finds
      found_at : (p : CountStage) → x.stage ≡ p → e.found ≡ here.heap.words (cell_of (count.asks_at p))
      found_at p y =
          let asks : e.ask ≡ count.asks_at p = asks_so (Count x) is ∙ ap count.asks_at y in
          by.legal.1.found ∙ (ap (λ (w : Words). w (cell_of e.ask)) (sym k.quiet.has.of_list.words_are) ∙ ap (λ (q : Ask). here.heap.words (cell_of q)) asks)

      count_busy : count.is_busy x.stage ≡ true
      count_busy = subst (λ (p : CoordStage). coord.is_busy p ≡ true) is (busy setup lists e es by)

      read_now : x.stage ≡ CountStage.LoadTally → IsRead setup here.end (tally_of e.found)
      read_now y = grind (arith, all_told, found_at)

      count_goes : (p : CountStage) → x.stage ≡ p → count.is_busy p ≡ true → To (coord.after_count setup.layout (coord.at_stage u (Count (count.goes_at x p e.found))) (count.given (count.goes_at x p e.found)))
      count_goes CountStage.LoadTally y b = record { quiet = (counting_on by.lead refl).off; behind = (counting_on by.lead refl).behind; read = read_now y }
      count_goes (CountStage.LoadLive t) y b = record { quiet = (counting_on by.lead refl).off; behind = (counting_on by.lead refl).behind; live = found_at (CountStage.LoadLive t) y ∙ all_told.live }
      count_goes (CountStage.Ended t) y b = absurd cc

      pub counts : To (coord.goes_at setup.layout u (Count x) e.found)
      counts = grind (arith, count_busy, count_goes)

      -- The cycle that is kept is as it was counted.
      module _ (before : AllWereCounted setup es by.lead) where
        abbrev Were : Coordinating → Type 0
        Were d = AllWereCounted setup (e ∷ es) d

        were : Were by.lead
        were = counted_on setup e es by.lead before

        new_counted : (t : TallyWord) → IsRead setup here.end t → WasCounted setup (e ∷ es) (coord.cycle_of by.lead.begun t)
        new_counted t read = grind arith

        kept_counted : (t : TallyWord) → IsRead setup here.end t → (b : Bool) (i : ℕ) (y : CycleNumbers) → slice_get (cond b (by.lead.cycles.items ++ coord.cycle_of by.lead.begun t ∷ []) by.lead.cycles.items) i ≡ Some y → WasCounted setup (e ∷ es) y
        kept_counted t read false i y at = were i y at
        kept_counted t read true i y at = go (one_of by.lead.cycles.items (coord.cycle_of by.lead.begun t) y i at) where
          go : ((j : ℕ) × (slice_get by.lead.cycles.items j ≡ Some y)) ⊎ (y ≡ coord.cycle_of by.lead.begun t) → WasCounted setup (e ∷ es) y
          go (inl w) = were w.0 y w.1
          go (inr w) = subst (WasCounted setup (e ∷ es)) (sym w) (new_counted t read)

        read_tally : (p : CountStage) → x.stage ≡ p → HasRead setup here.end p
        read_tally p y = subst (HasRead setup here.end) y k.read

        kept_goes : (p : CountStage) → x.stage ≡ p → count.is_busy p ≡ true → Were (coord.after_count setup.layout (coord.at_stage u (Count (count.goes_at x p e.found))) (count.given (count.goes_at x p e.found)))
        kept_goes CountStage.LoadTally y b = were
        kept_goes (CountStage.LoadLive t) y b = λ i v at. kept_counted t (read_tally (CountStage.LoadLive t) y) (ltb (length by.lead.cycles.items) by.lead.cycles.room) i v at
        kept_goes (CountStage.Ended t) y b = absurd cc

        pub keeps : Were (coord.goes_at setup.layout u (Count x) e.found)
        keeps = grind (arith, count_busy, kept_goes)

    -- It is told.
    module _ (t : tell.Telling) (is : by.lead.stage ≡ Tell t) (k : Told es by.lead) where
      tells_no_acks : NotAcks by.lead.stage
      tells_no_acks = subst NotAcks (sym is) tt

      none_told : TellsNothing e.ask
      none_told = subst TellsNothing (sym (asks_so (Tell t) is)) (lists.known.footprints.among tell.writes telling_rows (tell.asks t) refl ((lists.known.coordinator_parts setup.layout).tell.writes t))

      abbrev telling_on : Behind (e ∷ es) by.lead
      telling_on = told_on setup lists e es by (subst NotSweeps (sym is) tt) none_told tells_no_acks setup.layout.pages (record { off = k.quiet; behind = k.behind }) by.lead refl

      pub told_then : Told (e ∷ es) by.lead
      told_then = record { quiet = telling_on.off; behind = telling_on.behind; live = k.live }

      -- in the last cycle it is done, else it goes on to the next
      ended_goes : (b : Bool) → To (coord.at_stage (coord.at_stage u (Tell (record t { stage = TellStage.Ended }))) (cond b Done (LoadAck 0)))
      ended_goes true = record { quiet = told_then.quiet; behind = told_then.behind; live = told_then.live }
      ended_goes false = told_then.quiet

      stored_goes : (last : Bool) → To (coord.after_tell (coord.at_stage u (Tell (record t { stage = cond last TellStage.StorePhase TellStage.Ended }))) (tell.given_at (cond last TellStage.StorePhase TellStage.Ended)))
      stored_goes true = record { quiet = told_then.quiet; behind = told_then.behind; live = told_then.live }
      stored_goes false = ended_goes u.is_last

      tell_goes : (p : TellStage) → To (coord.after_tell (coord.at_stage u (Tell (record t { stage = tell.behind t.is_last p }))) (tell.given_at (tell.behind t.is_last p)))
      tell_goes TellStage.StoreTrigger = record { quiet = told_then.quiet; behind = told_then.behind; live = told_then.live }
      tell_goes TellStage.StoreSwept = stored_goes t.is_last
      tell_goes TellStage.StorePhase = ended_goes u.is_last
      tell_goes TellStage.Ended = ended_goes u.is_last

      pub tells : To (coord.goes_at setup.layout u (Tell t) e.found)
      tells = grind (arith, tell_goes)
