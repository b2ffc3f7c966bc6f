-- Whatever the script, and whatever run of it: what it is answered and what its coordinator tells is explained.
use Rattle.std.proofs.Common.{◌≡◌, ℕ, ◌+◌, ◌*◌, ◌%◌, ◌^◌, ◌<◌, ◌≤◌, true, List, [], ◌∷◌, length, map, reverse, refl, sym, ap, subst, ◌∙◌, arith, inl, inr}
use Rattle.gh_explained.proofs.Vocabulary.{Acted, acted_all, acted_in, acted_ops, Actor, actor_after, acts, AllStands, Answered, answers_given, answers_in, AreLive, arena_of, Awaits, before_step, cases_lt, Cell, Classes, Coordinating, CoordStage, count-le, count_of, CreditIsTold, CyclesHaveRoom, Done, EachOperationActsOnce, Entry, Ever, ever_after_list, ever_is, ever_of, EverValue, EveryListHasItsNumbers, EveryListKeepsIt, EveryListOfAScriptStands, EveryRunIsExplained, EveryStepChangesNumbers, few_in_all, few_of_lists, filter, given_for, has_ended, is_statement_of, IsExplained, IsHeldByGlobals, IsMade, IsRun, IsStartOf, lapsed_at, Layout, LaysOut, LeavesTheReached, Legal, map-reverse, Name, none_beyond, NoNumberFalls, OnlyPointsChange, Op, opening_ever, ops_in, order_of, outcome_by, ProcessorWritesItsOwn, Program, Reach, SetBitsAreCounted, setting_of, setup_of, shapes_good, SlotsAreRead, spent_after, statement_as_op, statements_of, stored_in, swept_cycle, total_of, WellFormed, wishes_of, WorkersWriteTheirOwn}
use Rattle.gh_coord.specs.Handshake as leading
use Rattle.gh_coord.specs.Listing as coord
use Rattle.gh_law.specs.Credit.{CreditStands, EveryListBalances, lapsed_in, spent_in}
use Rattle.gh_world.specs.RunVocabulary.{AreFew, CyclesAreFew, ProcessorsBeginFew}
use Rattle.gh_world.proofs.Asking.{asked_of}
use Rattle.gh_world.proofs.Wishing.{filter_few}
use Rattle.gh_explained.specs.Lists.{EveryListOfAScriptSettles}
use Rattle.gh_explained.proofs.Explained.Answers as answers
use Rattle.gh_explained.proofs.Explained.Beyond.{all_leave, held_at_end}
use Rattle.gh_explained.proofs.Explained.Cycles.{cycles_are, is_done, many_ended}
use Rattle.gh_explained.proofs.Explained.Known.{Known}
use Rattle.gh_explained.proofs.Explained.Live.{OfEveryList}
use Rattle.gh_lists.specs.Made.{grows, made_all}
use Rattle.gh_law.proofs.Named.Naming.{IsNamed, named-acted, named-opening, reached-made}
use Rattle.gh_explained.proofs.Explained.NoRoom.{full_means}
use Rattle.gh_explained.proofs.Explained.Swept.{gcs_wait}
use Rattle.gh_explained.proofs.Explained.Totals.{are_live}

pub record Laws : Type 0 where
  pub every : EveryListOfAScriptStands
  pub each : EachOperationActsOnce
  pub points : OnlyPointsChange
  pub writes : ProcessorWritesItsOwn
  pub works : WorkersWriteTheirOwn
  pub keeps : EveryListKeepsIt
  pub changes : EveryStepChangesNumbers
  pub rises : NoNumberFalls
  pub numbers : EveryListHasItsNumbers
  pub few : CyclesAreFew
  pub room : CyclesHaveRoom
  pub balances : EveryListBalances
  pub begins_few : ProcessorsBeginFew
  pub bits : SetBitsAreCounted
  pub slots : SlotsAreRead
  pub classes : Classes

-- ---- how many `new` and `gc` there are

few_of : (p : Program) (g : ℕ) → WellFormed p → wishes_of p g < 2 ^ 32
few_of p g formed =
    let one = filter_few (statements_of p g) in
    let most = formed.few_statements in
    let all : count_of p g ≤ total_of p = elim (cases_lt g (length p.goroutines)) [ inl lt ↦ count-le p g lt | inr le ↦ let none = ap length (none_beyond p g le) in omega (arith, none) ] in
    omega (arith, one, most, all)

module _ (laws : Laws) (p : Program) (l : Layout) (formed : WellFormed p) (out : LaysOut p l) where
  are_few : (es : List (Entry Op)) → Legal (setting_of p l) es → AreFew (wishes_of p) l es
  are_few es legal = few_of_lists p l formed out laws.few laws.begins_few es legal

  known : Known p l
  known = record {
    each = laws.each;
    points = laws.points;
    writes = laws.writes;
    works = laws.works;
    keeps = λ es legal. laws.keeps (setup_of p l) es legal;
    few = λ es legal. (are_few es legal).few;
    changes = laws.changes;
    rises = laws.rises;
    numbers = laws.numbers;
    roomy = λ es legal. laws.room p l es formed out legal;
  }

  every : (es : List (Entry Op)) → Legal (setting_of p l) es → AllStands (setup_of p l) es
  every es legal = laws.every p l es formed out legal

  awaits : (es : List (Entry Op)) → Legal (setting_of p l) es → Awaits (setup_of p l) es
  awaits es legal = (every es legal).awaits

  -- ---- the heap that never frees

  abbrev ever : List (Entry Op) → Ever
  ever xs = ever_after_list (arena_of p.shapes l) (setting_of p l).opening xs

  same_ever : (xs : List (Entry Op)) → ever xs ≡ ever_of p.shapes l xs
  same_ever xs = ever_is p l laws.points xs

  is_named : (xs : List (Entry Op)) → IsNamed (ever_of p.shapes l xs)
  is_named [] = named-opening
  is_named (e ∷ es) = named-acted p.shapes (ever_of p.shapes l es) (is_named es) (acts l (before_step p.shapes l es e) e.found)

  made : (xs : List (Entry Op)) (n : Name) → Reach (ever xs) n → IsMade (ever xs).made n
  made xs n r = reached-made (ever xs) (subst IsNamed (sym (same_ever xs)) (is_named xs)) n r

  of_every : OfEveryList p l
  of_every = record { classes = laws.classes; read = laws.slots; bits = laws.bits; known = known; stands = every; made = made }

  more_made : (es start : List (Entry Op)) → IsStartOf start es → (n : Name) → IsMade (ever start).made n → IsMade (ever es).made n
  more_made es start is n lt =
      let up = grows p.shapes n.g l start es is in
      let first = ap (λ (e : Ever). e.made n.g) (same_ever start) in
      let then = ap (λ (e : Ever). e.made n.g) (same_ever es) in
      omega (arith, up, first, then, lt)

  -- ---- where the coordinator is done
  module _ (es : List (Entry Op)) (c : Coordinating) (legal : Legal (setting_of p l) es) (led : actor_after p l es (l.procs + l.workers) ≡ Actor.Leads c) (done : coord.is_done_at c.stage ≡ true) where
    -- all credit is settled
    credit_told : CreditIsTold p l es (outcome_by (answers_given p l es) (spent_after p l es) c)
    credit_told =
        let b : CreditStands (setup_of p l) es = laws.balances (given_for p l) es (shapes_good p formed) l.limits (few_in_all p l formed out) legal in
        let at_end : c.stage ≡ Done = is_done c.stage done in
        let s = b.settled c led (subst (λ (q : CoordStage). leading.Marks q → ⊥) (sym at_end) (λ x. x)) in
        let lapsed : lapsed_in es ≡ c.lapsed = s.lapsed ∙ ap (lapsed_at c.lapsed) at_end in
        let balanced = b.balanced in
        let drawn : spent_in es ≡ spent_after p l es = b.drawn in
        let empty = s.empty in
        let left = s.none_left in
        let scanned = b.scanned in
        let few = b.few in
        let counted = (every es legal).globals c led in
        let parts = counted.parts in
        let once = counted.once (subst (λ (q : CoordStage). leading.Marks q → ⊥) (sym at_end) (λ x. x)) in
        let as_many : length (map swept_cycle c.cycles.items) * l.globals ≡ stored_in Cell.Gen es * l.globals = ap (λ (n : ℕ). n * l.globals) (ap {B = ℕ} length (cycles_are p l known es c legal led done ((every es legal).counts c led)) ∙ many_ended l (setting_of p l).opening es) in
        -- the sums are far below the end of a word
        let all : (spent_after p l es + c.lapsed) % 2 ^ 64 ≡ spent_in es + lapsed_in es = omega (arith, lapsed, balanced, drawn, empty, left, scanned, few) in
        let spent : spent_after p l es % 2 ^ 64 ≡ spent_in es = omega (arith, lapsed, balanced, drawn, empty, left, scanned, few) in
        record {
          earned = omega (arith, all, balanced, empty);
          spent = spent;
          lapsed = sym lapsed;
          balanced = omega (arith, all, spent, lapsed);
          scanned = omega (arith, all, balanced, empty, left, scanned);
          globals = omega (arith, all, balanced, empty, left, scanned, parts, once, as_many);
          few = omega (arith, all, balanced, empty, left, scanned, few);
        }

  -- ---- at the end of a run
  module _ (es : List (Entry Op)) (c : Coordinating) (run : IsRun p l es) (led : actor_after p l es (l.procs + l.workers) ≡ Actor.Leads c) where
    stands : AllStands (setup_of p l) es
    stands = every es run.legal

    has : Acted p l es
    has = acted_all p l es stands.stands.full

    done : coord.is_done_at c.stage ≡ true
    done = sym (ap has_ended led) ∙ run.done (l.procs + l.workers) (omega arith)

    last : LeavesTheReached (setup_of p l) es c
    last = stands.last c led (is_done c.stage done)

    ops : map (λ (a : Answered). a.op) (acted_in p.shapes l es) ≡ reverse (ops_in p l es)
    ops = map-reverse (λ (a : Answered). a.op) (order_of p.shapes l es)

    -- the statements of a goroutine among all that acted
    mine : (g : ℕ) → filter (is_statement_of g) (reverse (ops_in p l es)) ≡ map (statement_as_op g) (statements_of p g)
    mine g = ap (filter (is_statement_of g)) (sym ops) ∙ sym (acted_ops p g (acted_in p.shapes l es)) ∙ answers.mine p l out.procs_are laws.each laws.points es run stands.stands g

    beyond : (g d : ℕ) → l.goroutines ≤ g → (ever es).register g d ≡ EverValue.Nil
    beyond g d le =
        let past : length p.goroutines ≤ g = let is = out.goroutines_are in omega (arith, le, is) in
        let none : filter (is_statement_of g) (reverse (ops_in p l es)) ≡ [] = mine g ∙ ap (map (statement_as_op g)) (none_beyond p g past) in
        ap (λ (e : Ever). e.register g d) (same_ever es ∙ sym has.ever) ∙ all_leave p.shapes g d opening_ever (reverse (ops_in p l es)) (reverse (answers_in p l es)) none

    held : (n : Name) → Reach (ever es) n → IsHeldByGlobals (ever es) n
    held n r = held_at_end (ever es) l.goroutines last.over beyond n r

    few_made : (n : Name) → IsMade (ever es).made n → n.k < 2 ^ 32
    few_made n lt =
        let most = made_all p.shapes n.g opening_ever (reverse (ops_in p l es)) (reverse (answers_in p l es)) in
        let same = ap (λ (e : Ever). e.made n.g) (same_ever es ∙ sym has.ever) in
        let asks = asked_of p n.g (reverse (ops_in p l es)) (mine n.g) in
        let few = few_of p n.g formed in
        omega (arith, most, same, asks, few, lt)

    lives : AreLive p.shapes (ever_of p.shapes l es) (outcome_by (answers_given p l es) (spent_after p l es) c).objects c.live
    lives = subst (λ (e : Ever). AreLive p.shapes e (outcome_by (answers_given p l es) (spent_after p l es) c).objects c.live) (same_ever es) (are_live p l of_every es c run.legal led done held (more_made es) few_made)

    pub explained : IsExplained p l es (outcome_by (answers_given p l es) (spent_after p l es) c)
    explained = record {
      run = run;
      coordinator = c;
      led = led;
      given = refl;
      all = answers.all_answers p l out.procs_are laws.each laws.points es run stands.stands;
      acted = answers.acted_are p l out.procs_are laws.each laws.points es run stands.stands;
      alone = answers.alone p l out.procs_are laws.each laws.points es run stands.stands;
      answered = refl;
      ever = answers.ever_answers p l out.procs_are laws.each laws.points es run stands.stands;
      among = answers.among_are p l out.procs_are laws.each laws.points es run stands.stands;
      each = answers.each_is p l out.procs_are laws.each laws.points es run stands.stands;
      others = answers.others_none p l out.procs_are laws.each laws.points es run stands.stands;
      full = full_means p l awaits es run.legal stands.stands.full;
      swept = gcs_wait p l awaits es run.legal stands.stands.full;
      cycles = cycles_are p l known es c run.legal led done (stands.counts c led);
      frees = stands.frees;
      frees_within_two = stands.frees_within_two;
      credit = credit_told es c run.legal led done;
      live = lives;
    }

pub all_explained : Laws → EveryRunIsExplained
all_explained laws p l es c formed out run led = explained laws p l formed out es c run led

pub all_settled : Laws → EveryListOfAScriptSettles
all_settled laws p l es c formed out legal led done = credit_told laws p l formed out es c legal led done
