-- Where the coordinator is done a cycle was swept: the last one.
use Rattle.std.proofs.Common.{◌≡◌, ℕ, suc, ◌≤◌, true, refl, sym, ap, subst, ◌∙◌, arith, List, [], ◌∷◌}
use Rattle.gh_explained.proofs.Vocabulary.{acks_of, Actor, actor_after, after_tell, Ask, at_stage, begins, Cell, Coordinating, CoordStage, Done, effect, ends, Entry, goes_at, Layout, Legal, Op, Program, same, setting_of, setup_of, Spares, Store, Tell, tells, words_in}
use Rattle.gh_coord.specs.Events.{by_event}
use Rattle.gh_coord.specs.Listing as coord
use Rattle.gh_coord.specs.Telling as tell
use Rattle.gh_world.specs.RunVocabulary.{TellStage}
use Rattle.gh_lists.specs.Steps as seats
use Rattle.gh_explained.proofs.Explained.Known.{Changes, changes, Known, rises}

-- behind the store of its number a cycle is swept
abbrev HasToldAt : TellStage → (swept : ℕ) → Type 0
HasToldAt TellStage.StorePhase swept = 1 ≤ swept
HasToldAt TellStage.Ended swept = 1 ≤ swept
HasToldAt _ swept = Unit {0}

abbrev pub HasTold : CoordStage → (swept : ℕ) → Type 0
HasTold (Tell t) swept = HasToldAt t.stage swept
HasTold Done swept = 1 ≤ swept
HasTold _ swept = Unit {0}

more : (p : CoordStage) (n m : ℕ) → n ≤ m → HasTold p n → HasTold p m
more p n m le h = grind arith

module _ (l : Layout) (u : Coordinating) (n m found : ℕ) (le : n ≤ m) where
  telling : (t : tell.Telling) (st : TellStage) → tell.is_busy st ≡ true → HasToldAt st n → (st ≡ TellStage.StoreSwept → 1 ≤ m) → HasTold (after_tell (at_stage u (Tell (record t { stage = tell.behind t.is_last st }))) (tell.given_at (tell.behind t.is_last st))).stage m
  telling t st b h so = grind arith

  goes : (p : CoordStage) → coord.is_busy p ≡ true → HasTold p n → ((t : tell.Telling) → p ≡ Tell t → t.stage ≡ TellStage.StoreSwept → 1 ≤ m) → HasTold (goes_at l u p found).stage m
  goes (Tell t) b h so = telling t t.stage b h (λ is. so t refl is)
  goes Done b h so = absurd cc
  goes p b h so = by_event l u found (λ (to : Coordinating). HasTold to.stage m) p (λ e may. grind arith)

module _ (p : Program) (l : Layout) (k : Known p l) where
  abbrev swept : List (Entry Op) → ℕ
  swept es = words_in p l es Cell.Swept

  abbrev Holds : List (Entry Op) → Type 0
  Holds es = (c : Coordinating) → actor_after p l es (acks_of l) ≡ Actor.Leads c → HasTold c.stage (swept es)

  holds_on : (e : Entry Op) (es : List (Entry Op)) → Legal (setting_of p l) (e ∷ es) → Holds es → Holds (e ∷ es)
  holds_on e es legal before = by (seats.step (setup_of p l) e es k.writes legal (k.keeps es legal.0)) where
    up : swept es ≤ swept (e ∷ es)
    up = (rises p l k e es legal).swept

    stores : (cycle : ℕ) → e.ask ≡ Store Cell.Swept cycle → 1 ≤ swept (e ∷ es)
    stores cycle is = go (changes p l k e es legal) where
      go : Changes p l k e es legal → 1 ≤ swept (e ∷ es)
      go (same s) = absurd (let s' = subst Spares is s in let no : cycle ≡ suc cycle = s'.swept (λ c. suc cycle) in omega (arith, no))
      go (begins other) = absurd (let no = sym is ∙ other in cc)
      go (ends x) = absurd (let no = sym is ∙ x.ask_is in cc)
      go (tells next) = let then = ap (λ (q : Ask). effect (words_in p l es) q Cell.Swept) next.ask_is in omega (arith, then)

    by_lead : (b : Coordinating) → e.ask ≡ coord.asks l b → coord.is_busy b.stage ≡ true → HasTold b.stage (swept es) → HasTold (coord.goes l b e.found).stage (swept (e ∷ es))
    by_lead b asked busy h = goes l (coord.counted b) (swept es) (swept (e ∷ es)) e.found up b.stage busy h (λ t at is. stores t.cycle (asked ∙ ap (coord.asks_at l b) at ∙ ap (tell.asks_at t) is))

    by : seats.Step (setup_of p l) e es → Holds (e ∷ es)
    by (seats.by_processor m x stays) c led = more c.stage (swept es) (swept (e ∷ es)) up (before c (sym stays ∙ led))
    by (seats.by_worker w x stays) c led = more c.stage (swept es) (swept (e ∷ es)) up (before c (sym stays ∙ led))
    by (seats.by_lead b x) c led =
        let both : Actor.Leads c ≡ Actor.Leads (coord.goes l b e.found) = sym led ∙ x.then in
        let same : coord.goes l b e.found ≡ c = cc in
        subst (λ (y : Coordinating). HasTold y.stage (swept (e ∷ es))) same (by_lead b x.asked x.busy (before b x.is))

  holds : (es : List (Entry Op)) → Legal (setting_of p l) es → Holds es
  holds [] legal c led = subst (λ (y : Coordinating). HasTold y.stage (swept [])) (sym (seats.first_lead (setup_of p l) c led)) tt
  holds (e ∷ es) legal c led = holds_on e es legal (holds es legal.0) c led

  -- a cycle was swept
  pub some_swept : (es : List (Entry Op)) (c : Coordinating) → Legal (setting_of p l) es → actor_after p l es (acks_of l) ≡ Actor.Leads c → c.stage ≡ Done → 1 ≤ swept es
  some_swept es c legal led done = subst (λ (q : CoordStage). HasTold q (swept es)) done (holds es legal c led)
