-- What a handle keeps of the actors that its seat carries: how many there are, and the coordinator's machine.
use Rattle.std.proofs.Common.{◌≡◌, ◌≢◌, ◌↔◌, ℕ, zero, suc, ◌+◌, ◌*◌, ◌%◌, ◌^◌, ◌<◌, ◌≤◌, ◌==◌, Bool, true, false, ◌||◌, nat_lt, if◌then◌else◌, cond, List, [], ◌∷◌, ◌++◌, length, map, arith, refl, sym, ap, ◌∙◌, subst, Option, Some, None, ne_eqb, true≢false}
use Rattle.std.proofs.lemmas.Bool.{eqb-true, lt-ltb}
use Rattle.std.proofs.lemmas.List.{length-map}
use Rattle.gh_shared.proofs.Vocabulary.{acks_of, Actor, actor_in, as_actor, asks, begins, by, Carries, CarriesSo, Coordinating, count_among, credit_drawn, drawn_beside, entries_made, Entry, first_of, goes, has, HeapActor, is_coordinator, IsAfterOneList, IsClosedAfter, IsCoordinator, Layout, LaysOut, leader_of, Leads, Legal, machine_actor, machine_after, Marks, Me, nat_tests, one_carried, Op, opening, Planned, Ran, Runs, seats_of, setting, setup_of, spent_among, spent_at, state_of, total, View, WellFormed}
use Rattle.gh_coord.specs.Listing.{is_done_at, lapsed_at}
use Rattle.gh_coord.specs.declared.coord.CoordStage.{CoordStage}
use Rattle.gh_explained.specs.Lists.{EveryListOfAScriptSettles, scanned_in}
use Rattle.gh_world.specs.Runs.{swept_cycle}
use Rattle.gh_shared.specs.Credit.{CreditIsSettled, earned_by}
use Rattle.gh_shared.proofs.Drawing.{both_words, drawn_all, drawn_both, drawn_on, Joined, none_drawn, one_word, same_state}
use Rattle.gh_shared.proofs.Ready.{OfItsOwn}

-- ---- how many

pub count_few : (xs : List ℕ) (n : ℕ) → count_among xs n ≤ n
count_few xs zero = omega arith
count_few xs (suc n) = go (has xs n) (count_few xs n) where
  go : (b : Bool) → count_among xs n ≤ n → count_among xs n + (if b then 1 else 0) ≤ suc n
  go true ih = omega (arith, ih)
  go false ih = omega (arith, ih)

abbrev one_of : Bool → ℕ
one_of b = if b then 1 else 0

in_all : (xs : List ℕ) (n a : ℕ) → a < suc n → (count_among xs n ≡ n → a < n → has xs a ≡ true) → (b : Bool) → has xs n ≡ b → count_among xs n + one_of b ≡ suc n → has xs a ≡ true
in_all xs n a lt ih b h e = grind (arith, count_few)

-- where all are counted, each is there
pub count_all : (xs : List ℕ) (n : ℕ) → count_among xs n ≡ n → (a : ℕ) → a < n → has xs a ≡ true
count_all xs zero e a lt = absurd (omega (arith, lt))
count_all xs (suc n) e a lt = in_all xs n a lt (λ f l. count_all xs n f a l) (has xs n) refl e

module _ (xs ys zs : List ℕ) (both : (a : ℕ) → has zs a ≡ (has xs a || has ys a)) (apart : (a : ℕ) → has xs a ≡ true → has ys a ≡ false) where
  one_more : (a : ℕ) → one_of (has zs a) ≡ one_of (has xs a) + one_of (has ys a)
  one_more a = grind arith

  pub count_both : (n : ℕ) → count_among zs n ≡ count_among xs n + count_among ys n
  count_both zero = refl
  count_both (suc n) = let ih = count_both n in let one = one_more n in omega (arith, ih, one)

-- one of them alone
only_more : (a n : ℕ) → (b : Bool) → (a == n) ≡ b → (c : Bool) → nat_lt a n ≡ c → count_among (a ∷ []) n ≡ one_of c → count_among (a ∷ []) n + one_of b ≡ one_of (nat_lt a (suc n))
only_more a n b q c l ih = grind arith

none_below : (a : ℕ) → nat_lt a 0 ≡ false
none_below a = grind (arith, nat_tests)

there : (a n : ℕ) → has (a ∷ []) n ≡ (a == n)
there a n = grind arith

only : (a n : ℕ) → count_among (a ∷ []) n ≡ one_of (nat_lt a n)
only a zero = ap one_of (sym (none_below a))
only a (suc n) = ap (λ (b : Bool). count_among (a ∷ []) n + one_of b) (there a n) ∙ only_more a n (a == n) refl (nat_lt a n) refl (only a n)

-- ---- the kind of a machine

goes_kind : (l : Layout) (x : HeapActor) (n : ℕ) → IsCoordinator (goes l x n) ≡ IsCoordinator x
goes_kind l x n = grind arith

pub begins_kind : (x : HeapActor) (o : Op) → IsCoordinator (begins x o) ≡ IsCoordinator x
begins_kind x o = grind arith

after_kind : (l : Layout) (x : HeapActor) (founds : List ℕ) → IsCoordinator (machine_after (goes l) x founds) ≡ IsCoordinator x
after_kind l x [] = refl
after_kind l x (n ∷ ns) = goes_kind l (machine_after (goes l) x ns) n ∙ after_kind l x ns

pub same_kind : (l : Layout) (x x' : HeapActor) (founds : List ℕ) → x' ≡ machine_after (goes l) x founds → IsCoordinator x' ≡ IsCoordinator x
same_kind l x x' founds is = rw is (after_kind l x founds)

-- ---- the entries of others

pub by_others : (l : Layout) (a : ℕ) (b : Option Op) (x : HeapActor) (founds : List ℕ) (log : List (Entry Op)) (c : ℕ) → a ≢ c → by c (entries_made (asks l) (goes l) a b x founds ++ log) ≡ by c log
by_others l a b x [] log c ne = refl
by_others l a b x (n ∷ ns) log c ne = rw (ne_eqb a c ne) (by_others l a b x ns log c ne)

-- ---- the coordinator

no_leader : (x : HeapActor) (led : Option Coordinating) → (IsCoordinator x → ⊥) → leader_of x led ≡ led
no_leader x led never = grind arith

still_leads : (x : HeapActor) (led other : Option Coordinating) (c : Coordinating) → leader_of x led ≡ Some c → leader_of x (first_of led other) ≡ Some c
still_leads x led other c e = grind arith

to_last : (x : HeapActor) (a z : ℕ) → is_coordinator x ≡ (a == z) → IsCoordinator x ↔ (a ≡ z)
to_last x a z e = grind arith

from_last : (x : HeapActor) (a z : ℕ) → IsCoordinator x ↔ (a ≡ z) → is_coordinator x ≡ (a == z)
from_last x a z h = grind arith

-- the coordinator's machine, which is this actor
abbrev pub LedAs : Option Coordinating → Actor → Type 0
LedAs o s = (c : Coordinating) × (o ≡ Some c) × (Actor.Leads c ≡ s)

pub to_led : (o : Option Coordinating) (s : Actor) → as_actor o ≡ Some s → LedAs o s
to_led None s e = absurd cc
to_led (Some c) s e = (c, refl, cc)

from_led : (o : Option Coordinating) (s : Actor) → LedAs o s → as_actor o ≡ Some s
from_led o s l = ap as_actor l.1 ∙ ap Some l.2

module _ (law : OfItsOwn) (p : Planned) where
  abbrev Led : List (Entry Op) → HeapActor → Option Coordinating → Type 0
  Led log x led = LedAs (leader_of x led) (state_of (setting p).kind (acks_of p.layout) log)

  -- the actor has gone on
  pub carried_on : (xs : List ℕ) (log log' : List (Entry Op)) (a : ℕ) (x x' : HeapActor) (carried drawn : ℕ) (led : Option Coordinating) → ((c : ℕ) → a ≢ c → by c log' ≡ by c log) → IsCoordinator x' ≡ IsCoordinator x → machine_actor x' ≡ state_of (setting p).kind a log' → CarriesSo p xs log a x carried drawn led → CarriesSo p xs log' a x' carried drawn led
  carried_on xs log log' a x x' carried drawn led others kind state kept = record {
    known = kept.known;
    last = from_last x' a (acks_of p.layout) ((λ is. was.0 (subst (λ (T : Type 0). T) kind is)), (λ e. subst (λ (T : Type 0). T) (sym kind) (was.1 e)));
    counted = kept.counted;
    summed = kept.summed ∙ ap (λ (n : ℕ). n % 2 ^ 64) (sym (drawn_on p law a xs log log' others));
    none = kept.none;
    leader = λ holds. from_led (leader_of x' led) (state_of (setting p).kind (acks_of p.layout) log') (go x' kind state (to_led (leader_of x led) (state_of (setting p).kind (acks_of p.layout) log) (kept.leader holds)));
  } where
    was : IsCoordinator x ↔ (a ≡ acks_of p.layout)
    was = to_last x a (acks_of p.layout) kept.last

    elsewhere : (y : HeapActor) → IsCoordinator y ≡ IsCoordinator x → (IsCoordinator y → ⊥) → Led log x led → Led log' y led
    elsewhere y k never led_so =
        let nox : IsCoordinator x → ⊥ = λ is. never (subst (λ (T : Type 0). T) (sym k) is) in
        (led_so.0, no_leader y led never ∙ sym (no_leader x led nox) ∙ led_so.1, led_so.2 ∙ same_state law (setting p).kind (acks_of p.layout) log log' (sym (others (acks_of p.layout) (λ e. nox (was.1 e)))))

    go : (y : HeapActor) → IsCoordinator y ≡ IsCoordinator x → machine_actor y ≡ state_of (setting p).kind a log' → Led log x led → Led log' y led
    go (Runs m) k st l = elsewhere (Runs m) k (λ is. is) l
    go (Marks w) k st l = elsewhere (Marks w) k (λ is. is) l
    go (Leads c) k st l = (c, refl, st ∙ ap (λ (b : ℕ). state_of (setting p).kind b log') (was.0 (subst (λ (T : Type 0). T) k tt)))

  -- by these steps
  pub went_on : (a : ℕ) (x x' : HeapActor) (b : Option Op) (y : HeapActor) (me me' : Me (Unit {0}) (View Planned Op)) (founds : List ℕ) (carried drawn : ℕ) (led : Option Coordinating) → p ≡ me.0.plan → IsCoordinator y ≡ IsCoordinator x → Ran (asks p.layout) (goes p.layout) a b y me x' me' founds → machine_actor x' ≡ actor_in setting me'.0 a → CarriesSo p me.0.actors me.0.log a x carried drawn led → CarriesSo p me.0.actors me'.0.log a x' carried drawn led
  went_on a x x' b y me me' founds carried drawn led plan kind ran state kept =
      carried_on me.0.actors me.0.log me'.0.log a x x' carried drawn led (λ c ne. ap (by c) ran.log ∙ by_others p.layout a b y founds me.0.log c ne) (same_kind p.layout y x' founds ran.machine ∙ kind) (state ∙ ap (λ (q : Planned). state_of (setting q).kind a me'.0.log) (ran.plan ∙ sym plan)) kept

  -- two are joined
  pub carried_both : (v w v' : View Planned Op) (a b : ℕ) (x y : HeapActor) (n m d e : ℕ) (led that : Option Coordinating) → Joined v w v' → Carries v a → Carries w b → machine_actor y ≡ state_of (setting p).kind b w.log → CarriesSo p v.actors v.log a x n d led → CarriesSo p w.actors w.log b y m e that
      → CarriesSo p v'.actors v'.log a x (n + m) ((d + (e + credit_drawn y) % 2 ^ 64) % 2 ^ 64) (first_of led (leader_of y that))
  carried_both v w v' a b x y n m d e led that joined mine its state kept kept' = record {
    known = kept.known;
    last = kept.last;
    counted = let all = count_both v.actors w.actors v'.actors joined.both joined.apart (seats_of p.layout) in let one = kept.counted in let two = kept'.counted in omega (arith, all, one, two);
    summed =
        both_words d e (credit_drawn y) (total (drawn_beside p a v.actors v.log) (seats_of p.layout)) (total (drawn_beside p b w.actors w.log) (seats_of p.layout)) kept.summed kept'.summed
        ∙ ap (λ (s : Actor). (total (drawn_beside p a v.actors v.log) (seats_of p.layout) + (total (drawn_beside p b w.actors w.log) (seats_of p.layout) + spent_at s)) % 2 ^ 64) state
        ∙ ap (λ (k : ℕ). k % 2 ^ 64) (sym (drawn_both p law a b v w v' joined mine its kept'.known));
    none = λ out. no_one (has v.actors (acks_of p.layout)) refl (has w.actors (acks_of p.layout)) refl (sym (joined.both (acks_of p.layout)) ∙ out);
    leader = λ holds. from_led (leader_of x (first_of led (leader_of y that))) (state_of (setting p).kind (acks_of p.layout) v'.log) (go (has v.actors (acks_of p.layout)) refl (sym (joined.both (acks_of p.layout)) ∙ holds));
  } where
    not_it : (z : ℕ) (zs : List ℕ) (u : HeapActor) → has zs z ≡ true → has zs (acks_of p.layout) ≡ false → (IsCoordinator u → z ≡ acks_of p.layout) → IsCoordinator u → ⊥
    not_it z zs u there out last is = true≢false (sym there ∙ ap (has zs) (last is) ∙ out)

    no_one : (t : Bool) → has v.actors (acks_of p.layout) ≡ t → (u : Bool) → has w.actors (acks_of p.layout) ≡ u → (has v.actors (acks_of p.layout) || has w.actors (acks_of p.layout)) ≡ false → first_of led (leader_of y that) ≡ None
    no_one t r u s e = grind arith

    go : (t : Bool) → has v.actors (acks_of p.layout) ≡ t → (has v.actors (acks_of p.layout) || has w.actors (acks_of p.layout)) ≡ true → Led v'.log x (first_of led (leader_of y that))
    go true r e =
        let was = to_led (leader_of x led) (state_of (setting p).kind (acks_of p.layout) v.log) (kept.leader r) in
        (was.0, still_leads x led (leader_of y that) was.0 was.1, was.2 ∙ same_state law (setting p).kind (acks_of p.layout) v.log v'.log (sym (joined.own (acks_of p.layout) r)))
    go false r e =
        let was = to_led (leader_of y that) (state_of (setting p).kind (acks_of p.layout) w.log) (kept'.leader (sym (ap (λ (t : Bool). t || has w.actors (acks_of p.layout)) r) ∙ e)) in
        let here : first_of led (leader_of y that) ≡ leader_of y that = ap (λ (o : Option Coordinating). first_of o (leader_of y that)) (kept.none r) in
        (was.0, no_leader x (first_of led (leader_of y that)) (not_it a v.actors x mine r (to_last x a (acks_of p.layout) kept.last).0) ∙ here ∙ was.1, was.2 ∙ same_state law (setting p).kind (acks_of p.layout) w.log v'.log (sym (joined.theirs (acks_of p.layout) r)))

-- ---- before the first step

module _ (p : Planned) (a : ℕ) (lt : a < seats_of p.layout) where
  last_is : (x : HeapActor) → x ≡ opening p a → is_coordinator x ≡ (a == acks_of p.layout)
  last_is x is = grind arith

  pub carried_first : (x : HeapActor) → x ≡ opening p a → machine_actor x ≡ state_of (setting p).kind a [] → CarriesSo p (a ∷ []) [] a x 1 0 None
  carried_first x is state = record {
    known = lt;
    last = last_is x is;
    counted = sym (only a (seats_of p.layout) ∙ rw (lt-ltb a (seats_of p.layout) lt) refl);
    summed = ap (λ (n : ℕ). n % 2 ^ 64) (sym (none_drawn p a []));
    none = λ out. refl;
    leader = λ holds. from_led (leader_of x None) (state_of (setting p).kind (acks_of p.layout) []) (go x (to_last x a (acks_of p.layout) (last_is x is)) state (alone (a == acks_of p.layout) refl holds));
  } where
    alone : (b : Bool) → (a == acks_of p.layout) ≡ b → cond b true false ≡ true → a ≡ acks_of p.layout
    alone true q e = eqb-true a (acks_of p.layout) q
    alone false q e = absurd cc

    go : (y : HeapActor) → IsCoordinator y ↔ (a ≡ acks_of p.layout) → machine_actor y ≡ state_of (setting p).kind a [] → a ≡ acks_of p.layout → LedAs (leader_of y None) (state_of (setting p).kind (acks_of p.layout) [])
    go (Runs m) last st e = absurd (last.1 e)
    go (Marks w) last st e = absurd (last.1 e)
    go (Leads c) last st e = (c, refl, st ∙ ap (λ (b : ℕ). state_of (setting p).kind b []) e)

pub carries_so : (p : Planned) (a : ℕ) (x : HeapActor) (v : View Planned Op) → a < seats_of p.layout → v ≡ one_carried p a → x ≡ opening p a → machine_actor x ≡ actor_in setting v a → CarriesSo v.plan v.actors v.log a x 1 0 None
carries_so p a x v lt view is state =
    subst (λ (u : View Planned Op). CarriesSo u.plan u.actors u.log a x 1 0 None) (sym view) (carried_first p a lt x is (subst (λ (u : View Planned Op). machine_actor x ≡ actor_in setting u a) view state))

-- ---- the close

-- where the coordinator is done
settled_so : (p : Planned) (es : List (Entry Op)) (c : Coordinating) (drawn : ℕ) → EveryListOfAScriptSettles → WellFormed p.script → LaysOut p.script p.layout → Legal (setting p) es → Actor.Leads c ≡ state_of (setting p).kind (acks_of p.layout) es → drawn ≡ spent_among (λ b. state_of (setting p).kind b es) (seats_of p.layout) % 2 ^ 64 → is_done_at c.stage ≡ true → CreditIsSettled p es c drawn
settled_so p es c drawn settles formed lays legal leads spent done =
    let told = settles p.script p.layout es c formed lays legal (sym leads) done in
    let lapses : lapsed_at c.lapsed c.stage ≡ c.lapsed = lapsed_then c.lapsed c.stage done in
    let balanced = told.balanced in
    let scanned = told.scanned in
    let globals = told.globals in
    let few = told.few in
    let many : length (map swept_cycle c.cycles.items) * p.layout.globals ≡ length c.cycles.items * p.layout.globals = ap (λ (n : ℕ). n * p.layout.globals) (length-map c.cycles.items swept_cycle) in
    let whole : earned_by drawn c ≡ drawn + lapsed_at c.lapsed c.stage = omega (arith, lapses, balanced, few, spent) in
    let all : earned_by drawn c ≡ scanned_in (setup_of p.script p.layout) es = omega (arith, whole, lapses, balanced, scanned, spent) in
    record { scanned = all; globals = omega (arith, all, scanned, globals, many); balanced = whole; few = omega (arith, all, scanned, few) }
  where
    lapsed_then : (lapsed : ℕ) (stage : CoordStage) → is_done_at stage ≡ true → lapsed_at lapsed stage ≡ lapsed
    lapsed_then lapsed stage e = grind arith

-- where all are carried
module _ (law : OfItsOwn) (p : Planned) (v : View Planned Op) (a : ℕ) (x : HeapActor) (carried drawn : ℕ) (led : Option Coordinating) (plan : v.plan ≡ p) (kept : CarriesSo v.plan v.actors v.log a x carried drawn led) (all : count_among v.actors (seats_of v.plan.layout) ≡ seats_of p.layout) where
  it_is_carried : (b : ℕ) → b < seats_of p.layout → Carries v b
  it_is_carried = grind (arith, count_all)

  last_is_carried : Carries v (acks_of p.layout)
  last_is_carried = it_is_carried (acks_of p.layout) (omega arith)

  its_own : CarriesSo p v.actors v.log a x carried drawn led
  its_own = subst (λ (q : Planned). CarriesSo q v.actors v.log a x carried drawn led) plan kept

  led_so : LedAs (leader_of x led) (state_of (setting p).kind (acks_of p.layout) v.log)
  led_so = to_led (leader_of x led) (state_of (setting p).kind (acks_of p.layout) v.log) (its_own.leader last_is_carried)

  pub led_none : leader_of x led ≡ None → ⊥
  led_none e = let never : None ≡ Some led_so.0 = sym e ∙ led_so.1 in absurd cc

  pub closed_so : EveryListOfAScriptSettles → (c : Coordinating) (ws : List ℕ) → leader_of x led ≡ Some c → machine_actor x ≡ actor_in setting v a → IsAfterOneList setting p v ws → IsClosedAfter p v c ((drawn + credit_drawn x) % 2 ^ 64) ws
  closed_so settles c ws e state after =
      let sum = total (drawn_beside p a v.actors v.log) (seats_of p.layout) in
      let own : machine_actor x ≡ state_of (setting p).kind a v.log = subst (λ (q : Planned). machine_actor x ≡ state_of (setting q).kind a v.log) plan state in
      let same : c ≡ led_so.0 = (let is : Some c ≡ Some led_so.0 = sym e ∙ led_so.1 in cc) in
      let leads : Actor.Leads c ≡ state_of (setting p).kind (acks_of p.layout) after.list = ap (λ (d : Coordinating). Actor.Leads d) same ∙ led_so.2 ∙ same_state law (setting p).kind (acks_of p.layout) v.log after.list (sym (after.entries (acks_of p.layout) last_is_carried)) in
      let spent : (drawn + credit_drawn x) % 2 ^ 64 ≡ spent_among (λ b. state_of (setting p).kind b after.list) (seats_of p.layout) % 2 ^ 64 = one_word drawn (credit_drawn x) sum its_own.summed ∙ ap (λ (s : Actor). (sum + spent_at s) % 2 ^ 64) own ∙ ap (λ (k : ℕ). k % 2 ^ 64) (sym (drawn_all p law a v.actors v.log after.list its_own.known it_is_carried (λ b lt. after.entries b (it_is_carried b lt)))) in
      record {
        list = after.list;
        legal = after.legal;
        words = after.words;
        entries = λ b lt. after.entries b (it_is_carried b lt);
        seen = after.seen (acks_of p.layout) last_is_carried;
        coordinator = leads;
        spent = spent;
        settled = λ formed lays. settled_so p after.list c ((drawn + credit_drawn x) % 2 ^ 64) settles formed lays after.legal leads spent;
      }
