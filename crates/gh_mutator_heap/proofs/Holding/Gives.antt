-- Each step of the giving back is a move that its seat may make, and what is known at each stage holds then and lasts.
use Rattle.std.proofs.Common.{◌≡◌, ℕ, zero, suc, ◌+◌, ◌-◌, ◌<◌, ◌≤◌, Bool, true, false, cond, eqb, List, [], ◌∷◌, drop, length, Option, Some, None, refl, sym, ap, subst, ◌∙◌, arith, ◌||◌, slice_index_or}
use Rattle.std.proofs.lemmas.Bool.{eqb-true}
use Rattle.std.proofs.lemmas.List.{drop-drop, drop_more, get_or-drop, length-drop}
use Rattle.gh_mutator_heap.proofs.Vocabulary.{Arena, CachedSpan, CachesAll, CachesFrom, Cell, cell_of, Disown, first_cached, FitsClass, give_held, give_held_at, give_locked, give_locked_at, GiveFacts, given_head, GivesSpan, GiveStageFacts, Giving, giving_buffer, goes, goes_at, Good, Has, head_store, head_word, Held, InRange, IsCached, IsHeld, IsQuiet, Lands, LeaveLock, lists, May, moved, no_page, none_cached, opening, Others, owned_by, pages_of, put, Quiet, Shared, SizeClass, SoundGiveStage, span_class, SPAN_CLASSES, SpanClass, SpanHead, stage_from, Steps, TakeLock, View, view}
use Rattle.gh_base.specs.declared.cell.Ask.TheVariants.{Load, Store}
use Rattle.gh_wbuf.specs.BufferGiving as buffer
use Rattle.gh_wbuf.specs.declared.give_buffer.GiveStage.{GiveStage as BufferStage}
use Rattle.gh_poll.specs.Giving.{GivingFacts, opening_fine}
use Rattle.gh_poll.specs.Stays.{lock_leads}
use Rattle.gh_mutator_heap.proofs.Holding.Known.{HoldsSwept, Kept, Known, by_move, by_quiet, caches_kept, caches_last, holds_swept}
use Rattle.gh_mutator_heap.proofs.Holding.Lists.{caches_from, listed_once, lists_it}
use Rattle.gh_poll.specs.declared.give.GiveStage.TheVariants.{Lock, GiveSpan, Unlock, GiveBuffer, Ended}
use Rattle.gh_poll.specs.Give.{asks, asks_at, at_stage, begins}
use Rattle.gh_mutator_heap.proofs.Holding.Vocabulary.{GiveStage}

-- the giving back, with its rights
pub record Gives (z : Arena) (a : ℕ) (v : View) (g : Giving) : Type 0 where
  pub has : Has a v (give_locked g) (give_held g)
  pub facts : GiveFacts z a v g

-- the rights where the same is held by other words
pub has_same : (a : ℕ) (v : View) (l m : Bool) (h k : ℕ → Bool) → l ≡ m → ((p : ℕ) → h p ≡ k p) → Has a v l h → Has a v m k
has_same a v l m h k e f r = record { locked = r.locked ∙ e; holds = λ p. r.holds p ∙ f p; laying = r.laying; freeing = r.freeing }

abbrev no_span : Option CachedSpan
no_span = None

-- Which span is given back next, from a span class on.
record Next (z : Arena) (a : ℕ) (v : View) (g : Giving) (class : ℕ) (stage : GiveStage) : Type 0 where
  facts : GiveStageFacts z a v g stage
  locked : true ≡ give_locked_at stage
  held : (p : ℕ) → lists (drop class g.cache) p ≡ give_held_at g.cache stage p

here_of : (i : ℕ) (ks : List (Option CachedSpan)) (s : CachedSpan) (rest : List (Option CachedSpan)) → drop i ks ≡ Some s ∷ rest → slice_index_or ks i no_span ≡ Some s
here_of zero ks s rest e = ap (λ (xs : List (Option CachedSpan)). slice_index_or xs 0 no_span) e
here_of (suc i) [] s rest e = absurd (cc)
here_of (suc i) (k ∷ ks) s rest e = here_of i ks s rest e

module _ (z : Arena) (a : ℕ) (v : View) (g : Giving) where
  next : (class : ℕ) (spans : List (Option CachedSpan)) → drop class g.cache ≡ spans → class + length spans ≡ SPAN_CLASSES → CachesFrom a v g.cache class → Next z a v g class (first_cached class spans)
  next class [] is long x = record { facts = tt; locked = refl; held = λ p. ap (λ (ks : List (Option CachedSpan)). lists ks p) is }
  next class (Some s ∷ spans) is long x = record { facts = record { among = omega (arith, long); here = here_of class g.cache s spans is; caches = x }; locked = refl; held = λ p. refl }
  next class (None ∷ spans) is long x =
      let behind : drop (class + 1) g.cache ≡ spans = sym (drop-drop 1 class g.cache) ∙ ap (λ (ks : List (Option CachedSpan)). drop 1 ks) is in
      let n = next (class + 1) spans behind (omega (arith, long)) (λ i k after below at. x i k (omega (arith, after)) below at) in
      record { facts = n.facts; locked = n.locked; held = λ p. ap (λ (ks : List (Option CachedSpan)). lists ks p) is ∙ sym (ap (λ (ks : List (Option CachedSpan)). lists ks p) behind) ∙ n.held p }

  next_from : (class : ℕ) → class ≤ SPAN_CLASSES → length g.cache ≡ SPAN_CLASSES → CachesFrom a v g.cache class → Next z a v g class (stage_from g.cache class)
  next_from class few long x = next class (drop class g.cache) refl (omega (arith, few, long, length-drop class g.cache)) x

-- The giving back begins with what is cached.
module _ (z : Arena) (a : ℕ) (v : View) (seat generation : ℕ) (cache : List (Option CachedSpan)) (held : Option Held) where
  abbrev from : Giving
  from = opening seat generation cache held

  -- with the same held at its first stage
  record Begun (stage : GiveStage) : Type 0 where
    facts : GiveStageFacts z a v from stage
    locked : false ≡ give_locked_at stage
    same : (p : ℕ) → lists cache p ≡ give_held_at cache stage p

  begun : IsHeld z.layout held → CachesFrom a v cache 0 → (stage : GiveStage) → GivingFacts from (begins held stage) → Begun (begins held stage)
  begun is x stage f = grind arith

  pub gives_begin : seat ≡ a → generation ≡ v.generation → length cache ≡ SPAN_CLASSES → IsHeld z.layout held → CachesAll a v cache → Has a v false (lists cache) → Gives z a v from
  gives_begin seat_is known room is all has =
      let b = begun is (caches_from a v cache all) (stage_from cache 0) (opening_fine seat generation cache held room) in
      record { has = has_same a v false (give_locked from) (lists cache) (give_held from) b.locked b.same has; facts = record { seat_is = seat_is; generation = known; room = room; held = is; stage_is = b.facts } }

-- What is written says what the head says, but for its owner.
head_is : (n : ℕ) (h : SpanHead) (c : SpanClass) → h.class ≡ SizeClass.Small c.class → h.noscan ≡ c.noscan → h.pages ≡ pages_of c.class → h.number ≡ n → owned_by 0 h ≡ given_head n c
head_is n h c class noscan pages number = rw (class, noscan, pages, number) refl

small_pages : (h : SpanHead) (c : ℕ) → FitsClass h → h.class ≡ SizeClass.Small c → h.pages ≡ pages_of c
small_pages h c fits class = grind arith

-- what is held once a span is given back: what is listed behind it
without : (head : ℕ) (rest : List (Option CachedSpan)) (p : ℕ) → lists rest head ≡ false → cond (eqb head p) false (eqb head p || lists rest p) ≡ lists rest p
without head rest p none = grind arith

module _ (k : Known) (z : Arena) (a : ℕ) where
  module _ (s : Shared) (good : Good z (view s)) (g : Giving) (seat_is : g.seat ≡ a) (known : g.generation ≡ (view s).generation) (room : length g.cache ≡ SPAN_CLASSES) (is : IsHeld z.layout g.held) where
    abbrev Leads : GiveStage → Type 0
    Leads q = Steps z a s (asks_at g q) (λ t. Kept a (view s) (view t) × Gives z a (view t) (goes_at g q (s.words (cell_of (asks_at g q)))))

    -- it goes on from a span class on, with the lock
    goes_from : (t : Shared) (class : ℕ) → Kept a (view s) (view t) → class ≤ SPAN_CLASSES → CachesFrom a (view s) g.cache class → Has a (view t) true (lists (drop class g.cache)) → Gives z a (view t) (at_stage g (stage_from g.cache class))
    goes_from t class kept few x has =
        let holds : (i : ℕ) (c : CachedSpan) → class ≤ i → i < SPAN_CLASSES → slice_index_or g.cache i None ≡ Some c → (view t).holds a c.head ≡ true = λ i c after below at. has.holds c.head ∙ listed_from class i c after at in
        let n = next_from z a (view t) g class few room (caches_kept a (view s) (view t) (holds_swept z a (view s) good) kept.own g.cache class holds x) in
        record {
          has = has_same a (view t) true (give_locked_at (stage_from g.cache class)) (lists (drop class g.cache)) (give_held_at g.cache (stage_from g.cache class)) n.locked n.held has;
          facts = record { seat_is = seat_is; generation = known ∙ sym kept.own.generation; room = room; held = is; stage_is = n.facts };
        } where
          listed_from : (class i : ℕ) (c : CachedSpan) → class ≤ i → slice_index_or g.cache i None ≡ Some c → lists (drop class g.cache) c.head ≡ true
          listed_from class i c after at =
              let back : class + (i - class) ≡ i = omega (arith, after) in
              lists_it (drop class g.cache) (i - class) c.head c (get_or-drop class g.cache (i - class) no_span ∙ ap (λ (j : ℕ). slice_index_or g.cache j no_span) back ∙ at) refl

    locks : Has a (view s) false (lists g.cache) → CachesFrom a (view s) g.cache 0 → Leads Lock
    locks has x = by (eqb (s.words Cell.Lock) 0) refl where
      by : (free : Bool) → eqb (s.words Cell.Lock) 0 ≡ free → Lands z a s (cond free (put s.words Cell.Lock (g.seat + 1)) s.words) (λ t. Kept a (view s) (view t) × Gives z a (view t) (goes_at g Lock (s.words Cell.Lock)))
      by true e = record {
        move = TakeLock;
        may = eqb-true (s.words Cell.Lock) 0 e;
        words_are = ap (λ (b : ℕ). put s.words Cell.Lock (b + 1)) (sym seat_is);
        after =
            let kept : Kept a (view s) (view (moved z a s TakeLock)) = record { objects = (refl, refl); own = k.own z a s TakeLock good (eqb-true (s.words Cell.Lock) 0 e) } in
            (kept, subst (λ (n : Giving). Gives z a (view (moved z a s TakeLock)) n) (sym (lock_leads g (s.words Cell.Lock) true e)) (goes_from (moved z a s TakeLock) 0 kept (omega arith) x (k.follow z a s false (lists g.cache) None has).taken));
      }
      by false e = record {
        move = Quiet (Load Cell.Lock);
        may = tt;
        words_are = refl;
        after = (
          record { objects = (refl, refl); own = k.own z a s (Quiet (Load Cell.Lock)) good tt },
          subst (λ (n : Giving). Gives z a (view (moved z a s (Quiet (Load Cell.Lock)))) n) (sym (lock_leads g (s.words Cell.Lock) false e)) (record { has = has; facts = record { seat_is = seat_is; generation = known; room = room; held = is; stage_is = x } }),
        );
      }

    module _ (class : ℕ) (c : CachedSpan) (has : Has a (view s) true (lists (drop class g.cache))) (x : GivesSpan a (view s) g.cache class c) where
      own : IsCached a (view s) (span_class class) c
      own = x.caches class c (omega arith) x.among x.here

      abbrev head : SpanHead
      head = own.span.h

      abbrev then : Shared
      then = moved z a s (Disown c.head head)

      may : May z a (view s) (Disown c.head head)
      may = (record { locked = has.locked; laying = has.laying; freeing = has.freeing; head = own.span.head }, own.span.held)

      written : owned_by 0 head ≡ given_head g.generation (span_class class)
      written = head_is g.generation head (span_class class) own.span.class own.span.noscan_is (small_pages head (span_class class).class (good.spans c.head head own.span.head).fits own.span.class) (holds_swept z a (view s) good c.head head own.span.held own.span.head ∙ sym known)

      left : Has a (view then) true (lists (drop (class + 1) g.cache))
      left =
          let given = (k.follow z a s true (lists (drop class g.cache)) None has).given c.head head in
          let front : drop class g.cache ≡ Some c ∷ drop (class + 1) g.cache = drop_more g.cache class no_span (omega (arith, room, x.among)) ∙ ap (λ (y : Option CachedSpan). y ∷ drop (class + 1) g.cache) x.here in
          let apart = listed_once a (view s) g.cache room class c x.among x.here x.caches in
          record {
            locked = given.locked;
            holds = λ p. given.holds p ∙ ap (λ (ks : List (Option CachedSpan)). cond (eqb c.head p) false (lists ks p)) front ∙ without c.head (drop (class + 1) g.cache) p apart;
            laying = given.laying;
            freeing = given.freeing;
          }

      span_given : Leads (GiveSpan class c)
      span_given = by_move k z a s good (head_store g.generation class c) (Disown c.head head) (λ t. Kept a (view s) (view t) × Gives z a (view t) (at_stage g (stage_from g.cache (class + 1)))) may
          (ap (λ (h : SpanHead). put s.words (Cell.Page c.head) (head_word h)) written) (refl, refl)
          (λ kept. (kept, goes_from then (class + 1) kept (omega (arith, x.among)) (λ i y after below at. x.caches i y (omega (arith, after)) below at) left))

    buffer_then : (t : Shared) (own : Option Held) → IsHeld z.layout own → g.held ≡ own → Kept a (view s) (view t) → Has a (view t) false no_page → Gives z a (view t) (record g { cache = none_cached; stage = giving_buffer own })
    buffer_then t own fits e kept has = grind arith

    unlocks : Has a (view s) true no_page → Leads Unlock
    unlocks has = by_move k z a s good (Store Cell.Lock 0) LeaveLock (λ t. Kept a (view s) (view t) × Gives z a (view t) (goes_at g Unlock (s.words Cell.Lock))) (has.locked, has.laying, has.freeing) refl (refl, refl)
        (λ kept. (kept, buffer_then (moved z a s LeaveLock) g.held is refl kept (k.follow z a s true no_page None has).left))

    buffer_given : (b : buffer.BufferGiving) (q : BufferStage) → Has a (view s) false (lists g.cache) → g.cache ≡ none_cached → Steps z a s (buffer.asks_at q) (λ t. Kept a (view s) (view t) × Gives z a (view t) (record g { held = None; stage = Ended }))
    buffer_given b q has none = by_quiet k z a s good (buffer.asks_at q) false (lists g.cache) (λ t. Kept a (view s) (view t) × Gives z a (view t) (record g { held = None; stage = Ended })) (quiet q) has
        (λ t kept r. (kept, record { has = r; facts = record { seat_is = seat_is; generation = known ∙ sym kept.own.generation; room = room; held = tt; stage_is = (none, refl) } })) where
          quiet : (p : BufferStage) → IsQuiet (buffer.asks_at p)
          quiet p = grind arith

    gives_at : (q : GiveStage) → Has a (view s) (give_locked_at q) (give_held_at g.cache q) → GiveStageFacts z a (view s) g q → Leads q
    gives_at Lock has x = locks has x
    gives_at (GiveSpan class c) has x = span_given class c has x
    gives_at Unlock has x = unlocks has
    gives_at (GiveBuffer b) has x = buffer_given b b.stage has x.0
    gives_at Ended has x = by_quiet k z a s good (Load Cell.Touch) false (lists g.cache) (λ t. Kept a (view s) (view t) × Gives z a (view t) (at_stage g Ended)) tt has
        (λ t kept r. (kept, record { has = r; facts = record { seat_is = seat_is; generation = known ∙ sym kept.own.generation; room = room; held = is; stage_is = x } }))

  pub gives_on : (s : Shared) → Good z (view s) → (g : Giving) → Gives z a (view s) g → Steps z a s (asks g) (λ t. Kept a (view s) (view t) × Gives z a (view t) (goes g (s.words (cell_of (asks g)))))
  gives_on s good g f = grind (arith, gives_at)

-- it lasts, whatever others do
module _ (z : Arena) (a : ℕ) (v w : View) (o : Others z a v w) (swept : HoldsSwept a v) where
  stage_lasts : (g : Giving) (q : GiveStage) → GiveStageFacts z a v g q → GiveStageFacts z a w g q
  stage_lasts g Lock x = caches_last z a v w o swept g.cache 0 x
  stage_lasts g (GiveSpan class c) x = record { among = x.among; here = x.here; caches = caches_last z a v w o swept g.cache class x.caches }
  stage_lasts g Unlock x = x
  stage_lasts g (GiveBuffer b) x = x
  stage_lasts g Ended x = x

  pub gives_last : (g : Giving) → GiveFacts z a v g → GiveFacts z a w g
  gives_last g f = grind (arith, stage_lasts)

-- it is on a word that there is
buffer_within : (z : Arena) (q : BufferStage) → SoundGiveStage z.layout q → InRange z.layout (cell_of (buffer.asks_at q))
buffer_within z q f = grind arith

gives_within_at : (z : Arena) (a : ℕ) (v : View) (g : Giving) (q : GiveStage) → Good z v → GiveStageFacts z a v g q → InRange z.layout (cell_of (asks_at g q))
gives_within_at z a v g Lock good x = tt
gives_within_at z a v g (GiveSpan class c) good x =
    let own : IsCached a v (span_class class) c = x.caches class c (omega arith) x.among x.here in
    let span = good.spans c.head own.span.h own.span.head in
    omega (arith, span.within, span.fits.some)
gives_within_at z a v g Unlock good x = tt
gives_within_at z a v g (GiveBuffer b) good x = buffer_within z b.stage x.1
gives_within_at z a v g Ended good x = tt

pub gives_within : (z : Arena) (a : ℕ) (v : View) (g : Giving) → Good z v → GiveFacts z a v g → InRange z.layout (cell_of (asks g))
gives_within z a v g good f = grind (arith, gives_within_at)
