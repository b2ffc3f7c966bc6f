-- What the own steps of the search stand on: what a move keeps, numbers and slots, where it begins and where it finds none.
use Rattle.std.proofs.Common.{◌≡◌, ℕ, ◌+◌, ◌*◌, ◌<◌, ◌≤◌, Bool, true, false, cond, ltb, Option, Some, None, refl, sym, ap, subst, arith, le-leb, ltb-true, ltb-false}
use Rattle.gh_alloc.proofs.Vocabulary.{Arena, begin, cached_head, CachedSpan, Caches, End, FactsAt, Finding, FindsNone, FindStage, first_page, Good, is_locked, IsFull, IsUsedUp, Lands, Large, laying, Layout, Lock, May, Move, moved, NoneIsTrue, NoRoom, Opens, own, refuses_at, Right, Row, row_bit, Seeks, Shared, SizeClass, slot_count, slot_size, slot_words_of, Slots, slots_of, Small, Sought, span_at, SpanHead, sweep_generation_at, SweepsHere, Unlock, View, view, with_span, Words}
use Rattle.gh_cache.specs.Listing as slots
use Rattle.gh_alloc.proofs.FindLasts.{Known}

-- What its own steps keep.

-- the sweep generation is as it was
abbrev pub Kept : Shared → Shared → Type 0
Kept s t = (view t).generation ≡ (view s).generation

kept : Known → (z : Arena) (a : ℕ) (s : Shared) (m : Move) → Good z (view s) → May z a (view s) m → Kept s (moved z a s m)
kept k z a s m g may = (k.own z a s m g may).generation

-- what follows from a routine's step
pub lands : Known → (z : Arena) (a : ℕ) (s : Shared) (words : Words) (Then So : Shared → Type 0) → Good z (view s) → ((t : Shared) → Kept s t → Then t → So t) → Lands z a s words Then → Lands z a s words So
lands k z a s words Then So g f x = record { move = x.move; may = x.may; words_are = x.words_are; after = f (moved z a s x.move) (kept k z a s x.move g x.may) x.after }

-- Where it finds none.

refuses-at : (z : Arena) (a : ℕ) (sure : Bool) (v : View) (f : Finding) (q : FindStage) → refuses_at q ≡ true → FactsAt z a sure v f q → FindsNone z sure v f × (q ≡ Unlock (End NoRoom))
refuses-at z a sure v f q e x = grind arith

pub finds-none : NoneIsTrue
finds-none z a sure v rest f x e = let y = refuses-at z a sure v f f.stage e x.stage in record { none = y.0; stage = y.1 }

-- Whose routine sweeps.

sweeps-at : (z : Arena) (a : ℕ) (sure : Bool) (v : View) (f : Finding) (q : FindStage) → Seeks z a v f → FactsAt z a sure v f q → sweep_generation_at f q ≡ v.generation
sweeps-at z a sure v f q seeks x = grind arith

pub sweeps-here : SweepsHere
sweeps-here z a sure v rest f x = sweeps-at z a sure v f f.stage x.seeks x.stage

-- Numbers.

-- a page from which the span fits is read as it is
pub first-is : (l : Layout) (pages at : ℕ) → at + pages ≤ l.pages → first_page l pages at ≡ at
first-is l pages at le = ap (λ (b : Bool). cond b at 0) (le-leb (at + pages) l.pages le)

-- Slots.

some-is : (x y : CachedSpan) → Some x ≡ Some y → x ≡ y
some-is x y e = cc

abbrev pub Apart : (ℕ → Bool) → Option CachedSpan → Type 0
Apart rest cached = (x : CachedSpan) → cached ≡ Some x → rest x.head ≡ false

pub is-apart : (rest : ℕ → Bool) (x : CachedSpan) → rest x.head ≡ false → Apart rest (Some x)
is-apart rest x e y f = subst (λ (c : CachedSpan). rest c.head ≡ false) (some-is x y f) e

pub none-apart : (rest : ℕ → Bool) → Apart rest None
none-apart rest y f = absurd (cc)

abbrev pub OwnApart : (ℕ → Bool) → Option ℕ → Type 0
OwnApart rest p = (q : ℕ) → p ≡ Some q → rest q ≡ false

pub none-own : (rest : ℕ → Bool) → OwnApart rest None
none-own rest q e = absurd (cc)

pub is-own : (rest : ℕ → Bool) (p : ℕ) → rest p ≡ false → OwnApart rest (Some p)
is-own rest p e q f = subst (λ (i : ℕ). rest i ≡ false) (same p q f) e where
  same : (p q : ℕ) → Some p ≡ Some q → p ≡ q
  same p q f = cc

-- of a span that is full the slots are taken
pub taken-of : (alloc : Row) (h : SpanHead) (p c : ℕ) → h.class ≡ SizeClass.Small c → IsFull alloc p h → (j : ℕ) → j < slots_of c → row_bit alloc (1024 * p + j * slot_words_of c) ≡ 1
taken-of alloc h p c e full j few =
    let counted : slot_count h ≡ slots_of c = rw (e) refl in
    let sized : slot_size h ≡ slot_words_of c = rw (e) refl in
    subst (λ (n : ℕ). row_bit alloc (1024 * p + j * n) ≡ 1) sized (full j (subst (λ (n : ℕ). j < n) (sym counted) few))

used-up : (w v : Sought) (c d : Option CachedSpan) → w ≡ v → c ≡ d → IsUsedUp v d → IsUsedUp w c
used-up w v c d e f x = subst (λ (u : Sought). IsUsedUp u c) (sym e) (subst (λ (b : Option CachedSpan). IsUsedUp v b) (sym f) x)

-- a search begins with the cached span, or else with the lock
module _ (z : Arena) (a : ℕ) (sure : Bool) (v : View) (rest : ℕ → Bool) (f : Finding) where
  abbrev pub Stands : FindStage → Type 0
  Stands q = Right a v (is_locked q) (with_span (own q) (with_span (cached_head f.cached) rest)) (laying q) × FactsAt z a sure v f q × OwnApart rest (own q)

  pub begins : (wanted : Sought) (cached : Option CachedSpan) → f.wanted ≡ wanted → f.cached ≡ cached → Caches a v wanted cached → Right a v false (with_span (cached_head f.cached) rest) None → Stands (begin wanted cached)
  begins (Small c) (Some x) w y caches right = go (ltb x.cursor (slots_of c.class)) refl where
    go : (b : Bool) → ltb x.cursor (slots_of c.class) ≡ b → Stands (cond b (Slots (slots.opening (span_at c.class x))) Lock)
    go true e = (right, record { c = c; k = x; for = record { wanted = w; cached = y }; is = refl; left = ltb-true x.cursor (slots_of c.class) e }, none-own rest)
    go false e = (right, used-up f.wanted (Small c) f.cached (Some x) w y (ltb-false x.cursor (slots_of c.class) e), none-own rest)
  begins (Small c) None w y caches right = (right, used-up f.wanted (Small c) f.cached None w y tt, none-own rest)
  begins (Large pages noscan) (Some x) w y caches right = absurd caches
  begins (Large pages noscan) None w y caches right = (right, used-up f.wanted (Large pages noscan) f.cached None w y tt, none-own rest)

pub opens : Opens
opens z a v rest f seeks caches apart right e =
    let at : f.stage ≡ begin f.wanted f.cached = ap (λ (g : Finding). g.stage) e in
    let x : Stands z a false v rest f f.stage = subst (λ (q : FindStage). Stands z a false v rest f q) (sym at) (begins z a false v rest f f.wanted f.cached refl refl caches right) in
    (x.0, record { seeks = seeks; caches = caches; apart = apart; own_apart = x.2; round = λ is. absurd (cc is); stage = x.1 })
