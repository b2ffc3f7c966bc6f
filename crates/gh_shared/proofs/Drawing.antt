-- What the actors that a handle's seat carries have drawn beside its own actor.
use Rattle.std.proofs.Common.{◌≡◌, ◌≢◌, ℕ, zero, suc, ◌+◌, ◌%◌, ◌^◌, ◌<◌, ◌==◌, Bool, true, false, not, ◌&&◌, ◌||◌, if◌then◌else◌, cond, List, [], ◌∷◌, arith, refl, sym, ap, ◌∙◌, eq-eqb, ne_eqb}
use Rattle.std.proofs.Math.Nat.{add-mod-mod, mod-add-mod}
use Rattle.gh_shared.proofs.Vocabulary.{Actor, by, Carries, drawn_beside, Entry, has, Kind, Op, Planned, seats_of, setting, spent_at, state_of, total, View}
use Rattle.gh_lists.specs.Sums.{total_at, total_none}
use Rattle.gh_shared.proofs.Ready.{OfItsOwn}

-- ---- sums

total_both : (f g h : ℕ → ℕ) (n : ℕ) → ((i : ℕ) → i < n → h i ≡ f i + g i) → total h n ≡ total f n + total g n
total_both f g h zero each = refl
total_both f g h (suc n) each = let rest = total_both f g h n (λ i m. each i (omega (arith, m))) in let last = each n (omega arith) in omega (arith, rest, last)

-- in words, where both of these are sums modulo 2^64
pub one_word : (e s y : ℕ) → e ≡ y % 2 ^ 64 → (e + s) % 2 ^ 64 ≡ (y + s) % 2 ^ 64
one_word e s y is = ap (λ (n : ℕ). (n + s) % 2 ^ 64) is ∙ mod-add-mod y (2 ^ 64) s

pub both_words : (d e s x y : ℕ) → d ≡ x % 2 ^ 64 → e ≡ y % 2 ^ 64 → (d + (e + s) % 2 ^ 64) % 2 ^ 64 ≡ (x + (y + s)) % 2 ^ 64
both_words d e s x y is its =
    ap (λ (n : ℕ). (d + n) % 2 ^ 64) (one_word e s y its)
    ∙ add-mod-mod d (y + s) (2 ^ 64)
    ∙ ap (λ (n : ℕ). (n + (y + s)) % 2 ^ 64) is
    ∙ mod-add-mod x (2 ^ 64) (y + s)

-- ---- one term

if_both : (t d : Bool) (n : ℕ) → d ≡ false → (if t && not d then n else 0) ≡ (if t then n else 0)
if_both t d n e = grind arith

if_none : (t d : Bool) (n : ℕ) → d ≡ true → (if t && not d then n else 0) ≡ 0
if_none t d n e = grind arith

pub same_state : OfItsOwn → (k : Kind Actor Op) (a : ℕ) (es fs : List (Entry Op)) → by a es ≡ by a fs → state_of k a es ≡ state_of k a fs
same_state law k a es fs same = law k a es ∙ ap (state_of k a) same ∙ sym (law k a fs)

-- where v and w, which have no actor in common, are joined, v' carries the actors of both, with their entries
pub record Joined (v w v' : View Planned Op) : Type 0 where
  pub both : (c : ℕ) → has v'.actors c ≡ (has v.actors c || has w.actors c)
  pub apart : (c : ℕ) → has v.actors c ≡ true → has w.actors c ≡ false
  pub own : (c : ℕ) → has v.actors c ≡ true → by c v'.log ≡ by c v.log
  pub theirs : (c : ℕ) → has v.actors c ≡ false → by c v'.log ≡ by c w.log

module _ (p : Planned) where
  -- what an actor has drawn by these entries
  abbrev drawn : List (Entry Op) → ℕ → ℕ
  drawn log c = spent_at (state_of (setting p).kind c log)

  abbrev beside : (a : ℕ) → (xs : List ℕ) → List (Entry Op) → ℕ
  beside a xs log = total (drawn_beside p a xs log) (seats_of p.layout)

  -- before the first step
  pub none_drawn : (a : ℕ) (log : List (Entry Op)) → beside a (a ∷ []) log ≡ 0
  none_drawn a log = total_none (drawn_beside p a (a ∷ []) log) (seats_of p.layout) (λ c lt. go c (a == c)) where
    go : (c : ℕ) (b : Bool) → (if cond b true false && not b then drawn log c else 0) ≡ 0
    go c true = refl
    go c false = refl

  module _ (law : OfItsOwn) where
    same_drawn : (c : ℕ) (es fs : List (Entry Op)) → by c es ≡ by c fs → drawn es c ≡ drawn fs c
    same_drawn c es fs same = ap spent_at (same_state law (setting p).kind c es fs same)

    -- the actor has gone on
    pub drawn_on : (a : ℕ) (xs : List ℕ) (log log' : List (Entry Op)) → ((c : ℕ) → a ≢ c → by c log' ≡ by c log) → beside a xs log' ≡ beside a xs log
    drawn_on a xs log log' others = grind arith

    -- two are joined
    module _ (a b : ℕ) (v w v' : View Planned Op) (joined : Joined v w v') (mine : Carries v a) (its : Carries w b) (lt : b < seats_of p.layout) where
      abbrev all : ℕ → ℕ
      all c = if has w.actors c then drawn w.log c else 0

      one_each : (c : ℕ) → drawn_beside p a v'.actors v'.log c ≡ drawn_beside p a v.actors v.log c + all c
      one_each c = grind arith

      but_its : (c : ℕ) → c ≢ b → all c ≡ drawn_beside p b w.actors w.log c
      but_its c ne = grind arith

      pub drawn_both : beside a v'.actors v'.log ≡ beside a v.actors v.log + (beside b w.actors w.log + drawn w.log b)
      drawn_both =
          let sum = total_both (drawn_beside p a v.actors v.log) all (drawn_beside p a v'.actors v'.log) (seats_of p.layout) (λ c m. one_each c) in
          let one = total_at (drawn_beside p b w.actors w.log) all (seats_of p.layout) b lt (λ c m ne. but_its c ne) in
          let none : drawn_beside p b w.actors w.log b ≡ 0 = if_none (has w.actors b) (b == b) (drawn w.log b) (eq-eqb b b refl) in
          let is : all b ≡ drawn w.log b = ap (λ (t : Bool). if t then drawn w.log b else 0) its in
          omega (arith, sum, one, none, is)

    -- where all are carried
    pub drawn_all : (a : ℕ) (xs : List ℕ) (log list : List (Entry Op)) → a < seats_of p.layout → ((c : ℕ) → c < seats_of p.layout → has xs c ≡ true) → ((c : ℕ) → c < seats_of p.layout → by c list ≡ by c log) → total (drawn list) (seats_of p.layout) ≡ beside a xs log + drawn log a
    drawn_all a xs log list lt there entries =
        let one = total_at (drawn_beside p a xs log) (drawn list) (seats_of p.layout) a lt (λ c m ne. same_drawn c list log (entries c m) ∙ sym (ap (λ (t : Bool). if t then drawn log c else 0) (there c m)) ∙ sym (if_both (has xs c) (a == c) (drawn log c) (ne_eqb a c (λ e. ne (sym e))))) in
        let none : drawn_beside p a xs log a ≡ 0 = if_none (has xs a) (a == a) (drawn log a) (eq-eqb a a refl) in
        let is = same_drawn a list log (entries a lt) in
        omega (arith, one, none, is)
