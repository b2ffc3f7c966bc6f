-- What a picture says of the state that it shows.
use Rattle.std.proofs.Common.{◌≡◌, ◌≢◌, ℕ, zero, suc, ◌+◌, ◌<◌, ◌≤◌, Bool, true, false, arith, refl, ap, ◌⊎◌, subst, Option, Some, None, ◌*◌, ◌&&◌, not, nat_lt}
use Rattle.gh_marks.proofs.Vocabulary.{Colour, Cycle, Extents, global_at, GlobalWaits, is_scanned, IsClean, IsGrey, IsMarked, IsPointer, IsSince, mark_of, mark_words, MarksGood, Names, NilOrMade, NilOrMarked, nothing, Numbers, object, pointer_at, Progress, Row, seen_field, seen_global, shade_of, Shared, Shows, Tricolour, White}
use Rattle.gh_tri.specs.declared.Colour.TheVariants as shade
use Rattle.gh_tri.specs.Tricolour as tri

-- ---- tests

pub lt-tells : (a b : ℕ) → ((nat_lt a b ≡ true) × (a < b)) ⊎ ((nat_lt a b ≡ false) × (b ≤ a))
lt-tells a b = grind arith

-- ---- colours

pub is-white : (c : Colour) → shade_of c ≡ shade.White → mark_of c ≡ 0
is-white c h = grind arith

pub is-white-colour : (c : Colour) → shade_of c ≡ shade.White → c ≡ White
is-white-colour c h = grind arith

pub marked-bit : {b : ℕ} (c : Colour) → b ≡ mark_of c → c ≢ White → b ≡ 1
marked-bit c e h = grind arith

pub is-grey : (c : Colour) → shade_of c ≡ shade.Grey → IsGrey c
is-grey c h = grind arith

pub is-waiting : (v : Progress) → is_scanned v ≡ false → GlobalWaits v
is-waiting v h = grind arith

-- ---- what words name

pub named-some : (at : Row) (objects n : ℕ) (v : Option ℕ) (w : ℕ) → Names at objects v w → v ≡ Some n → (0 < n) × (n < objects) × (w ≡ at n + 1)
named-some at objects n v w nothing e = cc
named-some at objects n v w (object m some below) e = let same : m ≡ n = cc in (subst (λ k. 0 < k) same some, subst (λ k. k < objects) same below, ap (λ k. at k + 1) same)

pub named-word : (at : Row) (objects o : ℕ) (v : Option ℕ) (w : ℕ) → Names at objects v w → w ≡ o + 1 → (n : ℕ) × (0 < n) × (n < objects) × (at n ≡ o) × (v ≡ Some n)
named-word at objects o v w nothing e = absurd (omega arith)
named-word at objects o v w (object m some below) e = (m, some, below, omega arith, refl)

pub named-nothing : (at : Row) (objects : ℕ) (v : Option ℕ) (w : ℕ) → Names at objects v w → w ≡ 0 → v ≡ None
named-nothing at objects v w nothing e = refl
named-nothing at objects v w (object m some below) e = absurd (omega arith)

-- each word that names an object of the cycle has a number
pub numbered : (since : ℕ → Bool) (at : Row) (objects w : ℕ) → Numbers since at objects → IsSince since w → (v : Option ℕ) × Names at objects v w
numbered since at objects zero n known = (None, nothing)
numbered since at objects (suc o) n known =
    let known_here : since o ≡ true = known o (omega arith) in
    let m = n.all o known_here in
    (Some m.0, subst (Names at objects (Some m.0)) (omega (arith, m.3)) (object m.0 m.1 m.2))

-- ---- pointer fields

abbrev pub is_pointer : Extents → ℕ → ℕ → Bool
is_pointer e o k = nat_lt k (e.size o) && (e.pointer o k && not (e.noscan o))

pub pointer-tells : (e : Extents) (o k : ℕ) → ((is_pointer e o k ≡ true) × IsPointer e o k) ⊎ ((is_pointer e o k ≡ false) × ¬ IsPointer e o k)
pointer-tells e o k = grind arith

pub pointer-word : (s : Shared) (o k : ℕ) → IsPointer s.extents o k → pointer_at s o k ≡ seen_field s (o + k)
pointer-word s o k l = grind arith

pub pointer-none : (s : Shared) (o k : ℕ) → ¬ IsPointer s.extents o k → pointer_at s o k ≡ 0
pointer-none s o k l = grind arith

pub pointer-some : (s : Shared) (o k w : ℕ) → pointer_at s o k ≡ w + 1 → IsPointer s.extents o k
pointer-some s o k w e = grind arith

pub global-word : (z : Cycle) (s : Shared) (i : ℕ) → i < z.arena.layout.globals → global_at z s i ≡ seen_global s i
global-word z s i l = grind arith

pub global-none : (z : Cycle) (s : Shared) (i : ℕ) → z.arena.layout.globals ≤ i → global_at z s i ≡ 0
global-none z s i l = grind arith

-- ---- the picture

module _ (z : Cycle) (s : Shared) (at : Row) (p : Tricolour) (sh : Shows z s at p) where
  pub value-global : (i : ℕ) → i < z.arena.layout.globals → Names at p.objects (p.value 0 i) (seen_global s i)
  value-global i l = grind arith

  pub value-field : (n k : ℕ) → 0 < n → n < p.objects → IsPointer s.extents (at n) k → Names at p.objects (p.value n k) (seen_field s (at n + k))
  value-field n k some below l = grind arith

  -- a pointer field is a field of the picture
  pub within-fields : (n k : ℕ) → 0 < n → n < p.objects → IsPointer s.extents (at n) k → k < p.fields
  within-fields n k some below l =
      let small : s.extents.size (at n) ≤ 1024 * z.arena.layout.pages = sh.sizes (at n) (sh.numbers.of_cycle n some below) in
      omega (arith, l.0, small, sh.objects_fit)

  pub names-made : (v : Option ℕ) (w : ℕ) → Names at p.objects v w → NilOrMade p v
  names-made v w names n e = (named-some at p.objects n v w names e).1

  module _ (marks : MarksGood (mark_words s.words) s.colour) where
    pub marked-object : (n : ℕ) → 0 < n → n < p.objects → tri.IsMarked p n → IsMarked s.colour (at n)
    marked-object n some below h = grind arith

    pub object-marked : (n : ℕ) → 0 < n → n < p.objects → IsMarked s.colour (at n) → tri.IsMarked p n
    object-marked n some below h = grind arith

    pub clean-marked : (v : Option ℕ) (w : ℕ) → Names at p.objects v w → IsClean s.colour w → NilOrMarked p v
    clean-marked v w names clean n e = let o = named-some at p.objects n v w names e in object-marked n o.0 o.1 (clean (at n) o.2)

    pub marked-clean : (v : Option ℕ) (w : ℕ) → Names at p.objects v w → NilOrMarked p v → IsClean s.colour w
    marked-clean v w names marked o e = let n = named-word at p.objects o v w names e in subst (IsMarked s.colour) n.3 (marked-object n.0 n.1 n.2 (marked n.0 n.4))
