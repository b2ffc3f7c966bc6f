-- Whole spans have no page in common, and the head of one that is laid out may be laid.
use Rattle.std.proofs.Common.{◌≡◌, ◌≢◌, ℕ, ◌+◌, ◌-◌, ◌<◌, Bool, true, false, ltb, refl, ap, ◌∙◌, arith, inl, inr}
use Rattle.std.proofs.lemmas.Bool.{ltb-false, ltb-true}
use Rattle.gh_sweep.proofs.Vocabulary.{ApartGood, AreDisjoint, Body, body_at, Head, IsSpan, LaidOut, Laying, page_of, Row, SpanHead}
use Rattle.gh_sweep.specs.Joined.{AreWhole, SpansFit}

-- a page within a span, behind its first, has no head
behind_head : (pages : ℕ) (page : Row) (p q : ℕ) (h g : SpanHead) → IsSpan pages page p h → p < q → q < p + h.pages → page_of (page q) ≢ Head g
behind_head pages page p q h g span low high is =
    let at : q ≡ p + (q - p) = omega arith in
    let body : page_of (page q) ≡ Body (body_at h (q - p)) = ap (λ (x : ℕ). page_of (page x)) at ∙ span.body (q - p) (omega arith) (omega arith) in
    absurd (cc (body, is))

spans_apart : (pages : ℕ) (page : Row) → AreWhole pages page → ApartGood page
spans_apart pages page good p q h g is at ne = go (ltb p q) refl (ltb q (p + h.pages)) refl (ltb p (q + g.pages)) refl where
  go : (a : Bool) → ltb p q ≡ a → (b : Bool) → ltb q (p + h.pages) ≡ b → (c : Bool) → ltb p (q + g.pages) ≡ c → AreDisjoint p h q g
  go a x false y c z = inl (ltb-false _ _ y)
  go a x true y false z = inr (ltb-false _ _ z)
  go true x true y true z = absurd (behind_head pages page p q h g (good p h is) (ltb-true _ _ x) (ltb-true _ _ y) at)
  go false x true y true z = let least = ltb-false p q x in absurd (behind_head pages page q p g h (good q g at) (omega (arith, least, λ (e : p ≡ q). ne e)) (ltb-true _ _ z) is)

-- the pages that are laid out are of no span
laid_apart : (pages : ℕ) (page : Row) (y : Laying) → AreWhole pages page → LaidOut pages page y → y.next ≡ y.head.pages → (q : ℕ) (g : SpanHead) → page_of (page q) ≡ Head g → AreDisjoint y.first y.head q g
laid_apart pages page y good laid all q g is = go (ltb q (y.first + y.head.pages)) refl (ltb y.first (q + g.pages)) refl where
  span : IsSpan pages page q g
  span = good q g is

  -- a first page is not free
  not_first : q ≢ y.first
  not_first e = let head = ap (λ (x : ℕ). page_of (page x)) e in absurd (cc (laid.head, is, head))

  -- nor is any page behind it
  not_behind : q < y.first → y.first < q + g.pages → ⊥
  not_behind low high =
      let at : y.first ≡ q + (y.first - q) = omega arith in
      let body : page_of (page y.first) ≡ Body (body_at g (y.first - q)) = ap (λ (x : ℕ). page_of (page x)) at ∙ span.body (y.first - q) (omega arith) (omega arith) in
      absurd (cc (body, laid.head))

  not_within : y.first < q → q < y.first + y.head.pages → ⊥
  not_within low high =
      let at : q ≡ y.first + (q - y.first) = omega arith in
      let body : page_of (page q) ≡ Body (body_at y.head (q - y.first)) = ap (λ (x : ℕ). page_of (page x)) at ∙ laid.written (q - y.first) (omega arith) (omega arith) in
      absurd (cc (body, is))

  go : (b : Bool) → ltb q (y.first + y.head.pages) ≡ b → (c : Bool) → ltb y.first (q + g.pages) ≡ c → AreDisjoint y.first y.head q g
  go false x c z = inl (ltb-false _ _ x)
  go true x false z = inr (ltb-false _ _ z)
  go true x true z = absurd (by_order (ltb q y.first) refl) where
    by_order : (b : Bool) → ltb q y.first ≡ b → ⊥
    by_order true less = not_behind (ltb-true _ _ less) (ltb-true _ _ z)
    by_order false less = let least = ltb-false q y.first less in not_within (omega (arith, least, λ (e : q ≡ y.first). not_first e)) (ltb-true _ _ x)

pub spans_fit : SpansFit
spans_fit = record {
  apart = spans_apart;
  laid = λ e page y good laid all fits number. record { fits = fits; number = number; within = laid.within; apart = laid_apart e.layout.pages page y good laid all };
}
