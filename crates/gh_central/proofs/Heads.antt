-- A walk over the page words, from head to head: what holds of each head that begins before a page.
use Rattle.std.proofs.Common.{◌≡◌, ◌≢◌, ℕ, ◌+◌, ◌-◌, ◌<◌, ◌≤◌, Bool, true, false, ltb, inl, inr, refl, sym, subst, arith}
use Rattle.std.proofs.lemmas.Bool.{ltb-true, ltb-false}
use Rattle.gh_central.proofs.Vocabulary.{eqb_tells, IsSpan, page_of, PageWord, Row, SpanHead}

module _ (row : Row) (Holds : ℕ → SpanHead → Type 0) where
  abbrev pub EachBefore : ℕ → Type 0
  EachBefore p = (q : ℕ) (h : SpanHead) → q < p → page_of (row q) ≡ PageWord.Head h → Holds q h

  -- a page that is no head is gone past
  pub past-page : (p : ℕ) → EachBefore p → ((h : SpanHead) → page_of (row p) ≢ PageWord.Head h) → EachBefore (p + 1)
  past-page p each none q h lt head = elim (eqb_tells q p) [
    | inl y ↦ absurd (none h (subst (λ (x : ℕ). page_of (row x) ≡ PageWord.Head h) y.1 head))
    | inr n ↦ each q h (omega (arith, n.1)) head
  ]

  same-head : (p : ℕ) (h k : SpanHead) → page_of (row p) ≡ PageWord.Head h → page_of (row p) ≡ PageWord.Head k → h ≡ k
  same-head p h k e f = cc

  -- a span is
  pub past-span : (pages p : ℕ) (k : SpanHead) → IsSpan pages row p k → EachBefore p → Holds p k → EachBefore (p + k.pages)
  past-span pages p k span each here q h lt is = elim (eqb_tells q p) [
    | inl y ↦ at (subst (λ (x : ℕ). page_of (row x) ≡ PageWord.Head h) y.1 is) y.1
    | inr n ↦ inside (ltb q p) refl n.1
  ] where
    at : page_of (row p) ≡ PageWord.Head h → q ≡ p → Holds q h
    at e y = subst (λ (x : ℕ). Holds x h) (sym y) (subst (λ (x : SpanHead). Holds p x) (sym (same-head p h k e span.head)) here)

    body-head : (d : ℕ) → page_of (row d) ≡ PageWord.Head h → (b : _) → page_of (row d) ≡ PageWord.Body b → ⊥
    body-head d e b f = cc

    inside : (b : Bool) → ltb q p ≡ b → q ≢ p → Holds q h
    inside true t ne = each q h (ltb-true q p t) is
    inside false t ne =
        let low : p ≤ q = ltb-false q p t in
        let far : q ≡ p + (q - p) = omega arith in
        absurd (body-head (p + (q - p)) (subst (λ (x : ℕ). page_of (row x) ≡ PageWord.Head h) far is) _ (span.body (q - p) (omega arith) (omega arith)))
