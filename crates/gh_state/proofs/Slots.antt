-- Page words tell the bytes of slots.
use Rattle.std.proofs.Common.{◌≡◌, ℕ, ◌+◌, ◌-◌, ◌/◌, ap, ◌∙◌, arith, inl, inr}
use Rattle.gh_state.proofs.Vocabulary.{Body, body_at, bytes_at, bytes_at_head, eqb_tells, page_of, PageWord, SlotsAreRead}

pub slots_read : SlotsAreRead
slots_read pages page i s span = elim (eqb_tells (i / 16) s.p) [
  | inl y ↦ ap (λ (w : PageWord). bytes_at page (i / 16) w) (ap (λ (x : ℕ). page_of (page x)) y.1 ∙ s.head)
  | inr n ↦
      let low = s.from in
      let high = s.below in
      let ne = n.1 in
      let at : i / 16 ≡ s.p + (i / 16 - s.p) = omega arith in
      let back : i / 16 - (i / 16 - s.p) ≡ s.p = omega arith in
      let body : page_of (page (i / 16)) ≡ Body (body_at s.h (i / 16 - s.p)) = ap (λ (x : ℕ). page_of (page x)) at ∙ span.body (i / 16 - s.p) (omega (arith, ne)) (omega arith) in
      ap (λ (w : PageWord). bytes_at page (i / 16) w) body ∙ ap (λ (x : ℕ). bytes_at_head (page_of (page x))) back ∙ ap bytes_at_head s.head
]
