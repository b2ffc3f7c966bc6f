-- What holds of a sweep lasts under the moves of others; where one may be begun, and that it ends at rest.
use Rattle.std.proofs.Common.{◌≡◌, ℕ, ◌+◌, true, false, refl, ap, subst, ◌∙◌, arith, inl}
use Rattle.gh_sweep.proofs.Vocabulary.{Begin, bit_words, By, ClearBits, ClearMarks, CycleEnd, Ended, generation_of, Good, has_span, HasEnded, HasReached, Head, in_sweep, is_busy, IsAtRest, IsOwn, LoadMarks, opening, OthersAt, OthersLeave, page_of, Shared, SpanHead, SpanIsLeft, SpanStays, SweepFacts, Sweeping, SweepKeepsItsFacts, Sweeps, SweepsAmongOthers, SweepStage, view}
use Rattle.gh_base.specs.declared.cell.Cell.TheVariants.{Page}
use Rattle.gh_sweep.proofs.Sharing.KeepsPages.{Known}
use Rattle.gh_sweep.proofs.Sharing.Own.{lands}

module _ (e : CycleEnd) (a : ℕ) (s t : Shared) (o : OthersLeave e a s t) (m : Sweeping) where
  left : {cut clear : ℕ} → Sweeps a m.page m.head cut clear s → SpanIsLeft a m.page m.head s t
  left sweeps = o.mine m.page m.head sweeps.by sweeps.head

  sweeps_last : (cut clear : ℕ) → Sweeps a m.page m.head cut clear s → Sweeps a m.page m.head cut clear t
  sweeps_last cut clear sweeps = let l = left sweeps in record {
    by = l.by;
    head = ap page_of l.head ∙ sweeps.head;
    are_cut = λ i b. l.cut i b ∙ sweeps.are_cut i b;
    are_clear = λ i b. l.clear i b ∙ sweeps.are_clear i b;
  }

  stays : (cut clear : ℕ) → Sweeps a m.page m.head cut clear s → SpanStays m s.words t.words
  stays cut clear sweeps = let l = left sweeps in record { head_stays = l.head; alloc_stays = l.alloc; marks_stay = l.marks }

  reached_lasts : (stage : SweepStage) → HasReached a s m stage → HasReached a t m stage
  reached_lasts Begin r = r
  reached_lasts (LoadMarks i) r = sweeps_last i i r
  reached_lasts (ClearBits i marks) r = sweeps_last i i r
  reached_lasts (ClearMarks i) r = sweeps_last (i + 1) i r
  reached_lasts (Ended end) r = tt
  reached_lasts _ r = sweeps_last (bit_words m.head) (bit_words m.head) r

  -- what another sweep leaves, as the routine by itself asks for it
  others_at : m.head.number + 2 ≡ generation_of e → (stage : SweepStage) → HasReached a s m stage → OthersAt m s.words t.words stage
  others_at n Begin r = o.heads m.page m.head.number n
  others_at n (LoadMarks i) r = stays i i r
  others_at n (ClearBits i marks) r = stays i i r
  others_at n (ClearMarks i) r = stays (i + 1) i r
  others_at n (Ended end) r = tt
  others_at n _ r = stays (bit_words m.head) (bit_words m.head) r

  fine_lasts : SweepKeepsItsFacts → SweepFacts e a s m → SweepFacts e a t m
  fine_lasts laws f = record {
    placed = f.placed;
    number = f.number;
    right = λ p. (λ is. (f.right p).0 (o.back p is), λ own. mine p own);
    due = o.due ∙ f.due;
    facts = laws.last e.layout m s.words t.words f.placed (others_at f.number m.stage f.is_at) f.facts;
    is_at = reached_lasts m.stage f.is_at;
  } where
    head_of : (stage : SweepStage) → has_span stage ≡ true → HasReached a s m stage → page_of (s.words (Page m.page)) ≡ Head (in_sweep m.head)
    head_of stage has r = grind arith

    mine : (p : ℕ) → IsOwn m p → t.far p ≡ By a
    mine p own = subst (λ (n : ℕ). t.far n ≡ By a) own.1 (o.mine m.page m.head ((f.right m.page).1 (own.0, refl)) (head_of m.stage own.0 f.is_at)).by

-- A sweep may be begun.
opens : (e : CycleEnd) (a : ℕ) (s : Shared) (p : ℕ) (h : SpanHead) → HasEnded e → Good e (view s) → IsAtRest a s → page_of (s.words (Page p)) ≡ Head h → h.number + 2 ≡ generation_of e → SweepFacts e a s (opening p h)
opens e a s p h ended g rest is number =
    let head = g.heads p h is in
    let small = ended.generation in
    record {
      placed = record { arena = record { some = head.fits.some; within = head.within }; head = record { head = head.fits; number = omega arith }; stage = tt };
      number = number;
      right = λ q. (λ by. absurd (rest.none q by), λ own. absurd (no_span own.0));
      due = rest.told;
      facts = record { none_kept = refl; head_is = inl head.packed };
      is_at = (refl, refl);
    } where
      no_span : false ≡ true → ⊥
      no_span x = cc

-- And it ends at rest.
rests : (e : CycleEnd) (a : ℕ) (s : Shared) (m : Sweeping) → SweepFacts e a s m → is_busy m.stage ≡ false → IsAtRest a s
rests e a s m f ended = grind arith

pub among_others : Known → SweepKeepsItsFacts → SweepsAmongOthers
among_others k laws = record {
  opens = opens;
  own = lands k laws;
  last = λ e a s t m o f. fine_lasts e a s t o m laws f;
  rests = rests;
}
