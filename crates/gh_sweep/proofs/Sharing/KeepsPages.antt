-- The moves on page words keep what holds at every moment.
use Rattle.std.proofs.Common.{◌≡◌, ◌≢◌, ℕ, ◌+◌, ◌-◌, ◌*◌, ◌^◌, ◌<◌, ◌≤◌, true, false, ltb, refl, sym, ap, subst, ◌∙◌, arith, inl, inr}
use Rattle.std.proofs.lemmas.Bool.{lt-ltb}
use Rattle.gh_sweep.proofs.Vocabulary.{ApartGood, bit_words, Body, By, CycleEnd, Done, DueGood, eqb_tells, Far, FitsHead, Free, generation_of, Good, HasEnded, HasHead, HasNoAllocBit, Head, head_word, HeadsGood, in_sweep, InsideGood, InSpan, IsHeadIn, IsNoHead, IsNumbered, LeftGood, nothing_due, NumbersGood, once_swept, owned_by, PackedWordsAreReadBack, page_of, PageWord, Row, SaysFar, slot_bytes, slot_of, SlotsGood, SpanHead, Unswept, UntouchedGood, update, View, with_word}
use Rattle.gh_sweep.proofs.Sharing.Pages.{AreAlike, apart_back, by_done, far_done, far_unswept, gone_back, head_back, head_forth, heads_written, inside_forth, left_forth, no_head_done, numbered, numbers_kept, numbers_written, off_forth, same_by, same_head, slots_back, turn_back, turn_forth, unswept_by, unswept_done, untouched_back}

-- what the packed words and the table of size classes say
pub record Known : Type 0 where
  pub packed : PackedWordsAreReadBack
  pub slots : (c : ℕ) → c < 25 → slot_of c ≤ 32768

-- Page words and how far the spans are have changed, and nothing else.
pub record Repaged (e : CycleEnd) (v : View) (page : Row) (far : ℕ → Far) : Type 0 where
  pub heads : HeadsGood e.layout.pages page
  pub apart : ApartGood page
  pub numbers : NumbersGood (generation_of e) page far
  pub untouched : UntouchedGood page far v.cut v.clear
  pub unswept : LeftGood page far v.clear
  pub slots : SlotsGood page v.slot
  pub inside : InsideGood page v.alloc
  pub told : DueGood far v.due

pub repaged : (e : CycleEnd) (v : View) (page : Row) (far : ℕ → Far) → Good e v → Repaged e v page far → Good e (record v { page = page; far = far })
repaged e v page far g r = record {
  generation = g.generation;
  heads = r.heads;
  apart = r.apart;
  numbers = r.numbers;
  untouched = r.untouched;
  unswept = r.unswept;
  order = g.order;
  marks = g.marks;
  uncut = g.uncut;
  uncut_slots = g.uncut_slots;
  slots = r.slots;
  few = g.few;
  inside = r.inside;
  fits = g.fits;
  stand = g.stand;
  known = g.known;
  only_since = g.only_since;
  told = r.told;
  tallied = g.tallied;
  lives = g.lives;
  counted = g.counted;
}

module _ (k : Known) where
  pub reads : (h : SpanHead) → FitsHead h → page_of (head_word h) ≡ Head h
  reads h fits = k.packed.page (Head h) fits

  pub head_in : (pages p : ℕ) (h : SpanHead) → FitsHead h → p + h.pages ≤ pages → (g : SpanHead) → page_of (head_word h) ≡ Head g → IsHeadIn pages (head_word h) p g
  head_in pages p h fits within g e =
      let same : h ≡ g = same_head h g (sym (reads h fits) ∙ e) in
      subst (λ (x : SpanHead). IsHeadIn pages (head_word h) p x) same (record { packed = refl; fits = fits; within = within })

  pub says : (generation : ℕ) (h : SpanHead) (f : Far) → FitsHead h → IsNumbered generation h f → SaysFar generation (page_of (head_word h)) f
  says generation h f fits n = subst (λ (w : PageWord). SaysFar generation w f) (sym (reads h fits)) n

  pub few_bytes : (h : SpanHead) → FitsHead h → slot_bytes h ≤ 2 ^ 26
  few_bytes h fits = grind arith

  module _ (e : CycleEnd) (ended : HasEnded e) (v : View) (g : Good e v) where
    abbrev gen : ℕ
    gen = generation_of e

    -- The head of a span changes, and how far the span is.
    module _ (p : ℕ) (h j : SpanHead) (f : Far) (was : page_of (v.page p) ≡ Head h) (pages : h.pages ≡ j.pages) (bytes : slot_bytes h ≡ slot_bytes j) (fits : FitsHead j) (number : IsNumbered gen j f) where
      abbrev new_page : Row
      new_page = with_word v.page p (head_word j)

      abbrev new_far : ℕ → Far
      new_far = update v.far p f

      back : AreAlike v.page new_page
      back = head_back v.page p (head_word j) h j was (reads j fits) pages bytes

      forth : AreAlike new_page v.page
      forth = head_forth v.page p (head_word j) h j was (reads j fits) pages bytes

      pub headed : ((q : ℕ) → new_far q ≡ Unswept → v.far q ≡ Unswept) → ((i : ℕ) (s : InSpan v.page i) → v.clear i ≡ false → v.far s.p ≢ Done → new_far s.p ≢ Done) → DueGood new_far v.due → Repaged e v new_page new_far
      headed fresh kept told = record {
        heads = heads_written v.page p (head_word j) e.layout.pages (head_in e.layout.pages p j fits (let w = (g.heads p h was).within in omega arith)) g.heads;
        apart = apart_back v.page new_page back g.apart;
        numbers = numbers_written v.page p (head_word j) gen v.far f (says gen j f fits number) g.numbers;
        untouched = untouched_back v.page new_page back v.far new_far v.cut v.clear fresh g.untouched;
        unswept = left_forth v.page new_page v.far new_far v.clear (λ i s c ne. (forth s.p s.h s.head, kept i s c ne)) g.unswept;
        slots = slots_back v.page new_page back v.slot g.slots;
        inside = inside_forth v.page new_page v.alloc (λ i s ne. forth s.p s.h s.head) g.inside;
        told = told;
      }

    -- A sweep begins.
    module _ (a p : ℕ) (h : SpanHead) (was : page_of (v.page p) ≡ Head h) (number : h.number + 2 ≡ gen) where
      pub fresh_before : v.far p ≡ Unswept
      fresh_before = far_unswept gen v.page v.far g.numbers p h was number

      nobody : h.owner ≡ 0
      nobody = (subst (λ (f : Far). IsNumbered gen h f) fresh_before (numbered gen v.page v.far g.numbers p h was)).1

      pub fits_then : FitsHead (in_sweep h)
      fits_then = let f = (g.heads p h was).fits in let small = ended.generation in record { class = f.class; some = f.some; pages = f.pages; owner = f.owner; number = omega arith }

      unswept_before : (q : ℕ) → update v.far p (By a) q ≡ Unswept → v.far q ≡ Unswept
      unswept_before q is = elim (eqb_tells p q) [
        | inl y ↦ absurd (unswept_by a (sym (rw (y.0) at is)))
        | inr n ↦ rw (n.0) at is
      ]

      left_then : (i : ℕ) (s : InSpan v.page i) → v.clear i ≡ false → v.far s.p ≢ Done → update v.far p (By a) s.p ≢ Done
      left_then i s c ne is = elim (eqb_tells p s.p) [
        | inl y ↦ by_done a (rw (y.0) at is)
        | inr n ↦ ne (rw (n.0) at is)
      ]

      told_then : DueGood (update v.far p (By a)) v.due
      told_then b none = g.told b (λ q by. elim (eqb_tells p q) [
        | inl y ↦ unswept_by b (sym (ap v.far (sym y.1) ∙ fresh_before) ∙ by)
        | inr n ↦ none q (rw (n.0) by)
      ])

      pub starts : Repaged e v (with_word v.page p (head_word (in_sweep h))) (update v.far p (By a))
      starts = headed p h (in_sweep h) (By a) was refl refl fits_then (omega (arith, number), nobody) unswept_before left_then told_then

    -- A sweep ends.
    module _ (a p : ℕ) (h : SpanHead) (by : v.far p ≡ By a) (was : page_of (v.page p) ≡ Head (in_sweep h)) (are_clear : (i : ℕ) → i < bit_words h → v.clear (16 * p + i) ≡ ltb i (bit_words h)) (all_told : v.due a ≡ nothing_due) where
      pub number_in : IsNumbered gen (in_sweep h) (By a)
      number_in = subst (λ (f : Far). IsNumbered gen (in_sweep h) f) by (numbered gen v.page v.far g.numbers p (in_sweep h) was)

      pub fits_swept : FitsHead (once_swept h)
      fits_swept =
          let f = (g.heads p (in_sweep h) was).fits in
          let small = ended.generation in
          let n = number_in.0 in
          record { class = f.class; some = f.some; pages = f.pages; owner = omega arith; number = omega arith }

      none_unswept : (q : ℕ) → update v.far p Done q ≡ Unswept → v.far q ≡ Unswept
      none_unswept q is = elim (eqb_tells p q) [
        | inl y ↦ absurd (unswept_done (sym (rw (y.0) at is)))
        | inr n ↦ rw (n.0) at is
      ]

      -- a word of the span is cleared
      cleared : (i : ℕ) (s : InSpan v.page i) → s.p ≡ p → v.clear i ≡ true
      cleared i s at =
          let head : page_of (v.page p) ≡ Head s.h = ap (λ (n : ℕ). page_of (v.page n)) (sym at) ∙ s.head in
          let same : in_sweep h ≡ s.h = same_head (in_sweep h) s.h (sym was ∙ head) in
          let pages : h.pages ≡ s.h.pages = ap (λ (x : SpanHead). x.pages) same in
          let low = s.from in
          let high = s.below in
          let place : i ≡ 16 * p + (i - 16 * p) = omega arith in
          let within : i - 16 * p < bit_words h = omega arith in
          ap v.clear place ∙ are_clear (i - 16 * p) within ∙ lt-ltb (i - 16 * p) (bit_words h) within

      still_left : (i : ℕ) (s : InSpan v.page i) → v.clear i ≡ false → v.far s.p ≢ Done → update v.far p Done s.p ≢ Done
      still_left i s c ne is = elim (eqb_tells p s.p) [
        | inl y ↦ let all : v.clear i ≡ true = cleared i s (sym y.1) in absurd (cc (c, all))
        | inr n ↦ ne (rw (n.0) at is)
      ]

      told_after : DueGood (update v.far p Done) v.due
      told_after b none = elim (eqb_tells a b) [
        | inl y ↦ ap v.due (sym y.1) ∙ all_told
        | inr x ↦ g.told b (λ q is. elim (eqb_tells p q) [
          | inl y ↦ x.1 (same_by a b (sym by ∙ (ap v.far y.1 ∙ is)))
          | inr n ↦ none q (rw (n.0) is)
        ])
      ]

      pub ends : Repaged e v (with_word v.page p (head_word (once_swept h))) (update v.far p Done)
      ends = headed p (in_sweep h) (once_swept h) Done was refl refl fits_swept (let n = number_in.0 in omega arith) none_unswept still_left told_after

    -- Pages alone change, and no span becomes another's.
    module _ (page : Row) (heads : HeadsGood e.layout.pages page) (apart : ApartGood page) (numbers : NumbersGood gen page v.far) (back : AreAlike v.page page) where
      with_page : LeftGood page v.far v.clear → InsideGood page v.alloc → Repaged e v page v.far
      with_page unswept inside = record {
        heads = heads;
        apart = apart;
        numbers = numbers;
        untouched = untouched_back v.page page back v.far v.far v.cut v.clear (λ q is. is) g.untouched;
        unswept = unswept;
        slots = slots_back v.page page back v.slot g.slots;
        inside = inside;
        told = g.told;
      }

    -- A swept span passes on.
    module _ (p : ℕ) (h : SpanHead) (owner : ℕ) (has : HasHead (v.page p) gen h) (few : owner < 2 ^ 8) where
      pub fits_owned : FitsHead (owned_by owner h)
      fits_owned = let f = (g.heads p h has.head).fits in record { class = f.class; some = f.some; pages = f.pages; owner = few; number = f.number }

      pub is_done : v.far p ≡ Done
      is_done = far_done gen v.page v.far g.numbers p h has.head has.number

      pub passes : Repaged e v (with_word v.page p (head_word (owned_by owner h))) v.far
      passes = with_page page_then (heads_written v.page p (head_word (owned_by owner h)) e.layout.pages (head_in e.layout.pages p (owned_by owner h) fits_owned (g.heads p h has.head).within) g.heads) (apart_back v.page page_then back_then g.apart)
          (numbers_kept v.page p (head_word (owned_by owner h)) gen v.far (says gen (owned_by owner h) (v.far p) fits_owned (subst (λ (f : Far). IsNumbered gen (owned_by owner h) f) (sym is_done) has.number)) g.numbers) back_then
          (left_forth v.page page_then v.far v.far v.clear (λ i s c ne. (forth_then s.p s.h s.head, ne)) g.unswept) (inside_forth v.page page_then v.alloc (λ i s ne. forth_then s.p s.h s.head) g.inside) where
            page_then : Row
            page_then = with_word v.page p (head_word (owned_by owner h))

            back_then : AreAlike v.page page_then
            back_then = head_back v.page p (head_word (owned_by owner h)) h (owned_by owner h) has.head (reads (owned_by owner h) fits_owned) refl refl

            forth_then : AreAlike page_then v.page
            forth_then = head_forth v.page p (head_word (owned_by owner h)) h (owned_by owner h) has.head (reads (owned_by owner h) fits_owned) refl refl

    -- A page that is no span's first turns.
    module _ (p word : ℕ) (was : IsNoHead (v.page p)) (is : IsNoHead word) where
      says_none : SaysFar gen (page_of word) (v.far p)
      says_none = go (page_of word) refl where
        go : (w : PageWord) → page_of word ≡ w → SaysFar gen w (v.far p)
        go Free e = no_head_done gen v.page v.far g.numbers p was
        go (Head h) e = absurd (is h e)
        go (Body b) e = no_head_done gen v.page v.far g.numbers p was

      pub turns : Repaged e v (with_word v.page p word) v.far
      turns = with_page page_then (heads_written v.page p word e.layout.pages (λ h e. absurd (is h e)) g.heads) (apart_back v.page page_then back_then g.apart) (numbers_kept v.page p word gen v.far says_none g.numbers) back_then
          (left_forth v.page page_then v.far v.far v.clear (λ i s c ne. (forth_then s.p s.h s.head, ne)) g.unswept) (inside_forth v.page page_then v.alloc (λ i s ne. forth_then s.p s.h s.head) g.inside) where
            page_then : Row
            page_then = with_word v.page p word

            back_then : AreAlike v.page page_then
            back_then = turn_back v.page p word was is

            forth_then : AreAlike page_then v.page
            forth_then = turn_forth v.page p word was is

    -- An empty swept span is freed.
    module _ (p : ℕ) (h : SpanHead) (has : HasHead (v.page p) gen h) (empty : HasNoAllocBit v.alloc p h) where
      no_head : (k : SpanHead) → page_of 0 ≡ Head k → ⊥
      no_head k e = cc

      done_there : v.far p ≡ Done
      done_there = far_done gen v.page v.far g.numbers p h has.head has.number

      pub frees : Repaged e v (with_word v.page p 0) v.far
      frees = with_page page_then (heads_written v.page p 0 e.layout.pages (λ k e. absurd (no_head k e)) g.heads) (apart_back v.page page_then back_then g.apart) (numbers_kept v.page p 0 gen v.far done_there g.numbers) back_then
          (left_forth v.page page_then v.far v.far v.clear (λ i s c ne. (off_forth v.page p 0 s.p s.h (λ same. ne (ap v.far (sym same) ∙ done_there)) s.head, ne)) g.unswept)
          (inside_forth v.page page_then v.alloc (λ i s ne. off_forth v.page p 0 s.p s.h (λ same. ne (empty_there i s (sym same))) s.head) g.inside) where
            page_then : Row
            page_then = with_word v.page p 0

            back_then : AreAlike v.page page_then
            back_then = gone_back v.page p 0 no_head

            empty_there : (i : ℕ) (s : InSpan v.page i) → s.p ≡ p → v.alloc i ≡ 0
            empty_there i s at =
                let head : page_of (v.page p) ≡ Head s.h = ap (λ (n : ℕ). page_of (v.page n)) (sym at) ∙ s.head in
                let pages : h.pages ≡ s.h.pages = ap (λ (x : SpanHead). x.pages) (same_head h s.h (sym has.head ∙ head)) in
                empty i (omega (arith, s.from, at)) (omega (arith, s.below, at, pages))
