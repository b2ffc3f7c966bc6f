-- The counts: what a word that is cut, a count that is told and an object that is placed change of them.
use Rattle.std.proofs.Common.{◌≡◌, ℕ, ◌+◌, ◌-◌, ◌*◌, ◌%◌, ◌^◌, ◌<◌, ◌≤◌, Bool, true, false, cond, sym, ap, ◌∙◌, arith, bit_and, count_ones}
use Rattle.gh_sweep.proofs.Vocabulary.{add-mul, alloc_at, and_le_l, AreWords, bit_words_of, cleared_at, CycleEnd, Due, FewGood, freed_at, HasEnded, HeapGood, in_all, kept_at, live_at, LiveGood, marks_at, negative, ones-le, owed, placed, placed_behind, placed_in, Row, seats_of, sum_below, tally_word, TallyGood, update, with_word, with_word_cut}
use Rattle.gh_base.specs.declared.limits.TheConstants.{MOST_PAGES}
use Rattle.gh_sweep.proofs.Sharing.Sums.{at_entry, behind_at, behind_cut_at, bytes_few, left_at, off_entry, owed_at, placed_at, sum_at, sum_few, sum_least}

-- How great the counts are.

few_ones : (alloc marks : ℕ) → alloc < 2 ^ 64 → count_ones (bit_and alloc marks) ≤ 64
few_ones alloc marks l = ones-le 64 (bit_and alloc marks) (let le = and_le_l alloc marks in omega arith)

module _ (e : CycleEnd) (ended : HasEnded e) where
  few_words : bit_words_of e ≤ 2 ^ 14
  few_words = let most : e.layout.pages ≤ MOST_PAGES = e.layout.limits.pages_fit.1 in omega arith

  all_few : (each : ℕ → ℕ) → ((i : ℕ) → each i ≤ 2 ^ 32) → in_all e each ≤ 2 ^ 46
  all_few each few = let most = sum_few each (2 ^ 32) (bit_words_of e) few in let words = few_words in omega arith

  pub kept_few : in_all e (kept_at e) < 2 ^ 32
  kept_few = let most = sum_few (kept_at e) 64 (bit_words_of e) (λ i. few_ones (alloc_at e i) (marks_at e i) (ended.alloc_fits i)) in let words = few_words in omega arith

  pub freed_few : in_all e (freed_at e) < 2 ^ 32
  freed_few = let most = sum_few (freed_at e) 64 (bit_words_of e) (λ i. few_ones (alloc_at e i) (2 ^ 64 - 1 - marks_at e i) (ended.alloc_fits i)) in let words = few_words in omega arith

  cut_few : (i marks : ℕ) → count_ones (bit_and (alloc_at e i) marks) * e.slot i ≤ 2 ^ 32
  cut_few i marks = bytes_few (bit_and (alloc_at e i) marks) (e.slot i) (let l = ended.alloc_fits i in let le = and_le_l (alloc_at e i) marks in omega arith) (ended.few i)

  pub live_few : in_all e (live_at e) ≤ 2 ^ 46
  live_few = all_few (live_at e) (λ i. cut_few i (marks_at e i))

  pub cleared_few : in_all e (cleared_at e) ≤ 2 ^ 46
  cleared_few = all_few (cleared_at e) (λ i. cut_few i (2 ^ 64 - 1 - marks_at e i))

  pub placed_few : (alloc slot : Row) → AreWords alloc → FewGood slot → placed alloc slot (bit_words_of e) ≤ 2 ^ 46
  placed_few alloc slot fits few = all_few (placed_in alloc slot) (λ i. bytes_few (alloc i) (slot i) (fits i) (few i))

pub behind_least : (alloc slot : Row) (cut : ℕ → Bool) (n : ℕ) → placed_behind alloc slot cut n ≤ placed alloc slot n
behind_least alloc slot cut n = sum_least (λ i. cond (cut i) (placed_in alloc slot i) 0) (placed_in alloc slot) n (λ q. go q (cut q)) where
  go : (q : ℕ) (b : Bool) → cond b (placed_in alloc slot q) 0 ≤ placed_in alloc slot q
  go q true = omega arith
  go q false = omega arith

-- A word is cut.
module _ (e : CycleEnd) (cut : ℕ → Bool) (due : ℕ → Due) (a i k f b : ℕ) (seat : a < seats_of e.layout) (within : i < bit_words_of e) (uncut : cut i ≡ false) (kept : k ≡ kept_at e i) (freed : f ≡ freed_at e i) (bytes : b ≡ e.slot i) where
  abbrev due_then : ℕ → Due
  due_then = update due a (with_word_cut (due a) k f b)

  pub tally_cut : (word : ℕ) → TallyGood e word cut due → TallyGood e word (update cut i true) due_then
  tally_cut word g = record {
    marked = omega (arith, g.marked, left_at (kept_at e) cut i (bit_words_of e) within uncut, owed_at (λ d. d.kept) due a (seats_of e.layout) (with_word_cut (due a) k f b) seat, kept);
    freed = omega (arith, g.freed, left_at (freed_at e) cut i (bit_words_of e) within uncut, owed_at (λ d. d.freed) due a (seats_of e.layout) (with_word_cut (due a) k f b) seat, freed);
  }

  live_is : k * b ≡ live_at e i
  live_is = ap (λ (n : ℕ). n * b) kept ∙ ap (λ (n : ℕ). kept_at e i * n) bytes

  cleared_is : f * b ≡ cleared_at e i
  cleared_is = ap (λ (n : ℕ). n * b) freed ∙ ap (λ (n : ℕ). freed_at e i * n) bytes

  pub live_cut : (word : ℕ) → LiveGood e word cut due → LiveGood e word (update cut i true) due_then
  live_cut word g = omega (arith, g, left_at (live_at e) cut i (bit_words_of e) within uncut, owed_at (λ d. d.live) due a (seats_of e.layout) (with_word_cut (due a) k f b) seat, live_is)

  pub heap_cut : (word v : ℕ) (alloc slot pend : Row) → slot i ≡ b → count_ones v ≡ k → k + f ≡ count_ones (alloc i) → HeapGood e word alloc slot cut due pend → HeapGood e word (with_word alloc i v) slot (update cut i true) due_then pend
  heap_cut word v alloc slot pend same ones all g =
      let was : placed_in alloc slot i ≡ k * b + f * b = ap (λ (n : ℕ). count_ones (alloc i) * n) same ∙ (ap (λ (n : ℕ). n * b) (sym all) ∙ add-mul k f b) in
      let is : count_ones v * slot i ≡ k * b = ap (λ (n : ℕ). count_ones v * n) same ∙ ap (λ (n : ℕ). n * b) ones in
      let cleared = owed_at (λ d. d.cleared) due a (seats_of e.layout) (with_word_cut (due a) k f b) seat in
      let none : cond (cut i) (placed_in alloc slot i) 0 ≡ 0 = ap (λ (t : Bool). cond t (placed_in alloc slot i) 0) uncut in
      record {
        heap = omega (arith, g.heap, placed_at alloc slot i v (bit_words_of e) within, was, is, cleared);
        pending = omega (arith, g.pending, behind_at alloc slot i v (bit_words_of e) within cut, none);
        freed = omega (arith, g.freed, left_at (cleared_at e) cut i (bit_words_of e) within uncut, cleared, cleared_is);
      }

-- What an actor has to tell is told.
module _ (e : CycleEnd) (ended : HasEnded e) (cut : ℕ → Bool) (due : ℕ → Due) (a : ℕ) (seat : a < seats_of e.layout) where
  abbrev tally_due : ℕ → Due
  tally_due = update due a (record (due a) { kept = 0; freed = 0 })

  abbrev live_due : ℕ → Due
  live_due = update due a (record (due a) { live = 0 })

  abbrev heap_due : ℕ → Due
  heap_due = update due a (record (due a) { cleared = 0 })

  -- a part of which nothing is told
  kept_part : (part : Due → ℕ) (d : Due) → part d ≡ part (due a) → owed part (update due a d) (seats_of e.layout) ≡ owed part due (seats_of e.layout)
  kept_part part d same = let at = owed_at part due a (seats_of e.layout) d seat in omega (arith, at, same)

  pub tally_tells : (word : ℕ) → TallyGood e word cut due → TallyGood e ((word + tally_word (record { marked = (due a).kept; freed = (due a).freed })) % 2 ^ 64) cut tally_due
  tally_tells word g =
      let k = owed_at (λ d. d.kept) due a (seats_of e.layout) (record (due a) { kept = 0; freed = 0 }) seat in
      let f = owed_at (λ d. d.freed) due a (seats_of e.layout) (record (due a) { kept = 0; freed = 0 }) seat in
      let most_kept = kept_few e ended in
      let most_freed = freed_few e ended in
      let m = g.marked in
      let n = g.freed in
      record { marked = omega arith; freed = omega arith }

  pub tally_stays : (word : ℕ) (d : Due) → d.kept ≡ (due a).kept → d.freed ≡ (due a).freed → TallyGood e word cut due → TallyGood e word cut (update due a d)
  tally_stays word d k f g = record {
    marked = omega (arith, g.marked, kept_part (λ x. x.kept) d k);
    freed = omega (arith, g.freed, kept_part (λ x. x.freed) d f);
  }

  pub live_tells : (word : ℕ) → LiveGood e word cut due → LiveGood e ((word + (due a).live) % 2 ^ 64) cut live_due
  live_tells word g =
      let l = owed_at (λ d. d.live) due a (seats_of e.layout) (record (due a) { live = 0 }) seat in
      let most = live_few e ended in
      omega (arith, g)

  pub live_stays : (word : ℕ) (d : Due) → d.live ≡ (due a).live → LiveGood e word cut due → LiveGood e word cut (update due a d)
  live_stays word d l g = omega (arith, g, kept_part (λ x. x.live) d l)

  module _ (alloc slot pend : Row) (fits : AreWords alloc) (few : FewGood slot) (word : ℕ) (g : HeapGood e word alloc slot cut due pend) where
    pub heap_stays : (d : Due) → d.cleared ≡ (due a).cleared → HeapGood e word alloc slot cut (update due a d) pend
    heap_stays d c = record {
      heap = omega (arith, g.heap, kept_part (λ x. x.cleared) d c);
      pending = g.pending;
      freed = omega (arith, g.freed, kept_part (λ x. x.cleared) d c);
    }

    pub heap_tells : HeapGood e ((word + negative (due a).cleared) % 2 ^ 64) alloc slot cut heap_due pend
    heap_tells =
        let c = owed_at (λ d. d.cleared) due a (seats_of e.layout) (record (due a) { cleared = 0 }) seat in
        let h = g.heap in
        let p = g.pending in
        let f = g.freed in
        let behind = behind_least alloc slot cut (bit_words_of e) in
        let most = placed_few e ended alloc slot fits few in
        let more = cleared_few e ended in
        record { heap = omega arith; pending = p; freed = omega arith }

    -- bytes placed are counted
    pub heap_counts : HeapGood e ((word + pend a) % 2 ^ 64) alloc slot cut due (with_word pend a 0)
    heap_counts =
        let c : sum_below (with_word pend a 0) (seats_of e.layout) + pend a ≡ sum_below pend (seats_of e.layout) + with_word pend a 0 a = sum_at pend (with_word pend a 0) a (seats_of e.layout) seat (λ q ne. off_entry pend a q 0 (λ y. ne (sym y))) in
        let none : with_word pend a 0 a ≡ 0 = at_entry pend a 0 in
        let h = g.heap in
        let p = g.pending in
        let f = g.freed in
        let most = placed_few e ended alloc slot fits few in
        let more = cleared_few e ended in
        record { heap = omega arith; pending = omega arith; freed = f }

    -- an object is placed in a word that is cut
    pub heap_places : (i v : ℕ) → i < bit_words_of e → cut i ≡ true → count_ones v ≡ count_ones (alloc i) + 1 → HeapGood e word (with_word alloc i v) slot cut due (with_word pend a (pend a + slot i))
    heap_places i v within is_cut ones =
        let more : count_ones v * slot i ≡ placed_in alloc slot i + slot i = ap (λ (n : ℕ). n * slot i) ones ∙ (let m = add-mul (count_ones (alloc i)) 1 (slot i) in omega arith) in
        let c : sum_below (with_word pend a (pend a + slot i)) (seats_of e.layout) + pend a ≡ sum_below pend (seats_of e.layout) + with_word pend a (pend a + slot i) a =
        sum_at pend (with_word pend a (pend a + slot i)) a (seats_of e.layout) seat (λ q ne. off_entry pend a q (pend a + slot i) (λ y. ne (sym y))) in
        let is : with_word pend a (pend a + slot i) a ≡ pend a + slot i = at_entry pend a (pend a + slot i) in
        record {
          heap = omega (arith, g.heap, placed_at alloc slot i v (bit_words_of e) within, more, c, is);
          pending = omega (arith, g.pending, behind_cut_at alloc slot i v (bit_words_of e) within cut is_cut, more, c, is);
          freed = g.freed;
        }
