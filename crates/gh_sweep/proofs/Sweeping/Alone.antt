-- A sweep that runs alone: its words after each word of the span's bits, and at its end.
use Rattle.std.proofs.Common.{◌≡◌, ◌≢◌, ℕ, zero, suc, ◌+◌, ◌*◌, ◌/◌, ◌%◌, ◌^◌, ◌<◌, ◌≤◌, ◌↔◌, Bool, true, false, eqb, Some, refl, sym, ap, subst, ◌∙◌, arith, inl, inr, bit_and, min}
use Rattle.gh_sweep.proofs.Vocabulary.{after, alloc_bit, alloc_words, And, AreTold, Ask, asks, bit_at, bit_at_and, bit_words, Cell, cell_of, CellsAreTold, effect, freed, gives, goes, head_word, in_sweep, is_busy, IsBegun, IsInArena, kept, Layout, Leaves, listing, mark_bit, mark_words, marks_told, negative, once_swept, put, row_bit, RowsAreWritten, slot_bytes, span_of, SpanHead, steps_of, steps_on_bits, Store, Sweeping, SweepsAsTold, Swept, Words}
use Rattle.gh_sweep.specs.Alone.{alone, found_alone, from, IsOther, IsSwept, objects_freed, objects_kept, SweepsSpan}
use Rattle.gh_sweep.proofs.Sweeping.Counts.{freed_counted, kept_counted}
use Rattle.gh_sweep.proofs.Sweeping.Steps.{takes_its_steps}

module _ (cells : CellsAreTold) (rows : RowsAreWritten) (l : Layout) (page : ℕ) (head : SpanHead) (before : Words) (arena : IsInArena l page head) (fits : (c : Cell) → before c < 2 ^ 64) (begun : before (Cell.Page page) ≡ head_word head) where
  abbrev found : ℕ → ℕ
  found = found_alone l page head before

  abbrev routine : ℕ → Sweeping
  routine n = (alone l page head before n).routine

  abbrev words : ℕ → Words
  words n = (alone l page head before n).words

  abbrev bits : ℕ
  bits = bit_words head

  abbrev last : ℕ
  last = steps_on_bits head

  -- alone it is told what the words hold
  as_told : (n : ℕ) → routine n ≡ after l page head found n
  as_told zero = refl
  as_told (suc n) = ap (λ (s : Sweeping). goes s (found n)) (as_told n)

  steps : SweepsAsTold l page head found
  steps = takes_its_steps l page head found arena

  module _ (n : ℕ) (step : Ask) (e : asks l (after l page head found n) ≡ step) where
    asks_alone : asks l (routine n) ≡ step
    asks_alone = grind (arith, as_told)

    next_words : words (suc n) ≡ effect (words n) step
    next_words = ap (effect (words n)) asks_alone

    finds : found n ≡ words n (cell_of step)
    finds = ap (λ (s : Ask). words n (cell_of s)) asks_alone

  -- the first so many words of the span's bits are swept, and nothing else is changed but the head
  record Done (i : ℕ) (ws : Words) : Type 0 where
    head_is : ws (Cell.Page page) ≡ head_word (in_sweep head)
    cut : (j : ℕ) → j < i → ws (Cell.Alloc (16 * page + j)) ≡ bit_and (before (Cell.Alloc (16 * page + j))) (before (Cell.Mark (16 * page + j)))
    uncut : (j : ℕ) → i ≤ j → ws (Cell.Alloc (16 * page + j)) ≡ before (Cell.Alloc (16 * page + j))
    cleared : (j : ℕ) → j < i → ws (Cell.Mark (16 * page + j)) ≡ 0
    marked : (j : ℕ) → i ≤ j → ws (Cell.Mark (16 * page + j)) ≡ before (Cell.Mark (16 * page + j))
    tally : ws Cell.Tally ≡ before Cell.Tally
    live : ws Cell.Live ≡ before Cell.Live
    heap : ws Cell.Heap ≡ before Cell.Heap
    others : (c : Cell) → IsOther l page head before c → ws c ≡ before c

  -- the swap writes
  swapped : words 1 ≡ put before (Cell.Page page) (head_word (in_sweep head))
  swapped = grind arith

  none_done : Done 0 (put before (Cell.Page page) (head_word (in_sweep head)))
  none_done = grind arith

  module _ (i : ℕ) (lt : i < bits) (ws : Words) (done : Done i ws) where
    abbrev alloc_here : Cell
    alloc_here = Cell.Alloc (16 * page + i)

    abbrev mark_here : Cell
    mark_here = Cell.Mark (16 * page + i)

    abbrev with_cut : Words
    with_cut = put ws alloc_here (bit_and (ws alloc_here) (before mark_here))

    abbrev with_both : Words
    with_both = put with_cut mark_here 0

    stay : (c : Cell) → alloc_here ≢ c → mark_here ≢ c → with_both c ≡ ws c
    stay c a m = cells.put_elsewhere with_cut mark_here c 0 m ∙ cells.put_elsewhere ws alloc_here c (bit_and (ws alloc_here) (before mark_here)) a

    other_alloc : (j : ℕ) → i ≢ j → with_both (Cell.Alloc (16 * page + j)) ≡ ws (Cell.Alloc (16 * page + j))
    other_alloc j ne = stay (Cell.Alloc (16 * page + j)) (λ e. absurd (let same : 16 * page + i ≡ 16 * page + j = cc in ne (omega arith))) (λ e. absurd (cc))

    other_mark : (j : ℕ) → i ≢ j → with_both (Cell.Mark (16 * page + j)) ≡ ws (Cell.Mark (16 * page + j))
    other_mark j ne = stay (Cell.Mark (16 * page + j)) (λ e. absurd (cc)) (λ e. absurd (let same : 16 * page + i ≡ 16 * page + j = cc in ne (omega arith)))

    cut_here : with_both alloc_here ≡ bit_and (before alloc_here) (before mark_here)
    cut_here =
        cells.put_elsewhere with_cut mark_here alloc_here 0 (λ e. absurd (cc)) ∙ cells.put_here ws alloc_here (bit_and (ws alloc_here) (before mark_here))
        ∙ ap (λ (n : ℕ). bit_and n (before mark_here)) (done.uncut i (omega arith))

    cut_more : (j : ℕ) → j < suc i → (b : Bool) → eqb i j ≡ b → with_both (Cell.Alloc (16 * page + j)) ≡ bit_and (before (Cell.Alloc (16 * page + j))) (before (Cell.Mark (16 * page + j)))
    cut_more j below b e = grind (arith, cut_here, other_alloc)

    cleared_more : (j : ℕ) → j < suc i → (b : Bool) → eqb i j ≡ b → with_both (Cell.Mark (16 * page + j)) ≡ 0
    cleared_more j below b e = grind arith

    next_done : Done (suc i) with_both
    next_done = record {
      head_is = stay (Cell.Page page) (λ e. absurd (cc)) (λ e. absurd (cc)) ∙ done.head_is;
      cut = λ j below. cut_more j below _ refl;
      uncut = λ j ge. other_alloc j (λ e. absurd (omega arith)) ∙ done.uncut j (omega arith);
      cleared = λ j below. cleared_more j below _ refl;
      marked = λ j ge. other_mark j (λ e. absurd (omega arith)) ∙ done.marked j (omega arith);
      tally = stay Cell.Tally (λ e. absurd (cc)) (λ e. absurd (cc)) ∙ done.tally;
      live = stay Cell.Live (λ e. absurd (cc)) (λ e. absurd (cc)) ∙ done.live;
      heap = stay Cell.Heap (λ e. absurd (cc)) (λ e. absurd (cc)) ∙ done.heap;
      others = λ c o. stay c (λ e. o.alloc i lt (sym e)) (λ e. o.mark i lt (sym e)) ∙ done.others c o;
    }

  begins : IsBegun l page head found
  begins = begun

  -- the three steps on a word
  module _ (i : ℕ) (lt : i < bits) (done : Done i (words (1 + 3 * i))) where
    finds_marks : found (1 + 3 * i) ≡ before (Cell.Mark (16 * page + i))
    finds_marks = finds (1 + 3 * i) _ (steps.on_words begins i lt).loads_marks ∙ done.marked i (omega arith)

    loaded : words (2 + 3 * i) ≡ words (1 + 3 * i)
    loaded = let next : 2 + 3 * i ≡ suc (1 + 3 * i) = omega arith in ap words next ∙ next_words (1 + 3 * i) _ (steps.on_words begins i lt).loads_marks

    finds_alloc : found (2 + 3 * i) ≡ before (Cell.Alloc (16 * page + i))
    finds_alloc = finds (2 + 3 * i) _ (steps.on_words begins i lt).clears_bits ∙ ap (λ (ws : Words). ws (Cell.Alloc (16 * page + i))) loaded ∙ done.uncut i (omega arith)

    has_cut : words (3 + 3 * i) ≡ with_cut i lt (words (1 + 3 * i)) done
    has_cut =
        let next : 3 + 3 * i ≡ suc (2 + 3 * i) = omega arith in
        ap words next ∙ next_words (2 + 3 * i) _ (steps.on_words begins i lt).clears_bits
        ∙ ap (λ (ws : Words). effect ws (And (Cell.Alloc (16 * page + i)) (marks_told found i))) loaded ∙ ap (λ (m : ℕ). effect (words (1 + 3 * i)) (And (Cell.Alloc (16 * page + i)) m)) finds_marks

    has_both : words (1 + 3 * suc i) ≡ with_both i lt (words (1 + 3 * i)) done
    has_both =
        let next : 1 + 3 * suc i ≡ suc (3 + 3 * i) = omega arith in
        ap words next ∙ next_words (3 + 3 * i) _ (steps.on_words begins i lt).clears_marks ∙ ap (λ (ws : Words). effect ws (Store (Cell.Mark (16 * page + i)) 0)) has_cut

  done_until : (i : ℕ) → i ≤ bits → Done i (words (1 + 3 * i))
  done_until zero le = subst (λ (ws : Words). Done 0 ws) (sym swapped) none_done
  done_until (suc i) le =
      let lt : i < bits = omega arith in
      let done : Done i (words (1 + 3 * i)) = done_until i (omega arith) in
      subst (λ (ws : Words). Done (suc i) ws) (sym (has_both i lt done)) (next_done i lt (words (1 + 3 * i)) done)

  are_told : AreTold (alloc_words before) (mark_words before) l page head found
  are_told = grind (arith, done_until, finds_alloc, finds_marks)

  kept_is : kept l page head found ≡ objects_kept l page head before
  kept_is = kept_counted rows (alloc_words before) (mark_words before) l page head found (λ i. fits (Cell.Alloc i)) (λ i. fits (Cell.Mark i)) are_told

  freed_is : freed l page head found ≡ objects_freed l page head before
  freed_is = freed_counted rows (alloc_words before) (mark_words before) l page head found (λ i. fits (Cell.Alloc i)) (λ i. fits (Cell.Mark i)) are_told

  -- the last four steps
  abbrev told_tally : Words → Words
  told_tally ws = put ws Cell.Tally ((ws Cell.Tally + (kept l page head found + 2 ^ 32 * freed l page head found)) % 2 ^ 64)

  abbrev told_live : Words → Words
  told_live ws = put ws Cell.Live ((ws Cell.Live + kept l page head found * slot_bytes head) % 2 ^ 64)

  abbrev told_heap : Words → Words
  told_heap ws = put ws Cell.Heap ((ws Cell.Heap + negative (freed l page head found * slot_bytes head)) % 2 ^ 64)

  abbrev finished : Words → Words
  finished ws = put ws (Cell.Page page) (head_word (once_swept head))

  ends_at : words (last + 4) ≡ finished (told_heap (told_live (told_tally (words last))))
  ends_at =
      let one : last + 1 ≡ suc last = omega arith in
      let two : last + 2 ≡ suc (last + 1) = omega arith in
      let three : last + 3 ≡ suc (last + 2) = omega arith in
      let four : last + 4 ≡ suc (last + 3) = omega arith in
      let a : words (last + 1) ≡ told_tally (words last) = ap words one ∙ next_words last _ (steps.on_counts begins).adds_tally in
      let b : words (last + 2) ≡ told_live (told_tally (words last)) = ap words two ∙ next_words (last + 1) _ (steps.on_counts begins).adds_live ∙ ap told_live a in
      let c : words (last + 3) ≡ told_heap (told_live (told_tally (words last))) = ap words three ∙ next_words (last + 2) _ (steps.on_counts begins).adds_heap ∙ ap told_heap b in
      ap words four ∙ next_words (last + 3) _ (steps.on_counts begins).finishes ∙ ap finished c

  module _ (ws : Words) (done : Done bits ws) where
    abbrev end : Words
    end = finished (told_heap (told_live (told_tally ws)))

    -- but the counts and the head no cell is changed by them
    as_before : (c : Cell) → Cell.Tally ≢ c → Cell.Live ≢ c → Cell.Heap ≢ c → Cell.Page page ≢ c → end c ≡ ws c
    as_before c t v h p =
        cells.put_elsewhere (told_heap (told_live (told_tally ws))) (Cell.Page page) c _ p ∙ cells.put_elsewhere (told_live (told_tally ws)) Cell.Heap c _ h ∙ cells.put_elsewhere (told_tally ws) Cell.Live c _ v ∙ cells.put_elsewhere ws Cell.Tally c _ t

    alloc_at_end : (j : ℕ) → j < bits → end (Cell.Alloc (16 * page + j)) ≡ bit_and (before (Cell.Alloc (16 * page + j))) (before (Cell.Mark (16 * page + j)))
    alloc_at_end j lt = as_before (Cell.Alloc (16 * page + j)) (λ e. absurd (cc)) (λ e. absurd (cc)) (λ e. absurd (cc)) (λ e. absurd (cc)) ∙ done.cut j lt

    bit_in : (row : ℕ → ℕ) (k : ℕ) → row_bit row (1024 * page + k) ≡ bit_at (row (16 * page + k / 64)) (k % 64)
    bit_in row k =
        let word : (1024 * page + k) / 64 ≡ 16 * page + k / 64 = omega arith in
        let place : (1024 * page + k) % 64 ≡ k % 64 = omega arith in
        rows.bit_of row (16 * page + k / 64) (1024 * page + k) word ∙ ap (λ (n : ℕ). bit_at (row (16 * page + k / 64)) n) place

    least_bit : (k : ℕ) → k < 1024 * head.pages → alloc_bit end (1024 * page + k) ≡ min (alloc_bit before (1024 * page + k)) (mark_bit before (1024 * page + k))
    least_bit k lt =
        bit_in (alloc_words end) k ∙ ap (λ (n : ℕ). bit_at n (k % 64)) (alloc_at_end (k / 64) (omega arith)) ∙ bit_at_and (before (Cell.Alloc (16 * page + k / 64))) (before (Cell.Mark (16 * page + k / 64))) (k % 64)
        ∙ ap (λ (n : ℕ). min n (bit_at (before (Cell.Mark (16 * page + k / 64))) (k % 64))) (sym (bit_in (alloc_words before) k)) ∙ ap (λ (n : ℕ). min (alloc_bit before (1024 * page + k)) n) (sym (bit_in (mark_words before) k))

    bit_small : (row : ℕ → ℕ) (k : ℕ) → row_bit row (1024 * page + k) < 2
    bit_small row k = grind (arith, bit_in)

    both_bits : (e a m : ℕ) → a < 2 → m < 2 → e ≡ min a m → (e ≡ 1) ↔ ((a ≡ 1) × (m ≡ 1))
    both_bits e a m small low is = (λ one. (omega arith, omega arith), λ h. let x : a ≡ 1 = h.0 in let y : m ≡ 1 = h.1 in omega arith)

    tally_at_end : end Cell.Tally ≡ (before Cell.Tally + (objects_kept l page head before + 2 ^ 32 * objects_freed l page head before)) % 2 ^ 64
    tally_at_end =
        ap (λ (n : ℕ). (n + (kept l page head found + 2 ^ 32 * freed l page head found)) % 2 ^ 64) done.tally
        ∙ ap (λ (n : ℕ). (before Cell.Tally + (n + 2 ^ 32 * freed l page head found)) % 2 ^ 64) kept_is ∙ ap (λ (n : ℕ). (before Cell.Tally + (objects_kept l page head before + 2 ^ 32 * n)) % 2 ^ 64) freed_is

    live_at_end : end Cell.Live ≡ (before Cell.Live + objects_kept l page head before * slot_bytes head) % 2 ^ 64
    live_at_end = ap (λ (n : ℕ). (n + kept l page head found * slot_bytes head) % 2 ^ 64) done.live ∙ ap (λ (n : ℕ). (before Cell.Live + n * slot_bytes head) % 2 ^ 64) kept_is

    taken_off : (bytes heap : ℕ) → heap < 2 ^ 64 → ((heap + negative bytes) % 2 ^ 64 + bytes) % 2 ^ 64 ≡ heap
    taken_off bytes heap lt = omega arith

    heap_at_end : (end Cell.Heap + objects_freed l page head before * slot_bytes head) % 2 ^ 64 ≡ before Cell.Heap
    heap_at_end =
        let e : end Cell.Heap ≡ (before Cell.Heap + negative (objects_freed l page head before * slot_bytes head)) % 2 ^ 64 =
        ap (λ (n : ℕ). (n + negative (freed l page head found * slot_bytes head)) % 2 ^ 64) done.heap ∙ ap (λ (n : ℕ). (before Cell.Heap + negative (n * slot_bytes head)) % 2 ^ 64) freed_is in
        ap (λ (n : ℕ). (n + objects_freed l page head before * slot_bytes head) % 2 ^ 64) e ∙ taken_off (objects_freed l page head before * slot_bytes head) (before Cell.Heap) (fits Cell.Heap)

    is_swept : IsSwept l page head before end
    is_swept = grind (arith, as_before, bit_small, both_bits, heap_at_end, least_bit, live_at_end, tally_at_end)

  -- it is busy up to its last step
  busy_until : (n : ℕ) → n < last + 4 → is_busy (routine n).stage ≡ true
  busy_until n lt = grind (arith, as_told, begins, steps)

  over : is_busy (routine (last + 4)).stage ≡ false
  over = by (is_busy (routine (last + 4)).stage) refl where
    by : (b : Bool) → is_busy (routine (last + 4)).stage ≡ b → b ≡ false
    by false e = refl
    by true e = elim ((steps.goes_on (last + 4)).0 (sym (ap (λ (s : Sweeping). is_busy s.stage) (as_told (last + 4))) ∙ e)) [
      | inl z ↦ absurd (omega arith)
      | inr h ↦ absurd (let lt : last + 4 < last + 4 = h.1 in omega arith)
    ]

  leaves_swept : Leaves (steps_of l (listing l)) (from l page head before) (IsSwept l page head before)
  leaves_swept = record {
    steps = last + 4;
    busy = busy_until;
    ended = over;
    left = subst (λ (ws : Words). IsSwept l page head before ws) (sym ends_at) (is_swept (words last) (done_until bits (omega arith)));
  }

  pub sweeps : SweepsSpan l page head before
  unfolding leaves_swept
  sweeps = record {
    leaves = leaves_swept;
    steps = refl;
    gives_counts =
        ap (λ (s : Sweeping). gives s (found (last + 3))) (as_told (last + 3)) ∙ ((steps.swept (last + 3) (span_of head (kept l page head found) (freed l page head found))).1 (begins, refl, refl)).1
        ∙ ap (λ (k : ℕ). Some (Swept (span_of head k (freed l page head found)))) kept_is ∙ ap (λ (f : ℕ). Some (Swept (span_of head (objects_kept l page head before) f))) freed_is;
  }
