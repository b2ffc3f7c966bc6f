-- Who holds which buffer: steps are moves, and moves keep what others hold.
use Rattle.std.proofs.Common.{◌≡◌, ◌≢◌, ℕ, ◌+◌, ◌-◌, ◌*◌, ◌%◌, ◌<◌, ◌≤◌, Bool, true, cond, eqb, leb, Option, Some, None, refl, sym, ap, subst, ◌∙◌, arith, ◌&&◌}
use Rattle.std.proofs.lemmas.Bool.{eq-eqb}
use Rattle.gh_base.proofs.Vocabulary.{buffer_of, buffer_word, Cell, Load, nat_tests, Or, put, Row, Store, Swap, with_word, Words}
use Rattle.gh_base.specs.declared.cell.Cell.TheVariants.{Mark, Buffer, Entry}
use Rattle.gh_base.specs.declared.held.Held.{Held}
use Rattle.gh_base.specs.declared.pack.TheConstants.{ENTRIES}
use Rattle.gh_base.specs.Holding.{AreBuffersOf, AreCounted, Buffers, BuffersAreHeld, holder_in, HoldsBuffer, IsIt, KnowsCount, May, Move, moved, Moves, MovesKeep, StepsAreMoves, with_entry}
use Rattle.gh_base.specs.Holding as move

same_written : (row other : Row) (b v w x : ℕ) → v ≡ w → row x ≡ other x → with_word row b v x ≡ with_word other b w x
same_written row other b v w x e f = grind arith

small_count : (n : ℕ) → n ≤ ENTRIES → (buffer_of n).count ≡ n
small_count n le =
    let is : n % 256 ≡ n = omega arith in
    let yes : leb (n % 256) 253 ≡ true = grind (arith, nat_tests) in
    ap (λ (t : Bool). cond t (n % 256) 0) yes ∙ is

module _ (seat : ℕ) (s : Buffers) (words : Words) (counted : AreCounted s) (shown : AreBuffersOf words s) where
  loads : (c : Cell) (held : Option Held) → HoldsBuffer s seat held → Moves seat s words (Load c) held
  loads c held holds = record { move = move.Stays; may = tt; leaves = shown; holds = holds }

  marks : (i bits : ℕ) (held : Option Held) → HoldsBuffer s seat held → Moves seat s words (Or (Mark i) bits) held
  marks i bits held holds = record { move = move.Stays; may = tt; leaves = record { word_is = shown.word_is; entry_is = shown.entry_is }; holds = holds }

  gives_back : (h : Held) → HoldsBuffer s seat (Some h) → Moves seat s words (Store (Buffer h.index) (buffer_word (record { count = h.count; holder = 0 }))) None
  gives_back h holds =
      let is : h.count + 256 * 0 ≡ s.filled h.index = (let c : s.filled h.index ≡ h.count = holds.count in omega arith) in
      record {
        move = move.GivesBuffer h.index;
        may = (holds.only h.index).1 refl;
        leaves = record {
          word_is = λ x. same_written (λ y. words (Buffer y)) s.words h.index _ _ x is (shown.word_is x);
          entry_is = shown.entry_is;
        };
        holds = record { only = λ x. (not_held x, λ no. absurd no); count = tt };
      } where
        not_held : (x : ℕ) → holder_in (with_word s.words h.index (s.filled h.index) x) ≡ seat + 1 → ⊥
        not_held x e = grind arith

  swaps_nothing : (b word new : ℕ) (held : Option Held) → HoldsBuffer s seat held → words (Buffer b) ≢ word → Moves seat s words (Swap (Buffer b) word new) held
  swaps_nothing b word new held holds ne = grind arith

  takes_buffer : (b word : ℕ) → HoldsBuffer s seat None → holder_in word ≡ 0 → words (Buffer b) ≡ word →
      Moves seat s words (Swap (Buffer b) word (buffer_word (record { count = (buffer_of word).count; holder = seat + 1 }))) (Some (record { index = b; count = (buffer_of word).count }))
  takes_buffer b word holds free there =
      let is : s.words b ≡ word = sym (shown.word_is b) ∙ there in
      let nobody : holder_in (s.words b) ≡ 0 = ap holder_in is ∙ free in
      let filled_is : word ≡ s.filled b = sym is ∙ counted.free b nobody in
      let few : word ≤ ENTRIES = subst (λ (n : ℕ). n ≤ ENTRIES) (sym filled_is) (counted.few b) in
      let count_is : (buffer_of word).count ≡ s.filled b = small_count word few ∙ filled_is in
      let new_is : (buffer_of word).count + 256 * (seat + 1) ≡ s.filled b + 256 * (seat + 1) = ap (λ (n : ℕ). n + 256 * (seat + 1)) count_is in
      record {
        move = move.TakesBuffer b;
        may = nobody;
        leaves = written_so (eqb (words (Buffer b)) word) (eq-eqb _ _ there) new_is;
        holds = record { only = λ x. (it_alone x, λ same. held_now x same); count = sym count_is };
      } where
        written_so : (t : Bool) → t ≡ true → (buffer_of word).count + 256 * (seat + 1) ≡ s.filled b + 256 * (seat + 1) →
            AreBuffersOf (cond t (put words (Buffer b) ((buffer_of word).count + 256 * (seat + 1))) words) (moved seat s (move.TakesBuffer b))
        written_so t e new_is = grind arith

        it_alone : (x : ℕ) → holder_in (with_word s.words b (s.filled b + 256 * (seat + 1)) x) ≡ seat + 1 → b ≡ x
        it_alone x e = grind arith

        held_now : (x : ℕ) → b ≡ x → holder_in (with_word s.words b (s.filled b + 256 * (seat + 1)) x) ≡ seat + 1
        held_now x same = grind arith

  at_own : (h : Held) (n : ℕ) → with_word s.filled h.index n h.index ≡ n
  at_own h n = ap (λ (t : Bool). cond t n (s.filled h.index)) (eq-eqb h.index h.index refl)

  takes_entry : (h : Held) → HoldsBuffer s seat (Some h) → 0 < h.count → Moves seat s words (Load (Entry h.index (h.count - 1))) (Some (record { index = h.index; count = h.count - 1 }))
  takes_entry h holds some =
      let count_is : s.filled h.index ≡ h.count = holds.count in
      record {
        move = move.TakesEntry h.index;
        may = ((holds.only h.index).1 refl, omega arith);
        leaves = record { word_is = shown.word_is; entry_is = shown.entry_is };
        holds = record { only = holds.only; count = at_own h (s.filled h.index - 1) ∙ ap (λ (n : ℕ). n - 1) count_is };
      }

  puts_entry : (h : Held) (entry : ℕ) → HoldsBuffer s seat (Some h) → h.count < ENTRIES → Moves seat s words (Store (Entry h.index h.count) entry) (Some (record { index = h.index; count = h.count + 1 }))
  puts_entry h entry holds room =
      let count_is : s.filled h.index ≡ h.count = holds.count in
      record {
        move = move.PutsEntry h.index entry;
        may = ((holds.only h.index).1 refl, omega arith);
        leaves = record {
          word_is = shown.word_is;
          entry_is = λ x j. ap (λ (n : ℕ). cond (eqb h.index x && eqb n j) entry (words (Entry x j))) (sym count_is) ∙ ap (λ (n : ℕ). cond (eqb h.index x && eqb (s.filled h.index) j) entry n) (shown.entry_is x j);
        };
        holds = record { only = holds.only; count = at_own h (s.filled h.index + 1) ∙ ap (λ (n : ℕ). n + 1) count_is };
      }

  pub steps : StepsAreMoves seat s words
  steps = grind (arith, gives_back, loads, marks, puts_entry, swaps_nothing, takes_buffer, takes_entry)

module _ (seat : ℕ) (s : Buffers) (counted : AreCounted s) where
  keeps_counted : (m : Move) → May seat s m → AreCounted (moved seat s m)
  keeps_counted m may = grind arith

  module _ (other : ℕ) (apart : other ≢ seat) where
    keeps_others : (held : Option Held) (m : Move) → May seat s m → HoldsBuffer s other held → HoldsBuffer (moved seat s m) other held
    keeps_others held m may holds = grind arith

pub held : BuffersAreHeld
held = grind (arith, keeps_counted, keeps_others, steps)
