-- While a cycle is marked what was placed where it began stays placed: no step of a processor takes an object from where it is placed, and no quiet step of another does.
use Rattle.std.proofs.Common.{◌≡◌, inl, inr, ℕ, ◌/◌, Bool, true, false, cond, refl, sym, ap, subst, ◌∙◌, arith}
use Rattle.gh_holds.proofs.Vocabulary.{alloc_words, Arena, Ask, birth_word, Cell, effect, eqb_tells, Footprint, FootprintsHold, Heap, IsPlacedAt, Name, row_bit, row_of, RowsAreWritten, view, Words, Writes}
use Rattle.gh_base.specs.Footprints as row
use Rattle.gh_heap.specs.Moves as heap

-- what is placed by the one words is so by the others
abbrev pub Stays : Words → Words → Type 0
Stays w v = (n : Name) (x : ℕ) → IsPlacedAt w n x → IsPlacedAt v n x

-- alloc and birth words are as they were
by_rows : (w v : Words) → ((i : ℕ) → v (Cell.Alloc i) ≡ w (Cell.Alloc i)) → ((i : ℕ) → v (Cell.Birth i) ≡ w (Cell.Birth i)) → Stays w v
unfolding row_bit
by_rows w v allocs births n x p = record { set = rw (allocs (x / 64)) p.set; says = births x ∙ p.says }

-- the rows that a quiet step may write, of these two
abbrev quiet_rows : Footprint
quiet_rows row.Alloc = false
quiet_rows row.Birth = false
quiet_rows _ = true

quiet_cell : (c : Cell) → heap.IsAside c → quiet_rows (row_of c) ≡ true
quiet_cell c is = grind arith

quiet_writes : (ask : Ask) → heap.IsQuiet ask → Writes quiet_rows ask
quiet_writes ask is = grind (arith, quiet_cell)

module _ (k : FootprintsHold) where
  pub quiet_stays : (ask : Ask) → heap.IsQuiet ask → (w : Words) → Stays w (effect w ask)
  quiet_stays ask is w = by_rows w (effect w ask) (λ i. k.leaves quiet_rows ask w (Cell.Alloc i) (quiet_writes ask is) refl) (λ i. k.leaves quiet_rows ask w (Cell.Birth i) (quiet_writes ask is) refl)

  -- A slot whose birth word is written is clear, and making an object sets a bit.
  module _ (rows : RowsAreWritten) (z : Arena) (a : ℕ) (h : Heap) where
    abbrev after : heap.Move → Words
    after m = (heap.moved z a h m).words

    pub move_stays : (m : heap.Move) → heap.May z a (view h) m → Stays h.words (after m)
    move_stays (heap.Quiet step) may n x p = quiet_stays step may h.words n x p
    move_stays (heap.Takes step g d value) may n x p = quiet_stays step may.0 h.words n x p
    move_stays (heap.Ends step g) may n x p = quiet_stays step may.0 h.words n x p
    move_stays (heap.SetBirth at size name) may n x p = elim (eqb_tells at x) [
      | inl y ↦ absurd (let clear = may.clear in let set = ap (λ (i : ℕ). row_bit (alloc_words h.words) i) y.1 ∙ p.set in omega (arith, clear, set))
      | inr ne ↦ record { set = p.set; says = subst (λ (b : Bool). cond b (birth_word name) (h.words (Cell.Birth x)) ≡ birth_word n) (sym ne.0) p.says }
    ]
    move_stays (heap.Make at g d t) may n x p = elim (eqb_tells at x) [
      | inl y ↦ record { set = ap (λ (i : ℕ). row_bit (alloc_words (after (heap.Make at g d t))) i) (sym y.1) ∙ rows.sets_one (alloc_words h.words) at; says = p.says }
      | inr ne ↦ record { set = rows.sets_no_other (alloc_words h.words) at x ne.1 ∙ p.set; says = p.says }
    ]
    move_stays _ may n x p = p
