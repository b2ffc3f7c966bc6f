-- One step on the list of words is one step on the cells.
use Rattle.std.proofs.Common.{◌≡◌, ℕ, ◌+◌, ◌^◌, ◌<◌, ◌%◌, Bool, true, false, refl, sym, cond, ap, List, length, length-set, get_or, get_or-set_same, get_or-set_other, eqb, arith, bit_or, bit_and}
use Rattle.std.proofs.lemmas.List.{set-get_or}
use Rattle.std.proofs.Math.ListN.{set}
use Rattle.gh_base.proofs.Vocabulary.{Add, And, Ask, Cell, cell_of, changed, effect, InRange, Layout, left, Load, Or, put, request, same_cell, ShowsCells, Store, Swap, target, word_of, Words}
use Rattle.gh_base.proofs.Apart.{word_below, words_apart, same_cell_tells}

each_put : (l : Layout) (list : List ℕ) (words : Words) (c : Cell) (value : ℕ) → InRange l c → ShowsCells l list words →
    (d : Cell) → InRange l d → (b : Bool) → same_cell c d ≡ b →
    get_or (set list (word_of l c) value) (word_of l d) 0 ≡ cond b value (words d)
each_put l list words c value h shows d hd true e =
    let within : word_of l c < length list = rw (shows.long) (word_below l c h) in
    rw (← same_cell_tells c d e) (rw get_or-set_same)
each_put l list words c value h shows d hd false e =
    let ne : word_of l d ≡ word_of l c → ⊥ = λ p. words_apart l c d h hd e (sym p) in
    rw get_or-set_other (shows.each d hd)

-- a cell is written by writing its word
pub shows_put : (l : Layout) (list : List ℕ) (words : Words) (c : Cell) (value : ℕ) → InRange l c → ShowsCells l list words → ShowsCells l (set list (word_of l c) value) (put words c value)
shows_put l list words c value h shows = record {
  long = simp length-set shows.long;
  each = λ d hd. each_put l list words c value h shows d hd (same_cell c d) refl;
}

-- what is found there is what the cell holds
pub found-request : (l : Layout) (list : List ℕ) (words : Words) (ask : Ask) → InRange l (cell_of ask) → ShowsCells l list words →
    get_or list (target (request l ask)) 0 ≡ words (cell_of ask)
found-request l list words ask h shows = grind arith

-- one request on the list is one step on the cells
pub shows_effect : (l : Layout) (list : List ℕ) (words : Words) (ask : Ask) → InRange l (cell_of ask) → ShowsCells l list words →
    ShowsCells l (changed (request l ask) list) (effect words ask)
shows_effect l list words (Load c) h shows = rw (set-get_or) shows
shows_effect l list words (Store c v) h shows = shows_put l list words c v h shows
shows_effect l list words (Or c v) h shows = rw (shows.each c h) (shows_put l list words c (bit_or (words c) v) h shows)
shows_effect l list words (And c v) h shows = rw (shows.each c h) (shows_put l list words c (bit_and (words c) v) h shows)
shows_effect l list words (Add c v) h shows = rw (shows.each c h) (shows_put l list words c ((words c + v) % 2 ^ 64) h shows)
shows_effect l list words (Swap c old new) h shows = rw (← shows.each c h) (go (eqb (get_or list (word_of l c) 0) old) refl) where
  go : (x : Bool) → eqb (get_or list (word_of l c) 0) old ≡ x → ShowsCells l (set list (word_of l c) (cond x new (get_or list (word_of l c) 0))) (cond x (put words c new) words)
  go true e = shows_put l list words c new h shows
  go false e = rw (set-get_or) shows

-- a step leaves its cell as it says, and every other cell as it is
stays : (words : Words) (c at : Cell) → words at ≡ cond (same_cell c at) (words c) (words at)
stays words c at = go (same_cell c at) refl where
  go : (b : Bool) → same_cell c at ≡ b → words at ≡ cond b (words c) (words at)
  go true same = ap words (sym (same_cell_tells c at same))
  go false other = refl

pub effect_at : (words : Words) (ask : Ask) (at : Cell) → effect words ask at ≡ cond (same_cell (cell_of ask) at) (left ask (words (cell_of ask))) (words at)
effect_at words (Load c) at = stays words c at
effect_at words (Swap c old new) at = go (eqb (words c) old) where
  go : (b : Bool) → (cond b (put words c new) words) at ≡ cond (same_cell c at) (cond b new (words c)) (words at)
  go true = refl
  go false = stays words c at
effect_at words _ at = refl
