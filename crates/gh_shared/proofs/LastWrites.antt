-- An entry finds what the last entry left that wrote its cell.
use Rattle.std.proofs.Common.{◌≡◌, Bool, true, false, not, ◌&&◌, cond, List, [], ◌∷◌, ◌++◌, refl, sym, ap, ◌∙◌, arith}
use Rattle.std.proofs.lemmas.List.{append-nil}
use Rattle.gh_shared.proofs.Vocabulary.{All-head, All-tail, Ask, Cell, Entry, is_load, Legal, Op, Planned, same_cell, Setting, setting, Words, words_after}
use Rattle.gh_base.specs.Steps.{cell_of, ChangesOneCell, effect, left}
use Rattle.gh_shared.specs.LastWrites.{NoneWrites, ReadsSeeWrites, writes}

and_true : (b c : Bool) → (b && not c) ≡ true → b ≡ true
and_true b c e = grind arith

and_false : (b : Bool) → (b && not false) ≡ false → b ≡ false
and_false b e = grind arith

module _ (law : ChangesOneCell) (opening : Words) where
  elsewhere : (words : Words) (a : Ask) (c : Cell) → same_cell (cell_of a) c ≡ false → effect words a c ≡ words c
  elsewhere words a c e = law words a c ∙ ap (λ (b : Bool). cond b (left a (words (cell_of a))) (words c)) e

  unwritten : (words : Words) (a : Ask) (c : Cell) → (same_cell (cell_of a) c && not (is_load a)) ≡ false → effect words a c ≡ words c
  unwritten words a c e = grind (arith, and_false, elsewhere)

  none_writes : (c : Cell) (between before : List (Entry Op)) → NoneWrites c between → words_after opening (between ++ before) c ≡ words_after opening before c
  none_writes c [] before none = refl
  none_writes c (x ∷ xs) before none = unwritten (words_after opening (xs ++ before)) x.ask c (All-head (λ (e : Entry Op). writes c e ≡ false) x xs none) ∙ none_writes c xs before (All-tail (λ (e : Entry Op). writes c e ≡ false) x xs none)

  written : (c : Cell) (w : Entry Op) (before : List (Entry Op)) → writes c w ≡ true → w.found ≡ words_after opening before (cell_of w.ask) → words_after opening (w ∷ before) c ≡ left w.ask w.found
  written c w before is found = grind (arith, and_true)

-- what a legal list began as is legal
began : {M O : Type 0} (s : Setting M O) (after es : List (Entry O)) → Legal s (after ++ es) → Legal s es
began s [] es legal = legal
began s (x ∷ xs) es legal = began s xs es legal.0

pub reads_see_writes : ChangesOneCell → (p : Planned) → ReadsSeeWrites p
reads_see_writes law p = record {
  last = λ after e between w before legal is none.
      let here = began (setting p) after (e ∷ (between ++ w ∷ before)) legal in
      let written_at = began (setting p) between (w ∷ before) here.0 in
      here.1.found ∙ none_writes law (setting p).opening (cell_of e.ask) between (w ∷ before) none ∙ written law (setting p).opening (cell_of e.ask) w before is written_at.1.found;
  first = λ after e before legal none.
      let here = began (setting p) after (e ∷ before) legal in
      here.1.found ∙ ap (λ (es : List (Entry Op)). words_after (setting p).opening es (cell_of e.ask)) (sym (append-nil before)) ∙ none_writes law (setting p).opening (cell_of e.ask) before [] none;
}
