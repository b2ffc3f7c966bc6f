-- No step of a legal list is on a buffer that there is not, so its word is as it was at first.
use Rattle.std.proofs.Common.{◌≡◌, ℕ, ◌≤◌, Bool, false, cond, ◌∙◌, ap, arith, List, [], ◌∷◌}
use Rattle.gh_marked.proofs.Vocabulary.{buffers_of, Cell, cell_of, ChangesOneCell, Entry, InRange, Layout, left, Legal, same_cell, Setting, words_after}

differs : (l : Layout) (b : ℕ) (c : Cell) → buffers_of l ≤ b → InRange l c → same_cell c (Cell.Buffer b) ≡ false
differs l b c m r = grind arith

pub stays_clear : {M O : Type 0} (s : Setting M O) (one : ChangesOneCell) (b : ℕ) → buffers_of s.layout ≤ b → s.opening (Cell.Buffer b) ≡ 0 → (es : List (Entry O)) → Legal s es → words_after s.opening es (Cell.Buffer b) ≡ 0
stays_clear s one b m h [] legal = h
stays_clear s one b m h (e ∷ es) legal =
    let apart : same_cell (cell_of e.ask) (Cell.Buffer b) ≡ false = differs s.layout b (cell_of e.ask) m legal.1.within in
    one (words_after s.opening es) e.ask (Cell.Buffer b) ∙ (ap (λ (t : Bool). cond t (left e.ask (words_after s.opening es (cell_of e.ask))) (words_after s.opening es (Cell.Buffer b))) apart ∙ stays_clear s one b m h es legal.0)
