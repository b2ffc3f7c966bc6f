-- How much is scanned so far in a cycle, at most: a word for each object that came into a buffer, the words of each black one, and a word for each scanned global. It only grows, and is no more than there is.
use Rattle.std.proofs.Common.{◌≡◌, ◌≢◌, ℕ, zero, suc, ◌+◌, ◌*◌, ◌<◌, ◌≤◌, ◌==◌, Bool, true, false, ltb, refl, ap, arith}
use Rattle.gh_marked.specs.Vocabulary.{Ask, Black, Buffered, Cell, Colour, Layout, nat_tests, Progress, Scanned, Shared, stored_after, Taken, total}
use Rattle.gh_marked.specs.Scanned.{most_scanned}
use Rattle.gh_lists.specs.Sums.{total_below}
use Rattle.gh_marked.specs.Levels.{far, IsNoEarlier, level}

-- Sums.

-- they rise, and at this place by so much
total_rises : (f g : ℕ → ℕ) (n p more : ℕ) → ((i : ℕ) → f i ≤ g i) → p < n → f p + more ≤ g p → total f n + more ≤ total g n
total_rises f g zero p more h m x = absurd (omega (arith, m))
total_rises f g (suc n) p more h m x = go (n == p) refl (λ y. total_rises f g n p more h y x) where
  go : (b : Bool) → (n == p) ≡ b → (p < n → total f n + more ≤ total g n) → total f (suc n) + more ≤ total g (suc n)
  go true e before =
      let is : n ≡ p = grind (arith, nat_tests, e) in
      let rest = total_below f g n (λ i y. h i) in
      let one : f n ≡ f p = ap f is in
      let other : g n ≡ g p = ap g is in
      omega (arith, rest, one, other, x)
  go false e before =
      let differs : n ≢ p = grind (arith, nat_tests, e) in
      let rest = before (omega (arith, m, differs)) in
      let last = h n in
      omega (arith, rest, last)

-- no more than one each
total_ones : (f : ℕ → ℕ) (n : ℕ) → ((i : ℕ) → f i ≤ 1) → total f n ≤ n
total_ones f zero h = omega arith
total_ones f (suc n) h = let rest = total_ones f n h in let last = h n in omega (arith, rest, last)

-- Pieces that begin below n, end by the most, and share nothing.
abbrev pub ArePacked : (piece : ℕ → ℕ) → Type 0
ArePacked piece = (o p : ℕ) → o < p → 0 < piece o → 0 < piece p → o + piece o ≤ p

total_packed : (piece : ℕ → ℕ) (n most : ℕ) → ArePacked piece → ((o : ℕ) → o < n → 0 < piece o → o + piece o ≤ most) → total piece n ≤ most
total_packed piece zero most apart ends = omega arith
total_packed piece (suc n) most apart ends = go (ltb 0 (piece n)) refl (total_packed piece n n apart) (total_packed piece n most apart) where
  go : (b : Bool) → ltb 0 (piece n) ≡ b → (((o : ℕ) → o < n → 0 < piece o → o + piece o ≤ n) → total piece n ≤ n) → (((o : ℕ) → o < n → 0 < piece o → o + piece o ≤ most) → total piece n ≤ most) → total piece (suc n) ≤ most
  go b e below same = grind arith

-- Of one object, and of one global.

-- it came into a buffer, or it is black
abbrev pub entered : Colour → ℕ
entered (Buffered b j) = 1
entered (Taken a) = 1
entered Black = 1
entered _ = 0

abbrev pub black_words : (size : ℕ) → Colour → ℕ
black_words size Black = size
black_words size _ = 0

abbrev pub scanned_weight : Progress → ℕ
scanned_weight Scanned = 1
scanned_weight _ = 0

pub entered_high : (c : Colour) → 2 ≤ level c → entered c ≡ 1
entered_high c le = grind arith

pub black_last : (c : Colour) → 3 < level c → c ≡ Black
black_last c lt = grind arith

scanned_last : (p : Progress) → 3 ≤ far p → scanned_weight p ≡ 1
scanned_last p le = grind arith

entered_one : (c : Colour) → entered c ≤ 1
entered_one c = grind arith

scanned_one : (p : Progress) → scanned_weight p ≤ 1
scanned_one p = grind arith

-- Of a state of marking.
abbrev pub entry_at : Shared → (o : ℕ) → ℕ
entry_at s o = entered (s.colour o)

abbrev pub words_at : Shared → (o : ℕ) → ℕ
words_at s o = black_words (s.extents.size o) (s.colour o)

abbrev pub scanned_at : Shared → (i : ℕ) → ℕ
scanned_at s i = scanned_weight (s.progress i)

module _ (l : Layout) where
  abbrev words : ℕ
  words = 1024 * l.pages

  abbrev pub counted : Shared → ℕ
  counted s = total (entry_at s) words + total (words_at s) words + total (scanned_at s) l.globals

  -- what has become of each, and the objects that were black have their words still
  pub record AllGoOn (s t : Shared) : Type 0 where
    pub colours : (o : ℕ) → IsNoEarlier level (s.colour o) (t.colour o)
    pub globals : (i : ℕ) → IsNoEarlier far (s.progress i) (t.progress i)
    pub sizes : (o : ℕ) → s.colour o ≡ Black → t.extents.size o ≡ s.extents.size o

  module _ (s t : Shared) (all : AllGoOn s t) where
    enter : (o : ℕ) → entry_at s o ≤ entry_at t o
    enter o = grind arith

    blacken : (o : ℕ) → words_at s o ≤ words_at t o
    blacken o = grind arith

    scan : (i : ℕ) → scanned_at s i ≤ scanned_at t i
    scan i = grind arith

    more_enter : total (entry_at s) words ≤ total (entry_at t) words
    more_enter = total_below (entry_at s) (entry_at t) words (λ o lt. enter o)

    more_blacken : total (words_at s) words ≤ total (words_at t) words
    more_blacken = total_below (words_at s) (words_at t) words (λ o lt. blacken o)

    more_scan : total (scanned_at s) l.globals ≤ total (scanned_at t) l.globals
    more_scan = total_below (scanned_at s) (scanned_at t) l.globals (λ i lt. scan i)

    pub grows : counted s ≤ counted t
    grows = let x = more_enter in let y = more_blacken in let w = more_scan in omega (arith, x, y, w)

    -- an object came into a buffer, or is black
    pub by_entry : (o : ℕ) → o < words → entry_at s o ≡ 0 → entry_at t o ≡ 1 → counted s + 1 ≤ counted t
    by_entry o lt none one =
        let x = total_rises (entry_at s) (entry_at t) words o 1 enter lt (omega (arith, none, one)) in
        let y = more_blacken in
        let w = more_scan in
        omega (arith, x, y, w)

    not_black : (size : ℕ) (c : Colour) → level c ≡ 3 → black_words size c ≡ 0
    not_black size c is = grind arith

    -- an object is black that was not
    pub by_object : (o : ℕ) → o < words → level (s.colour o) ≡ 3 → t.colour o ≡ Black → counted s + t.extents.size o ≤ counted t
    by_object o lt was black =
        let none : words_at s o ≡ 0 = not_black (s.extents.size o) (s.colour o) was in
        let all_of : words_at t o ≡ t.extents.size o = ap (black_words (t.extents.size o)) black in
        let x = more_enter in
        let y = total_rises (words_at s) (words_at t) words o (t.extents.size o) blacken lt (omega (arith, none, all_of)) in
        let w = more_scan in
        omega (arith, x, y, w)

    not_yet : (p : Progress) → far p < 3 → scanned_weight p ≡ 0
    not_yet p lt = grind arith

    -- a global is scanned that was not
    pub by_global : (i : ℕ) → i < l.globals → far (s.progress i) < 3 → 3 ≤ far (t.progress i) → counted s + 1 ≤ counted t
    by_global i lt was is =
        let none : scanned_at s i ≡ 0 = not_yet (s.progress i) was in
        let one : scanned_at t i ≡ 1 = scanned_last (t.progress i) is in
        let x = more_enter in
        let y = more_blacken in
        let w = total_rises (scanned_at s) (scanned_at t) l.globals i 1 scan lt (omega (arith, none, one)) in
        omega (arith, x, y, w)

  -- where the black objects lie in the heap and share no word it is no more than there is
  pub counted_most : (s : Shared) → ArePacked (words_at s) → ((o : ℕ) → 0 < words_at s o → o + words_at s o ≤ words) → counted s ≤ most_scanned l
  counted_most s apart ends =
      let x = total_ones (entry_at s) words (λ o. entered_one (s.colour o)) in
      let y = total_packed (words_at s) words words apart (λ o lt some. ends o some) in
      let w = total_ones (scanned_at s) l.globals (λ i. scanned_one (s.progress i)) in
      omega (arith, x, y, w)

-- no store is undone
pub stored_rises : (c : Cell) (ask : Ask) (before : ℕ) → before ≤ stored_after c ask before
stored_rises c ask before = grind arith
