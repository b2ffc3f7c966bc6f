-- What the lists of an opening picture give: every triple is in range, and the picture opens.
use Rattle.std.proofs.Common.{◌≡◌, ℕ, ◌+◌, ◌*◌, ◌<◌, ◌≤◌, Bool, true, false, refl, sym, ◌∙◌, ap, cond, inl, inr, ◌⊎◌, Option, Some, None, List, [], ◌∷◌, length, get_or, replicate, drop, arith, ◌&&◌, IsTrue, nat_lt}
use Rattle.std.specs.List.{list_all}
use Rattle.std.proofs.lemmas.List.{drop_more}
use Rattle.std.proofs.lemmas.List.Folds.{list_all_at}
use Rattle.gh_tri.proofs.Vocabulary.{AreCells, AreObjects, by_three, cases_lt, cells, Colour, fun_ext, get_or-replicate, get_or_past, Grey, IsOpeningPicture, length-replicate, mul-add-lt, nat_tests, opened_picture, put1, put2, put_in_table, White}
use Rattle.gh_tri.proofs.Tells.{put2-tells}
use Rattle.gh_tri.proofs.Cells.{cells-in, cells-out, cells-past}
use Rattle.gh_tri.proofs.Showing.{put2-made}

-- a list of which all pass has an element that passes at each place
all-at : {X : Type 0} (p : X → Bool) (xs : List X) (i : ℕ) (d : X) → i < length xs → IsTrue (list_all p xs) → p (get_or xs i d) ≡ true
all-at p xs i d lt all = go p xs i d lt all (p (get_or xs i d)) refl where
  clash : (b : Bool) → IsTrue b → b ≡ false → ⊥
  clash true h e = cc
  clash false h e = cc

  go : {X : Type 0} (p : X → Bool) (xs : List X) (i : ℕ) (d : X) → i < length xs → IsTrue (list_all p xs) → (b : Bool) → p (get_or xs i d) ≡ b → p (get_or xs i d) ≡ true
  go p xs i d lt all true e = e
  go p xs i d lt all false e = absurd (clash (list_all p xs) all (list_all_at p xs i d lt e))

both-lt : (a b c d : ℕ) → (nat_lt a b && nat_lt c d) ≡ true → (a < b) × (c < d)
both-lt a b c d h = (grind (arith, nat_tests), grind (arith, nat_tests))

pub row-in : (rows columns : ℕ) (xs : List (ℕ × ℕ × ℕ)) (i : ℕ) (d : ℕ × ℕ × ℕ) → i < length xs → AreCells rows columns xs → ((get_or xs i d).0 < rows) × ((get_or xs i d).1 < columns)
row-in rows columns xs i d lt all = grind (arith, all-at, both-lt)

-- a step of the loop that places the triples
pub placed-more : (f g : ℕ → ℕ → Option ℕ) (xs : List (ℕ × ℕ × ℕ)) (i : ℕ) → i < length xs → g ≡ put2 f (get_or xs i (0, 0, 0)).0 (get_or xs i (0, 0, 0)).1 (Some (get_or xs i (0, 0, 0)).2) → put_in_table g (drop (i + 1) xs) ≡ put_in_table f (drop i xs)
placed-more f g xs i lt e = ap (λ t. put_in_table t (drop (i + 1) xs)) e ∙ sym (ap (put_in_table f) (drop_more xs i (0, 0, 0) lt))

split : (x y : Bool) → IsTrue (x && y) → (x ≡ true) × IsTrue y
split x y h = grind arith

joined : (x y : Bool) → x ≡ true → IsTrue y → IsTrue (x && y)
joined x y e h = grind arith

lt-from : (a b : ℕ) → nat_lt a b ≡ true → a < b
lt-from a b h = grind (arith, nat_tests)

both-true : (a b c d : ℕ) → a < b → c < d → (nat_lt a b && nat_lt c d) ≡ true
both-true a b c d h k = grind (arith, nat_tests)

-- a table with more rows has the cells too
pub more-cells : (m n columns : ℕ) (xs : List (ℕ × ℕ × ℕ)) → m ≤ n → AreCells m columns xs → AreCells n columns xs
more-cells m n columns [] le h = refl
more-cells m n columns (e ∷ es) le h =
    let parts = split (nat_lt e.0 m && nat_lt e.1 columns) (list_all (λ e. nat_lt e.0 m && nat_lt e.1 columns) es) h in
    let head : (e.0 < m) × (e.1 < columns) = both-lt e.0 m e.1 columns parts.0 in
    joined (nat_lt e.0 n && nat_lt e.1 columns) (list_all (λ e. nat_lt e.0 n && nat_lt e.1 columns) es)
    (both-true e.0 n e.1 columns (omega arith) head.1) (more-cells m n columns es le parts.1)

-- what is placed is an object
pub placed-made : (f : ℕ → ℕ → Option ℕ) (xs : List (ℕ × ℕ × ℕ)) (n : ℕ) → AreObjects n xs → ((a b w : ℕ) → f a b ≡ Some w → w < n) → (a b w : ℕ) → put_in_table f xs a b ≡ Some w → w < n
placed-made f [] n h fs a b w e = fs a b w e
placed-made f (x ∷ xs) n h fs a b w e =
    let parts = split (nat_lt x.2 n) (list_all (λ e. nat_lt e.2 n) xs) h in
    placed-made (put2 f x.0 x.1 (Some x.2)) xs n parts.1
    (put2-made f (put2 f x.0 x.1 (Some x.2)) x.0 x.1 (Some x.2) n refl fs (λ u same. let one : x.2 ≡ u = cc in let below : x.2 < n = lt-from x.2 n parts.0 in omega arith)) a b w e

-- outside of the cells nothing is placed
pub placed-out : (f : ℕ → ℕ → Option ℕ) (rows columns : ℕ) (xs : List (ℕ × ℕ × ℕ)) (a b : ℕ) → AreCells rows columns xs → (rows ≤ a) ⊎ (columns ≤ b) → f a b ≡ None → put_in_table f xs a b ≡ None
placed-out f rows columns [] a b h out e = e
placed-out f rows columns (x ∷ xs) a b h out e =
    let parts = split (nat_lt x.0 rows && nat_lt x.1 columns) (list_all (λ e. nat_lt e.0 rows && nat_lt e.1 columns) xs) h in
    let head : (x.0 < rows) × (x.1 < columns) = both-lt x.0 rows x.1 columns parts.0 in
    placed-out (put2 f x.0 x.1 (Some x.2)) rows columns xs a b parts.1 out (elim (put2-tells f x.0 x.1 (Some x.2) a b) [
      | inl y ↦ absurd (elim out [ inl r ↦ (let p : x.0 ≡ a = y.0 in omega arith) | inr c ↦ (let q : x.1 ≡ b = y.1 in omega arith) ])
      | inr keeps ↦ keeps ∙ e
    ])

same-everywhere : {A : Type 0} (k i : ℕ) (d : A) → get_or (replicate k d) i d ≡ d
same-everywhere k i d = elim (cases_lt i k) [
  | inl lt ↦ get_or-replicate k i d d lt
  | inr le ↦ get_or_past (replicate k d) i d (rw (length-replicate k d) le)
]

-- a table with one value everywhere
pub cells-replicate : {A : Type 0} (d : A) (n k : ℕ) (xs : List A) → xs ≡ replicate k d → cells d n xs ≡ (λ i j. d)
cells-replicate d n k xs e = grind (arith, same-everywhere)

pub three-same : {A : Type 0} (d : A) (n : ℕ) → by_three d n (λ i j. d) ≡ (λ i j k. d)
three-same d n = grind arith

-- the scanned fields of an opening picture
pub cells-unscanned : (objects fields : ℕ) (xs : List Bool) → xs ≡ replicate (objects * fields) false → cells true fields xs ≡ (λ o f. cond (nat_lt o objects && nat_lt f fields) false true)
cells-unscanned objects fields xs e = ap (cells true fields) e ∙ fun_ext (λ o. fun_ext (λ f. at objects fields o f)) where
  out : (objects fields o f : ℕ) → (objects ≤ o) ⊎ (fields ≤ f) → cond (nat_lt o objects && nat_lt f fields) false true ≡ true
  out objects fields o f (inl h) = grind (arith, nat_tests)
  out objects fields o f (inr h) = grind (arith, nat_tests)

  inside : (objects fields o f : ℕ) → o < objects → f < fields → cond (nat_lt o objects && nat_lt f fields) false true ≡ false
  inside objects fields o f h k = grind (arith, nat_tests)

  at : (objects fields o f : ℕ) → cells true fields (replicate (objects * fields) false) o f ≡ cond (nat_lt o objects && nat_lt f fields) false true
  at objects fields o f = elim (cases_lt f fields) [
    | inr le ↦ cells-out true fields (replicate (objects * fields) false) o f le ∙ sym (out objects fields o f (inr le))
    | inl lt ↦ elim (cases_lt o objects) [
      | inr le ↦ cells-past true fields objects (replicate (objects * fields) false) o f (length-replicate (objects * fields) false) le ∙ sym (out objects fields o f (inl le))
      | inl below ↦ cells-in true fields (replicate (objects * fields) false) o f lt ∙ (get_or-replicate (objects * fields) (o * fields + f) false true (omega (arith, mul-add-lt o fields f objects below lt)) ∙ sym (inside objects fields o f below lt))
    ]
  ]

pub unscanned-tells : (objects fields o f : ℕ) → cond (nat_lt o objects && nat_lt f fields) false true ≡ true → (objects ≤ o) ⊎ (fields ≤ f)
unscanned-tells objects fields o f h = grind arith

-- an opened picture is an opening
pub opening-is : (objects room fields stacks : ℕ) (edges held : List (ℕ × ℕ × ℕ)) → 0 < objects → AreCells objects fields edges → AreObjects objects edges → AreCells stacks 16 held → AreObjects objects held → IsOpeningPicture (opened_picture objects room fields stacks edges held)
opening-is objects room fields stacks edges held some edge_cells edge_objects held_cells held_objects = grind (arith, placed-made, placed-out, unscanned-tells)

-- tables that show it
pub opens : (objects room fields stacks : ℕ) (edges held : List (ℕ × ℕ × ℕ)) (colour : ℕ → Colour) (value : ℕ → ℕ → Option ℕ) (scanned : ℕ → ℕ → Bool) (register : ℕ → ℕ → Option ℕ) (seen : ℕ → ℕ → Bool) (read : ℕ → ℕ → ℕ → Option (Option ℕ)) →
    colour ≡ put1 (λ o. White) 0 Grey → value ≡ put_in_table (λ o f. None) edges → scanned ≡ (λ o f. cond (nat_lt o objects && nat_lt f fields) false true) → register ≡ put_in_table (λ s r. None) held → seen ≡ (λ s r. false) → read ≡ (λ s o f. None) →
    record (opened_picture objects room fields stacks edges held) { colour = colour; value = value; scanned = scanned; register = register; seen = seen; read = read } ≡ opened_picture objects room fields stacks edges held
opens objects room fields stacks edges held colour value scanned register seen read a b d e g h =
    λ i. record (opened_picture objects room fields stacks edges held) { colour = a i; value = b i; scanned = d i; register = e i; seen = g i; read = h i }

-- what is placed in a table that was empty
pub placed-first : (g : ℕ → ℕ → Option ℕ) (n k : ℕ) (items : List (Option ℕ)) (xs : List (ℕ × ℕ × ℕ)) → g ≡ put_in_table (cells None n items) xs → items ≡ replicate k None → g ≡ put_in_table (λ i j. None) xs
placed-first g n k items xs e h = e ∙ ap (λ t. put_in_table t xs) (cells-replicate None n k items h)

pub cells-of : (m n a b : ℕ) (xs : List (ℕ × ℕ × ℕ)) → m ≡ a → n ≡ b → AreCells a b xs → AreCells m n xs
cells-of m n a b xs e h cells = rw (e, h) cells

pub first-made : (g : ℕ → ℕ → Option ℕ) (xs : List (ℕ × ℕ × ℕ)) (n : ℕ) → g ≡ put_in_table (λ i j. None) xs → AreObjects n xs → (a b w : ℕ) → g a b ≡ Some w → w < n
first-made g xs n e h a b w same = placed-made (λ i j. None) xs n h (λ a b u none. cc) a b w (sym (ap (λ (k : ℕ → ℕ → Option ℕ). k a b) e) ∙ same)

pub first-empty : (g : ℕ → ℕ → Option ℕ) (xs : List (ℕ × ℕ × ℕ)) (rows columns : ℕ) → g ≡ put_in_table (λ i j. None) xs → AreCells rows columns xs → (a b : ℕ) → rows ≤ a → g a b ≡ None
first-empty g xs rows columns e h a b le = ap (λ (k : ℕ → ℕ → Option ℕ). k a b) e ∙ placed-out (λ i j. None) rows columns xs a b h (inl le) refl
