-- Footprints: a row among those of a table, and a word that is left as it was.
use Rattle.std.proofs.Common.{◌≡◌, ℕ, Bool, true, false, cond, not, ◌&&◌, ◌||◌, ◌==◌, if◌then◌else◌, refl, ap, subst, ◌⊎◌, inl, inr, List, [], ◌∷◌}
use Rattle.gh_base.proofs.Vocabulary.{Ask, Cell, effect, put, same_cell, Words}
use Rattle.gh_base.specs.Footprints.{FootprintsHold, Footprint, RowName, Writes, all_rows, are_among, each_row, holds_at, row_of}
use Rattle.gh_base.specs.Footprints as row

first : (a b : Bool) → (a && b) ≡ true → a ≡ true
first true b e = refl
first false b e = e

rest : (a b : Bool) → (a && b) ≡ true → b ≡ true
rest true b e = e
rest false b e = absurd (cc)

one : (a b : Bool) → (not a || b) ≡ true → a ≡ true → b ≡ true
one true b e x = e
one false b e x = absurd (cc)

abbrev Among : RowName → List RowName → Type 0
Among r [] = ⊥
Among r (x ∷ xs) = (x ≡ r) ⊎ Among r xs

each : (p : RowName → Bool) (rs : List RowName) (r : RowName) → all_rows p rs ≡ true → Among r rs → p r ≡ true
each p [] r e m = absurd m
each p (x ∷ xs) r e (inl is) = subst (λ (y : RowName). p y ≡ true) is (first (p x) (all_rows p xs) e)
each p (x ∷ xs) r e (inr m) = each p xs r (rest (p x) (all_rows p xs) e) m

-- each row is listed
listed : (r : RowName) → Among r each_row
listed row.Touch = inl refl
listed row.Phase = inr (inl refl)
listed row.Gen = inr (inr (inl refl))
listed row.Begun = inr (inr (inr (inl refl)))
listed row.Swept = inr (inr (inr (inr (inl refl))))
listed row.Lock = inr (inr (inr (inr (inr (inl refl)))))
listed row.Want = inr (inr (inr (inr (inr (inr (inl refl))))))
listed row.Bank = inr (inr (inr (inr (inr (inr (inr (inl refl)))))))
listed row.Gcur = inr (inr (inr (inr (inr (inr (inr (inr (inl refl))))))))
listed row.Heap = inr (inr (inr (inr (inr (inr (inr (inr (inr (inl refl)))))))))
listed row.Trigger = inr (inr (inr (inr (inr (inr (inr (inr (inr (inr (inl refl))))))))))
listed row.Work = inr (inr (inr (inr (inr (inr (inr (inr (inr (inr (inr (inl refl)))))))))))
listed row.Slack = inr (inr (inr (inr (inr (inr (inr (inr (inr (inr (inr (inr (inl refl))))))))))))
listed row.Tally = inr (inr (inr (inr (inr (inr (inr (inr (inr (inr (inr (inr (inr (inl refl)))))))))))))
listed row.Live = inr (inr (inr (inr (inr (inr (inr (inr (inr (inr (inr (inr (inr (inr (inl refl))))))))))))))
listed row.Page = inr (inr (inr (inr (inr (inr (inr (inr (inr (inr (inr (inr (inr (inr (inr (inl refl)))))))))))))))
listed row.Alloc = inr (inr (inr (inr (inr (inr (inr (inr (inr (inr (inr (inr (inr (inr (inr (inr (inl refl))))))))))))))))
listed row.Mark = inr (inr (inr (inr (inr (inr (inr (inr (inr (inr (inr (inr (inr (inr (inr (inr (inr (inl refl)))))))))))))))))
listed row.Bitmap = inr (inr (inr (inr (inr (inr (inr (inr (inr (inr (inr (inr (inr (inr (inr (inr (inr (inr (inl refl))))))))))))))))))
listed row.Birth = inr (inr (inr (inr (inr (inr (inr (inr (inr (inr (inr (inr (inr (inr (inr (inr (inr (inr (inr (inl refl)))))))))))))))))))
listed row.Field = inr (inr (inr (inr (inr (inr (inr (inr (inr (inr (inr (inr (inr (inr (inr (inr (inr (inr (inr (inr (inl refl))))))))))))))))))))
listed row.Global = inr (inr (inr (inr (inr (inr (inr (inr (inr (inr (inr (inr (inr (inr (inr (inr (inr (inr (inr (inr (inr (inl refl)))))))))))))))))))))
listed row.Buffer = inr (inr (inr (inr (inr (inr (inr (inr (inr (inr (inr (inr (inr (inr (inr (inr (inr (inr (inr (inr (inr (inr (inl refl))))))))))))))))))))))
listed row.Entry = inr (inr (inr (inr (inr (inr (inr (inr (inr (inr (inr (inr (inr (inr (inr (inr (inr (inr (inr (inr (inr (inr (inr (inl refl)))))))))))))))))))))))
listed row.Ack = inr (inr (inr (inr (inr (inr (inr (inr (inr (inr (inr (inr (inr (inr (inr (inr (inr (inr (inr (inr (inr (inr (inr (inr (inl refl))))))))))))))))))))))))
listed row.Scanned = inr (inr (inr (inr (inr (inr (inr (inr (inr (inr (inr (inr (inr (inr (inr (inr (inr (inr (inr (inr (inr (inr (inr (inr (inr (inl refl)))))))))))))))))))))))))

more : (f g : Footprint) → are_among f g ≡ true → (r : RowName) → f r ≡ true → g r ≡ true
more f g e r x = one (f r) (g r) (each (holds_at f g) each_row r e (listed r)) x

among : (f g : Footprint) (step : Ask) → are_among f g ≡ true → Writes f step → Writes g step
among f g (Ask.Load c) e w = refl
among f g (Ask.Store c value) e w = more f g e (row_of c) w
among f g (Ask.Or c bits) e w = more f g e (row_of c) w
among f g (Ask.And c bits) e w = more f g e (row_of c) w
among f g (Ask.Add c n) e w = more f g e (row_of c) w
among f g (Ask.Swap c old new) e w = more f g e (row_of c) w

-- two cells of two rows are apart
same_row : (c d : Cell) → same_cell c d ≡ true → row_of c ≡ row_of d
same_row Cell.Touch Cell.Touch e = refl
same_row Cell.Phase Cell.Phase e = refl
same_row Cell.Gen Cell.Gen e = refl
same_row Cell.Begun Cell.Begun e = refl
same_row Cell.Swept Cell.Swept e = refl
same_row Cell.Lock Cell.Lock e = refl
same_row Cell.Want Cell.Want e = refl
same_row Cell.Bank Cell.Bank e = refl
same_row Cell.Gcur Cell.Gcur e = refl
same_row Cell.Heap Cell.Heap e = refl
same_row Cell.Trigger Cell.Trigger e = refl
same_row Cell.Work Cell.Work e = refl
same_row Cell.Slack Cell.Slack e = refl
same_row Cell.Tally Cell.Tally e = refl
same_row Cell.Live Cell.Live e = refl
same_row (Cell.Page i) (Cell.Page k) e = refl
same_row (Cell.Alloc i) (Cell.Alloc k) e = refl
same_row (Cell.Mark i) (Cell.Mark k) e = refl
same_row (Cell.Bitmap i) (Cell.Bitmap k) e = refl
same_row (Cell.Birth i) (Cell.Birth k) e = refl
same_row (Cell.Field i) (Cell.Field k) e = refl
same_row (Cell.Global i) (Cell.Global k) e = refl
same_row (Cell.Buffer i) (Cell.Buffer k) e = refl
same_row (Cell.Entry i j) (Cell.Entry k m) e = refl
same_row (Cell.Ack i) (Cell.Ack k) e = refl
same_row (Cell.Scanned i) (Cell.Scanned k) e = refl
same_row _ _ e = absurd (cc)

apart : (f : Footprint) (c d : Cell) → f (row_of c) ≡ true → f (row_of d) ≡ false → same_cell c d ≡ false
apart f c d x y = by (same_cell c d) refl where
  by : (b : Bool) → same_cell c d ≡ b → b ≡ false
  by false e = refl
  by true e = absurd (let is : f (row_of c) ≡ f (row_of d) = ap f (same_row c d e) in cc)

kept : (f : Footprint) (words : Words) (c d : Cell) (v : ℕ) → f (row_of c) ≡ true → f (row_of d) ≡ false → put words c v d ≡ words d
kept f words c d v x y = ap (λ (b : Bool). cond b v (words d)) (apart f c d x y)

swapped : (f : Footprint) (words : Words) (c d : Cell) (v : ℕ) (b : Bool) → f (row_of c) ≡ true → f (row_of d) ≡ false → (if b then put words c v else words) d ≡ words d
swapped f words c d v true x y = kept f words c d v x y
swapped f words c d v false x y = refl

leaves : (f : Footprint) (step : Ask) (words : Words) (c : Cell) → Writes f step → f (row_of c) ≡ false → effect words step c ≡ words c
leaves f (Ask.Load d) words c w none = refl
leaves f (Ask.Store d value) words c w none = kept f words d c _ w none
leaves f (Ask.Or d bits) words c w none = kept f words d c _ w none
leaves f (Ask.And d bits) words c w none = kept f words d c _ w none
leaves f (Ask.Add d n) words c w none = kept f words d c _ w none
leaves f (Ask.Swap d old new) words c w none = swapped f words d c new (words d == old) w none

pub footprints_hold : FootprintsHold
footprints_hold = record { among = among; leaves = leaves }
